-- What is kept of each page once more images are.
use Rattle.std.proofs.Common.{◌≡◌, ℕ, ◌+◌, ◌≤◌, ◌==◌, Bool, true, false, List, [], ◌∷◌, length, Option, Some, refl, ap, sym, subst, ◌∙◌, arith, eq-eqb}
use Rattle.std.proofs.lemmas.Bool.{eqb-true}
use Rattle.std.specs.Prelude.{if◌then◌else◌}
use Rattle.gx_found_log.specs.Given.{Imaged, HasImage, image_in, with_image, with_all, AreOnce}
use Rattle.gx_page.specs.Reading.{IsImage}
use Rattle.std.specs.List.{AllByRecursion}

-- by a test, which went one way or the other
pub by_case : {A : Type 0} (b : Bool) (x y : A) (P : A → Type 0) → (b ≡ true → P x) → (b ≡ false → P y) → P (if b then x else y)
by_case true x y P then_so else_so = then_so refl
by_case false x y P then_so else_so = else_so refl

turned_by : (a b : ℕ) → (a == b) ≡ false → (t : Bool) → (b == a) ≡ t → (b == a) ≡ false
turned_by a b is true same = absurd (let back : a ≡ b = sym (eqb-true b a same) in let same_test : (a == b) ≡ true = eq-eqb a b back in cc)
turned_by a b is false same = same

turned : (a b : ℕ) → (a == b) ≡ false → (b == a) ≡ false
turned a b is = turned_by a b is (b == a) refl

-- what is kept of a page whose image comes, and of another
pub kept_now : (new : Imaged) (xs : List Imaged) → image_in new.0 (with_image new xs) ≡ Some new.1
kept_now new [] = rw (eq-eqb new.0 new.0 refl) refl
kept_now new (x ∷ xs) =
    by_case (x.0 == new.0) (new ∷ xs) (x ∷ with_image new xs) (λ ys. image_in new.0 ys ≡ Some new.1)
    (λ is. rw (eq-eqb new.0 new.0 refl) refl) (λ is. rw is (kept_now new xs))

pub kept_else : (p : ℕ) (new : Imaged) (xs : List Imaged) → (new.0 == p) ≡ false → image_in p (with_image new xs) ≡ image_in p xs
kept_else p new [] other = rw other refl
kept_else p new (x ∷ xs) other =
    by_case (x.0 == new.0) (new ∷ xs) (x ∷ with_image new xs) (λ ys. image_in p ys ≡ image_in p (x ∷ xs))
    (λ is. (let same : x.0 ≡ new.0 = eqb-true x.0 new.0 is in let apart : (x.0 == p) ≡ false = ap (λ n. n == p) same ∙ other in rw (other, apart) refl))
    (λ is. ap (λ (o : Option (List ℕ)). if x.0 == p then Some x.1 else o) (kept_else p new xs other))

either : (b : Bool) (image this : List ℕ) (others : Option (List ℕ)) → (if b then Some this else others) ≡ Some image → (this ≡ image → IsImage image) → (others ≡ Some image → IsImage image)
    → IsImage image
either true image this others e first rest = first cc
either false image this others e first rest = rest e

-- each page is kept once
pub once_with : (new : Imaged) (xs : List Imaged) → AreOnce xs → AreOnce (with_image new xs)
once_with new [] once = (refl, tt)
once_with new (x ∷ xs) once =
    by_case (x.0 == new.0) (new ∷ xs) (x ∷ with_image new xs) AreOnce
    (λ is. (ap (λ p. image_in p xs) (sym (eqb-true x.0 new.0 is)) ∙ once.0, once.1))
    (λ is. (kept_else x.0 new xs (turned x.0 new.0 is) ∙ once.0, once_with new xs once.1))

-- what holds of each holds of each still where it does of the one that comes
pub all_with : (new : Imaged) (xs : List Imaged) → HasImage new → AllByRecursion HasImage xs → AllByRecursion HasImage (with_image new xs)
all_with new [] is all = (is, tt)
all_with new (x ∷ xs) is all =
    by_case (x.0 == new.0) (new ∷ xs) (x ∷ with_image new xs) (λ ys. AllByRecursion HasImage ys) (λ same. (is, all.1)) (λ other. (all.0, all_with new xs is all.1))

-- one that is kept of a page is one of them
pub kept_is : (p : ℕ) (image : List ℕ) (xs : List Imaged) → AllByRecursion HasImage xs → image_in p xs ≡ Some image → IsImage image
kept_is p image [] all there = absurd cc
kept_is p image (x ∷ xs) all there =
    either (x.0 == p) image x.1 (image_in p xs) there (λ same. subst IsImage same all.0) (λ others. kept_is p image xs all.1 others)

-- how many there are
pub one_more : (new : Imaged) (xs : List Imaged) → length (with_image new xs) ≤ length xs + 1
one_more new [] = omega arith
one_more new (x ∷ xs) =
    by_case (x.0 == new.0) (new ∷ xs) (x ∷ with_image new xs) (λ ys. length ys ≤ length (x ∷ xs) + 1)
    (λ is. omega arith) (λ is. (let rest = one_more new xs in omega (arith, rest)))

pub no_more : (xs kept : List Imaged) → length (with_all xs kept) ≤ length kept + length xs
no_more [] kept = omega arith
no_more (x ∷ xs) kept = let rest = no_more xs (with_image x kept) in let first = one_more x kept in omega (arith, rest, first)
