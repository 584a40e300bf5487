-- The place of a page among pages that are looked at one after another.
use Rattle.std.proofs.Common.{◌≡◌, ℕ, zero, suc, ◌<◌, ◌==◌, Bool, true, false, List, [], ◌∷◌, ◌++◌, take, drop, length, get_or, Option, None, Some, refl, ap, sym, ◌∙◌, arith, drop-cons, eq-eqb}
use Rattle.std.proofs.lemmas.Bool.{eqb-true}
use Rattle.std.specs.Prelude.{if◌then◌else◌, slice_set}
use Rattle.gx_found_log.specs.Given.{AreOnce, Imaged, image_in, with_image}
use Rattle.gx_record.proofs.Fields.{found}

set_cut : {X : Type 0} → (xs : List X) (i : ℕ) (a : X) → i < length xs → slice_set xs i a ≡ take i xs ++ a ∷ drop (suc i) xs
set_cut [] i a h = absurd (omega arith)
set_cut (x ∷ xs) zero a h = refl
set_cut (x ∷ xs) (suc i) a h = ap (λ ys. x ∷ ys) (set_cut xs i a (omega arith))

-- an image of the first page takes its place
in_place : (new x : Imaged) (xs : List Imaged) → x.0 ≡ new.0 → with_image new (x ∷ xs) ≡ new ∷ xs
in_place new x xs same = rw (eq-eqb x.0 new.0 same) refl

first_in : (page : ℕ) (x : Imaged) (xs : List Imaged) → x.0 ≡ page → image_in page (x ∷ xs) ≡ Some x.1
first_in page x xs same = rw (eq-eqb x.0 page same) refl

get_or_same : {X : Type 0} → (xs : List X) (i : ℕ) (a b : X) → i < length xs → get_or xs i a ≡ get_or xs i b
get_or_same [] i a b h = absurd (omega arith)
get_or_same (x ∷ xs) zero a b h = refl
get_or_same (x ∷ xs) (suc i) a b h = get_or_same xs i a b (omega arith)

-- the page is at place i
pub stands_at : (page : ℕ) (image : List ℕ) (x : Imaged) (xs : List Imaged) (i : ℕ) → i < length xs → x ≡ get_or xs i x → x.0 ≡ page
    → with_image (page, image) xs ≡ take i xs ++ with_image (page, image) (drop i xs) → with_image (page, image) xs ≡ slice_set xs i (page, image)
stands_at page image x xs i lt at same so_far =
    let new : Imaged = (page, image) in
    let cut : drop i xs ≡ x ∷ drop (suc i) xs = drop-cons xs i x lt ∙ ap (λ (y : Imaged). y ∷ drop (suc i) xs) (sym at) in
    so_far ∙ ap (λ (ys : List Imaged). take i xs ++ ys) (ap (with_image new) cut ∙ in_place new x (drop (suc i) xs) same) ∙ sym (set_cut xs i new lt)

-- so that its image is the one that is kept of the page
pub image_at : (page : ℕ) (x y : Imaged) (xs : List Imaged) (i : ℕ) → i < length xs → x ≡ get_or xs i x → x.0 ≡ page → y ≡ get_or xs i y
    → image_in page xs ≡ image_in page (drop i xs) → image_in page xs ≡ Some y.1
image_at page x y xs i lt at same here so_far =
    let one : x ≡ y = at ∙ get_or_same xs i x y lt ∙ sym here in
    let cut : drop i xs ≡ x ∷ drop (suc i) xs = drop-cons xs i x lt ∙ ap (λ (z : Imaged). z ∷ drop (suc i) xs) (sym at) in
    so_far ∙ ap (image_in page) cut ∙ first_in page x (drop (suc i) xs) same ∙ ap (λ (z : Imaged). found z.1) one

found_later : (b : Bool) (image : List ℕ) (rest : Option (List ℕ)) → (if b then Some image else rest) ≡ None → (rest ≡ None → ⊥) → ⊥
found_later true image rest none later = (let bad : Some image ≡ None = none in cc)
found_later false image rest none later = later none

-- a page that is among them has an image that is kept
kept_of : (page : ℕ) (x : Imaged) (xs : List Imaged) (i : ℕ) → i < length xs → x ≡ get_or xs i x → x.0 ≡ page → image_in page xs ≡ None → ⊥
kept_of page x [] i lt at same none = omega arith
kept_of page x (y ∷ ys) zero lt at same none = (let bad : Some y.1 ≡ None = sym (first_in page y ys (ap (λ (z : Imaged). z.0) (sym at) ∙ same)) ∙ none in cc)
kept_of page x (y ∷ ys) (suc i) lt at same none = found_later (y.0 == page) y.1 (image_in page ys) none (kept_of page x ys i (omega arith) at same)

-- so one before it is another page, where each page is kept once
another : (page : ℕ) (x y : Imaged) (ys : List Imaged) (i : ℕ) → image_in y.0 ys ≡ None → i < length ys → x ≡ get_or ys i x → x.0 ≡ page → (b : Bool) → (y.0 == page) ≡ b → (y.0 == page) ≡ false
another page x y ys i none lt at same true is = absurd (kept_of y.0 x ys i lt at (same ∙ sym (eqb-true y.0 page is)) none)
another page x y ys i none lt at same false is = is

pub placed_once : (page : ℕ) (x : Imaged) (xs : List Imaged) (i : ℕ) → AreOnce xs → i < length xs → x ≡ get_or xs i x → x.0 ≡ page
    → ((image : List ℕ) → with_image (page, image) xs ≡ take i xs ++ with_image (page, image) (drop i xs)) × (image_in page xs ≡ image_in page (drop i xs))
placed_once page x [] i once lt at same = absurd (omega arith)
placed_once page x (y ∷ ys) zero once lt at same = (λ image. refl, refl)
placed_once page x (y ∷ ys) (suc i) once lt at same =
    let rest = placed_once page x ys i once.1 (omega arith) at same in
    let apart : (y.0 == page) ≡ false = another page x y ys i once.0 (omega arith) at same (y.0 == page) refl in
    (λ image. rw apart (ap (λ (zs : List Imaged). y ∷ zs) (rest.0 image)), rw apart rest.1)
