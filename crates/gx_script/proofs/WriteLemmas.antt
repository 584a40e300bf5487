-- Texts put one after another.
use Rattle.std.proofs.Common.{◌≡◌, ℕ, ◌+◌, ◌<◌, List, [], ◌∷◌, ◌++◌, length, ap, sym, subst, ◌∙◌, arith, append_assoc, length-append, Option, take, drop, get_or}
use Rattle.std.specs.List.{flat_map}
use Rattle.std.proofs.KnownBytes.{Appends-nil, Appends-trans}
use Rattle.std.proofs.lemmas.Grind.{flat_map-append}
use Rattle.std.proofs.lemmas.List.{append-nil, take_more, take-append-drop}
use Rattle.std.specs.Prelude.{IfErr}
use Rattle.std.proofs.Common.{Result, Ok, Err}
use Rattle.gx_script.specs.declared.fault.ScriptFault.{ScriptFault}
use Rattle.gx_script.specs.declared.fault.ScriptFault.TheVariants.{Write}
use Rattle.gx_script.specs.Writes.{IsPut, IsCut}

pub put_nothing : (h : Option (List ℕ)) (w : List ℕ) → IsPut h h w [] w
put_nothing h w = record { sent = []; wrote = Appends-nil h; all = append-nil w }

-- more text, after what is left
pub put_more : (h h1 h2 : Option (List ℕ)) (w t m m2 t2 all new : List ℕ)
    → IsPut h h1 w t m → IsPut h1 h2 m [] m2 → new ≡ m2 ++ t2 → all ≡ t ++ t2 → IsPut h h2 w all new
put_more h h1 h2 w t m m2 t2 all new a b e f = record {
  sent = a.sent ++ b.sent;
  wrote = Appends-trans h h1 h2 a.sent b.sent a.wrote b.wrote;
  all = ap (λ x. w ++ x) f ∙ sym (append_assoc w t t2) ∙ ap (λ x. x ++ t2) (a.all ∙ ap (λ x. a.sent ++ x) (sym (append-nil m) ∙ b.all) ∙ sym (append_assoc a.sent b.sent m2))
      ∙ append_assoc (a.sent ++ b.sent) m2 t2 ∙ ap (λ x. (a.sent ++ b.sent) ++ x) (sym e);
}

-- one text, and then another
pub put_then : (h h1 h2 : Option (List ℕ)) (w t m t2 all l : List ℕ)
    → IsPut h h1 w t m → IsPut h1 h2 m t2 l → all ≡ t ++ t2 → IsPut h h2 w all l
put_then h h1 h2 w t m t2 all l a b f = record {
  sent = a.sent ++ b.sent;
  wrote = Appends-trans h h1 h2 a.sent b.sent a.wrote b.wrote;
  all = ap (λ x. w ++ x) f ∙ sym (append_assoc w t t2) ∙ ap (λ x. x ++ t2) a.all ∙ append_assoc a.sent m t2 ∙ ap (λ x. a.sent ++ x) b.all
      ∙ sym (append_assoc a.sent b.sent l);
}

-- the second of two texts is cut
pub put_cut : (h h1 h2 : Option (List ℕ)) (w t m t2 all : List ℕ)
    → IsPut h h1 w t m → IsCut h1 h2 (m ++ t2) → all ≡ t ++ t2 → IsCut h h2 (w ++ all)
put_cut h h1 h2 w t m t2 all a b f = record {
  sent = a.sent ++ b.sent;
  lost = b.lost;
  wrote = Appends-trans h h1 h2 a.sent b.sent a.wrote b.wrote;
  all = ap (λ x. w ++ x) f ∙ sym (append_assoc w t t2) ∙ ap (λ x. x ++ t2) a.all ∙ append_assoc a.sent m t2 ∙ ap (λ x. a.sent ++ x) b.all
      ∙ sym (append_assoc a.sent b.sent b.lost);
  some = b.some;
}

-- what comes after a cut is lost too
pub cut_more : (h h1 : Option (List ℕ)) (w t : List ℕ) → IsCut h h1 w → IsCut h h1 (w ++ t)
cut_more h h1 w t a = record {
  sent = a.sent;
  lost = a.lost ++ t;
  wrote = a.wrote;
  all = ap (λ x. x ++ t) a.all ∙ append_assoc a.sent a.lost t;
  some = let some = a.some in omega (arith, length-append a.lost t);
}

module _ {X : Type 0} (f : X → List ℕ) (xs : List X) (i : ℕ) where
  -- the texts of one item more
  pub texts_more : (x : X) → x ≡ get_or xs i x → i < length xs → flat_map f (take (i + 1) xs) ≡ flat_map f (take i xs) ++ f x
  texts_more x e h =
      ap (λ ys. flat_map f ys) (take_more xs i x h) ∙ flat_map-append f (take i xs) (get_or xs i x ∷ [])
      ∙ ap (λ y. flat_map f (take i xs) ++ (f y ++ [])) (sym e) ∙ ap (λ y. flat_map f (take i xs) ++ y) (append-nil (f x))

  -- the texts of the items up to here and of the others
  pub texts_split : flat_map f xs ≡ flat_map f (take i xs) ++ flat_map f (drop i xs)
  texts_split = ap (λ ys. flat_map f ys) (sym (take-append-drop i xs)) ∙ flat_map-append f (take i xs) (drop i xs)

-- of a write that failed, less is said
pub cut_as : {A B : Type 0} (r : Result (Unit {0}) ScriptFault) → (A → B) → IfErr r (λ e. (e ≡ Write) × A) → IfErr r (λ e. (e ≡ Write) × B)
cut_as (Ok x) f h = h
cut_as (Err e) f h = (h.0, f h.1)

pub stop_as : {A : Type 0} (r : Result (Unit {0}) ScriptFault) (P : ScriptFault → Type 0) → (A → P Write) → IfErr r (λ e. (e ≡ Write) × A) → IfErr r P
stop_as (Ok x) P f h = h
stop_as (Err e) P f h = subst P (sym h.0) (f h.1)
