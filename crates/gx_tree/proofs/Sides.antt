-- Sides that a test gives.
use Rattle.std.proofs.Common.{◌≡◌, ℕ, suc, ◌<◌, Bool, true, false, cond, not, ◌&&◌, ◌||◌, List, [], ◌∷◌, length, map, filter, get_or, refl, sym, ap, ◌∙◌, arith, Some}
use Rattle.std.specs.Prelude.{slice_get}
use Rattle.gx_node.specs.Lists.{staying}
use Rattle.gx_node.specs.Steps.{spares}
use Rattle.gx_node.specs.Trees.{Pair}
use Rattle.gx_node.specs.Writes.{is_sweepable}

module _ {X : Type 0} (test : X → Bool) where
  -- up to a slot the sides are what the test says
  abbrev pub Chosen : List X → List Bool → ℕ → Type 0
  Chosen xs sides slot = (k : ℕ) → k < slot → (x : X) → slice_get xs k ≡ Some x → get_or sides k false ≡ test x

  pub all_chosen : (xs : List X) (sides : List Bool) → length sides ≡ length xs → Chosen xs sides (length xs) → sides ≡ map test xs
  all_chosen [] [] long chosen = refl
  all_chosen [] (b ∷ sides) long chosen = absurd (omega (arith, long))
  all_chosen (x ∷ xs) [] long chosen = absurd (omega (arith, long))
  all_chosen (x ∷ xs) (b ∷ sides) long chosen =
      let here : b ≡ test x = chosen 0 (omega arith) x refl in
      let rest : sides ≡ map test xs = all_chosen xs sides (omega (arith, long)) (λ k low y at. chosen (suc k) (omega (arith, low)) y at) in
      ap (λ c. c ∷ sides) here ∙ ap (λ bs. test x ∷ bs) rest

  -- what stays is what doesn't pass
  pub unpassing_stay : (keeps : X → Bool) → ((x : X) → keeps x ≡ not (test x)) → (xs : List X) → staying (map test xs) xs ≡ filter keeps xs
  unpassing_stay keeps other [] = refl
  unpassing_stay keeps other (x ∷ xs) = by_side (test x) (keeps x) (other x) (unpassing_stay keeps other xs)
    where
      by_side : (b c : Bool) → c ≡ not b → staying (map test xs) xs ≡ filter keeps xs
          → staying (b ∷ map test xs) (x ∷ xs) ≡ cond c (x ∷ filter keeps xs) (filter keeps xs)
      by_side true c e rest = rest ∙ ap (λ d. cond d (x ∷ filter keeps xs) (filter keeps xs)) (sym e)
      by_side false c e rest = ap (λ ys. x ∷ ys) rest ∙ ap (λ d. cond d (x ∷ filter keeps xs) (filter keeps xs)) (sym e)

-- a sweep spares what it doesn't take
pub spares_others : {B : Type 0} (claimed : Pair B → Bool) (x : Pair B) → spares claimed x ≡ not (is_sweepable claimed x)
spares_others claimed x = by_marks x.marked (claimed x)
  where
    by_marks : (m c : Bool) → (not m || c) ≡ not (m && not c)
    by_marks true true = refl
    by_marks true false = refl
    by_marks false c = refl
