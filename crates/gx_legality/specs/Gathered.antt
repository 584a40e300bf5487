-- The least of what comes, above a bound, and how often each of it came.
use Rattle.std.specs.Prelude.{◌≡◌, ℕ, ◌+◌, ◌<◌, ◌≤◌, false, not, List, [], ◌∷◌, Option, None, Some}
use Rattle.std.specs.Ordering.{is_eq, is_gt}
use Rattle.std.specs.declared.cmp.Ordering.{Ordering}
use Rattle.std.specs.declared.cmp.Ordering.TheVariants.{Less}
use Rattle.gx_node.specs.Lists.{Each, how_many}
use Rattle.gx_legality.specs.declared.gather.Pass.{Pass}
use Rattle.gx_legality.specs.declared.gather.Pass.TheVariants.{Twice, Again, Done}

-- how often a list has this
abbrev pub count : {E : Type 0} → (E → E → Ordering) → E → List E → ℕ
count cmp e xs = how_many (λ x. is_eq (cmp x e)) xs

-- it comes after the bound, if there is one
abbrev pub IsAfter : {E : Type 0} → (E → E → Ordering) → Option E → E → Type 0
IsAfter cmp None e = Unit {0}
IsAfter cmp (Some a) e = cmp a e ≡ Less

-- it comes no later than the bound, if there is one
abbrev pub IsUpTo : {E : Type 0} → (E → E → Ordering) → Option E → E → Type 0
IsUpTo cmp None e = Unit {0}
IsUpTo cmp (Some b) e = is_gt (cmp e b) ≡ false

-- each comes after the one before
abbrev pub Ascends : {E : Type 0} → (E → E → Ordering) → List E → Type 0
Ascends cmp [] = Unit {0}
Ascends cmp (x ∷ xs) = Each (λ y. cmp x y ≡ Less) xs × Ascends cmp xs

-- some pair is in two places
abbrev pub StandsTwice : {E : Type 0} → (E → E → Ordering) → List E → Type 0
StandsTwice {E} cmp xs = (e : E) × (2 ≤ count cmp e xs)

-- what is gathered: what is kept of what comes after one bound and no later than another, and half of the most that is kept
pub record Gathered (E : Type 0) : Type 0 where
  pub kept : List E
  pub above : Option E
  pub top : Option E
  pub half : ℕ

-- of what has come of all, if the rest is still to come, each that is between the bounds is kept as often as it came,
-- and nothing else; and the second bound came, and is after the first
pub record Gathers {E : Type 0} (cmp : E → E → Ordering) (g : Gathered E) (all rest : List E) : Type 0 where
  pub counts : (e : E) → IsAfter cmp g.above e → IsUpTo cmp g.top e → count cmp e g.kept + count cmp e rest ≡ count cmp e all
  pub between : (e : E) → 0 < count cmp e g.kept → IsAfter cmp g.above e × IsUpTo cmp g.top e
  pub top : (b : E) → g.top ≡ Some b → IsAfter cmp g.above b × (0 < count cmp b all)

-- of what was kept, what comes no later than a bound, which is of it
pub record Halves {E : Type 0} (cmp : E → E → Ordering) (old new : List E) (b : E) : Type 0 where
  pub counts : (e : E) → IsUpTo cmp (Some b) e → count cmp e new ≡ count cmp e old
  pub upto : (e : E) → 0 < count cmp e new → IsUpTo cmp (Some b) e
  pub bound : 0 < count cmp b old

-- no pair that comes after the first bound, and no later than the second, is in two places
abbrev pub OnceBetween : {E : Type 0} → (E → E → Ordering) → Option E → Option E → List E → Type 0
OnceBetween {E} cmp above top all = (e : E) → IsAfter cmp above e → IsUpTo cmp top e → count cmp e all ≤ 1

-- it begins again above this
abbrev pub gathered_above : {E : Type 0} → ℕ → Option E → Gathered E
gathered_above half above = record { kept = []; above = above; top = None; half = half }

-- what a pass comes to once nothing is left to come
abbrev pub Finishes : {E : Type 0} → (E → E → Ordering) → Gathered E → Gathered E → List E → Pass → Type 0
Finishes cmp old new all Twice = StandsTwice cmp all
Finishes cmp old new all Done = OnceBetween cmp old.above None all
Finishes {E} cmp old new all Again = (b : E) × IsAfter cmp old.above b × (0 < count cmp b all) × OnceBetween cmp old.above (Some b) all
    × (new ≡ gathered_above old.half (Some b))

-- how many come no later than the bound
abbrev pub below : {E : Type 0} → (E → E → Ordering) → Option E → List E → ℕ
below cmp None xs = 0
below cmp (Some a) xs = how_many (λ x. not (is_gt (cmp x a))) xs

-- so many passes were made over all: a pair that isn't after the bound is in one place at most, and each pass has
-- raised the bound
pub record Tested {E : Type 0} (cmp : E → E → Ordering) (g : Gathered E) (all : List E) (passes : ℕ) : Type 0 where
  pub fresh : g ≡ gathered_above g.half g.above
  pub once : (e : E) → (IsAfter cmp g.above e → ⊥) → count cmp e all ≤ 1
  pub many : passes ≤ below cmp g.above all
