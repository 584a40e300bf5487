-- Notes of what was touched, in the order of entries.
use Rattle.std.specs.Prelude.{◌≡◌, ℕ, ◌<◌, List, [], ◌∷◌, ◌++◌, take, drop, slice_get, Some}
use Rattle.std.specs.declared.cmp.Ordering.{Ordering}
use Rattle.std.specs.declared.cmp.Ordering.TheVariants.{Less, Equal}
use Rattle.gx_legality.specs.declared.notes.NotedPair.{NotedPair}
use Rattle.gx_legality.specs.Gathered.{Ascends}
use Rattle.gx_legality.specs.Placing.{noted}
use Rattle.gx_recovery.specs.Records.{Touch}
use Rattle.gx_node.specs.Lists.{Each, SomeOf}

-- a touch's note
abbrev pub note_of : {E : Type 0} → Touch E → NotedPair E
note_of t = record { entry = t.entry; leaf = t.leaf }

module _ {E : Type 0} (cmp : E → E → Ordering) where
  -- each of these notes is of a lesser entry
  abbrev pub AreLess : E → List (NotedPair E) → Type 0
  AreLess e notes = Each (λ n. cmp n.entry e ≡ Less) notes

  -- the first of these notes, if any, isn't
  abbrev pub IsNoLess : E → List (NotedPair E) → Type 0
  IsNoLess e [] = Unit {0}
  IsNoLess e (n ∷ notes) = cmp n.entry e ≡ Less → ⊥

  -- A note is put after those of lesser entries.
  pub record IsPut (x : NotedPair E) (old new : List (NotedPair E)) : Type 0 where
    pub place : ℕ
    pub before : AreLess x.entry (take place old)
    pub behind : IsNoLess x.entry (drop place old)
    pub items : new ≡ take place old ++ x ∷ drop place old

  -- no two of the first n touches are of one entry
  abbrev pub AreOfOthersIn : ℕ → List (Touch E) → Type 0
  AreOfOthersIn n touched =
      (i j : ℕ) (x y : Touch E) → i < j → j < n → slice_get touched i ≡ Some x → slice_get touched j ≡ Some y
      → cmp x.entry y.entry ≡ Equal → ⊥

  -- no two touches are of one entry
  abbrev pub AreOfOthers : List (Touch E) → Type 0
  AreOfOthers touched = (i j : ℕ) (x y : Touch E) → i < j → slice_get touched i ≡ Some x → slice_get touched j ≡ Some y → cmp x.entry y.entry ≡ Equal → ⊥

  -- a note is of one of the first n touches
  pub record IsOfOne (touched : List (Touch E)) (n : ℕ) (x : NotedPair E) : Type 0 where
    pub at : ℕ
    pub below : at < n
    pub touch : Touch E
    pub there : slice_get touched at ≡ Some touch
    pub same : x ≡ note_of touch

  -- The first n touches are noted, each of them and nothing else; and in order, exactly if no two are of one entry.
  pub record AreNoted (touched : List (Touch E)) (n : ℕ) (notes : List (NotedPair E)) : Type 0 where
    pub all : (i : ℕ) (t : Touch E) → i < n → slice_get touched i ≡ Some t → SomeOf (λ x. x ≡ note_of t) notes
    pub only : Each (IsOfOne touched n) notes
    pub in_order : AreOfOthers touched → Ascends cmp (noted notes)
    pub others : Ascends cmp (noted notes) → AreOfOthersIn n touched
