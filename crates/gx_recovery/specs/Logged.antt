-- The state of a log on its device: a page area, and the records gated, in flight and filling.
use Rattle.std.specs.Prelude.{◌≡◌, ℕ, ◌≤◌, Bool, false, ◌⊎◌, List, [], ◌∷◌, ◌++◌}
use Rattle.std.specs.List.{list_any}
use Rattle.gx_recovery.specs.Known.{Known}
use Rattle.gx_recovery.specs.Records.{Record, gives}
use Rattle.gx_recovery.specs.Analysis.{number_of}
use Rattle.gx_recovery.specs.Redo.{tree_of}
use Rattle.gx_recovery.specs.Standing.{set_of, stands_for}
use Rattle.gx_recovery.specs.Damage.{IsLog}
use Rattle.gx_recovery.specs.Coming.{IsGood, MayComeAll}

-- what the page area has; the records of the gated batches, of the batch in flight, and of the filling one
pub record Logged (E P : Type 0) : Type 0 where
  pub area : ℕ → P
  pub gated : List (Record E P)
  pub flight : List (Record E P)
  pub filling : List (Record E P)

-- all records
abbrev pub all_records : {E P : Type 0} → Logged E P → List (Record E P)
all_records s = s.gated ++ (s.flight ++ s.filling)

-- the number up to which commits are durable, and that of the last one
abbrev pub durable : {E P : Type 0} → Known E P → Logged E P → ℕ
durable k s = number_of k s.gated

abbrev pub latest : {E P : Type 0} → Known E P → Logged E P → ℕ
latest k s = number_of k (all_records s)

-- whether an entry is in the kept set of a number
abbrev pub kept : {E P : Type 0} → Known E P → Logged E P → ℕ → E → Bool
kept k s number e = set_of k number s.area (all_records s) e

-- the gated records are a log, over pages that are good for it; those in flight and filling may come after them
pub record IsHealthy {E P : Type 0} (k : Known E P) (s : Logged E P) : Type 0 where
  pub gated : IsLog k s.gated
  pub good : IsGood k (tree_of k s.area s.gated) s.gated
  pub coming : MayComeAll k s.area s.gated (s.flight ++ s.filling)

-- a record is appended to the filling batch; that batch begins, where none is in flight; its gate is synced
abbrev pub appended : {E P : Type 0} → Record E P → Logged E P → Logged E P
appended r s = record s { filling = s.filling ++ r ∷ [] }

abbrev pub begun : {E P : Type 0} → Logged E P → Logged E P
begun s = record s { flight = s.filling; filling = [] }

abbrev pub gate_synced : {E P : Type 0} → Logged E P → Logged E P
gate_synced s = record s { gated = s.gated ++ s.flight; flight = [] }

-- an area that has each page as the old one has it, except for pages that the log gives whole
abbrev pub AgreesBeside : {E P : Type 0} → List (Record E P) → (ℕ → P) → (ℕ → P) → Type 0
AgreesBeside log old new = (p : ℕ) → list_any (gives p) log ≡ false → new p ≡ old p

-- what a crash may leave: an area that agrees on all pages that no gated record gives, and the gated records alone, or
-- with the batch in flight
pub record IsLeft {E P : Type 0} (s : Logged E P) (area : ℕ → P) (log : List (Record E P)) : Type 0 where
  pub area_agrees : AgreesBeside s.gated s.area area
  pub log_read : (log ≡ s.gated) ⊎ (log ≡ s.gated ++ s.flight)

-- a page area with a log on it stands for the kept set of its number, which isn't before the durable one, and is good
pub record StandsForKept {E P : Type 0} (k : Known E P) (s : Logged E P) (area : ℕ → P) (log : List (Record E P)) : Type 0 where
  pub at_least : durable k s ≤ number_of k log
  pub at_most : number_of k log ≤ latest k s
  pub same_set : (e : E) → stands_for k area log e ≡ kept k s (number_of k log) e
  pub is_log : IsLog k log
  pub good : IsGood k (tree_of k area log) log

-- the sets from low on up to high are the same in both
pub record SameKept {E P : Type 0} (k : Known E P) (old new : Logged E P) (low high : ℕ) : Type 0 where
  pub sets : (number : ℕ) (e : E) → low ≤ number → number ≤ high → kept k new number e ≡ kept k old number e
