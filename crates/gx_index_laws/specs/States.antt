-- The state of an index.
use Rattle.std.specs.Prelude.{ℕ, Bool, false, replicate, List, [], ◌∷◌}
use Rattle.gx_machine.specs.declared.limits.TheConstants.{SESSIONS}
use Rattle.gx_machine.specs.declared.entry.Entry.{Entry}
use Rattle.gx_node.specs.Trees.{Pair, Tree, fresh_node}
use Rattle.gx_node.specs.Reach.{TraversalItem}
use Rattle.gx_events.specs.Slots.{Slot, Free}
use Rattle.gx_events.specs.Engines.{Engine}
use Rattle.gx_recovery.specs.Records.{Counters}
use Rattle.gx_recovery.specs.Redo.{tree_of}
use Rattle.gx_recovery.specs.Logged.{Logged, all_records}
use Rattle.gx_index_laws.specs.Classes.{Class, Page, tree_in, is_live, known_of}

-- What a session is at: nothing; a look, with its stack and what it has found; a descent for an entry's pair, at an
-- item, to which it came from this page (0 if it begins); or the way to an entry's pair, which is in this leaf or to
-- the right of it.
pub data Work (B : Type 0) : Type 0 where
  Rests : Work B
  Looks : (stack : List TraversalItem) (found : List (Pair B)) → Work B
  Descends : (entry : Entry B) (parent : ℕ) (item : TraversalItem) → Work B
  Seeks : (entry : Entry B) (leaf : ℕ) → Work B

-- The page area and the records over it; the next transaction's number; the eight slots; by session, its transaction,
-- its work, and which entries an abort has restored; the kept sets but the last, oldest first, and the number of the
-- oldest; whether a fault has made it fail.
pub record State (B : Type 0) : Type 0 where
  pub log : Logged (Entry B) (Page B)
  pub next : ℕ
  pub slots : List (Slot B)
  pub transaction : ℕ → ℕ
  pub work : ℕ → Work B
  pub restored : ℕ → List (Entry B)
  pub older : List (List (Entry B))
  pub oldest : ℕ
  pub failed : Bool

-- the tree after a log, and after all of a state's records
abbrev pub tree_after : {B : Type 0} → Class B → Logged (Entry B) (Page B) → Tree B
tree_after c log = tree_in (tree_of (known_of c) log.area (all_records log))

abbrev pub tree_now : {B : Type 0} → Class B → State B → Tree B
tree_now c s = tree_after c s.log

-- what decides its answers
abbrev pub engine_of : {B : Type 0} → Class B → State B → Engine B
engine_of c s = record { live = is_live c (tree_now c s); slots = s.slots; older = s.older; oldest = s.oldest; failed = s.failed }

-- a fresh index: the pages of a fresh tree, and a log of its numbers alone
abbrev pub fresh_page : {B : Type 0} → B → ℕ → Page B
fresh_page start p = record { node = fresh_node start p; own = p; bytes = [] }

abbrev pub fresh_state : {B : Type 0} → B → State B
fresh_state start = record {
  log = record { area = fresh_page start; gated = Counters 0 0 2 1 ∷ []; flight = []; filling = [] };
  next = 1;
  slots = replicate SESSIONS Free;
  transaction = λ a. 0;
  work = λ a. Rests;
  restored = λ a. [];
  older = [];
  oldest = 0;
  failed = false;
}
