-- What the laws of writes ask of an index: a session's write may be logged.
use Rattle.std.specs.Prelude.{ℕ, ◌≡◌, ◌<◌, Bool, true, false, not, Some, None, List}
use Rattle.gx_machine.specs.declared.entry.Entry.{Entry}
use Rattle.gx_machine.specs.declared.call.Call.{Call}
use Rattle.gx_machine.specs.Sessions.{Locks}
use Rattle.gx_node.specs.Lists.{how_many}
use Rattle.gx_events.specs.Slots.{Note, Working, Undoing, WithNote, noted, slot_at}
use Rattle.gx_recovery.specs.Coming.{IsSaid}
use Rattle.gx_recovery.specs.Logged.{all_records}
use Rattle.gx_recovery.specs.Records.{Record, Said}
use Rattle.gx_index_laws.specs.Classes.{Class, IsLawful, Page, is_live, is_of, known_of}
use Rattle.gx_index_laws.specs.Happening.{slotted, with_record}
use Rattle.gx_index_laws.specs.States.{State, Rests, tree_now}
use Rattle.gx_index_laws.specs.Whole.{IsWhole}

-- A session's open call may write its entry in a leaf, which the record says: the entry was live or not before, which
-- the transaction notes unless it has noted it.
pub record MayWrite {B : Type 0} (c : Class B) (old : State B) (s : ℕ) (call : Call B) (e : Entry B) (was : Bool) (leaf : ℕ) (said : Said (Page B)) : Type 0 where
  pub lawful : IsLawful c
  pub whole : IsWhole c old
  pub works : old.failed ≡ false
  pub locks : Locks B
  pub notes : List (Note B)
  pub then_notes : List (Note B)
  pub at : slot_at s old.slots ≡ Working locks notes (Some call)
  pub of_class : c.is_key e.key ≡ true
  pub own : IsSaid (known_of c) leaf said (all_records old.log)
  pub with_note : WithNote c.keys e was notes then_notes

-- the index once it did, by this record, and the call has its reply
abbrev pub written : {B : Type 0} {c : Class B} {old : State B} {s : ℕ} {call : Call B} {e : Entry B} {was : Bool} {leaf : ℕ} {said : Said (Page B)}
    → Record (Entry B) (Page B) → MayWrite c old s call e was leaf said → State B
written {B} {c} {old} {s} x may = slotted s (Working may.locks may.then_notes None) Rests (with_record x old)

-- A session's undo may restore an entry in a leaf, which has its pair: `was` is what the transaction noted, and `before` is the pair's mark.
pub record MayRestore {B : Type 0} (c : Class B) (old : State B) (s : ℕ) (e : Entry B) (was before : Bool) (leaf : ℕ) (said : Said (Page B)) : Type 0 where
  pub lawful : IsLawful c
  pub whole : IsWhole c old
  pub works : old.failed ≡ false
  pub locks : Locks B
  pub notes : List (Note B)
  pub at : slot_at s old.slots ≡ Undoing locks notes
  pub is_noted : noted c.keys e notes ≡ Some was
  pub of_class : c.is_key e.key ≡ true
  pub own : IsSaid (known_of c) leaf said (all_records old.log)
  pub lived : is_live c (tree_now c old) e ≡ not before
  pub some : 0 < how_many (is_of c e) ((tree_now c old).node leaf).pairs
