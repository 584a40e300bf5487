-- The moves of a write, by one relation and by another.
use Rattle.std.proofs.Common.{refl, inl, ℕ, Bool, List}
use Rattle.gx_geom.specs.declared.refusal.Refusal.{Refusal}
use Rattle.gx_geom.specs.declared.refusal.Refusal.TheVariants as refusal
use Rattle.gx_machine.specs.declared.entry.Entry.{Entry}
use Rattle.gx_machine.specs.declared.call.Call.TheVariants.{Insert, Delete}
use Rattle.gx_machine.specs.declared.reply.Reply.{Reply}
use Rattle.gx_machine.specs.declared.reply.Reply.TheVariants as reply
use Rattle.gx_disk.specs.Device.{Device}
use Rattle.gx_page.specs.Contents.{Contents}
use Rattle.gx_node.specs.Reading.{Format}
use Rattle.gx_events.specs.Happenings.{Happening}
use Rattle.gx_index_laws.specs.Classes.{Class, Page}
use Rattle.gx_durable.specs.Spelled.{Reading}
use Rattle.gx_events.specs.declared.outcome.Outcome.{Outcome}
use Rattle.gx_events.specs.declared.outcome.Outcome.TheVariants.{Replied}
use Rattle.gx_engine.specs.Moves.{Moves, MovesSo}
use Rattle.gx_engine.specs.States.{Parts}
use Rattle.gx_engine.specs.Writes.{AreWriting, write_events}

-- which events a move is depends on no index
pub so_moves : {B D : Type 0} (c : Class B) (r : Reading (Entry B) (Page B)) (f : Format B) (passes : ℕ → Contents → Bool) (d e : Device) (s : ℕ) (old new : Parts B D) (outcome : Outcome B)
    (events : List (Happening B)) (AreSo : List (Happening B) → Type 0) → Moves c r f passes d e s old new outcome events → AreSo events → MovesSo c r f passes d e s old new outcome AreSo
so_moves c r f passes d e s old new outcome events AreSo moves are bodies i h = (events, are, moves bodies i h)

-- the event of a part of a write is one of the write
pub insert_writes : {B : Type 0} (s : ℕ) (entry : Entry B) (outcome : Outcome B) → AreWriting s (Insert entry) outcome (write_events s (Insert entry) outcome)
insert_writes s entry outcome = refl

delete_refused : {B : Type 0} (s : ℕ) (entry : Entry B) (why : Refusal) → AreWriting s (Delete entry) (Replied (reply.Refused why)) (write_events s (Delete entry) (Replied (reply.Refused why)))
delete_refused s entry refusal.Absent = inl refl
delete_refused s entry why = refl

delete_replied : {B : Type 0} (s : ℕ) (entry : Entry B) (given : Reply B) → AreWriting s (Delete entry) (Replied given) (write_events s (Delete entry) (Replied given))
delete_replied s entry (reply.Refused why) = delete_refused s entry why
delete_replied s entry given = refl

pub delete_writes : {B : Type 0} (s : ℕ) (entry : Entry B) (outcome : Outcome B) → AreWriting s (Delete entry) outcome (write_events s (Delete entry) outcome)
delete_writes s entry (Replied given) = delete_replied s entry given
delete_writes s entry outcome = refl
