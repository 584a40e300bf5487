-- The calls that events make of the device.
use Rattle.std.specs.Prelude.{◌≡◌, ◌≤◌, ◌+◌, ℕ, Result}
use Rattle.gx_geom.specs.declared.refusal.Refusal.{Refusal}
use Rattle.gx_machine.specs.declared.reply.Reply.TheVariants.{Refused as RefusedCall}
use Rattle.gx_disk.specs.Device.{Device}
use Rattle.gx_pool.specs.Bringing.{OnlyRead}
use Rattle.gx_node.specs.Owner.{CountsFaults}
use Rattle.gx_store.specs.Faults.{refusal_fails}
use Rattle.gx_events.specs.declared.event.Event.{Event}
use Rattle.gx_events.specs.declared.event.Event.TheVariants.{Ask, Move, LogStep, WritePage, CheckpointStep, Sweep}
use Rattle.gx_events.specs.declared.outcome.Outcome.{Outcome}
use Rattle.gx_events.specs.declared.outcome.Outcome.TheVariants.{Replied, Refused}
use Rattle.gx_engine.specs.States.{Parts}

-- the device was only read: no write and no sync was made of it
abbrev pub IsRead : {B D : Type 0} → (D → Device) → Parts B D → Parts B D → Type 0
IsRead state old new = OnlyRead (state old.volume.shelf.disk) (state new.volume.shelf.disk)

-- how many calls of the device failed if this comes of an event: one if it is refused for that, and else none
abbrev pub outcome_fails : {B : Type 0} → Outcome B → ℕ
outcome_fails (Replied (RefusedCall why)) = refusal_fails why
outcome_fails (Refused why) = refusal_fails why
outcome_fails other = 0

-- as many calls have failed as an outcome says; none if there is no outcome yet
abbrev pub TellsAs : {B D : Type 0} → (D → Device) → Parts B D → Parts B D → Outcome B → Type 0
TellsAs state old new outcome = (state new.volume.shelf.disk).faults ≡ (state old.volume.shelf.disk).faults + outcome_fails outcome

abbrev pub TellsWhere : {A B D : Type 0} → (D → Device) → Parts B D → Parts B D → Result A (Outcome B) → Type 0
TellsWhere state old new result = CountsFaults outcome_fails (state old.volume.shelf.disk).faults (state new.volume.shelf.disk).faults result

-- the same of what was refused
abbrev pub TellsWhy : {A B D : Type 0} → (D → Device) → Parts B D → Parts B D → Result A Refusal → Type 0
TellsWhy state old new result = CountsFaults refusal_fails (state old.volume.shelf.disk).faults (state new.volume.shelf.disk).faults result

-- one write or sync was made of it, or none
abbrev pub MakesOne : Device → Device → Type 0
MakesOne d e = e.calls ≤ d.calls + 1

-- An ask, a move and a sweep only read it. A step of the log or of a checkpoint and a page's write make one write or sync, or none.
abbrev pub CallsBy : {B : Type 0} → Event B → Device → Device → Type 0
CallsBy (Ask s call) d e = OnlyRead d e
CallsBy (Move s) d e = OnlyRead d e
CallsBy LogStep d e = MakesOne d e
CallsBy (WritePage page) d e = MakesOne d e
CallsBy CheckpointStep d e = MakesOne d e
CallsBy (Sweep page) d e = OnlyRead d e

abbrev pub MakesCalls : {B D : Type 0} → (D → Device) → Event B → Parts B D → Parts B D → Type 0
MakesCalls state event old new = CallsBy event (state old.volume.shelf.disk) (state new.volume.shelf.disk)
