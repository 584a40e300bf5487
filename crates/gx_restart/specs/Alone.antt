-- A call that is asked alone, as a run of the index and of the set machine.
use Rattle.std.specs.Prelude.{ℕ, ◌≡◌, ◌≢◌, Bool, List, [], ◌∷◌}
use Rattle.gx_geom.specs.declared.refusal.Refusal.TheVariants.{Damaged}
use Rattle.gx_machine.specs.declared.entry.Entry.{Entry}
use Rattle.gx_machine.specs.declared.call.Call.{Call}
use Rattle.gx_machine.specs.declared.reply.Reply.{Reply}
use Rattle.gx_machine.specs.Keys.{Keys}
use Rattle.gx_machine.specs.Machine.{Machine}
use Rattle.gx_disk.specs.Device.{Device}
use Rattle.gx_page.specs.Contents.{Contents}
use Rattle.gx_node.specs.Reading.{Format}
use Rattle.gx_events.specs.Engines.{SeenAs}
use Rattle.gx_recovery.specs.Records.{Record}
use Rattle.gx_index_laws.specs.Classes.{Class, Page}
use Rattle.gx_index_laws.specs.States as index
use Rattle.gx_index_laws.specs.States.{engine_of}
use Rattle.gx_durable.specs.Spelled.{Reading}
use Rattle.gx_plain.specs.OneRun.{IsCallRun}
use Rattle.gx_events.specs.declared.event.Event.{Event}
use Rattle.gx_events.specs.declared.outcome.Outcome.{Outcome}
use Rattle.gx_events.specs.declared.outcome.Outcome.TheVariants.{Refused}
use Rattle.gx_events.specs.Happens.{Happens}
use Rattle.gx_engine.specs.Holds.{Holds}
use Rattle.gx_engine.specs.Running.{Ran}
use Rattle.gx_engine.specs.States.{Parts}

-- from old, these events with their outcomes lead to new, and none finds damage
abbrev pub HaveHappened : {B : Type 0} → Keys B → Machine B → List (Event B × Outcome B) → Machine B → Type 0
HaveHappened k old [] new = new ≡ old
HaveHappened {B} k old (step ∷ steps) new =
    (middle : Machine B) × (step.1 ≢ Refused Damaged) × Happens k old step.0 step.1 middle × HaveHappened k middle steps new

module _ {B : Type 0} (c : Class B) (r : Reading (Entry B) (Page B)) (f : Format B) (passes : ℕ → Contents → Bool) where
  -- whatever index an engine held, what was done is events of it, and the engine holds what they led to
  abbrev pub RunsOn : {D : Type 0} → (D → Device) → Parts B D → Parts B D → Type 0
  RunsOn state old new = (bodies : List (List (Record (Entry B) (Page B)))) (i : index.State B) → Holds c r f passes (state old.volume.shelf.disk) old bodies i
      → Ran c r f passes (state old.volume.shelf.disk) (state new.volume.shelf.disk) new i

  -- What was done is events of an index; and of the machine that it is seen as a run, of which this holds.
  pub record RunsAs {D : Type 0} (d e : Device) (new : Parts B D) (i : index.State B) (IsRun : Machine B → Type 0) : Type 0 where
    pub ran : Ran c r f passes d e new i
    pub machine : Machine B
    pub seen : SeenAs c.keys (engine_of c ran.index) machine
    pub runs : IsRun machine

  -- whatever index an engine held, and whatever machine that was seen as
  abbrev pub RunsFrom : {D : Type 0} → (D → Device) → Parts B D → Parts B D → (Machine B → Machine B → Type 0) → Type 0
  RunsFrom state old new IsRun = (bodies : List (List (Record (Entry B) (Page B)))) (i : index.State B) → Holds c r f passes (state old.volume.shelf.disk) old bodies i
      → (m : Machine B) → SeenAs c.keys (engine_of c i) m → RunsAs (state old.volume.shelf.disk) (state new.volume.shelf.disk) new i (IsRun m)

  -- this call is asked of the session and given this reply, and nothing else is asked or replied
  abbrev pub CallsAlone : {D : Type 0} → (D → Device) → ℕ → Call B → Reply B → Parts B D → Parts B D → Type 0
  CallsAlone state s call reply old new = RunsFrom state old new (IsCallRun c.keys s call reply)
