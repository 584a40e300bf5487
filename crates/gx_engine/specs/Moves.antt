-- The outcomes of a session's moves, and what its call has left to do.
use Rattle.std.specs.Prelude.{ℕ, ◌≡◌, ◌<◌, ◌-◌, ◌^◌, Bool, List, [], ◌∷◌}
use Rattle.gx_machine.specs.declared.call.Call.{Call}
use Rattle.gx_machine.specs.declared.entry.Entry.{Entry}
use Rattle.gx_disk.specs.Device.{Device}
use Rattle.gx_page.specs.Contents.{Contents}
use Rattle.gx_node.specs.Reading.{Format}
use Rattle.gx_recovery.specs.Records.{Record}
use Rattle.gx_events.specs.Happenings.{Happening, Works}
use Rattle.gx_index_laws.specs.Classes.{Class, Page}
use Rattle.gx_index_laws.specs.Measures.{work_left}
use Rattle.gx_index_laws.specs.States as index
use Rattle.gx_durable.specs.Spelled.{Reading}
use Rattle.gx_events.specs.declared.outcome.Outcome.{Outcome}
use Rattle.gx_events.specs.declared.outcome.Outcome.TheVariants.{More}
use Rattle.gx_phases.specs.declared.phase.Phase.{Phase}
use Rattle.gx_phases.specs.declared.phase.Phase.TheVariants as phase
use Rattle.gx_phases.specs.States.{phase_at, with_phase_of}
use Rattle.gx_engine.specs.declared.work.Work.{Work}
use Rattle.gx_engine.specs.declared.work.Work.TheVariants.{Rests}
use Rattle.gx_engine.specs.Holds.{Holds, Led}
use Rattle.gx_engine.specs.States.{Parts}

-- the engine with a session's call at this work
abbrev pub calling : {B D : Type 0} → ℕ → Call B → Work B → Parts B D → Parts B D
calling s call work e = record e { sessions = with_phase_of s (phase.Open call work) e.sessions }

-- What a call has left to do, by its session's phase, if its index has so much left for it: one that hasn't begun in
-- the tree has more than any that has.
abbrev pub left_by : {B : Type 0} → Phase B (Work B) → ℕ → ℕ
left_by (phase.Open call Rests) left = 2 ^ 39
left_by other left = left

module _ {B : Type 0} (c : Class B) (r : Reading (Entry B) (Page B)) (f : Format B) (passes : ℕ → Contents → Bool) where
  -- what a session's call has left
  abbrev pub left : {D : Type 0} → ℕ → Parts B D → index.State B → ℕ
  left s e i = left_by (phase_at (s - 1) e.sessions.phases) (work_left c i s)

  -- a move that goes on leaves less
  abbrev pub Lowers : {D : Type 0} → ℕ → Outcome B → Parts B D → Parts B D → index.State B → index.State B → Type 0
  Lowers s More old new i j = left s new j < left s old i
  Lowers s other old new i j = Unit {0}

  -- A session's move led to these events, and lowers what its call has left if it goes on.
  pub record Moved {D : Type 0} (d e : Device) (s : ℕ) (old new : Parts B D) (outcome : Outcome B) (i : index.State B) (events : List (Happening B)) : Type 0 where
    pub led : Led c r f passes d e new i events
    pub lowers : Lowers s outcome old new i led.index

  -- whatever index an engine held
  abbrev pub Moves : {D : Type 0} → Device → Device → ℕ → Parts B D → Parts B D → Outcome B → List (Happening B) → Type 0
  Moves d e s old new outcome events = (bodies : List (List (Record (Entry B) (Page B)))) (i : index.State B) → Holds c r f passes d old bodies i
      → Moved d e s old new outcome i events

  -- the same, of events of a kind that depends on that index
  abbrev pub MovesSo : {D : Type 0} → Device → Device → ℕ → Parts B D → Parts B D → Outcome B → (List (Happening B) → Type 0) → Type 0
  MovesSo d e s old new outcome AreSo = (bodies : List (List (Record (Entry B) (Page B)))) (i : index.State B) → Holds c r f passes d old bodies i
      → (events : List (Happening B)) × AreSo events × Moved d e s old new outcome i events

  -- whatever index an engine held, a move goes on, and the log's state is unchanged
  abbrev pub MovesOn : {D : Type 0} → Device → Device → ℕ → Parts B D → Parts B D → Type 0
  MovesOn d e s old new = (bodies : List (List (Record (Entry B) (Page B)))) (i : index.State B) → Holds c r f passes d old bodies i
      → (moved : Moved d e s old new More i (Works ∷ [])) × (moved.led.index.log ≡ i.log)
