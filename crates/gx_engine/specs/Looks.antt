-- The outcomes of the moves of a call that looks.
use Rattle.std.specs.Prelude.{ℕ, ◌≡◌, ◌==◌, ◌<◌, ◌-◌, ◌⊎◌, ◌++◌, Bool, true, false, List, [], ◌∷◌, length, Option, None, Some, Result, IfErr, OnOk}
use Rattle.gx_geom.specs.declared.refusal.Refusal.TheVariants.{Device as DeviceRefusal, Damaged as DamagedRefusal, Memory}
use Rattle.gx_machine.specs.declared.call.Call.{Call}
use Rattle.gx_machine.specs.declared.entry.Entry.{Entry}
use Rattle.gx_machine.specs.declared.reply.Reply.TheVariants.{Refused as RefusedCall}
use Rattle.gx_disk.specs.Device.{Device}
use Rattle.gx_page.specs.Contents.{Contents}
use Rattle.gx_node.specs.declared.fault.LookFault.{LookFault}
use Rattle.gx_node.specs.declared.fault.LookFault.TheVariants as fault
use Rattle.gx_node.specs.declared.fault.StepFault.TheVariants.{Damaged, Pages}
use Rattle.gx_node.specs.Reach.{TraversalItem}
use Rattle.gx_node.specs.Reading.{Format}
use Rattle.gx_node.specs.Trees.{Pair, Tree, Used}
use Rattle.gx_store.specs.declared.fault.StoreFault.{StoreFault}
use Rattle.gx_index_laws.specs.Classes.{Class, Page}
use Rattle.gx_durable.specs.Spelled.{Reading}
use Rattle.gx_tree.specs.declared.found.Found.{Found}
use Rattle.gx_tree.specs.declared.look.Look.{Look}
use Rattle.gx_tree.specs.Looking.{LookStep}
use Rattle.gx_events.specs.Happenings.{Happening, Works, Closes, RefusesCall}
use Rattle.gx_events.specs.declared.outcome.Outcome.{Outcome}
use Rattle.gx_events.specs.declared.outcome.Outcome.TheVariants.{Replied, More, Help}
use Rattle.gx_phases.specs.declared.phase.Phase.{Phase}
use Rattle.gx_phases.specs.declared.phase.Phase.TheVariants as phase
use Rattle.gx_phases.specs.Moves.{WritesEntry, answered_state, failed_state}
use Rattle.gx_phases.specs.States.{State, phase_at, with_phase_of}
use Rattle.gx_storage.specs.Bringing.{bringing}
use Rattle.gx_engine.specs.declared.work.Work.{Work}
use Rattle.gx_engine.specs.declared.work.Work.TheVariants.{Rests, Looks, Descends, Seeks}
use Rattle.gx_engine.specs.Moves.{MovesOn, calling}
use Rattle.gx_engine.specs.Refusals.{IsHelp}
use Rattle.gx_engine.specs.States.{Parts, runs}
use Rattle.gx_engine.specs.Writes.{brought, is_looking}

-- a session's write of an entry is open, and looks
pub record LooksFor {B : Type 0} (entry : Entry B) (call : Call B) (work : Work B) (now : Phase B (Work B)) : Type 0 where
  pub writes : WritesEntry entry call
  pub at : now ≡ phase.Open call work
  pub looking : is_looking work ≡ true

-- a call is open that hasn't begun
abbrev pub is_at_rest : {B : Type 0} → Phase B (Work B) → Bool
is_at_rest phase.Free = false
is_at_rest phase.Working = false
is_at_rest (phase.Open call Rests) = true
is_at_rest (phase.Open call (Looks look)) = false
is_at_rest (phase.Open call (Descends parent item)) = false
is_at_rest (phase.Open call (Seeks leaf)) = false
is_at_rest (phase.Undoing restored work) = false
is_at_rest (phase.Waiting number) = false

-- a look begins at the root, with the present counter of splits, and has found nothing
abbrev pub IsFirst : {B D : Type 0} → Parts B D → Look B → Type 0
IsFirst e look = (look.stack.items ≡ record { page = 1; seen = e.volume.shelf.counter } ∷ []) × (look.found.items ≡ [])

abbrev pub IsFirstUnless : {B D : Type 0} → Bool → Parts B D → Look B → Type 0
IsFirstUnless true e look = Unit {0}
IsFirstUnless false e look = IsFirst e look

-- the state of a call while its look reads a page: the look, or nothing if that hadn't begun
abbrev pub work_before : {B : Type 0} → Bool → Look B → Work B
work_before true look = Looks look
work_before false look = Rests

-- a session's look has read its next page, where it is kept, and whether it has ended
pub record ReadsIn {B : Type 0} (t : Tree B) (takes : Pair B → Bool) (leads : B → Bool) (s : ℕ) (call : Call B) (look : Look B) (old new : State B (Work B)) (done : Bool) : Type 0 where
  pub after : Look B
  pub only : new ≡ with_phase_of s (phase.Open call (Looks after)) old
  pub ends : done ≡ (length after.stack.items == 0)
  pub step : LookStep t takes leads look.stack.items after.stack.items look.found.items after.found.items

-- it was refused that, and is unchanged; or memory was refused to it
abbrev pub RefusesIn : {B : Type 0} → Tree B → ℕ → Call B → Look B → State B (Work B) → State B (Work B) → LookFault StoreFault → Type 0
RefusesIn {B} t s call look old new fault.Memory = (after : Look B) × (new ≡ with_phase_of s (phase.Open call (Looks after)) old)
RefusesIn t s call look old new (fault.Step (Pages n)) = new ≡ old
RefusesIn t s call look old new (fault.Step Damaged) =
    (new ≡ old) × ((rest : List TraversalItem) (item : TraversalItem) → look.stack.items ≡ rest ++ item ∷ [] → ¬ Used t item.page)

-- the same, as the engine's parts
module _ {B D : Type 0} (t : Tree B) (takes : Pair B → Bool) (leads : B → Bool) (s : ℕ) (call : Call B) (look : Look B) (old new : Parts B D) where
  pub record ReadsOn (done : Bool) : Type 0 where
    pub after : Look B
    pub only : new ≡ calling s call (Looks after) (brought old new)
    pub ends : done ≡ (length after.stack.items == 0)
    pub step : LookStep t takes leads look.stack.items after.stack.items look.found.items after.found.items

abbrev pub RefusesLook : {B D : Type 0} → Tree B → ℕ → Call B → Look B → Parts B D → Parts B D → LookFault StoreFault → Type 0
RefusesLook {B} t s call look old new fault.Memory = (after : Look B) × (new ≡ calling s call (Looks after) (brought old new))
RefusesLook t s call look old new (fault.Step (Pages n)) = new ≡ brought old new
RefusesLook t s call look old new (fault.Step Damaged) =
    (new ≡ brought old new) × ((rest : List TraversalItem) (item : TraversalItem) → look.stack.items ≡ rest ++ item ∷ [] → ¬ Used t item.page)

-- a call's look has read its last page, and is kept
pub record HasEnded {B D : Type 0} (s : ℕ) (call : Call B) (old new : Parts B D) : Type 0 where
  pub look : Look B
  pub done : length look.stack.items ≡ 0
  pub at : phase_at (s - 1) new.sessions.phases ≡ phase.Open call (Looks look)
  pub only : new ≡ calling s call (Looks look) (brought old new)

-- a look is at hand: the engine held it, or has read a page for it, which goes on
abbrev pub Reaches : {B D : Type 0} → Class B → Reading (Entry B) (Page B) → Format B → (ℕ → Contents → Bool) → (D → Device) → ℕ → Parts B D → Parts B D → Type 0
Reaches c r f passes state s old new = (old ≡ new) ⊎ MovesOn c r f passes (state old.volume.shelf.disk) (state new.volume.shelf.disk) s old new

-- A look read no page: its call is closed, since memory was refused; or the engine has failed; or another event has to
-- come first, and the call's state is unchanged.
abbrev pub StopComes : {B D : Type 0} → (ℕ → Contents → Bool) → Device → Device → ℕ → Parts B D → Parts B D → Outcome B → Type 0
StopComes passes d e s old new (Replied (RefusedCall Memory)) = new ≡ record (brought old new) { sessions = answered_state s old.sessions }
StopComes passes d e s old new (Replied (RefusedCall DeviceRefusal)) = (d.faults < e.faults) × (new ≡ record (brought old new) { sessions = failed_state old.sessions })
StopComes passes d e s old new (Replied (RefusedCall DamagedRefusal)) = new ≡ record (brought old new) { sessions = failed_state old.sessions }
StopComes passes d e s old new (Help n) = IsHelp passes d e (runs old.checkpoint) (bringing old.volume) new.volume.shelf n × (new ≡ brought old new)
StopComes passes d e s old new other = ⊥

-- the index's event that it is
abbrev pub look_events : {B : Type 0} → ℕ → Call B → Outcome B → List (Happening B)
look_events s call More = Works ∷ []
look_events s call (Replied (RefusedCall Memory)) = Closes s call Memory ∷ []
look_events s call (Replied (RefusedCall DeviceRefusal)) = RefusesCall s DeviceRefusal ∷ []
look_events s call other = []

-- what follows a write's look, by what it has found: it seeks its pair in the leaf where that was, and else it goes on
abbrev pub turned_by : {B : Type 0} → List (Found B) → Look B → Work B
turned_by [] look = Looks look
turned_by (one ∷ found) look = Seeks one.leaf

-- the leaf in which a pair was found first
abbrev pub leaf_found : {B : Type 0} → List (Found B) → Option ℕ
leaf_found [] = None
leaf_found (one ∷ found) = Some one.leaf

-- a write's look has read a page: its call is at what follows, and the look has ended only if it has found nothing
pub record Turns {B D : Type 0} (s : ℕ) (call : Call B) (look : Look B) (done : Bool) (old new : Parts B D) (result : Result (Unit {0}) (Outcome B)) : Type 0 where
  pub there : new ≡ calling s call (turned_by look.found.items look) old
  pub ends : OnOk result ((look.found.items ≡ []) × (done ≡ true))
  pub goes : IfErr result (λ outcome. outcome ≡ More)
