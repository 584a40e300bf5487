-- The outcome of a search's move.
use Rattle.std.specs.Prelude.{ℕ, ◌≡◌, ◌<◌, Bool, List, [], ◌∷◌, length}
use Rattle.gx_geom.specs.declared.refusal.Refusal.TheVariants.{Device as DeviceRefusal, Damaged as DamagedRefusal, Memory}
use Rattle.gx_machine.specs.declared.call.Call.TheVariants.{Search}
use Rattle.gx_machine.specs.declared.query.Query.{Query}
use Rattle.gx_machine.specs.declared.reply.Reply.TheVariants.{Found, Refused as RefusedCall}
use Rattle.gx_disk.specs.Device.{Device}
use Rattle.gx_page.specs.Contents.{Contents}
use Rattle.gx_tree.specs.declared.look.Look.{Look}
use Rattle.gx_events.specs.Happenings.{Happening, Works, Finds, Closes, RefusesCall}
use Rattle.gx_events.specs.declared.outcome.Outcome.{Outcome}
use Rattle.gx_events.specs.declared.outcome.Outcome.TheVariants.{Replied, More, Help}
use Rattle.gx_events.specs.Steps.{IsJust}
use Rattle.gx_phases.specs.Moves.{answered_state, failed_state}
use Rattle.gx_storage.specs.Bringing.{bringing}
use Rattle.gx_engine.specs.declared.work.Work.TheVariants.{Looks}
use Rattle.gx_engine.specs.Moves.{calling}
use Rattle.gx_engine.specs.Refusals.{IsHelp}
use Rattle.gx_engine.specs.States.{Parts, runs}
use Rattle.gx_engine.specs.Writes.{brought}

-- The search has a look with more to read; it gets its reply; it is closed, since memory was refused; the engine has
-- failed; or another event has to come first, and the search's state is unchanged.
abbrev pub SearchComes : {B D : Type 0} → (ℕ → Contents → Bool) → Device → Device → ℕ → Query B → Parts B D → Parts B D → Outcome B → Type 0
SearchComes {B} passes d e s query old new More = (look : Look B) × (0 < length look.stack.items) × (new ≡ calling s (Search query) (Looks look) (brought old new))
SearchComes passes d e s query old new (Replied (Found entries)) = new ≡ record (brought old new) { sessions = answered_state s old.sessions }
SearchComes passes d e s query old new (Replied (RefusedCall Memory)) = new ≡ record (brought old new) { sessions = answered_state s old.sessions }
SearchComes passes d e s query old new (Replied (RefusedCall DeviceRefusal)) = (d.faults < e.faults) × (new ≡ record (brought old new) { sessions = failed_state old.sessions })
SearchComes passes d e s query old new (Replied (RefusedCall DamagedRefusal)) = new ≡ record (brought old new) { sessions = failed_state old.sessions }
SearchComes passes d e s query old new (Help n) = IsHelp passes d e (runs old.checkpoint) (bringing old.volume) new.volume.shelf n × (new ≡ brought old new)
SearchComes passes d e s query old new other = ⊥

-- A look that has ended is the reply; or the search is closed, since memory was refused.
abbrev pub FindComes : {B D : Type 0} → ℕ → Parts B D → Parts B D → Outcome B → Type 0
FindComes s old new (Replied (Found entries)) = new ≡ record old { sessions = answered_state s old.sessions }
FindComes s old new (Replied (RefusedCall Memory)) = new ≡ record old { sessions = answered_state s old.sessions }
FindComes s old new other = ⊥

-- the index's event that a part of it is
abbrev pub search_events : {B : Type 0} → ℕ → Query B → Outcome B → List (Happening B)
search_events s query More = Works ∷ []
search_events s query (Replied (Found entries)) = Finds s query entries ∷ []
search_events s query (Replied (RefusedCall Memory)) = Closes s (Search query) Memory ∷ []
search_events s query (Replied (RefusedCall DeviceRefusal)) = RefusesCall s DeviceRefusal ∷ []
search_events s query other = []

-- The index's events that it is. The move that reads the last page answers: its look ends first.
abbrev pub AreSearching : {B : Type 0} → ℕ → Query B → Outcome B → List (Happening B) → Type 0
AreSearching s query (Replied (Found entries)) events = IsJust (Finds s query entries) events
AreSearching s query (Replied (RefusedCall Memory)) events = IsJust (Closes s (Search query) Memory) events
AreSearching s query other events = events ≡ search_events s query other
