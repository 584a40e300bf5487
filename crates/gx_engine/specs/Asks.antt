-- The outcome of an ask.
use Rattle.std.specs.Prelude.{ℕ, ◌≡◌, List, [], ◌∷◌}
use Rattle.gx_machine.specs.declared.call.Call.{Call}
use Rattle.gx_machine.specs.declared.reply.Asked.{Asked}
use Rattle.gx_machine.specs.declared.reply.Asked.TheVariants as asked
use Rattle.gx_machine.specs.Keys.{Keys}
use Rattle.gx_events.specs.Happenings.{Happening}
use Rattle.gx_events.specs.declared.outcome.Outcome.{Outcome}
use Rattle.gx_events.specs.declared.outcome.Outcome.TheVariants.{Replied, More, Help, Nothing, Refused}
use Rattle.gx_phases.specs.Asked.{IsAsked, asked_event}
use Rattle.gx_phases.specs.States.{State}
use Rattle.gx_engine.specs.declared.work.Work.{Work}
use Rattle.gx_engine.specs.declared.work.Work.TheVariants.{Rests}
use Rattle.gx_engine.specs.States.{Parts}

-- an ask's reply as an outcome
abbrev pub outcome_of : {B : Type 0} → Asked B → Outcome B
outcome_of (asked.Now reply) = Replied reply
outcome_of asked.Open = More

-- a reply at once, or the call is open; what decides is the sessions, and nothing else changes
abbrev pub AskComes : {B D : Type 0} → Keys B → ℕ → Call B → Parts B D → Outcome B → Parts B D → Type 0
AskComes k s call old (Replied reply) new = IsAsked k s call Rests old.sessions (asked.Now reply) new.sessions × (new ≡ record old { sessions = new.sessions })
AskComes k s call old More new = IsAsked k s call Rests old.sessions asked.Open new.sessions × (new ≡ record old { sessions = new.sessions })
AskComes k s call old (Help need) new = ⊥
AskComes k s call old Nothing new = ⊥
AskComes k s call old (Refused why) new = ⊥

-- the index's event that it is
abbrev pub ask_events : {B : Type 0} → ℕ → Call B → State B (Work B) → Outcome B → List (Happening B)
ask_events s call old (Replied reply) = asked_event s call old (asked.Now reply) ∷ []
ask_events s call old More = asked_event s call old asked.Open ∷ []
ask_events s call old (Help need) = []
ask_events s call old Nothing = []
ask_events s call old (Refused why) = []
