-- The run of the set machine that a life is.
use Rattle.std.specs.Prelude.{ℕ, ◌≡◌, ◌⊎◌, List, [], ◌∷◌, ◌++◌}
use Rattle.gx_geom.specs.declared.refusal.Refusal.{Refusal}
use Rattle.gx_machine.specs.declared.reply.Reply.{Reply}
use Rattle.gx_machine.specs.declared.reply.Reply.TheVariants as reply
use Rattle.gx_machine.specs.declared.reply.Asked.TheVariants as asked
use Rattle.gx_machine.specs.Runs.{Step, Asks, Answers, Seals, Durable, Closes, RefusesAsk, RefusesCall, Fails, Crashes}
use Rattle.gx_events.specs.declared.event.Event.{Event}
use Rattle.gx_events.specs.declared.event.Event.TheVariants.{Ask, Move, LogStep, WritePage, CheckpointStep, Sweep}
use Rattle.gx_events.specs.declared.outcome.Outcome.{Outcome}
use Rattle.gx_events.specs.declared.outcome.Outcome.TheVariants.{Replied, More, Refused}
use Rattle.gx_lives.specs.Lives.{Turn}
use Rattle.gx_lives.specs.Lives as life

-- the step of a reply to an open call: the session is answered; or the call is closed, or refused, for this reason
abbrev pub TellsReply : {B : Type 0} → ℕ → Reply B → List (Step B) → Type 0
TellsReply s r steps =
    (steps ≡ Answers s r ∷ []) ⊎ ((why : Refusal) × (r ≡ reply.Refused why) × ((steps ≡ Closes s why ∷ []) ⊎ (steps ≡ RefusesCall s why ∷ [])))

-- the steps of an event of no session: one if commits get durable, one for a fault; else none
abbrev pub TellsWork : {B : Type 0} → Outcome B → List (Step B) → Type 0
TellsWork More steps = (steps ≡ []) ⊎ ((number : ℕ) × (steps ≡ Durable number ∷ []))
TellsWork (Refused why) steps = (steps ≡ []) ⊎ (steps ≡ Fails ∷ [])
TellsWork outcome steps = steps ≡ []

-- The steps of an event with its outcome: one for each ask and each reply, and one if a commit is sealed; for an event
-- of no session those given here.
abbrev pub TellsEvent : {B : Type 0} → Event B → Outcome B → List (Step B) → Type 0
TellsEvent (Ask s call) (Replied r) steps = (steps ≡ Asks s call (asked.Now r) ∷ []) ⊎ ((why : Refusal) × (r ≡ reply.Refused why) × (steps ≡ RefusesAsk s call why ∷ []))
TellsEvent (Ask s call) outcome steps = steps ≡ Asks s call asked.Open ∷ []
TellsEvent (Move s) (Replied r) steps = TellsReply s r steps
TellsEvent (Move s) More steps = (steps ≡ []) ⊎ ((number : ℕ) × (steps ≡ Seals s number ∷ []))
TellsEvent (Move s) outcome steps = steps ≡ []
TellsEvent LogStep outcome steps = TellsWork outcome steps
TellsEvent (WritePage page) outcome steps = TellsWork outcome steps
TellsEvent CheckpointStep outcome steps = TellsWork outcome steps
TellsEvent (Sweep page) outcome steps = TellsWork outcome steps

-- steps of upkeep, which are no session's: commits get durable, a fault comes
abbrev pub TellsUpkeep : {B : Type 0} → List (Step B) → Type 0
TellsUpkeep [] = Unit {0}
TellsUpkeep (Durable number ∷ steps) = TellsUpkeep steps
TellsUpkeep (Fails ∷ steps) = TellsUpkeep steps
TellsUpkeep (other ∷ steps) = ⊥

-- the steps of a turn: an opening is one crash, a reading is upkeep
abbrev pub TellsTurn : {B : Type 0} → Turn B → List (Step B) → Type 0
TellsTurn (life.Happens event outcome) steps = TellsEvent event outcome steps
TellsTurn life.Opens steps = (number : ℕ) × (steps ≡ Crashes number ∷ [])
TellsTurn life.Reads steps = TellsUpkeep steps
TellsTurn other steps = steps ≡ []

-- turn by turn
abbrev pub Tells : {B : Type 0} → List (Turn B) → List (Step B) → Type 0
Tells [] steps = steps ≡ []
Tells {B} (turn ∷ turns) steps = (first : List (Step B)) × (rest : List (Step B)) × TellsTurn turn first × Tells turns rest × (steps ≡ first ++ rest)
