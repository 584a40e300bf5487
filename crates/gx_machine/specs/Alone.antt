-- A committed transaction, run alone on one set.
use Rattle.std.specs.Prelude.{ℕ, ◌≡◌, ◌==◌, if◌then◌else◌, None, Some, List, [], ◌∷◌, ◌++◌}
use Rattle.gx_machine.specs.declared.call.Call.{Call}
use Rattle.gx_machine.specs.declared.call.Call.TheVariants.{Begin}
use Rattle.gx_machine.specs.declared.entry.Entry.{Entry}
use Rattle.gx_machine.specs.declared.reply.Reply.{Reply}
use Rattle.gx_machine.specs.declared.reply.Reply.TheVariants as reply
use Rattle.gx_machine.specs.declared.reply.Asked.TheVariants.{Now}
use Rattle.gx_machine.specs.Keys.{Keys}
use Rattle.gx_machine.specs.Sessions.{Session, Idle, Open, Aborting, Committing, Changes, no_changes, view, answer_call}
use Rattle.gx_machine.specs.Machine.{Machine, session_at}
use Rattle.gx_machine.specs.Runs.{Step, Asks, Answers, Seals, Durable, Closes, RefusesAsk, RefusesCall, Fails, Crashes, Nothing, IsStep, IsRun}
use Rattle.gx_machine.specs.Serial.{BeginsNone}

-- these calls get these replies when they are answered one after another on the same set, and make of these changes
-- those
abbrev pub RunsAlone : {B : Type 0} → Keys B → List (Entry B) → Changes B → List (Call B × Reply B) → Changes B → Type 0
RunsAlone k set changes [] after = after ≡ changes
RunsAlone {B} k set changes (answered ∷ more) after =
    (middle : Changes B) × (answer_call k answered.0 set changes ≡ Some (answered.1, middle)) × RunsAlone k set middle more after

-- an answer's reply, with the call that was open
abbrev pub answered_call : {B : Type 0} → Session B → Reply B → List (Call B × Reply B)
answered_call Idle r = []
answered_call (Open locks changes None) r = []
answered_call (Open locks changes (Some call)) r = (call, r) ∷ []
answered_call (Aborting locks) r = []
answered_call (Committing number) r = []

-- the call of the session that this step from this machine answers, if it answers one
abbrev pub answered_in : {B : Type 0} → ℕ → Machine B → Step B → List (Call B × Reply B)
answered_in s m (Answers t r) = if t == s then answered_call (session_at s m.sessions) r else []
answered_in s m (Asks t call given) = []
answered_in s m (Seals t number) = []
answered_in s m (Durable number) = []
answered_in s m (Closes t why) = []
answered_in s m (RefusesAsk t call why) = []
answered_in s m (RefusesCall t why) = []
answered_in s m Fails = []
answered_in s m (Crashes number) = []
answered_in s m Nothing = []

-- the calls of the session that a run answers, with their replies
abbrev pub answered_calls : {B : Type 0} → (k : Keys B) → ℕ → (old : Machine B) (steps : List (Step B)) (new : Machine B)
    → IsRun k old steps new → List (Call B × Reply B)
answered_calls k s old [] new run = []
answered_calls k s old (step ∷ steps) new run = answered_in s old step ++ answered_calls k s run.0 steps new run.2

-- A committed transaction: a run from start leads to a machine in which the session begins; these steps, in which it
-- doesn't begin again, lead to sealing; there its commit is sealed.
pub record IsCommitted {B : Type 0} (k : Keys B) (start : Machine B) (s : ℕ) (begun : Machine B) (steps : List (Step B)) (sealing sealed : Machine B) : Type 0 where
  pub before : List (Step B)
  pub idle : Machine B
  pub leads_to_idle : IsRun k start before idle
  pub begins : IsStep k idle (Asks s Begin (Now reply.Ok)) begun
  pub goes_on : BeginsNone s steps
  pub number : ℕ
  pub is_sealed : IsStep k sealing (Seals s number) sealed

-- Each committed transaction of a run from start reads as if it had run alone, all at once, where its commit was
-- sealed: on the last committed set of that moment its calls get the replies that they got, and what it has then
-- added and taken away makes of that set the one that its commit adds.
abbrev pub CommittedRunAlone : {B : Type 0} → Keys B → Machine B → Type 0
CommittedRunAlone {B} k start =
    (s : ℕ) (begun : Machine B) (steps : List (Step B)) (sealing sealed : Machine B) (run : IsRun k begun steps sealing)
    → IsCommitted k start s begun steps sealing sealed
    → (after : Changes B)
    × RunsAlone k sealing.latest no_changes (answered_calls k s begun steps sealing run) after
    × (sealed.latest ≡ view k sealing.latest after)
