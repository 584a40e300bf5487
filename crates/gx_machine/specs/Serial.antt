-- Runs that are serial.
use Rattle.std.specs.Prelude.{ℕ, ◌≡◌, None, Some, List, All}
use Rattle.gx_machine.specs.declared.call.Call.{Call}
use Rattle.gx_machine.specs.declared.call.Call.TheVariants.{Begin}
use Rattle.gx_machine.specs.declared.reply.Reply.{Reply}
use Rattle.gx_machine.specs.declared.reply.Reply.TheVariants as reply
use Rattle.gx_machine.specs.declared.reply.Asked.TheVariants.{Now}
use Rattle.gx_machine.specs.Keys.{Keys}
use Rattle.gx_machine.specs.Sessions.{Open, Locks, Changes, answer_call}
use Rattle.gx_machine.specs.Machine.{Machine, session_at}
use Rattle.gx_machine.specs.Runs.{Step, Asks, Answers, Seals, IsStep, IsRun}

-- the session begins a transaction
abbrev pub Begins : {B : Type 0} → ℕ → Step B → Type 0
Begins s step = step ≡ Asks s Begin (Now reply.Ok)

-- the session begins no transaction in these steps
abbrev pub BeginsNone : {B : Type 0} → ℕ → List (Step B) → Type 0
BeginsNone s steps = All (λ step. ¬ Begins s step) steps

-- A call that got its reply in a transaction whose commit was sealed. A run from start leads to asked, where the call
-- is open and the transaction has made these changes; the reply is given, and it has then made those; further steps, of
-- any sessions, lead to sealing, and none of them begins another transaction of the session; there its commit is
-- sealed.
pub record AnsweredThenSealed {B : Type 0} (k : Keys B) (start : Machine B) (s : ℕ) (call : Call B) (changes : Changes B) (reply : Reply B)
    (then_changes : Changes B) (sealing : Machine B) : Type 0 where
  pub before : List (Step B)
  pub asked : Machine B
  pub locks : Locks B
  pub leads_to_asked : IsRun k start before asked
  pub call_is_open : session_at s asked.sessions ≡ Open locks changes (Some call)
  pub answered : Machine B
  pub then_locks : Locks B
  pub is_answered : IsStep k asked (Answers s reply) answered
  pub call_is_closed : session_at s answered.sessions ≡ Open then_locks then_changes None
  pub between : List (Step B)
  pub leads_to_sealing : IsRun k answered between sealing
  pub goes_on : BeginsNone s between
  pub number : ℕ
  pub sealed : Machine B
  pub is_sealed : IsStep k sealing (Seals s number) sealed

-- Every run from start is serial: when a session's commit is sealed, each call that its transaction was answered is
-- answered alike on the last committed set of that moment, with the changes that it had made as the answer was given.
-- So committed transactions are answered as if they had run one after another, in the order of their numbers.
abbrev pub IsSerial : {B : Type 0} → Keys B → Machine B → Type 0
IsSerial {B} k start =
    (s : ℕ) (call : Call B) (changes : Changes B) (reply : Reply B) (then_changes : Changes B) (sealing : Machine B)
    → AnsweredThenSealed k start s call changes reply then_changes sealing
    → answer_call k call sealing.latest changes ≡ Some (reply, then_changes)
