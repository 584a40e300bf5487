-- What a run of the machine is: steps, each with what came of it.
use Rattle.std.specs.Prelude.{ℕ, ◌≡◌, ◌+◌, ◌≤◌, Bool, true, false, Some, List, [], ◌∷◌}
use Rattle.gx_geom.specs.declared.refusal.Refusal.{Refusal}
use Rattle.gx_geom.specs.declared.refusal.Refusal.TheVariants as refusal
use Rattle.gx_machine.specs.declared.call.Call.{Call}
use Rattle.gx_machine.specs.declared.reply.Reply.{Reply}
use Rattle.gx_machine.specs.declared.reply.Reply.TheVariants.{Ok}
use Rattle.gx_machine.specs.declared.reply.Asked.{Asked}
use Rattle.gx_machine.specs.declared.reply.Asked.TheVariants.{Now}
use Rattle.gx_machine.specs.Keys.{Keys}
use Rattle.gx_machine.specs.Sessions.{is_unanswered}
use Rattle.gx_machine.specs.Machine.{Machine, newest, session_at, ask, answer, seal, durable, close, crash, failed_machine}

-- The steps: a session asks, and gets a reply at once or has its call open; a session is answered; a commit is sealed
-- under a number; commits up to a number are durable; an open call is closed unanswered; a call is refused when it is
-- asked, or an unanswered call is, for a cause outside of the machine; a fault comes that no session sees; a crash
-- leaves the set of a number; nothing is done.
pub data Step (B : Type 0) : Type 0 where
  Asks : (s : ℕ) (call : Call B) (given : Asked B) → Step B
  Answers : (s : ℕ) (reply : Reply B) → Step B
  Seals : (s number : ℕ) → Step B
  Durable : (number : ℕ) → Step B
  Closes : (s : ℕ) (why : Refusal) → Step B
  RefusesAsk : (s : ℕ) (call : Call B) (why : Refusal) → Step B
  RefusesCall : (s : ℕ) (why : Refusal) → Step B
  Fails : Step B
  Crashes : (number : ℕ) → Step B
  Nothing : Step B

-- an open call may be closed for this reason: no page or no memory is left
abbrev pub may_close : Refusal → Bool
may_close refusal.PagesFull = true
may_close refusal.Memory = true
may_close other = false

-- a call meets a fault: the device fails in it, or had failed, whether or not a session saw it
abbrev pub MeetsFault : {B : Type 0} → Refusal → Machine B → Machine B → Type 0
MeetsFault refusal.Device old new = (old.failed ≡ false) × (new ≡ failed_machine old)
MeetsFault refusal.Failed old new = new ≡ failed_machine old
MeetsFault other old new = ⊥

-- why a call may be refused when it is asked: a Begin that would be answered Ok finds its numbers used up, or a fault
abbrev pub AskRefused : {B : Type 0} → Keys B → ℕ → Call B → Refusal → Machine B → Machine B → Type 0
AskRefused k s call refusal.HistoryFull old new = (old.failed ≡ false) × ((ask k s call old).0 ≡ Now Ok) × (new ≡ old)
AskRefused k s call refusal.Device old new = MeetsFault refusal.Device old new
AskRefused k s call refusal.Failed old new = MeetsFault refusal.Failed old new
AskRefused k s call other old new = ⊥

-- From old, this step leads to new.
abbrev pub IsStep : {B : Type 0} → Keys B → Machine B → Step B → Machine B → Type 0
IsStep k old (Asks s call given) new = (old.failed ≡ false) × (ask k s call old ≡ (given, new))
IsStep k old (Answers s r) new = (old.failed ≡ false) × (answer k s old ≡ Some (r, new))
IsStep k old (Seals s number) new = (old.failed ≡ false) × (number ≡ newest old + 1) × (seal k s old ≡ Some new)
IsStep k old (Durable number) new = (old.failed ≡ false) × (old.oldest ≤ number) × (number ≤ newest old) × (new ≡ durable number old)
IsStep k old (Closes s why) new = (old.failed ≡ false) × (may_close why ≡ true) × (close s old ≡ Some new)
IsStep k old (RefusesAsk s call why) new = AskRefused k s call why old new
IsStep k old (RefusesCall s why) new = (is_unanswered (session_at s old.sessions) ≡ true) × MeetsFault why old new
IsStep k old Fails new = new ≡ failed_machine old
IsStep k old (Crashes number) new = (old.oldest ≤ number) × (number ≤ newest old) × (new ≡ crash number old)
IsStep k old Nothing new = new ≡ old

-- From old, these steps are a run, and it ends in new.
abbrev pub IsRun : {B : Type 0} → Keys B → Machine B → List (Step B) → Machine B → Type 0
IsRun k old [] new = new ≡ old
IsRun {B} k old (step ∷ steps) new = (middle : Machine B) × IsStep k old step middle × IsRun k middle steps new

-- a fault that no session sees
abbrev pub is_unseen_fault : {B : Type 0} → Step B → Bool
is_unseen_fault (Asks s call given) = false
is_unseen_fault (Answers s r) = false
is_unseen_fault (Seals s number) = false
is_unseen_fault (Durable number) = false
is_unseen_fault (Closes s why) = false
is_unseen_fault (RefusesAsk s call why) = false
is_unseen_fault (RefusesCall s why) = false
is_unseen_fault Fails = true
is_unseen_fault (Crashes number) = false
is_unseen_fault Nothing = false
