-- What calls alone decide: a reply, and the text of a script, if nothing is refused for a cause that isn't the
-- machine's.
use Rattle.std.specs.Prelude.{ℕ, ◌≡◌, ◌+◌, Bool, true, false, length, List, [], ◌∷◌, ◌++◌}
use Rattle.gx_geom.specs.declared.refusal.Refusal.{Refusal}
use Rattle.gx_geom.specs.declared.refusal.Refusal.TheVariants as refusal
use Rattle.gx_machine.specs.declared.limits.TheConstants.{SESSIONS}
use Rattle.gx_machine.specs.declared.call.Call.{Call}
use Rattle.gx_machine.specs.declared.reply.Reply.{Reply}
use Rattle.gx_machine.specs.declared.reply.Reply.TheVariants as reply
use Rattle.gx_machine.specs.declared.reply.Asked.{Asked}
use Rattle.gx_machine.specs.declared.reply.Asked.TheVariants as asked
use Rattle.gx_machine.specs.Keys.{Keys}
use Rattle.gx_machine.specs.Sessions.{is_unanswered}
use Rattle.gx_machine.specs.Machine.{Machine, newest, session_at, ask}
use Rattle.gx_script.specs.declared.line.Line.{Line}
use Rattle.gx_script.specs.declared.line.Line.TheVariants.{Blank, Bad, Reversed, Asks}
use Rattle.gx_script.specs.Corners.{Grammar}
use Rattle.gx_script.specs.Replies.{reply_text, bad_line}
use Rattle.gx_script.specs.Scripts.{asked_as}
use Rattle.gx_plain.specs.Index.{answer_machine}

-- a reply that calls alone decide: all but a refusal because pages, memory or numbers are used up, or for a fault
abbrev pub is_decided_refusal : Refusal → Bool
is_decided_refusal refusal.PagesFull = false
is_decided_refusal refusal.Memory = false
is_decided_refusal refusal.Device = false
is_decided_refusal refusal.Failed = false
is_decided_refusal refusal.Damaged = false
is_decided_refusal refusal.HistoryFull = false
is_decided_refusal other = true

abbrev pub is_decided : {B : Type 0} → Reply B → Bool
is_decided (reply.Refused why) = is_decided_refusal why
is_decided other = true

-- a call that got such a reply
abbrev pub AnswersDecided : {I B : Type 0} → (I → ℕ → Call B → Reply B → I → Type 0) → I → ℕ → Call B → Reply B → I → Type 0
AnswersDecided answered old s call r new = answered old s call r new × (is_decided r ≡ true)

-- No call is open, and no fault has come.
pub record Rests {B : Type 0} (m : Machine B) : Type 0 where
  pub eight : length m.sessions ≡ SESSIONS
  pub works : m.failed ≡ false
  pub answered : (s : ℕ) → is_unanswered (session_at s m.sessions) ≡ false

-- the machine as its calls see it: its last set, under its number, with its sessions
abbrev pub seen_by_calls : {B : Type 0} → Machine B → Machine B
seen_by_calls m = record { older = []; latest = m.latest; oldest = newest m; sessions = m.sessions; failed = false }

-- the reply that came at once, or the whole answer
abbrev pub answered_by : {B : Type 0} → Keys B → ℕ → Asked B → Machine B → Reply B × Machine B
answered_by k s (asked.Now r) m = (r, m)
answered_by k s asked.Open m = answer_machine k s m

-- the reply to a call that is asked alone, and what it makes of the machine
abbrev pub decided_call : {B : Type 0} → Keys B → ℕ → Call B → Machine B → Reply B × Machine B
decided_call k s call m = answered_by k s (ask k s call m).0 (ask k s call m).1

-- the text of lines, the first of which has this number
abbrev pub decided_text : {B : Type 0} → Grammar B → Keys B → ℕ → List (Line B) → Machine B → List ℕ
decided_text grammar k number [] m = []
decided_text grammar k number (Blank ∷ more) m = decided_text grammar k (number + 1) more m
decided_text grammar k number (Bad ∷ more) m = bad_line number ++ decided_text grammar k (number + 1) more m
decided_text grammar k number (Reversed session ∷ more) m =
    reply_text grammar session (reply.Refused refusal.BadBox) ++ decided_text grammar k (number + 1) more m
decided_text grammar k number (Asks session call ∷ more) m =
    reply_text grammar session (decided_call k (asked_as session) call m).0
    ++ decided_text grammar k (number + 1) more (decided_call k (asked_as session) call m).1

-- a call of the machine is answered as it alone decides, and the machine rests again
pub record IsDecidedCall {B : Type 0} (k : Keys B) (s : ℕ) (call : Call B) (r : Reply B) (old new : Machine B) : Type 0 where
  pub decides : decided_call k s call (seen_by_calls old) ≡ (r, seen_by_calls new)
  pub rests : Rests new
