-- What an event does to the machine that an engine is seen as, by its outcome.
use Rattle.std.specs.Prelude.{ℕ, ◌≡◌, ◌⊎◌, Bool, true, false, Some}
use Rattle.gx_geom.specs.declared.refusal.Refusal.{Refusal}
use Rattle.gx_geom.specs.declared.refusal.Refusal.TheVariants as refusal
use Rattle.gx_machine.specs.declared.call.Call.{Call}
use Rattle.gx_machine.specs.declared.call.Call.TheVariants.{Begin, Insert, Delete, Search}
use Rattle.gx_machine.specs.declared.reply.Reply.{Reply}
use Rattle.gx_machine.specs.declared.reply.Reply.TheVariants as reply
use Rattle.gx_machine.specs.declared.reply.Asked.TheVariants as asked
use Rattle.gx_machine.specs.Keys.{Keys}
use Rattle.gx_machine.specs.Sessions.{Session, Open, is_unanswered}
use Rattle.gx_machine.specs.Machine.{Machine, newest, is_session, session_at, failed_machine}
use Rattle.gx_machine.specs.Runs.{Asks, Answers, Seals, Durable, Closes, RefusesAsk, IsStep}
use Rattle.gx_events.specs.declared.event.Event.{Event}
use Rattle.gx_events.specs.declared.event.Event.TheVariants.{Ask, Move, LogStep, WritePage, CheckpointStep, Sweep}
use Rattle.gx_events.specs.declared.outcome.Outcome.{Outcome}
use Rattle.gx_events.specs.declared.outcome.Outcome.TheVariants.{Replied, More, Help, Nothing, Refused}

-- nothing changes, and no fault has ended it
abbrev pub Stays : {B : Type 0} → Machine B → Machine B → Type 0
Stays old new = (old.failed ≡ false) × (new ≡ old)

-- a fault: the device fails now, and it has ended from then on; or it had ended before, and nothing changes
abbrev pub MeetsFault : {B : Type 0} → Refusal → Machine B → Machine B → Type 0
MeetsFault refusal.Device old new = (old.failed ≡ false) × (new ≡ failed_machine old)
MeetsFault refusal.Failed old new = (old.failed ≡ true) × (new ≡ old)
MeetsFault other old new = ⊥

-- a call that opens a transaction
abbrev pub is_begin : {B : Type 0} → Call B → Bool
is_begin Begin = true
is_begin other = false

-- an ask refused for a cause that the machine doesn't know: it had ended before, or a Begin that would be answered finds no
-- number left
abbrev pub AskRefused : {B : Type 0} → Keys B → ℕ → Call B → Reply B → Machine B → Machine B → Type 0
AskRefused k s call (reply.Refused refusal.Failed) old new = (old.failed ≡ true) × (new ≡ old)
AskRefused k s call (reply.Refused refusal.HistoryFull) old new = (is_begin call ≡ true) × IsStep k old (RefusesAsk s call refusal.HistoryFull) new
AskRefused k s call other old new = ⊥

-- a call may be closed for this: an insert, if no page is left, and a write or a search, if memory is refused
abbrev pub may_lack : {B : Type 0} → Refusal → Call B → Bool
may_lack refusal.PagesFull (Insert entry) = true
may_lack refusal.Memory (Insert entry) = true
may_lack refusal.Memory (Delete entry) = true
may_lack refusal.Memory (Search query) = true
may_lack why call = false

-- the session has such a call open
abbrev pub Lacks : {B : Type 0} → Refusal → Session B → Type 0
Lacks why (Open locks changes (Some call)) = may_lack why call ≡ true
Lacks why other = ⊥

-- the end of an open call: an answer; or the call is closed, which no commit and no abort is; or it meets a fault, and stays open
abbrev pub Ends : {B : Type 0} → Keys B → ℕ → Reply B → Machine B → Machine B → Type 0
Ends k s (reply.Refused refusal.Present) old new = IsStep k old (Answers s (reply.Refused refusal.Present)) new
Ends k s (reply.Refused refusal.Absent) old new = IsStep k old (Answers s (reply.Refused refusal.Absent)) new
Ends k s (reply.Refused refusal.PagesFull) old new =
    Lacks refusal.PagesFull (session_at s old.sessions) × IsStep k old (Closes s refusal.PagesFull) new
Ends k s (reply.Refused refusal.Memory) old new =
    Lacks refusal.Memory (session_at s old.sessions) × IsStep k old (Closes s refusal.Memory) new
Ends k s (reply.Refused why) old new = (is_unanswered (session_at s old.sessions) ≡ true) × MeetsFault why old new
Ends k s r old new = IsStep k old (Answers s r) new

-- a move refused: there is no such session, or it has no call open
abbrev pub MoveRefused : {B : Type 0} → ℕ → Refusal → Machine B → Type 0
MoveRefused s refusal.BadSession old = is_session s ≡ false
MoveRefused s refusal.NoCall old = (is_session s ≡ true) × (is_unanswered (session_at s old.sessions) ≡ false)
MoveRefused s other old = ⊥

-- by its outcome, an event that asks
abbrev pub AskHappens : {B : Type 0} → Keys B → ℕ → Call B → Machine B → Outcome B → Machine B → Type 0
AskHappens k s call old (Replied r) new = IsStep k old (Asks s call (asked.Now r)) new ⊎ AskRefused k s call r old new
AskHappens k s call old More new = IsStep k old (Asks s call asked.Open) new
AskHappens k s call old other new = ⊥

-- a move; if it did work and ended no call, it has sealed the commit, or changed nothing that the machine shows
abbrev pub MoveHappens : {B : Type 0} → Keys B → ℕ → Machine B → Outcome B → Machine B → Type 0
MoveHappens k s old (Replied r) new = Ends k s r old new
MoveHappens k s old More new = Stays old new ⊎ IsStep k old (Seals s (newest new)) new
MoveHappens k s old (Help need) new = Stays old new
MoveHappens k s old Nothing new = ⊥
MoveHappens k s old (Refused why) new = MoveRefused s why old × (new ≡ old)

-- an event that is no session's and shows nothing but faults; it is refused for a fault of the device alone
abbrev pub WorkHappens : {B : Type 0} → Machine B → Outcome B → Machine B → Type 0
WorkHappens old (Replied r) new = ⊥
WorkHappens old More new = Stays old new
WorkHappens old (Help need) new = Stays old new
WorkHappens old Nothing new = Stays old new
WorkHappens old (Refused why) new = MeetsFault why old new

-- one by which commits may become durable
abbrev pub SyncHappens : {B : Type 0} → Keys B → Machine B → Outcome B → Machine B → Type 0
SyncHappens k old More new = IsStep k old (Durable new.oldest) new
SyncHappens k old other new = WorkHappens old other new

-- From old, this event with this outcome leads to new.
abbrev pub Happens : {B : Type 0} → Keys B → Machine B → Event B → Outcome B → Machine B → Type 0
Happens k old (Ask s call) outcome new = AskHappens k s call old outcome new
Happens k old (Move s) outcome new = MoveHappens k s old outcome new
Happens k old LogStep outcome new = SyncHappens k old outcome new
Happens k old (WritePage page) outcome new = WorkHappens old outcome new
Happens k old CheckpointStep outcome new = SyncHappens k old outcome new
Happens k old (Sweep page) outcome new = WorkHappens old outcome new
