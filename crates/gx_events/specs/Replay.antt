-- A record of calls and replies, read back as steps of the set machine.
use Rattle.std.specs.Prelude.{ℕ, ◌≡◌, ◌⊎◌, ◌-◌, ◌≤◌, ◌==◌, ◌&&◌, nat_le, if◌then◌else◌, Bool, true, false, Some, drop, List, [], ◌∷◌}
use Rattle.gx_geom.specs.declared.refusal.Refusal.TheVariants as refusal
use Rattle.gx_machine.specs.declared.call.Call.{Call}
use Rattle.gx_machine.specs.declared.reply.Reply.{Reply}
use Rattle.gx_machine.specs.declared.reply.Reply.TheVariants as reply
use Rattle.gx_machine.specs.declared.reply.Asked.{Asked as Given}
use Rattle.gx_machine.specs.declared.reply.Asked.TheVariants as asked
use Rattle.gx_events.specs.Happens.{is_begin}
use Rattle.gx_machine.specs.declared.item.Item.{Item}
use Rattle.gx_machine.specs.declared.item.Item.TheVariants.{Asked, Sealed, Replied}
use Rattle.gx_machine.specs.Keys.{Keys}
use Rattle.gx_machine.specs.Sessions.{is_unanswered}
use Rattle.gx_machine.specs.Machine.{Machine, newest, session_at, ask, answer, durable, failed_machine}
use Rattle.gx_machine.specs.Runs.{Asks, Answers, Seals, Closes, RefusesAsk, RefusesCall, IsStep}

-- How far a replay is: at a machine; or a session has just asked there, and what comes next shows whether that ask was
-- refused for a cause outside of the machine.
pub data Point (B : Type 0) : Type 0 where
  At : (m : Machine B) → Point B
  Asking : (s : ℕ) (call : Call B) (m : Machine B) → Point B

-- the machine with commits durable up to a number, at least
abbrev pub settled : {B : Type 0} → ℕ → Machine B → Machine B
settled number m = if nat_le number m.oldest then m else durable number m

-- A reply to an open call: an answer, if a commit that is acknowledged is durable; or the call was closed; or it met a
-- fault. Once a fault was met, each further call is refused so.
abbrev pub FitsReply : {B : Type 0} → Keys B → ℕ → Reply B → Machine B → Machine B → Type 0
FitsReply k s (reply.Committed number) m n =
    (m.failed ≡ false) × (number ≤ newest m) × (answer k s (settled number m) ≡ Some (reply.Committed number, n))
FitsReply k s (reply.Refused refusal.PagesFull) m n = IsStep k m (Closes s refusal.PagesFull) n
FitsReply k s (reply.Refused refusal.Memory) m n = IsStep k m (Closes s refusal.Memory) n
FitsReply k s (reply.Refused refusal.Device) m n = IsStep k m (RefusesCall s refusal.Device) n
FitsReply k s (reply.Refused refusal.Failed) m n =
    ((m.failed ≡ true) ⊎ (is_unanswered (session_at s m.sessions) ≡ true)) × (n ≡ failed_machine m)
FitsReply k s r m n = IsStep k m (Answers s r) n

-- an item if no ask waits for what comes next
abbrev pub FitsAt : {B : Type 0} → Keys B → Machine B → Item B → Point B → Type 0
FitsAt k m (Asked s call) p = p ≡ Asking s call m
FitsAt {B} k m (Sealed s number) p = (n : Machine B) × IsStep k m (Seals s number) n × (p ≡ At n)
FitsAt {B} k m (Replied s r) p = (n : Machine B) × FitsReply k s r m n × (p ≡ At n)

-- an item after an ask that was given a reply at once, which must be this item; or whose call is open
abbrev pub FitsGiven : {B : Type 0} → Keys B → ℕ → Given B × Machine B → Item B → Point B → Type 0
FitsGiven k s (asked.Now r, n) item p = (item ≡ Replied s r) × (p ≡ At n)
FitsGiven k s (asked.Open, n) item p = FitsAt k n item p

-- a reply at once that the machine doesn't give: a fault was met, or a Begin found the numbers used up
abbrev pub refuses_ask : {B : Type 0} → Reply B → Call B → Bool
refuses_ask (reply.Refused refusal.Failed) call = true
refuses_ask (reply.Refused refusal.HistoryFull) call = is_begin call
refuses_ask other call = false

-- an ask refused so
abbrev pub FitsRefusal : {B : Type 0} → Keys B → ℕ → Call B → Machine B → Reply B → Point B → Type 0
FitsRefusal {B} k s call m (reply.Refused why) p = (n : Machine B) × IsStep k m (RefusesAsk s call why) n × (p ≡ At n)
FitsRefusal k s call m other p = ⊥

-- an item after an ask that wasn't refused so
abbrev pub FitsAsked : {B : Type 0} → Keys B → ℕ → Call B → Machine B → Item B → Point B → Type 0
FitsAsked k s call m item p = (m.failed ≡ false) × FitsGiven k s (ask k s call m) item p

-- a reply after an ask, by whether it refuses that ask
abbrev pub FitsEither : {B : Type 0} → Keys B → ℕ → Call B → Machine B → ℕ → Reply B → Bool → Point B → Type 0
FitsEither k s call m t r true p = FitsRefusal k s call m r p
FitsEither k s call m t r false p = FitsAsked k s call m (Replied t r) p

-- an item after an ask
abbrev pub FitsAfterAsk : {B : Type 0} → Keys B → ℕ → Call B → Machine B → Item B → Point B → Type 0
FitsAfterAsk k s call m (Replied t r) p = FitsEither k s call m t r ((t == s) && refuses_ask r call) p
FitsAfterAsk k s call m (Asked t next) p = FitsAsked k s call m (Asked t next) p
FitsAfterAsk k s call m (Sealed t number) p = FitsAsked k s call m (Sealed t number) p

-- an item takes the replay from one point to the next
abbrev pub Fits : {B : Type 0} → Keys B → Point B → Item B → Point B → Type 0
Fits k (At m) item p = FitsAt k m item p
Fits k (Asking s call m) item p = FitsAfterAsk k s call m item p

-- items, one after another
abbrev pub Leads : {B : Type 0} → Keys B → Point B → List (Item B) → Point B → Type 0
Leads k p [] q = q ≡ p
Leads {B} k p (item ∷ items) q = (next : Point B) × Fits k p item next × Leads k next items q

-- where a record may end: an ask that comes last has its call open
abbrev pub EndsAt : {B : Type 0} → Keys B → Point B → Machine B → Type 0
EndsAt k (At m) n = n ≡ m
EndsAt k (Asking s call m) n = IsStep k m (Asks s call asked.Open) n

-- The replay of a record from a machine is defined, and ends in this one.
abbrev pub Replays : {B : Type 0} → Keys B → Machine B → List (Item B) → Machine B → Type 0
Replays {B} k start items end = (p : Point B) × Leads k (At start) items p × EndsAt k p end

-- A replay's end stands for an engine's machine: it has the same sets from the engine's durable number on, under the same
-- numbers, and the same last set; and unless a fault was met in the replay, the same sessions. The engine may have met one
-- that no session saw.
pub record StandsFor {B : Type 0} (end m : Machine B) : Type 0 where
  pub rises : end.oldest ≤ m.oldest
  pub within : m.oldest ≤ newest end
  pub older : m.older ≡ drop (m.oldest - end.oldest) end.older
  pub latest : m.latest ≡ end.latest
  pub number : newest m ≡ newest end
  pub sessions : end.failed ≡ false → m.sessions ≡ end.sessions
  pub failed : end.failed ≡ true → m.failed ≡ true

-- A record replays as a machine: its replay is defined, and ends in one that stands for it.
abbrev pub ReplaysAs : {B : Type 0} → Keys B → Machine B → List (Item B) → Machine B → Type 0
ReplaysAs {B} k start items m = (end : Machine B) × Replays k start items end × StandsFor end m
