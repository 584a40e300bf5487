-- The plain index as a state, and what asking and answering it do, by the set machine's steps.
use Rattle.std.specs.Prelude.{ℕ, ◌≡◌, ◌⊎◌, ◌+◌, Bool, true, false, ◌&&◌, ◌||◌, nat_le, if◌then◌else◌, Option, Some, option_map, unwrap_or, None}
use Rattle.std.specs.Option.{option_and_then, option_or}
use Rattle.gx_geom.specs.declared.refusal.Refusal.TheVariants.{BadSession, NoCall, Memory, HistoryFull}
use Rattle.gx_machine.specs.declared.call.Call.{Call}
use Rattle.gx_machine.specs.declared.limits.TheConstants.{LAST_NUMBER}
use Rattle.gx_machine.specs.declared.reply.Reply.{Reply}
use Rattle.gx_machine.specs.declared.reply.Reply.TheVariants.{Ok, Inserted, Deleted, Found, Committed, Aborted, Refused}
use Rattle.gx_machine.specs.declared.reply.Asked.{Asked}
use Rattle.gx_machine.specs.declared.reply.Asked.TheVariants as asked
use Rattle.gx_machine.specs.Keys.{Keys}
use Rattle.gx_plain.specs.Slots.{takes_memory}
use Rattle.gx_machine.specs.Machine.{Machine, fresh_machine, newest, is_session, ask, answer, seal, durable, close}

-- the machine, and the number that the next transaction gets
pub record Index (B : Type 0) : Type 0 where
  pub machine : Machine B
  pub next : ℕ

-- nothing committed, no transaction, and the first transaction will be number 1
abbrev pub fresh_index : {B : Type 0} → Index B
fresh_index = record { machine = fresh_machine; next = 1 }

-- the call was answered Ok at once: a transaction has begun
abbrev pub has_begun : {B : Type 0} → Asked B → Bool
has_begun asked.Open = false
has_begun (asked.Now Ok) = true
has_begun (asked.Now Inserted) = false
has_begun (asked.Now Deleted) = false
has_begun (asked.Now (Found entries)) = false
has_begun (asked.Now (Committed number)) = false
has_begun (asked.Now Aborted) = false
has_begun (asked.Now (Refused why)) = false

-- the numbers of commits or of transactions are used up except for those of the transactions that are open
abbrev pub is_used_up : {B : Type 0} → Index B → Bool
is_used_up index = nat_le LAST_NUMBER (newest index.machine) || nat_le LAST_NUMBER index.next

-- Ask: as the machine does, but a Begin is refused if the numbers are used up, and takes the next number else.
abbrev pub ask_index : {B : Type 0} → Keys B → ℕ → Call B → Index B → Asked B × Index B
ask_index k s call index =
    let r = ask k s call index.machine in
    if has_begun r.0 && is_used_up index then (asked.Now (Refused HistoryFull), index)
    else (r.0, record { machine = r.1; next = index.next + (if has_begun r.0 then 1 else 0) })

-- a commit's set is sealed, and durable at once
abbrev pub sealed_machine : {B : Type 0} → Keys B → ℕ → Machine B → Option (Machine B)
sealed_machine k s m = option_map (λ sealed. durable (newest sealed) sealed) (seal k s m)

-- a commit: sealed, durable at once, and answered
abbrev pub commit : {B : Type 0} → Keys B → ℕ → Machine B → Option (Reply B × Machine B)
commit k s m = option_and_then (answer k s) (sealed_machine k s m)

-- Answer, if memory lasts: as the machine does, a commit by its three steps; else there is no such call or session.
abbrev pub answer_machine : {B : Type 0} → Keys B → ℕ → Machine B → Reply B × Machine B
answer_machine k s m = unwrap_or (option_or (answer k s m) (commit k s m)) (Refused (if is_session s then NoCall else BadSession), m)

-- the answer if memory lasts
pub record AnswersFully {B : Type 0} (k : Keys B) (s : ℕ) (old : Index B) (reply : Reply B) (new : Index B) : Type 0 where
  pub reply_is : reply ≡ (answer_machine k s old.machine).0
  pub machine_is : new.machine ≡ (answer_machine k s old.machine).1
  pub next_stays : new.next ≡ old.next

-- an insert that would add its entry, or a search, is closed because memory is refused, and nothing else changes
pub record LacksMemory {B : Type 0} (k : Keys B) (s : ℕ) (old : Index B) (reply : Reply B) (new : Index B) : Type 0 where
  pub wanted : takes_memory (answer_machine k s old.machine).0 ≡ true
  pub reply_is : reply ≡ Refused Memory
  pub closed : close s old.machine ≡ Some new.machine
  pub next_stays : new.next ≡ old.next

-- what answering may do
abbrev pub AnswersIndex : {B : Type 0} → Keys B → ℕ → Index B → Reply B → Index B → Type 0
AnswersIndex k s old reply new = AnswersFully k s old reply new ⊎ LacksMemory k s old reply new

-- Seal: a commit gets the next number, and is durable at once; or there is no commit to seal, and nothing changes.
abbrev pub SealsIndex : {B : Type 0} → Keys B → ℕ → Index B → Option ℕ → Index B → Type 0
SealsIndex k s old None new = (seal k s old.machine ≡ None) × (new ≡ old)
SealsIndex k s old (Some number) new =
    (sealed_machine k s old.machine ≡ Some new.machine) × (number ≡ newest old.machine + 1) × (new.next ≡ old.next)

-- Close: an open call goes without an answer; or there is none, and nothing changes.
abbrev pub DropsIndex : {B : Type 0} → ℕ → Index B → Bool → Index B → Type 0
DropsIndex s old true new = (close s old.machine ≡ Some new.machine) × (new.next ≡ old.next)
DropsIndex s old false new = (close s old.machine ≡ None) × (new ≡ old)

-- asking a call, and answering it if it is then open
abbrev pub AnswersAsked : {B : Type 0} → Keys B → ℕ → Asked B → Index B → Reply B → Index B → Type 0
AnswersAsked k s (asked.Now given) index reply new = (reply ≡ given) × (new ≡ index)
AnswersAsked k s asked.Open index reply new = AnswersIndex k s index reply new

abbrev pub CallsIndex : {B : Type 0} → Keys B → Index B → ℕ → Call B → Reply B → Index B → Type 0
CallsIndex k old s call reply new = AnswersAsked k s (ask_index k s call old).0 (ask_index k s call old).1 reply new
