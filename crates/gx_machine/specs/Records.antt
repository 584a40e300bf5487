-- The record of a run: what was asked, sealed and replied.
use Rattle.std.specs.Prelude.{ℕ, ◌≡◌, ◌⊎◌, not, List, [], ◌∷◌, ◌++◌, filter}
use Rattle.gx_machine.specs.declared.call.Call.{Call}
use Rattle.gx_machine.specs.declared.reply.Reply.TheVariants.{Refused}
use Rattle.gx_machine.specs.declared.reply.Asked.{Asked as Given}
use Rattle.gx_machine.specs.declared.reply.Asked.TheVariants.{Now, Open}
use Rattle.gx_machine.specs.declared.item.Item.{Item}
use Rattle.gx_machine.specs.declared.item.Item.TheVariants.{Asked, Sealed, Replied}
use Rattle.gx_machine.specs.Keys.{Keys}
use Rattle.gx_machine.specs.Machine.{Machine, failed_machine}
use Rattle.gx_machine.specs.Runs.{Step, Asks, Answers, Seals, Durable, Closes, RefusesAsk, RefusesCall, Fails, Crashes, Nothing, is_unseen_fault, IsRun}

-- the items of an ask, with the reply that came at once if one did
abbrev pub items_of_ask : {B : Type 0} → ℕ → Call B → Given B → List (Item B)
items_of_ask s call (Now r) = Asked s call ∷ Replied s r ∷ []
items_of_ask s call Open = Asked s call ∷ []

-- the items of a step
abbrev pub items_of : {B : Type 0} → Step B → List (Item B)
items_of (Asks s call given) = items_of_ask s call given
items_of (Answers s r) = Replied s r ∷ []
items_of (Seals s number) = Sealed s number ∷ []
items_of (Durable number) = []
items_of (Closes s why) = Replied s (Refused why) ∷ []
items_of (RefusesAsk s call why) = Asked s call ∷ Replied s (Refused why) ∷ []
items_of (RefusesCall s why) = Replied s (Refused why) ∷ []
items_of Fails = []
items_of (Crashes number) = []
items_of Nothing = []

-- the record of a run
abbrev pub record_of : {B : Type 0} → List (Step B) → List (Item B)
record_of [] = []
record_of (step ∷ steps) = items_of step ++ record_of steps

-- the same steps without the faults that no session sees
abbrev pub without_unseen_faults : {B : Type 0} → List (Step B) → List (Step B)
without_unseen_faults steps = filter (λ step. not (is_unseen_fault step)) steps

-- the same machine; or the one has failed, and is else the other
abbrev pub SameOrFailed : {B : Type 0} → Machine B → Machine B → Type 0
SameOrFailed m n = (m ≡ n) ⊎ (n ≡ failed_machine m)

-- A run without its unseen faults is a run with the same record.
pub record RunsUnseen {B : Type 0} (k : Keys B) (old : Machine B) (steps : List (Step B)) (new : Machine B) : Type 0 where
  pub end : Machine B
  pub runs : IsRun k old (without_unseen_faults steps) end
  pub same_record : record_of (without_unseen_faults steps) ≡ record_of steps
  pub same : SameOrFailed end new

-- the calls and replies of a record, without what was sealed
abbrev pub calls_and_replies : {B : Type 0} → List (Item B) → List (Item B)
calls_and_replies [] = []
calls_and_replies (Asked s call ∷ items) = Asked s call ∷ calls_and_replies items
calls_and_replies (Sealed s number ∷ items) = calls_and_replies items
calls_and_replies (Replied s reply ∷ items) = Replied s reply ∷ calls_and_replies items
