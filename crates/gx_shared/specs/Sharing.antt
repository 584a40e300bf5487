-- How sessions are made and given back, and what a call and a flusher do.
use Rattle.std.specs.Prelude.{ℕ, zero, suc, ◌≡◌, ◌⊎◌, ◌+◌, ◌%◌, Bool, true, false, if◌then◌else◌, Option, None, Some, sum_by, List, [], ◌∷◌, ◌++◌}
use Rattle.gx_geom.specs.declared.refusal.Refusal.{Refusal}
use Rattle.gx_geom.specs.declared.refusal.Refusal.TheVariants as refusal
use Rattle.gx_machine.specs.declared.call.Call.{Call}
use Rattle.gx_machine.specs.declared.reply.Reply.{Reply}
use Rattle.gx_machine.specs.declared.item.Item.{Item}
use Rattle.gx_machine.specs.Keys.{Keys}
use Rattle.gx_events.specs.declared.event.Event.{Event}
use Rattle.gx_events.specs.declared.event.Event.TheVariants.{Ask, Move, LogStep, WritePage, CheckpointStep, Sweep}
use Rattle.gx_events.specs.declared.outcome.Outcome.{Outcome}
use Rattle.gx_events.specs.declared.outcome.Outcome.TheVariants.{Replied, Refused}
use Rattle.gx_events.specs.declared.engine.Events.{Ghosts}
use Rattle.gx_events.specs.declared.driver.Next.{Next}
use Rattle.gx_events.specs.declared.driver.Next.TheVariants.{Run, Done}
use Rattle.gx_events.specs.Driven.{next_of}
use Rattle.gx_events.specs.Work.{is_work, replied}
use Rattle.gx_shared.specs.Books.{IsOf, IsHold, IsMade, IsWorked}
use Rattle.gx_shared.specs.declared.hold.Hold.{Hold}
use Rattle.gx_shared.specs.declared.flush.Part.{Part}
use Rattle.gx_shared.specs.declared.flush.Part.TheVariants as part

-- a session: its number and how many of its calls are finished; and the holds of its calls, the last first
abbrev pub Known : Type 0 → Type 0
Known B = (ℕ × ℕ) × List (Hold B)

-- sessions from number 1 on, so many, with no call finished
abbrev pub fresh_sessions : {B : Type 0} → ℕ → List (Known B)
fresh_sessions zero = []
fresh_sessions (suc n) = fresh_sessions n ++ ((suc n, 0), []) ∷ []

-- the calls that sessions have finished, added up
abbrev pub shares_of : {B : Type 0} → List (Known B) → ℕ
shares_of sessions = sum_by (λ s. s.0.1) sessions

-- a session after an outcome: its share rises by one if that is a reply
abbrev pub after_reply : {B : Type 0} → Known B → Outcome B → Known B
after_reply old outcome = ((old.0.0, old.0.1 + replied outcome), old.1)

abbrev pub hold_of : {B : Type 0} → Event B → Outcome B → Hold B
hold_of event outcome = record { event = event; outcome = outcome }

-- and after a hold of a call, which it notes
abbrev pub after_hold : {B : Type 0} → Known B → Event B → Outcome B → Known B
after_hold old event outcome = ((old.0.0, old.0.1 + replied outcome), hold_of event outcome ∷ old.1)

-- a refusal that ends a call before it is finished: a fault, or a record that is full
abbrev pub stops : Refusal → Bool
stops refusal.Device = true
stops refusal.Failed = true
stops refusal.Damaged = true
stops refusal.HistoryFull = true
stops other = false

-- an event in a call of this session: one of this session, or one that belongs to no session
abbrev pub InCall : {B : Type 0} → ℕ → Event B → Type 0
InCall s event = IsOf s event ⊎ (is_work event ≡ true)

-- if an outcome refuses, the call is given up
abbrev pub RefusesToGiveUp : {B : Type 0} → Outcome B → Type 0
RefusesToGiveUp (Refused why) = stops why ≡ true
RefusesToGiveUp other = Unit {0}

-- an outcome as it ends a call: a refusal that gives no call up becomes damage
abbrev pub given_up : {B : Type 0} → Outcome B → Outcome B
given_up (Refused why) = if stops why then Refused why else Refused refusal.Damaged
given_up other = other

-- A hold of a call: one event was made, as `apply` makes it if it belongs to no session, as `apply_for` does if it is
-- the session's; the outcome is returned as it ends a call.
pub record IsRun {B E : Type 0} (k : Keys B) (engine : Ghosts E B) (old : E × List (Item B)) (event : Event B) (outcome : Outcome B) (new : E × List (Item B)) : Type 0 where
  pub given : Outcome B
  pub outcome_is : outcome ≡ given_up given
  pub worked : is_work event ≡ true → IsWorked k engine old event given new
  pub made : is_work event ≡ false → IsMade engine.makes old event given new
  pub hold : is_work event ≡ false → engine.granted → IsHold k engine.sees old event given new

-- the event that comes after an outcome in a call of the session: that which the outcome names, or a move in its place
abbrev pub Comes : {B : Type 0} → ℕ → Outcome B → Event B → Type 0
Comes {B} s outcome event = (named : Event B) × (next_of s outcome ≡ Run named) × ((event ≡ named) ⊎ (event ≡ Move s))

-- the event that comes after these holds in a call of the session, the last of them first: at first the call is asked
abbrev pub ComesBehind : {B : Type 0} → ℕ → Call B → List (Hold B) → Event B → Type 0
ComesBehind s call [] event = event ≡ Ask s call
ComesBehind s call (last ∷ earlier) event = Comes s last.outcome event × ComesBehind s call earlier last.event

-- A session's call was asked, and run to its end in these holds. The last of them ends it: with the reply that was
-- recorded, and the session's share rises by one; or given up with its refusal, and the session's share stays.
pub record IsCalled {B : Type 0} (old : Known B) (call : Call B) (r : Reply B) (new : Known B) : Type 0 where
  pub earlier : List (Hold B)
  pub last : Hold B
  pub comes : ComesBehind old.0.0 call earlier last.event
  pub ends : next_of old.0.0 last.outcome ≡ Done r
  pub refuses : RefusesToGiveUp last.outcome
  pub new_is : new ≡ ((old.0.0, old.0.1 + replied last.outcome), last ∷ (earlier ++ old.1))

-- what follows the hold of an event in a call: what its outcome names, and the session notes it
pub record Follows {B : Type 0} (old : Known B) (event : Event B) (next : Next B) (new : Known B) : Type 0 where
  pub outcome : Outcome B
  pub refuses : RefusesToGiveUp outcome
  pub next_is : next ≡ next_of old.0.0 outcome
  pub new_is : new ≡ after_hold old event outcome

-- the event of a flusher's part, in the round of this number, if so many pages are used and this one may be written
abbrev pub flusher_event : {B : Type 0} → Part → ℕ → ℕ → Option ℕ → Option (Event B)
flusher_event part.Checkpoint round used dirty = Some CheckpointStep
flusher_event part.Log round used dirty = Some LogStep
flusher_event part.Page round used None = None
flusher_event part.Page round used (Some page) = Some (WritePage page)
flusher_event part.Leaf round used dirty = Some (Sweep (1 + round % used))

-- A flusher's part was applied: its event, by how many pages the engine takes and which may be written, is one hold; or it has none, as no page may
-- be written, and nothing changes.
abbrev pub IsFlushed : {B E : Type 0} → Keys B → Ghosts E B → Part → ℕ → E × List (Item B) → Option (Outcome B) → E × List (Item B) → Type 0
IsFlushed k engine which round old None new = (which ≡ part.Page) × engine.dirties old.0 None × (new ≡ old)
IsFlushed {B} k engine which round old (Some outcome) new =
    (dirty : Option ℕ) × (event : Event B) × engine.dirties old.0 dirty × (flusher_event which round (engine.uses old.0) dirty ≡ Some event)
    × IsWorked k engine old event outcome new
