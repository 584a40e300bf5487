-- The state that the lock guards, and what one hold of it does.
use Rattle.std.specs.Prelude.{ℕ, ◌≡◌, ◌⊎◌, ◌+◌, ◌≤◌, Bool, true, false, length, List, [], ◌∷◌, ◌++◌}
use Rattle.gx_geom.specs.declared.refusal.Refusal.TheVariants as refusal
use Rattle.gx_machine.specs.declared.limits.TheConstants.{SESSIONS}
use Rattle.gx_machine.specs.declared.reply.Reply.{Reply}
use Rattle.gx_machine.specs.declared.reply.Reply.TheVariants as reply
use Rattle.gx_machine.specs.declared.item.Item.{Item}
use Rattle.gx_machine.specs.declared.item.Item.TheVariants as item
use Rattle.gx_machine.specs.Keys.{Keys}
use Rattle.gx_machine.specs.Machine.{Machine, newest}
use Rattle.gx_events.specs.declared.engine.Events.{Ghosts}
use Rattle.gx_events.specs.declared.event.Event.{Event}
use Rattle.gx_events.specs.declared.event.Event.TheVariants.{Ask, Move}
use Rattle.gx_events.specs.declared.outcome.Outcome.{Outcome}
use Rattle.gx_events.specs.declared.outcome.Outcome.TheVariants.{Replied, Refused}
use Rattle.gx_events.specs.Happens.{Happens}
use Rattle.gx_events.specs.Items.{items_of, items_replied, finished}
use Rattle.gx_events.specs.Replay.{ReplaysAs}
use Rattle.gx_shared.specs.declared.record.TheConstants.{RECORD}
use Rattle.gx_shared.specs.Calls.{open_calls, owed, HasRoom}

-- A run starts at this machine, and at no other.
pub record StartsAt {B : Type 0} (starts : Machine B → Type 0) (m : Machine B) : Type 0 where
  pub starts_here : starts m
  pub only : (other : Machine B) → starts other → other ≡ m

-- An engine may be shared: it is seen as the machine that the run starts at, which has eight sessions, and no call of them is open.
pub record MayBeShared {B E : Type 0} (sees : E → Machine B → Type 0) (starts : Machine B → Type 0) (engine : E) : Type 0 where
  pub start : Machine B
  pub at : StartsAt starts start
  pub seen : sees engine start
  pub eight : length start.sessions ≡ SESSIONS
  pub none_open : open_calls start.sessions ≡ 0

-- A book's invariant from a start on: its engine is seen as a machine, which replaying its calls from the start gives.
-- The number of open calls is right; the record has room for the calls and what the open ones may still add; and each
-- finished call is counted once.
pub record IsBook {B E : Type 0} (k : Keys B) (sees : E → Machine B → Type 0) (start : Machine B) (engine : E) (calls : List (Item B))
    (opened capacity counted : ℕ) : Type 0 where
  pub machine : Machine B
  pub seen : sees engine machine
  pub replays : ReplaysAs k start calls machine
  pub eight : length machine.sessions ≡ SESSIONS
  pub opened_is : opened ≡ open_calls machine.sessions
  pub fits : length calls ≤ RECORD
  pub owes : machine.failed ≡ false → length calls + owed machine.sessions ≤ RECORD
  pub has_capacity : RECORD ≤ capacity
  pub counted_is : counted ≡ finished calls

-- The invariant from the machine that the run starts at.
pub record IsBookOf {B E : Type 0} (k : Keys B) (sees : E → Machine B → Type 0) (starts : Machine B → Type 0) (engine : E) (calls : List (Item B))
    (opened capacity counted : ℕ) : Type 0 where
  pub start : Machine B
  pub at : StartsAt starts start
  pub book : IsBook k sees start engine calls opened capacity counted

-- A book's invariant for any engine: its calls fit, and each finished one is counted once. If the engine's assumptions
-- hold, replaying the calls gives the machine that it is seen as.
pub record IsKept {B E : Type 0} (k : Keys B) (granted : Type 0) (sees : E → Machine B → Type 0) (starts : Machine B → Type 0) (engine : E) (calls : List (Item B))
    (opened capacity counted : ℕ) : Type 0 where
  pub fits : length calls ≤ RECORD
  pub has_capacity : RECORD ≤ capacity
  pub counted_is : counted ≡ finished calls
  pub facts : granted → IsBookOf k sees starts engine calls opened capacity counted

-- What callers know of a book: its engine is seen as a machine, which replaying its calls from the machine that the run
-- starts at gives.
pub record Stands {B E : Type 0} (k : Keys B) (sees : E → Machine B → Type 0) (starts : Machine B → Type 0) (engine : E) (calls : List (Item B)) : Type 0 where
  pub start : Machine B
  pub at : StartsAt starts start
  pub machine : Machine B
  pub seen : sees engine machine
  pub replays : ReplaysAs k start calls machine

-- an event of this session
abbrev pub IsOf : {B : Type 0} → ℕ → Event B → Type 0
IsOf s (Ask t call) = t ≡ s
IsOf s (Move t) = t ≡ s
IsOf s other = ⊥

-- the record has room for an ask
abbrev pub RoomFor : {B : Type 0} → Event B → List (Item B) → Machine B → Type 0
RoomFor (Ask s call) calls m = HasRoom calls m
RoomFor other calls m = Unit {0}

-- An event is applied, and what it adds is recorded.
pub record IsApplied {B : Type 0} (k : Keys B) (calls : List (Item B)) (m : Machine B) (event : Event B) (outcome : Outcome B) (calls' : List (Item B)) (n : Machine B) : Type 0 where
  pub room : RoomFor event calls m
  pub happens : Happens k m event outcome n
  pub recorded : calls' ≡ calls ++ items_of (newest m) (newest n) event outcome

-- the record has no room for an ask: it is refused, and neither applied nor recorded
abbrev pub LacksRoom : {B : Type 0} → List (Item B) → Machine B → Event B → Outcome B → Type 0
LacksRoom calls m (Ask s call) (Refused refusal.HistoryFull) = HasRoom calls m → ⊥
LacksRoom calls m other outcome = ⊥

-- the record is full of refusals of a call, by moves on an engine that a fault has ended
abbrev pub FindsItFull : {B : Type 0} → List (Item B) → Machine B → Event B → Outcome B → Type 0
FindsItFull calls m (Move s) (Refused refusal.Failed) = (m.failed ≡ true) × (RECORD ≤ length calls)
FindsItFull calls m other outcome = ⊥

-- What one hold does for a session: it applies the event; or the record has no room for an ask; or the record is full
-- of refusals.
pub data Applies {B : Type 0} (k : Keys B) (calls : List (Item B)) (m : Machine B) (event : Event B) (outcome : Outcome B) (calls' : List (Item B)) (n : Machine B) : Type 0 where
  applied : IsApplied k calls m event outcome calls' n → Applies k calls m event outcome calls' n
  lacks_room : LacksRoom calls m event outcome → n ≡ m → calls' ≡ calls → Applies k calls m event outcome calls' n
  finds_it_full : FindsItFull calls m event outcome → n ≡ m → calls' ≡ calls → Applies k calls m event outcome calls' n

-- One hold: the engine was seen as one machine, and is now seen as another.
pub record IsHold {B E : Type 0} (k : Keys B) (sees : E → Machine B → Type 0) (old : E × List (Item B)) (event : Event B) (outcome : Outcome B) (new : E × List (Item B)) : Type 0 where
  pub before : Machine B
  pub after : Machine B
  pub was_seen : sees old.0 before
  pub is_seen : sees new.0 after
  pub applies : Applies k old.1 before event outcome new.1 after

-- the reply that is returned for a reply: the same, or `Memory` in place of a search's result
abbrev pub IsHanded : {B : Type 0} → Reply B → Reply B → Type 0
IsHanded (reply.Found entries) handed = (handed ≡ reply.Found entries) ⊎ (handed ≡ reply.Refused refusal.Memory)
IsHanded given handed = handed ≡ given

-- the outcome that is returned for an outcome: its reply so, everything else unchanged
abbrev pub IsHandedOn : {B : Type 0} → Outcome B → Outcome B → Type 0
IsHandedOn (Replied given) (Replied handed) = IsHanded given handed
IsHandedOn (Replied given) other = ⊥
IsHandedOn given outcome = outcome ≡ given

-- What a hold that returns an outcome adds to the record: the call that was asked, the reply that is returned, or the
-- number of a commit. An event that belongs to no session adds nothing.
abbrev pub IsRecorded : {B : Type 0} → Event B → Outcome B → List (Item B) → List (Item B) → Type 0
IsRecorded (Ask s call) outcome calls calls' = calls' ≡ calls ++ item.Asked s call ∷ items_replied s outcome
IsRecorded (Move s) (Replied r) calls calls' = calls' ≡ calls ++ item.Replied s r ∷ []
IsRecorded (Move s) other calls calls' = (calls' ≡ calls) ⊎ ((number : ℕ) × (calls' ≡ calls ++ item.Sealed s number ∷ []))
IsRecorded other outcome calls calls' = calls' ≡ calls

-- an ask that is turned away
abbrev pub IsTurnedAway : {B : Type 0} → Event B → Outcome B → Type 0
IsTurnedAway (Ask s call) (Refused refusal.HistoryFull) = Unit {0}
IsTurnedAway other outcome = ⊥

-- a move whose reply finds the record full
abbrev pub IsUnrecorded : {B : Type 0} → Event B → Outcome B → List (Item B) → Type 0
IsUnrecorded (Move s) (Refused refusal.Failed) calls = RECORD ≤ length calls
IsUnrecorded other outcome calls = ⊥

-- What one hold does with any engine: the engine makes the event, and its outcome is returned and recorded; or an ask
-- is turned away, and nothing changes; or the engine makes a move whose reply finds the record full.
pub data IsMade {B E : Type 0} (makes : E → Event B → Outcome B → E → Type 0) (old : E × List (Item B)) (event : Event B) (outcome : Outcome B) (new : E × List (Item B)) : Type 0 where
  is_made : (given : Outcome B) → makes old.0 event given new.0 → IsHandedOn given outcome → IsRecorded event outcome old.1 new.1 → IsMade makes old event outcome new
  is_turned_away : IsTurnedAway event outcome → new ≡ old → IsMade makes old event outcome new
  is_unrecorded : (given : Reply B) → makes old.0 event (Replied given) new.0 → IsUnrecorded event outcome old.1 → new.1 ≡ old.1 → IsMade makes old event outcome new

-- A hold for an event that belongs to no session: the engine makes it, and nothing is recorded.
pub record IsWorked {B E : Type 0} (k : Keys B) (engine : Ghosts E B) (old : E × List (Item B)) (event : Event B) (outcome : Outcome B) (new : E × List (Item B)) : Type 0 where
  pub made : engine.makes old.0 event outcome new.0
  pub calls : new.1 ≡ old.1
  pub hold : engine.granted → IsHold k engine.sees old event outcome new

-- a reply that leaves its call open: a fault
abbrev pub is_fault : {B : Type 0} → Reply B → Bool
is_fault (reply.Refused refusal.Device) = true
is_fault (reply.Refused refusal.Failed) = true
is_fault other = false
