-- How a plain index follows the replay of a record by one item.
use Rattle.std.specs.Prelude.{ℕ, ◌≡◌, ◌+◌, ◌≤◌, Bool, true, false, Option, None, Some}
use Rattle.gx_geom.specs.declared.refusal.Refusal.TheVariants as refusal
use Rattle.gx_machine.specs.declared.call.Call.{Call}
use Rattle.gx_machine.specs.declared.reply.Reply.{Reply}
use Rattle.gx_machine.specs.declared.reply.Reply.TheVariants as reply
use Rattle.gx_machine.specs.declared.item.Item.{Item}
use Rattle.gx_machine.specs.declared.item.Item.TheVariants.{Asked, Sealed, Replied}
use Rattle.gx_machine.specs.Machine.{Machine, newest}
use Rattle.gx_events.specs.Replay.{Point, At, Asking, StandsFor}
use Rattle.gx_plain.specs.Index.{Index, is_used_up}
use Rattle.gx_storm.specs.declared.answers.Kind.{Kind}
use Rattle.gx_storm.specs.declared.answers.Kind.TheVariants.{Answer, Closed, Fault, Never}

-- what a reply is to the replay
abbrev pub kind_of : {B : Type 0} → Reply B → Kind
kind_of (reply.Refused refusal.PagesFull) = Closed
kind_of (reply.Refused refusal.Memory) = Closed
kind_of (reply.Refused refusal.Device) = Fault
kind_of (reply.Refused refusal.Failed) = Fault
kind_of (reply.Refused refusal.Damaged) = Fault
kind_of (reply.Refused refusal.BadSession) = Never
kind_of (reply.Refused refusal.NoCall) = Never
kind_of other = Answer

-- the reply is no fault, and not that numbers have run out
abbrev pub is_faultless_reply : {B : Type 0} → Reply B → Bool
is_faultless_reply (reply.Refused refusal.Device) = false
is_faultless_reply (reply.Refused refusal.Failed) = false
is_faultless_reply (reply.Refused refusal.Damaged) = false
is_faultless_reply (reply.Refused refusal.HistoryFull) = false
is_faultless_reply other = true

abbrev pub is_faultless : {B : Type 0} → Item B → Bool
is_faultless (Asked s call) = true
is_faultless (Sealed s number) = true
is_faultless (Replied s r) = is_faultless_reply r

-- the ask of an item, which waits for the item after it
abbrev pub asked_of : {B : Type 0} → Item B → Option (ℕ × Call B)
asked_of (Asked s call) = Some (s, call)
asked_of (Sealed s number) = None
asked_of (Replied s r) = None

-- the ask that waits at a place of a replay
abbrev pub waits : {B : Type 0} → Point B → Option (ℕ × Call B)
waits (At m) = None
waits (Asking s call m) = Some (s, call)

-- one if an ask waits
abbrev pub waiting : {B : Type 0} → Option (ℕ × Call B) → ℕ
waiting None = 0
waiting (Some ask) = 1

-- if an ask waits, the index has numbers left for it
abbrev pub HasNumber : {B : Type 0} → Option (ℕ × Call B) → Index B → Type 0
HasNumber None index = Unit {0}
HasNumber (Some ask) index = is_used_up index ≡ false

-- at a place of a replay, its machine stands for the plain index's
abbrev pub StandsAt : {B : Type 0} → Point B → Index B → Type 0
StandsAt (At m) index = StandsFor m index.machine
StandsAt (Asking s call m) index = StandsFor m index.machine

-- An item fits somewhere, and the index has followed. It has used at most one number, and one more for an ask that had
-- waited; an ask that waits now counts as a number.
pub record GoesAlong {B : Type 0} (Fit : Point B → Type 0) (waited : ℕ) (item : Item B) (old new : Index B) : Type 0 where
  pub point : Point B
  pub fits : Fit point
  pub waits_is : waits point ≡ asked_of item
  pub stands : StandsAt point new
  pub commits : newest new.machine + waiting (asked_of item) ≤ newest old.machine + waited + 1
  pub next : new.next + waiting (asked_of item) ≤ old.next + waited + 1

-- an item fits, and the index follows; or it fits nowhere
abbrev pub Follows : {B : Type 0} → (Point B → Type 0) → ℕ → Item B → Index B → Bool → Index B → Type 0
Follows Fit waited item old true new = GoesAlong Fit waited item old new
Follows {B} Fit waited item old false new = (p : Point B) → Fit p → ⊥

-- a record may end at a machine, which stands for the index's; or it may not end
abbrev pub EndsWith : {B : Type 0} → (Machine B → Type 0) → Bool → Index B → Type 0
EndsWith {B} End true new = (m : Machine B) × End m × StandsFor m new.machine
EndsWith {B} End false new = (m : Machine B) → End m → ⊥
