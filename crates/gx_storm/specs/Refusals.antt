-- The refusals that a storm reports: faults, and a full record. Of several it reports the one with the least number.
use Rattle.std.specs.Prelude.{nat_le, if◌then◌else◌, List, Option, None, Some}
use Rattle.std.specs.List.{fold}
use Rattle.gx_geom.specs.declared.refusal.Refusal.{Refusal}
use Rattle.gx_geom.specs.declared.refusal.Refusal.TheVariants as refusal
use Rattle.gx_geom.specs.Refusals.{refusal_number}
use Rattle.gx_machine.specs.declared.reply.Reply.{Reply}
use Rattle.gx_machine.specs.declared.reply.Reply.TheVariants as reply
use Rattle.gx_machine.specs.declared.item.Item.{Item}
use Rattle.gx_machine.specs.declared.item.Item.TheVariants.{Asked, Sealed, Replied}
use Rattle.gx_storm.specs.declared.handed.Handed.{Handed}

-- the refusal that a storm reports, if a reply has one
abbrev pub told_reply : {B : Type 0} → Reply B → Option Refusal
told_reply (reply.Refused refusal.Device) = Some refusal.Device
told_reply (reply.Refused refusal.Failed) = Some refusal.Failed
told_reply (reply.Refused refusal.Damaged) = Some refusal.Damaged
told_reply (reply.Refused refusal.HistoryFull) = Some refusal.HistoryFull
told_reply other = None

-- that of an item
abbrev pub told_of : {B : Type 0} → Item B → Option Refusal
told_of (Asked s call) = None
told_of (Sealed s number) = None
told_of (Replied s r) = told_reply r

-- the lesser of two by number
abbrev pub lesser : Option Refusal → Option Refusal → Option Refusal
lesser None other = other
lesser (Some a) None = Some a
lesser (Some a) (Some b) = if nat_le (refusal_number a) (refusal_number b) then Some a else Some b

-- the least that a record has
abbrev pub least_told : {B : Type 0} → List (Item B) → Option Refusal
least_told items = fold (λ least item. lesser least (told_of item)) None items

-- the least with which a call of any session was given up
abbrev pub least_given_up : {B : Type 0} → List (Handed B) → Option Refusal
least_given_up all = fold (λ least handed. lesser least handed.given_up) None all
