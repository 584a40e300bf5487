-- How a command that is refused ends: its status, what it has written, and what it reported to the user.
use Rattle.std.specs.Prelude.{ℕ, ◌≡◌, ◌<◌, ◌≤◌, true, Option, Some, Result, Ok, Err}
use Rattle.gx_disk.specs.declared.layout.TheConstants.{LEAST_SECTORS}
use Rattle.gx_geom.specs.declared.refusal.Refusal.{Refusal}
use Rattle.gx_geom.specs.declared.refusal.Refusal.TheVariants.{Damaged, Device as NoDevice}
use Rattle.gx_machine.specs.Keys.{Members}
use Rattle.gx_class.specs.Traits.{Traits, own}
use Rattle.gx_disk.specs.Device.{Device}
use Rattle.gx_node.specs.Reading.{format_of}
use Rattle.gx_opening.specs.declared.damage.Damage.{Damage}
use Rattle.gx_opening.specs.Formatted.{OnlyRests}
use Rattle.gx_opening.specs.Shown.{Examines, FindsDamage, HoldsDamaged}
use Rattle.gx_commands.specs.Streams.{Stream, Outputs, Prints, TellsPerson}
use Rattle.gx_commands.specs.Lines.{refusal_line, sentence_of, damage_sentence}

-- The line of a refusal outside of a script was written, and what it means is reported to the user.
pub record Refuses (why : Refusal) (old new : Outputs) (status : ℕ) : Type 0 where
  pub status_is : status ≡ 1
  pub told : Prints (refusal_line why) old.replies new.replies
  pub heard : TellsPerson (sentence_of why) old.person new.person

-- it is reported to the user where damage was found; or that there is some, if it wasn't found
abbrev pub TellsFound : Result (Option Damage) Refusal → Stream → Stream → Type 0
TellsFound (Ok (Some damage)) old new = TellsPerson (damage_sentence damage) old new
TellsFound found old new = TellsPerson (sentence_of Damaged) old new

module _ {B D : Type 0} (shape : Members B) (traits : Traits B) (state : D → Device) where
  -- A device whose opening was refused as damaged was settled and read, and what was found there is reported to the
  -- user. Of an honest device that is true; and if the device is damaged something was found, unless a call failed or
  -- memory was refused.
  pub record TellsDamage (number : ℕ) (disk after : D) (old new : Outputs) (status : ℕ) : Type 0 where
    pub found : Result (Option Damage) Refusal
    pub is_true : (state disk).honest ≡ true → LEAST_SECTORS ≤ (state disk).sectors
        → Examines shape traits.is_proper traits.said (format_of (own traits)) D number (after ≡ disk) (state disk) found
    pub finds : (state disk).honest ≡ true → HoldsDamaged shape traits.is_proper traits.said (format_of (own traits)) number (state disk)
        → FindsDamage shape traits.is_proper traits.said (format_of (own traits)) D number (after ≡ disk) (state disk) found
    pub failed : found ≡ Err NoDevice → (state disk).faults < (state after).faults
    pub status_is : status ≡ 1
    pub told : Prints (refusal_line Damaged) old.replies new.replies
    pub heard : TellsFound found old.person new.person
    pub rests : (state disk).honest ≡ true → OnlyRests (state disk) (state after)

  -- how a refused opening is reported, by its cause; if that is damage, the device is as the opening left it
  abbrev pub TellsOpening : ℕ → Refusal → D → D → Outputs → Outputs → ℕ → Type 0
  TellsOpening number Damaged disk after old new status = TellsDamage number disk after old new status
  TellsOpening number why disk after old new status = Refuses why old new status × (after ≡ disk)
