-- A life that begins on a device which an older index was migrated to.
use Rattle.std.specs.Prelude.{ℕ, ◌≡◌, List, Ok}
use Rattle.gx_class.specs.Traits.{Traits, own}
use Rattle.gx_disk.specs.Device.{Device}
use Rattle.gx_durable.specs.Area.{area_of}
use Rattle.gx_events.specs.Engines.{opened_machine}
use Rattle.gx_found_log.specs.Found.{HasUndamaged}
use Rattle.gx_glog.specs.declared.parameters.Parameters.{Parameters}
use Rattle.gx_machine.specs.declared.entry.Entry.{Entry}
use Rattle.gx_machine.specs.Keys.{Members, keys_of}
use Rattle.gx_machine.specs.Sets.{IsSetOf}
use Rattle.gx_node.specs.Reading.{format_of}
use Rattle.gx_older.specs.Renumbered.{renumbered}
use Rattle.gx_older.specs.Told.{IsOlder}
use Rattle.gx_opening.specs.Standing.{known_for, reading}
use Rattle.gx_recovery.specs.Analysis.{number_of}
use Rattle.gx_recovery.specs.Damage.{records_of}
use Rattle.gx_recovery.specs.Standing.{stands_for}
use Rattle.gx_lives.specs.Bearing.{Bears}
use Rattle.gx_lives.specs.Lives.{Lies, Stage, Turn}
use Rattle.gx_lives.specs.OneRun.{IsRunFrom}

module _ {B : Type 0} (shape : Members B) (traits : Traits B) where
  -- A device of the first version holds a set under a number. It is formatted for an index of the class; its log, read in this version's places, is
  -- undamaged, and its last commit has the number. An entry is in the set if the log says so over the device's pages, where what is written by
  -- transactions that neither committed nor ended doesn't count.
  pub record HoldsOlder (p : Parameters) (d : Device) (number : ℕ) (set : List (Entry B)) : Type 0 where
    pub older : IsOlder traits.CLASS d.sectors d.seen (Ok p)
    pub log : HasUndamaged (known_for shape traits.is_proper traits.said (format_of (own traits)) p) (reading shape traits.is_proper traits.said (format_of (own traits))) (renumbered p.pages d.seen)
    pub number_is : number ≡ number_of (known_for shape traits.is_proper traits.said (format_of (own traits)) p) (records_of log.bodies)
    pub set_is : IsSetOf (keys_of shape)
        (stands_for (known_for shape traits.is_proper traits.said (format_of (own traits)) p)
        (area_of (reading shape traits.is_proper traits.said (format_of (own traits))) p.pages (renumbered p.pages d.seen)) (records_of log.bodies)) set

module _ {B E : Type 0} (shape : Members B) (traits : Traits B) (state : E → Device) where
  -- A device bears the machine that has the set of an older one alone, under the number that a migration returned, and no open session.
  pub record BearsMigrated (old : Device) (new : E) (told : ℕ × ℕ) : Type 0 where
    pub parameters : Parameters
    pub set : List (Entry B)
    pub held : HoldsOlder shape traits parameters old told.0 set
    pub bears : Bears shape traits state parameters (opened_machine told.0 set) (Lies new)

  -- It does, and turns that led on from there are one run from that machine.
  pub record LivesOn (old : Device) (new : E) (told : ℕ × ℕ) (turns : List (Turn B)) (now : Stage B E) : Type 0 where
    pub began : BearsMigrated old new told
    pub run : IsRunFrom shape traits state began.parameters (opened_machine told.0 began.set) turns now
