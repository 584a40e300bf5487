-- A script over an honest device that ended with status 0: one run of the set machine, and all of it is durable.
use Rattle.std.specs.Prelude.{ℕ, ◌≡◌, List}
use Rattle.std.specs.Io.KnownBytes.{Appends, Consumes, IsAtEnd}
use Rattle.gx_machine.specs.declared.entry.Entry.{Entry}
use Rattle.gx_machine.specs.Keys.{Members}
use Rattle.gx_machine.specs.Machine.{Machine}
use Rattle.gx_machine.specs.Sets.{IsSetOf}
use Rattle.gx_script.specs.Corners.{Grammar}
use Rattle.gx_script.specs.Scripts.{asked}
use Rattle.gx_plain.specs.OneRun.{IsOneRun}
use Rattle.gx_class.specs.Traits.{Traits, own}
use Rattle.gx_disk.specs.Device.{Device, MayLeave}
use Rattle.gx_node.specs.Reading.{format_of, is_node}
use Rattle.gx_glog.specs.declared.parameters.Parameters.{Parameters}
use Rattle.gx_recovery.specs.Analysis.{number_of}
use Rattle.gx_recovery.specs.Damage.{records_of}
use Rattle.gx_recovery.specs.Logged.{latest}
use Rattle.gx_recovery.specs.Standing.{stands_for}
use Rattle.gx_events.specs.Engines.{SeenAs, opened_machine}
use Rattle.gx_index_laws.specs.States as index
use Rattle.gx_index_laws.specs.States.{engine_of}
use Rattle.gx_durable.specs.Area.{area_of}
use Rattle.gx_durable.specs.Standing.{Stands}
use Rattle.gx_durable.specs.Classes.{class_of}
use Rattle.gx_engine.specs.Running.{Ran}
use Rattle.gx_engine.specs.States.{Parts}
use Rattle.gx_opening.specs.Standing.{IsFormatted, known_for, limits_of, reading}
use Rattle.gx_restart.specs.Beginning.{IsGoodLog}
use Rattle.gx_commands.specs.Streams.{Outputs, Stream}

module _ {B D : Type 0} (shape : Members B) (traits : Traits B) (state : D → Device) where
  -- An image stands for the last set that an index keeps, under its number.
  pub record StandsForLast (p : Parameters) (i : index.State B) (image : List ℕ) : Type 0 where
    pub stands : Stands (known_for shape traits.is_proper traits.said (format_of (own traits)) p) (reading shape traits.is_proper traits.said (format_of (own traits))) i.log image
    pub last : number_of (known_for shape traits.is_proper traits.said (format_of (own traits)) p) (records_of stands.bodies) ≡ latest (known_for shape traits.is_proper traits.said (format_of (own traits)) p) i.log

module _ {B D : Type 0} (grammar : Grammar B) (shape : Members B) (traits : Traits B) (state : D → Device) where
  -- What the script asked and was answered is one run of the machine that begins with this set, under this number. From its end all that
  -- was logged is gated: all commits are durable, and each image that a crash may leave stands for the last set.
  pub record RunsDurably (p : Parameters) (number : ℕ) (set : List (Entry B)) (input text : List ℕ) (ended settled : Parts B D) : Type 0 where
    pub machine : Machine B
    pub run : IsOneRun grammar (class_of shape traits.is_proper (limits_of p)).keys 1 (asked grammar input) (opened_machine number set) machine text
    pub reached : index.State B
    pub seen : SeenAs (class_of shape traits.is_proper (limits_of p)).keys (engine_of (class_of shape traits.is_proper (limits_of p)) reached) machine
    pub settling : Ran (class_of shape traits.is_proper (limits_of p)) (reading shape traits.is_proper traits.said (format_of (own traits))) (format_of (own traits)) (is_node (format_of (own traits)))
        (state ended.volume.shelf.disk) (state settled.volume.shelf.disk) settled reached
    pub durable : settled.sessions.durable ≡ settled.sessions.latest
    pub stands : (image : List ℕ) → MayLeave (state settled.volume.shelf.disk) image → StandsForLast shape traits state p settling.index image

  -- A device was opened that is formatted for an index of the class, and has a sound log; the script was read to its end, and its text
  -- written; it ran so from the set that the log keeps; and the device that is left is the settled engine's.
  pub record EndsDurably (number : ℕ) (disk after : D) (had left : Stream) (from to : Outputs) : Type 0 where
    pub parameters : Parameters
    pub formatted : IsFormatted shape traits.is_proper traits.said (format_of (own traits)) number (state disk) parameters
    pub found : IsGoodLog shape traits.is_proper traits.said (format_of (own traits)) parameters (state disk).seen
    pub input : List ℕ
    pub text : List ℕ
    pub read : Consumes had.bytes left.bytes input
    pub at_end : IsAtEnd left.bytes
    pub wrote : Appends from.replies.bytes to.replies.bytes text
    pub ended : Parts B D
    pub settled : Parts B D
    pub left_is : after ≡ settled.volume.shelf.disk
    pub runs : (set : List (Entry B))
        → IsSetOf (class_of shape traits.is_proper (limits_of parameters)).keys
        (stands_for (known_for shape traits.is_proper traits.said (format_of (own traits)) parameters)
        (area_of (reading shape traits.is_proper traits.said (format_of (own traits))) parameters.pages (state disk).seen) (records_of found.log.bodies)) set
        → RunsDurably parameters (number_of (known_for shape traits.is_proper traits.said (format_of (own traits)) parameters) (records_of found.log.bodies)) set input text ended settled
