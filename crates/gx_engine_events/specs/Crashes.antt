-- What a crash leaves of a device, as a set that a machine keeps.
use Rattle.std.specs.Prelude.{ℕ, ◌≡◌, Bool, true, List}
use Rattle.gx_machine.specs.declared.entry.Entry.{Entry}
use Rattle.gx_machine.specs.Keys.{Members}
use Rattle.gx_machine.specs.Machine.{Machine}
use Rattle.gx_disk.specs.Device.{Device}
use Rattle.gx_disk.specs.Moments.{Leaves}
use Rattle.gx_node.specs.Reading.{Format}
use Rattle.gx_glog.specs.Cuts.{open_bodies}
use Rattle.gx_recovery.specs.Damage.{is_undamaged, records_of}
use Rattle.gx_recovery.specs.Records.{Record}
use Rattle.gx_index_laws.specs.Classes.{Class, Page, known_of}
use Rattle.gx_index_laws.specs.Openings.{IsKeptBy}
use Rattle.gx_durable.specs.Area.{area_of}
use Rattle.gx_durable.specs.Bodies.{AreBodies}
use Rattle.gx_durable.specs.Spelled.{Reading}
use Rattle.gx_durable.specs.Classes.{reading_of}
use Rattle.gx_engine.specs.States.{Parts}
use Rattle.gx_engine_events.specs.Seen.{class_in}

-- An image's open bodies are an undamaged log, which over the image's page area stands for the set that the machine keeps under the log's
-- number: from the oldest kept set, up to which commits are durable, to the last.
pub record StandsForSet {B : Type 0} (c : Class B) (r : Reading (Entry B) (Page B)) (m : Machine B) (image : List ℕ) : Type 0 where
  pub bodies : List (List (Record (Entry B) (Page B)))
  pub told : AreBodies r (open_bodies image) bodies
  pub undamaged : is_undamaged (known_of c) bodies ≡ true
  pub kept : IsKeptBy c m (area_of r c.pages image) (records_of bodies)

-- at each moment from one engine to another, whatever a crash may leave that it could not leave before stands for a set that the machine keeps
abbrev pub LeavesSets : {B D : Type 0} → Members B → (B → Bool) → (List ℕ → B) → Format B → (D → Device) → Machine B → Parts B D → Parts B D → Type 0
LeavesSets shape proper said f state m old new =
    Leaves (StandsForSet (class_in shape proper state old) (reading_of said f) m) (state old.volume.shelf.disk) (state new.volume.shelf.disk)
