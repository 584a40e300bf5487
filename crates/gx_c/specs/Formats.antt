-- A device on which an index is laid down.
use Rattle.std.specs.Prelude.{◌≡◌, ℕ, true, Result, Ok, Err, OnOk}
use Rattle.gx_disk.specs.Device.{Device, IsSettled}
use Rattle.gx_disk.specs.Moments.{Leaves}
use Rattle.gx_class.specs.Traits.{Traits}
use Rattle.gx_format.specs.Formatting.{Formats, IsOldOrFresh}
use Rattle.gx_format.specs.Fresh.{IsFresh, fresh_root}
use Rattle.gx_geom.specs.declared.refusal.Refusal.{Refusal}
use Rattle.gx_glog.specs.declared.parameters.Parameters.{Parameters}
use Rattle.gx_page.specs.Contents.{Contents}
use Rattle.gx_page.specs.Format.{IsWellFormed}
use Rattle.gx_queue_disk.specs.declared.disk.QueueDisk.{QueueDisk}
use Rattle.gx_restart.specs.Class.{ReadsClass}
use Rattle.gx_c.specs.Statuses.{resulted}

-- A device was formatted, of which this is the status.
pub record FormatsAs (state : QueueDisk → Device) (parameters : Parameters) (root : Contents) (old new : QueueDisk) (status : ℕ) : Type 0 where
  pub result : Result (Unit {0}) Refusal
  pub formats : Formats state parameters root old new result
  pub moments : (state old).honest ≡ true → Leaves (IsOldOrFresh (state old) parameters root) (state old) (state new)
  pub fresh : (state old).honest ≡ true → OnOk result (IsFresh parameters root (state new).seen × IsSettled (state new))
  pub root_is : OnOk result (IsWellFormed root)
  pub status_is : status ≡ resulted result

-- for a class of keys
abbrev pub FormatsFor : {B : Type 0} → Traits B → (QueueDisk → Device) → (pages most : ℕ) → QueueDisk → QueueDisk → ℕ → Type 0
FormatsFor traits state pages most =
    FormatsAs state (record { pages = pages; most = most; class = traits.CLASS }) (fresh_root traits.spelling traits.start_key)

-- the class of keys that was read, where one was
abbrev pub class_in : Result ℕ Refusal → ℕ → ℕ
class_in (Ok class) had = class
class_in (Err why) had = had

-- A device was read for its class of keys, of which this is the status.
pub record TellsClass (state : QueueDisk → Device) (had class : ℕ) (old new : QueueDisk) (status : ℕ) : Type 0 where
  pub result : Result ℕ Refusal
  pub reads : ReadsClass state old new result
  pub class_is : class ≡ class_in result had
  pub status_is : status ≡ resulted result
