-- The calls of a handle's device that C has not had: it makes them of its file, one after another.
use Rattle.std.specs.Prelude.{◌≡◌, ◌⊎◌, ◌≤◌, ◌<◌, ℕ, List, [], ◌∷◌, ◌++◌, length, drop, Option, None, Some}
use Rattle.gx_class.specs.Traits.{Traits}
use Rattle.gx_disk.specs.Device as disk
use Rattle.gx_geom.specs.Rectangles.{Rectangle}
use Rattle.gx_geom.specs.Solids.{Solid}
use Rattle.gx_machine.specs.Keys.{Members}
use Rattle.gx_queue_disk.specs.Calls.{Call, Write, Sync}
use Rattle.gx_queue_disk.specs.Drains.{Drains}
use Rattle.gx_queue_disk.specs.declared.queue.DeviceCall.{DeviceCall}
use Rattle.gx_queue_disk.specs.declared.queue.DeviceCall.TheVariants as device
use Rattle.gx_queue_disk.specs.declared.disk.QueueDisk.{QueueDisk}
use Rattle.gx_engine.specs.Calls.{IsRead}
use Rattle.gx_engine.specs.Drained.{with_disk}
use Rattle.gx_engine.specs.Setting.{LeadsAs}
use Rattle.gx_c.specs.States.{Opened}
use Rattle.gx_c.specs.declared.drain.SentCall.{SentCall}
use Rattle.gx_c.specs.declared.held.Held.{Held}
use Rattle.gx_c.specs.declared.held.Stage.{Stage}
use Rattle.gx_c.specs.declared.held.Stage.TheVariants.{Empty, Bytes, Device, Plane, Space}

-- the device of an open index
abbrev pub disk_of : {B : Type 0} → Opened B → QueueDisk
disk_of it = it.index.engine.volume.shelf.disk

-- the calls in the queue of a stage's device
abbrev pub queued_in : Stage → List Call
queued_in Empty = []
queued_in (Bytes bytes) = []
queued_in (Device disk) = disk.queue
queued_in (Plane it) = (disk_of it).queue
queued_in (Space it) = (disk_of it).queue

-- those that C has not had, the first one in front: what was drained, and behind it what is in the queue
abbrev pub waiting : Held → List Call
waiting held = held.calls ++ queued_in held.stage

-- the call in front, as C has it, with its bytes where they fit
abbrev pub Puts : Option DeviceCall → SentCall → List ℕ → List ℕ → ℕ → Type 0
Puts None call had bytes status = (status ≡ 0) × (call.kind ≡ 0) × (call.first ≡ 0) × (call.size ≡ 0) × (bytes ≡ had)
Puts (Some device.Sync) call had bytes status =
    (status ≡ 0) × (call.kind ≡ 2) × (call.first ≡ 0) × (call.size ≡ 0) × (bytes ≡ had)
Puts (Some (device.Write first written)) call had bytes status =
    (call.kind ≡ 1) × (call.first ≡ first) × (call.size ≡ length written.now)
    × (length written.now ≤ length had → (status ≡ 0) × (bytes ≡ written.now ++ drop (length written.now) had))
    × (length had < length written.now → (status ≡ 18) × (bytes ≡ had))

-- What C gets: the call in front, with its bytes if they fit; from then on the others wait.
abbrev pub Tells : List Call → List Call → SentCall → List ℕ → List ℕ → ℕ → Type 0
Tells [] left call had bytes status =
    (status ≡ 0) × (call.kind ≡ 0) × (call.first ≡ 0) × (call.size ≡ 0) × (bytes ≡ had) × (left ≡ [])
Tells (Sync ∷ rest) left call had bytes status =
    (status ≡ 0) × (call.kind ≡ 2) × (call.first ≡ 0) × (call.size ≡ 0) × (bytes ≡ had) × (left ≡ rest)
Tells (Write first written ∷ rest) left call had bytes status =
    (call.kind ≡ 1) × (call.first ≡ first) × (call.size ≡ length written)
    × (length written ≤ length had → (status ≡ 0) × (bytes ≡ written ++ drop (length written) had) × (left ≡ rest))
    × (length had < length written → (status ≡ 18) × (bytes ≡ had) × (left ≡ Write first written ∷ rest))

module _ {B : Type 0} (shape : Members B) (traits : Traits B) (state : QueueDisk → disk.Device) where
  -- the queue of an open index was drained, and nothing else of it changed
  pub record DrainsOpen (old new : Opened B) (calls : List Call) : Type 0 where
    pub drains : Drains state (λ d. d.queue) (disk_of old) (disk_of new) calls
    pub only : new.index ≡ record old.index { engine = with_disk (disk_of new) old.index.engine }
    pub leads : LeadsAs shape traits state old.index.engine new.index.engine []
    pub device : IsRead state old.index.engine new.index.engine
    pub found : new.found ≡ old.found

module _ (box : Members Rectangle) (boxes : Traits Rectangle) (solid : Members Solid) (solids : Traits Solid)
    (state : QueueDisk → disk.Device) where
  -- the queue of a stage's device was drained, by what the stage is, and nothing else changed
  abbrev pub DrainsBy : Stage → Stage → List Call → Type 0
  DrainsBy (Device old) (Device new) calls = Drains state (λ d. d.queue) old new calls
  DrainsBy (Device old) new calls = ⊥
  DrainsBy (Plane old) (Plane new) calls = DrainsOpen box boxes state old new calls
  DrainsBy (Plane old) new calls = ⊥
  DrainsBy (Space old) (Space new) calls = DrainsOpen solid solids state old new calls
  DrainsBy (Space old) new calls = ⊥
  DrainsBy old new calls = (new ≡ old) × (calls ≡ [])

  pub record DrainsStage (old new : Stage) (calls : List Call) : Type 0 where
    pub drains : DrainsBy old new calls

  -- the queue was drained, if what was drained before was taken
  abbrev pub Rests : Held → Held → Type 0
  Rests old new = (new.stage ≡ old.stage) ⊎ ((calls : List Call) × DrainsStage old.stage new.stage calls)

  -- C gets the next call, and nothing of the index changes
  pub record TellsNext (old new : Held) (call : SentCall) (had bytes : List ℕ) (status : ℕ) : Type 0 where
    pub tells : Tells (waiting old) (waiting new) call had bytes status
    pub rests : Rests old new
