-- What closing the gates after a log's run leaves.
use Rattle.std.specs.Prelude.{◌≡◌, ◌⊎◌, ℕ, ◌+◌, ◌-◌, ◌*◌, ◌<◌, ◌≤◌, List, length, replicate, Bool, true, false, Result, OnOk}
use Rattle.gx_disk.specs.Device.{Device, IsSettled, Touches, Writes}
use Rattle.gx_disk.specs.Looks.{Looks}
use Rattle.gx_disk.specs.Moments.{Leaves}
use Rattle.gx_disk.specs.Sectors.{sector_of}
use Rattle.gx_glog.specs.declared.extent.TheConstants.{PLACES}
use Rattle.gx_glog.specs.declared.extent.Extent.{Extent}
use Rattle.gx_glog.specs.Cuts.{open_bodies}
use Rattle.gx_glog.specs.Layout.{gates_of, selected_of, is_open, open_run}
use Rattle.gx_glog.specs.Standing.{IsSelected, HasBatches, HasRun}

-- each gate of an extent from a place on reads closed
abbrev pub ReadsClosedFrom : ℕ → Extent → List ℕ → Type 0
ReadsClosedFrom from extent seen = (k : ℕ) → from ≤ k → k < PLACES → is_open seen extent k ≡ false

-- one of them reads open
pub record ReadsOpenFrom (from : ℕ) (extent : Extent) (seen : List ℕ) : Type 0 where
  pub place : ℕ
  pub later : from ≤ place
  pub below : place < PLACES
  pub reads : is_open seen extent place ≡ true

-- a gate from a place on is open, or all of them are closed
abbrev pub TellsOpenFrom : ℕ → Extent → List ℕ → Bool → Type 0
TellsOpenFrom from extent seen true = ReadsOpenFrom from extent seen
TellsOpenFrom from extent seen false = ReadsClosedFrom from extent seen

-- one write that closes an extent's gates from a place on
abbrev pub ClosesGatesFrom : {T E : Type 0} → ℕ → Extent → Device → Device → Result T E → Type 0
ClosesGatesFrom from extent old new result = Writes (gates_of extent + from) (PLACES - from) (replicate (512 * (PLACES - from)) 0) old new result

-- the sector is none of an extent's gates after place n
abbrev pub IsBesideLater : Extent → ℕ → ℕ → Type 0
IsBesideLater extent n s = (s ≤ gates_of extent + n) ⊎ (gates_of extent + PLACES ≤ s)

-- An image has the log that is seen: the same extent is selected, as many gates in a row are open, over the same
-- bodies. Only gates after place n of an extent may differ; so the selector, all bodies and all pages are those that
-- are seen.
pub record KeepsRun (extent : Extent) (n : ℕ) (seen image : List ℕ) : Type 0 where
  pub size : length image ≡ length seen
  pub others : (s : ℕ) → IsBesideLater extent n s → sector_of image s ≡ sector_of seen s
  pub selected : selected_of image ≡ selected_of seen
  pub run : open_run image (selected_of image) 0 PLACES ≡ open_run seen (selected_of seen) 0 PLACES
  pub bodies : open_bodies image ≡ open_bodies seen

-- The first n batches of an extent that is selected are gated and each later gate is closed, all of it settled: a log
-- that starts after them is on the device.
pub record IsClosedBehind (extent : Extent) (n : ℕ) (d : Device) : Type 0 where
  pub settled : IsSettled d
  pub selected : IsSelected extent d.seen d.pending
  pub batches : HasBatches extent n n d.seen d.pending

-- What closing the gates after place n leaves of a synced device with n batches, even if a call fails: at each
-- moment each image has the log that was found, and only the later gates differ. At Ok all of these are closed and
-- settled.
pub record ClosesLater {T E : Type 0} (extent : Extent) (n : ℕ) (old new : Device) (result : Result T E) : Type 0 where
  pub seen : KeepsRun extent n old.seen new.seen
  pub settled : (s : ℕ) → IsBesideLater extent n s → new.pending s ≡ false
  pub moments : Leaves (KeepsRun extent n old.seen) old new
  pub done : OnOk result (IsClosedBehind extent n new)

-- so of a synced device whose selected extent has a run of n batches
abbrev pub ClosesLaterOfRun : {T E : Type 0} → Extent → ℕ → Device → Device → Result T E → Type 0
ClosesLaterOfRun extent n old new result = old.honest ≡ true → IsSettled old → HasRun extent n old.seen old.pending → IsSelected extent old.seen old.pending
    → ClosesLater extent n old new result

-- The device calls that it takes, and the sectors that they may touch: none if each later gate reads closed, and then
-- the device was only read; else a write and a sync.
pub record CallsForLater {T E : Type 0} (extent : Extent) (n : ℕ) (old new : Device) (result : Result T E) : Type 0 where
  pub none : ReadsClosedFrom (n + 1) extent old.seen → (new.calls ≡ old.calls) × Looks old new
  pub two : ReadsOpenFrom (n + 1) extent old.seen → OnOk result (new.calls ≡ old.calls + 2)
  pub touches : Touches (gates_of extent + (n + 1)) (PLACES - (n + 1)) old new
