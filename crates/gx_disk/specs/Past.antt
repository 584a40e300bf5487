-- The moments of a device in memory: those since now are now's alone.
use Rattle.std.proofs.Common.{◌≡◌, ℕ, ◌≤◌, List, length, take, false, refl, arith}
use Rattle.std.proofs.lemmas.List.{take_all, drop_all}
use Rattle.gx_disk.specs.declared.memory.PastCall.{PastCall}
use Rattle.gx_disk.specs.Device.{IsImage, MayLeave}
use Rattle.gx_disk.specs.Memory.{pending_after, bytes_before, bytes_at, device_of}

-- all calls made, the bytes are those now
pub bytes_at-now : (calls : List PastCall) (kept now : List ℕ) → bytes_at (length calls) calls kept now ≡ now
unfolding bytes_at bytes_before
bytes_at-now calls kept now = rw (drop_all (length calls) calls (omega arith)) refl

-- an image of the moment after all calls is one of now
pub last_image : (k : ℕ) (calls : List PastCall) (kept now image : List ℕ) → k ≡ length calls → IsImage (bytes_at k calls kept now) (pending_after (take k calls) false) image → IsImage now (pending_after calls false) image
last_image k calls kept now image last is = rw (last, bytes_at-now calls kept now, take_all (length calls) calls (omega arith)) at is

-- an image of now is one since each earlier moment
pub image_counts : (sectors : ℕ) (calls : List PastCall) (kept bytes : List ℕ) (faults made t : ℕ) (image : List ℕ) → t ≤ length calls
    → MayLeave (device_of sectors calls kept bytes faults made) image → (device_of sectors calls kept bytes faults made).left_since t image
image_counts sectors calls kept bytes faults made t image le may =
    (length calls, (le, (omega arith, rw (bytes_at-now calls kept bytes, take_all (length calls) calls (omega arith)) may)))

-- since now there are the images of now alone
pub image_is_now : (sectors : ℕ) (calls : List PastCall) (kept bytes : List ℕ) (faults made : ℕ) (image : List ℕ)
    → (device_of sectors calls kept bytes faults made).left_since (length calls) image → MayLeave (device_of sectors calls kept bytes faults made) image
image_is_now sectors calls kept bytes faults made image left =
    last_image left.0 calls kept bytes image (omega (arith, left.1.0, left.1.1.0)) left.1.1.1
