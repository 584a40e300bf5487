-- A device in memory, as the calls since it was made leave it.
use Rattle.std.proofs.Common.{◌≡◌, ℕ, ◌≤◌, List, length, take, false, true, refl, arith}
use Rattle.std.proofs.lemmas.List.{take_all}
use Rattle.gx_disk.specs.Device.{Device, IsImage, MayLeave}
use Rattle.gx_queue_disk.specs.Calls.{Call, bytes_after, pending_after}

-- a device of so many sectors: its bytes when it was made, the calls since then, its bytes now, how many calls failed,
-- and how many were made
abbrev pub device_of : ℕ → List ℕ → List Call → List ℕ → ℕ → ℕ → Device
device_of sectors start calls bytes faults made = record {
  sectors = sectors;
  seen = bytes;
  pending = pending_after calls false;
  moment = length calls;
  left_since = λ t image. (k : ℕ) × ((t ≤ k) × ((k ≤ length calls) × IsImage (bytes_after (take k calls) start) (pending_after (take k calls) false) image));
  faults = faults;
  calls = made;
  honest = true;
}

-- an image of the moment after all calls is one of now
pub last_image : (k : ℕ) (start : List ℕ) (calls : List Call) (now image : List ℕ) → bytes_after calls start ≡ now → k ≡ length calls
    → IsImage (bytes_after (take k calls) start) (pending_after (take k calls) false) image → IsImage now (pending_after calls false) image
last_image k start calls now image led last is = rw (last, take_all (length calls) calls (omega arith), led) at is

-- an image of now is one since each earlier moment
pub image_counts : (sectors : ℕ) (start : List ℕ) (calls : List Call) (bytes : List ℕ) (faults made : ℕ) → bytes_after calls start ≡ bytes → (t : ℕ) (image : List ℕ) → t ≤ length calls
    → MayLeave (device_of sectors start calls bytes faults made) image → (device_of sectors start calls bytes faults made).left_since t image
image_counts sectors start calls bytes faults made led t image le may =
    (length calls, (le, (omega arith, rw (take_all (length calls) calls (omega arith), led) may)))

-- since now there are the images of now alone
pub image_is_now : (sectors : ℕ) (start : List ℕ) (calls : List Call) (bytes : List ℕ) (faults made : ℕ) → bytes_after calls start ≡ bytes → (image : List ℕ)
    → (device_of sectors start calls bytes faults made).left_since (length calls) image → MayLeave (device_of sectors start calls bytes faults made) image
image_is_now sectors start calls bytes faults made led image left =
    last_image left.0 start calls bytes image led (omega (arith, left.1.0, left.1.1.0)) left.1.1.1
