-- What contracts see of a device, and what one call does to it.
use Rattle.std.specs.Prelude.{◌≡◌, ◌⊎◌, ℕ, ◌+◌, ◌*◌, ◌≤◌, List, length, Bool, true, false, Result, OnOk, OnErr, MatchResult}
use Rattle.gx_disk.specs.Sectors.{sector_of, span_of, put, IsWithin, IsOutside}

pub record Device : Type 1 where
  -- how many sectors it has
  pub sectors : ℕ
  -- the bytes that reads give
  pub seen : List ℕ
  -- the sectors that may hold any bytes after a crash now: written since the last sync that succeeded
  pub pending : ℕ → Bool
  -- a number that doesn't fall
  pub moment : ℕ
  -- the bytes that a crash at a moment from that one on may have left, within a call or between two
  pub left_since : ℕ → List ℕ → Type 0
  -- how many calls failed
  pub faults : ℕ
  -- how many writes and syncs were made, those that failed too
  pub calls : ℕ
  -- what is said of its contents is true
  pub honest : Bool

-- the bytes that a crash may leave, of what is seen and what is pending: any in the sectors that are pending, and no other change
pub record IsImage (seen : List ℕ) (pending : ℕ → Bool) (image : List ℕ) : Type 0 where
  pub size : length image ≡ length seen
  pub settled : (s : ℕ) → pending s ≡ false → sector_of image s ≡ sector_of seen s

-- the bytes that a crash now may leave
abbrev pub MayLeave : Device → List ℕ → Type 0
MayLeave d image = IsImage d.seen d.pending image

-- no sector is pending
abbrev pub IsSettled : Device → Type 0
IsSettled d = (s : ℕ) → d.pending s ≡ false

-- Time went on. A crash since an earlier moment may have left what it might have left by then, or what it may leave now.
pub record Elapses (old new : Device) : Type 0 where
  pub later : old.moment ≤ new.moment
  pub only : (t : ℕ) (image : List ℕ) → t ≤ old.moment → new.left_since t image → old.left_since t image ⊎ MayLeave new image
  pub keeps : (t : ℕ) (image : List ℕ) → t ≤ old.moment → old.left_since t image → new.left_since t image

-- Only the n sectors from first on may read otherwise, or be pending if they were settled.
pub record Touches (first n : ℕ) (old new : Device) : Type 0 where
  pub size : length new.seen ≡ length old.seen
  pub bytes : (s : ℕ) → IsOutside first n s → sector_of new.seen s ≡ sector_of old.seen s
  pub settled : (s : ℕ) → IsOutside first n s → old.pending s ≡ false → new.pending s ≡ false

-- nothing reads otherwise, and nothing that was settled is pending
pub record Rests (old new : Device) : Type 0 where
  pub seen : new.seen ≡ old.seen
  pub settled : (s : ℕ) → old.pending s ≡ false → new.pending s ≡ false

-- the same sectors are pending
abbrev pub SamePending : Device → Device → Type 0
SamePending old new = (s : ℕ) → new.pending s ≡ old.pending s

-- a sector is pending, or its bytes haven't changed
abbrev pub IsTornOrSame : ℕ → Device → Device → Type 0
IsTornOrSame s old new = (new.pending s ≡ true) ⊎ ((sector_of new.seen s ≡ sector_of old.seen s) × (new.pending s ≡ old.pending s))

-- these bytes are read back from sector first on, and their n sectors are pending
pub record IsWritten (first n : ℕ) (bytes : List ℕ) (old new : Device) : Type 0 where
  pub seen : new.seen ≡ put (512 * first) bytes old.seen
  pub pending : (s : ℕ) → IsWithin first n s → new.pending s ≡ true

-- The counts of a call that makes so many writes and syncs. A call that fails is one fault more, and no other is.
-- The device has as many sectors as before, and is as honest.
pub record Counts {T E : Type 0} (made : ℕ) (old new : Device) (result : Result T E) : Type 0 where
  pub sectors : new.sectors ≡ old.sectors
  pub honest : new.honest ≡ old.honest
  pub faults : MatchResult result (λ _. new.faults ≡ old.faults) (λ _. new.faults ≡ old.faults + 1)
  pub calls : new.calls ≡ old.calls + made

-- what a read from sector first on does: the bytes come from there, and nothing changes
pub record Reads {T E : Type 0} (first : ℕ) (bytes : List ℕ) (old new : Device) (result : Result T E) : Type 0 where
  pub read : OnOk result (bytes ≡ span_of old.seen first (length bytes))
  pub rests : Rests old new
  pub pending : SamePending old new
  pub time : Elapses old new

-- what a write of n sectors from sector first on does: if it fails, each of them is torn or unchanged
pub record Writes {T E : Type 0} (first n : ℕ) (bytes : List ℕ) (old new : Device) (result : Result T E) : Type 0 where
  pub touches : Touches first n old new
  pub written : OnOk result (IsWritten first n bytes old new)
  pub torn : (s : ℕ) → IsWithin first n s → IsTornOrSame s old new
  pub pending : (s : ℕ) → IsOutside first n s → new.pending s ≡ old.pending s
  pub time : Elapses old new

-- what a sync does: if it fails, nothing is gained
pub record Syncs {T E : Type 0} (old new : Device) (result : Result T E) : Type 0 where
  pub settled : OnOk result (IsSettled new)
  pub pending : OnErr result (SamePending old new)
  pub rests : Rests old new
  pub time : Elapses old new

-- it has as many sectors as before, and is as honest
abbrev pub SameDevice : Device → Device → Type 0
SameDevice old new = (new.sectors ≡ old.sectors) × (new.honest ≡ old.honest)

-- if a call failed there is one fault more, and no other
abbrev pub CountsFault : {T E : Type 0} → Device → Device → Result T E → Type 0
CountsFault old new result = MatchResult result (λ _. new.faults ≡ old.faults) (λ _. new.faults ≡ old.faults + 1)
