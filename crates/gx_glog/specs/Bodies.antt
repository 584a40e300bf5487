-- What a body has.
use Rattle.std.specs.Prelude.{◌≡◌, ℕ, ◌+◌, ◌-◌, ◌≤◌, ◌<◌, List, length, drop, slice_index}
use Rattle.gx_glog.specs.declared.extent.TheConstants.{BODY_SIZE}
use Rattle.gx_glog.specs.Layout.{size_in, records_in}

-- no byte is other than 0
abbrev pub IsZero : List ℕ → Type 0
IsZero bytes = (k : ℕ) → slice_index bytes k ≡ 0

-- a body says the size of these records, and has them
pub record HasRecords (records body : List ℕ) : Type 0 where
  pub size : size_in body ≡ length records
  pub bytes : records_in body ≡ records

-- the one body of these records: their size, their bytes, and zeros
pub record IsBody (records bytes : List ℕ) : Type 0 where
  pub whole : length bytes ≡ BODY_SIZE
  pub has : HasRecords records bytes
  pub zeros : IsZero (drop (4 + length records) bytes)

-- a buffer is a body whose records end there
pub record IsFilled (end : ℕ) (bytes : List ℕ) : Type 0 where
  pub from : 4 ≤ end
  pub to : end ≤ BODY_SIZE
  pub whole : length bytes ≡ BODY_SIZE
  pub size : size_in bytes ≡ end - 4
  pub zeros : IsZero (drop end bytes)

-- the one sector of an open gate
pub record IsOpenGate (bytes : List ℕ) : Type 0 where
  pub whole : length bytes ≡ 512
  pub opens : slice_index bytes 0 ≡ 0xA7
  pub zeros : (k : ℕ) → 0 < k → slice_index bytes k ≡ 0
