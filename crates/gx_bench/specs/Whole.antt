-- Whole records at the front of bytes.
use Rattle.std.specs.Prelude.{◌≡◌, ℕ, List, ◌++◌, length, drop}
use Rattle.std.specs.List.{AllByRecursion}
use Rattle.gx_record.specs.Rec.{Rec}
use Rattle.gx_record.specs.Format.{spellings, IsRecord, BeginsWith}

-- the first so many bytes are whole records, and no record follows them
pub record ReadsWhole (key : ℕ) (bytes : List ℕ) (n : ℕ) : Type 0 where
  pub records : List Rec
  pub are_records : AllByRecursion (IsRecord key) records
  pub front : bytes ≡ spellings records ++ drop n bytes
  pub size : n ≡ length (spellings records)
  pub none_follows : (r : Rec) (m : ℕ) → BeginsWith key (drop n bytes) r m → ⊥
