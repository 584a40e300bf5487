-- What is written into bytes, and where it ends.
use Rattle.std.specs.Prelude.{◌≡◌, ℕ, ◌+◌, ◌*◌, ◌≤◌, List, length}
use Rattle.std.specs.List.{AllByRecursion}
use Rattle.gx_page.specs.declared.block.TheConstants.{PAGE_SIZE}
use Rattle.gx_page.specs.Bytes.{overwrite}
use Rattle.gx_record.specs.declared.sizes.TheConstants.{ADD_BESIDE_KEY, BIT_BESIDE_KEY, COMMIT_RECORD, COUNTERS_RECORD, END_RECORD}
use Rattle.gx_record.specs.declared.sizes.TheConstants.{NUMBERED_IMAGE, NOTE_BESIDE_KEY, PAGES_HEAD, SLOT_NUMBER, SWEEP_BESIDE_SLOTS, WIDEN_BESIDE_KEY, WRITE_BESIDE_KEY}
use Rattle.gx_record.specs.Rec.{Rec, Pages, Write, Commit, End, Counters, Note, Bit, Add, Widen, Sweep}

-- a text is written from one place up to another, and all other bytes are unchanged
pub record Wrote (old new : List ℕ) (at : ℕ) (text : List ℕ) (end : ℕ) : Type 0 where
  pub written : new ≡ overwrite old at text
  pub ends : end ≡ at + length text
  pub within : end ≤ length old

-- how many bytes the spelling of a record has whose images have a page's size
abbrev pub size_of : Rec → ℕ
size_of (Pages counter used pages) = PAGES_HEAD + NUMBERED_IMAGE * length pages
size_of (Write tx row key before after leaf image) = WRITE_BESIDE_KEY + length key
size_of (Commit tx n) = COMMIT_RECORD
size_of (End tx) = END_RECORD
size_of (Counters n counter used next) = COUNTERS_RECORD
size_of (Note tx row key before leaf) = NOTE_BESIDE_KEY + length key
size_of (Bit tx row key before after leaf) = BIT_BESIDE_KEY + length key
size_of (Add tx row key leaf) = ADD_BESIDE_KEY + length key
size_of (Widen page slot key) = WIDEN_BESIDE_KEY + length key
size_of (Sweep page slots) = SWEEP_BESIDE_SLOTS + SLOT_NUMBER * length slots

-- how many bytes the record of a write has whose key is spelled in so many
abbrev pub write_record : ℕ → ℕ
write_record key = key + WRITE_BESIDE_KEY

abbrev pub IsWhole : ℕ × List ℕ → Type 0
IsWhole p = length p.1 ≡ PAGE_SIZE

-- each image has a page's size, and there are no more slots than a sweep has
abbrev pub IsSized : Rec → Type 0
IsSized (Pages counter used pages) = AllByRecursion IsWhole pages
IsSized (Write tx row key before after leaf image) = length image ≡ PAGE_SIZE
IsSized (Sweep page slots) = length slots ≤ 100
IsSized _ = Unit {0}
