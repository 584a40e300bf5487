-- The one spelling of a record, and which records are in range.
use Rattle.std.specs.Prelude.{◌≡◌, ℕ, ◌+◌, ◌^◌, ◌<◌, ◌≤◌, List, [], ◌∷◌, ◌++◌, length, drop}
use Rattle.gx_page.specs.Reading.{IsImage, read_of}
use Rattle.gx_record.specs.Bytes.{u64_bytes, u32_bytes, u16_bytes, mark_byte}
use Rattle.gx_record.specs.Rec.{Rec, Pages, Write, Commit, End, Counters, Note, Bit, Add, Widen, Sweep}
use Rattle.gx_record.specs.Slots.{slots_bytes, AreSlots}

-- pages, each a number and an image
abbrev pub pages_bytes : List (ℕ × List ℕ) → List ℕ
pages_bytes [] = []
pages_bytes (p ∷ pages) = u32_bytes p.0 ++ (p.1 ++ pages_bytes pages)

-- whose write of which entry it is
abbrev pub entry_bytes : ℕ → ℕ → List ℕ → List ℕ
entry_bytes tx row key = u64_bytes tx ++ (u64_bytes row ++ key)

-- a byte for the kind, from 1 to 10, and the fields in their order
abbrev pub spelling : Rec → List ℕ
spelling (Pages counter used pages) = 1 ∷ (u64_bytes counter ++ (u32_bytes used ++ (length pages ∷ pages_bytes pages)))
spelling (Write tx row key before after leaf image) = 2 ∷ (entry_bytes tx row key ++ (mark_byte before ∷ mark_byte after ∷ (u32_bytes leaf ++ image)))
spelling (Commit tx n) = 3 ∷ (u64_bytes tx ++ u64_bytes n)
spelling (End tx) = 4 ∷ u64_bytes tx
spelling (Counters n counter used next) = 5 ∷ (u64_bytes n ++ (u64_bytes counter ++ (u32_bytes used ++ u64_bytes next)))
spelling (Note tx row key before leaf) = 6 ∷ (entry_bytes tx row key ++ (mark_byte before ∷ u32_bytes leaf))
spelling (Bit tx row key before after leaf) = 7 ∷ (entry_bytes tx row key ++ (mark_byte before ∷ mark_byte after ∷ u32_bytes leaf))
spelling (Add tx row key leaf) = 8 ∷ (entry_bytes tx row key ++ u32_bytes leaf)
spelling (Widen page slot key) = 9 ∷ (u32_bytes page ++ (u16_bytes slot ++ key))
spelling (Sweep page slots) = 10 ∷ (u32_bytes page ++ (length slots ∷ slots_bytes slots))

-- whole records, one after the other
abbrev pub spellings : List Rec → List ℕ
spellings [] = []
spellings (r ∷ rs) = spelling r ++ spellings rs

-- the bytes are the image of a page of that number
pub record IsImageOf (page : ℕ) (bytes : List ℕ) : Type 0 where
  pub image : IsImage bytes
  pub number : (read_of bytes).number ≡ page

-- a page's number and its image
pub record IsPage (p : ℕ × List ℕ) : Type 0 where
  pub fits : p.0 < 2 ^ 32
  pub image : IsImageOf p.0 p.1

-- pages whose numbers rise, from a least one on
abbrev pub ArePages : ℕ → List (ℕ × List ℕ) → Type 0
ArePages least [] = Unit {0}
ArePages least (p ∷ pages) = (least ≤ p.0) × IsPage p × ArePages (p.0 + 1) pages

-- the number of the page that a small record changes
abbrev pub IsPageNumber : ℕ → Type 0
IsPageNumber page = (1 ≤ page) × (page < 2 ^ 32)

-- each field is in its range
abbrev pub IsInRange : Rec → Type 0
IsInRange (Pages counter used pages) = (counter < 2 ^ 64) × (used < 2 ^ 32) × (1 ≤ length pages) × (length pages ≤ 3) × ArePages 0 pages
IsInRange (Write tx row key before after leaf image) = (tx < 2 ^ 64) × (row < 2 ^ 64) × IsPage (leaf, image)
IsInRange (Commit tx n) = (tx < 2 ^ 64) × (n < 2 ^ 64)
IsInRange (End tx) = tx < 2 ^ 64
IsInRange (Counters n counter used next) = (n < 2 ^ 64) × (counter < 2 ^ 64) × (used < 2 ^ 32) × (next < 2 ^ 64)
IsInRange (Note tx row key before leaf) = (tx < 2 ^ 64) × (row < 2 ^ 64) × (leaf < 2 ^ 32)
IsInRange (Bit tx row key before after leaf) = (tx < 2 ^ 64) × (row < 2 ^ 64) × IsPageNumber leaf
IsInRange (Add tx row key leaf) = (tx < 2 ^ 64) × (row < 2 ^ 64) × IsPageNumber leaf
IsInRange (Widen page slot key) = IsPageNumber page × (slot < 2 ^ 16)
IsInRange (Sweep page slots) = IsPageNumber page × (1 ≤ length slots) × (length slots ≤ 100) × AreSlots 0 slots

-- a key has so many bytes
abbrev pub HasKey : ℕ → Rec → Type 0
HasKey size (Write tx row key before after leaf image) = length key ≡ size
HasKey size (Note tx row key before leaf) = length key ≡ size
HasKey size (Bit tx row key before after leaf) = length key ≡ size
HasKey size (Add tx row key leaf) = length key ≡ size
HasKey size (Widen page slot key) = length key ≡ size
HasKey size _ = Unit {0}

-- a record in range, with keys of so many bytes
pub record IsRecord (key : ℕ) (r : Rec) : Type 0 where
  pub in_range : IsInRange r
  pub has_key : HasKey key r

-- the first so many bytes are the spelling of a record in range
pub record BeginsWith (key : ℕ) (bytes : List ℕ) (r : Rec) (n : ℕ) : Type 0 where
  pub is_record : IsRecord key r
  pub size : n ≡ length (spelling r)
  pub within : n ≤ length bytes
  pub front : bytes ≡ spelling r ++ drop n bytes
