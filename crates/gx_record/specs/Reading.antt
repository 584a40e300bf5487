-- Reading from left to right: what is read and the bytes after it, or nothing.
use Rattle.std.specs.Prelude.{◌≡◌, ℕ, zero, suc, ◌+◌, ◌*◌, ◌==◌, ◌&&◌, ◌||◌, Bool, true, false, List, [], ◌∷◌, length, take, drop, Option, Some, None, nat_lt, is_none, if◌then◌else◌}
use Rattle.gx_page.specs.declared.block.TheConstants.{PAGE_SIZE}
use Rattle.gx_page.specs.Faults.{fault_of}
use Rattle.gx_page.specs.Reading.{read_of}
use Rattle.gx_record.specs.declared.sizes.TheConstants.{SLOT_NUMBER}
use Rattle.gx_record.specs.Bytes.{u64_of, u32_of, u16_of}
use Rattle.gx_record.specs.Rec.{Rec, Pages, Write, Commit, End, Counters, Note, Bit, Add, Widen, Sweep}
use Rattle.gx_record.specs.Slots.{slots_in, rise_from}

infixl 10 ◌>>=◌
abbrev pub ◌>>=◌ : {A B : Type 0} → Option A → (A → Option B) → Option B
None >>= f = None
(Some x) >>= f = f x

-- what a function returned, seen by view, is what reading gives
abbrev pub Reads : {X Y : Type 0} → (X → Y) → Option X → Option Y → Type 0
Reads view None read = read ≡ None
Reads view (Some x) read = read ≡ Some (view x)

abbrev pub bytes_at : ℕ → List ℕ → Option (List ℕ × List ℕ)
bytes_at size bytes = if nat_lt (length bytes) size then None else Some (take size bytes, drop size bytes)

unfoldable pub number_8_at : List ℕ → Option (ℕ × List ℕ)
number_8_at bytes = do
  front ← bytes_at 8 bytes
  Some (u64_of front.0, front.1)

unfoldable pub number_4_at : List ℕ → Option (ℕ × List ℕ)
number_4_at bytes = do
  front ← bytes_at 4 bytes
  Some (u32_of front.0, front.1)

unfoldable pub number_2_at : List ℕ → Option (ℕ × List ℕ)
number_2_at bytes = do
  front ← bytes_at 2 bytes
  Some (u16_of front.0, front.1)

unfoldable pub mark_at : List ℕ → Option (Bool × List ℕ)
mark_at [] = None
mark_at (zero ∷ rest) = Some (false, rest)
mark_at (suc zero ∷ rest) = Some (true, rest)
mark_at (suc (suc byte) ∷ rest) = None

-- a page's number from a least one on
unfoldable pub page_at : ℕ → List ℕ → Option (ℕ × List ℕ)
page_at least bytes = do
  page ← number_4_at bytes
  if nat_lt page.0 least then None else Some page

unfoldable pub is_image_of : ℕ → List ℕ → Bool
is_image_of page image = is_none (fault_of image) && ((read_of image).number == page)

unfoldable pub image_at : ℕ → List ℕ → Option (List ℕ × List ℕ)
image_at page bytes = do
  image ← bytes_at PAGE_SIZE bytes
  if is_image_of page image.0 then Some image else None

-- a page with its image
unfoldable pub numbered_at : ℕ → List ℕ → Option ((ℕ × List ℕ) × List ℕ)
numbered_at least bytes = do
  page ← page_at least bytes
  image ← image_at page.0 page.1
  Some ((page.0, image.0), image.1)

-- so many pages by rising number, from a least one on
unfoldable pub rising_at : ℕ → ℕ → List ℕ → Option (List (ℕ × List ℕ) × List ℕ)
rising_at zero least bytes = Some ([], bytes)
rising_at (suc count) least bytes = do
  first ← numbered_at least bytes
  others ← rising_at count (first.0.0 + 1) first.1
  Some (first.0 ∷ others.0, others.1)

-- one to three pages, after their count
unfoldable pub images_at : List ℕ → Option (List (ℕ × List ℕ) × List ℕ)
images_at [] = None
images_at (zero ∷ rest) = None
images_at (suc zero ∷ rest) = rising_at 1 0 rest
images_at (suc (suc zero) ∷ rest) = rising_at 2 0 rest
images_at (suc (suc (suc zero)) ∷ rest) = rising_at 3 0 rest
images_at (suc (suc (suc (suc count))) ∷ rest) = None

unfoldable pub pages_at : List ℕ → Option (Rec × List ℕ)
pages_at bytes = do
  counter ← number_8_at bytes
  used ← number_4_at counter.1
  pages ← images_at used.1
  Some (Pages counter.0 used.0 pages.0, pages.1)

-- whose write of which entry it is
unfoldable pub entry_at : ℕ → List ℕ → Option ((ℕ × ℕ × List ℕ) × List ℕ)
entry_at size bytes = do
  tx ← number_8_at bytes
  row ← number_8_at tx.1
  key ← bytes_at size row.1
  Some ((tx.0, row.0, key.0), key.1)

unfoldable pub write_at : ℕ → List ℕ → Option (Rec × List ℕ)
write_at size bytes = do
  entry ← entry_at size bytes
  before ← mark_at entry.1
  after ← mark_at before.1
  leaf ← numbered_at 0 after.1
  Some (Write entry.0.0 entry.0.1 entry.0.2 before.0 after.0 leaf.0.0 leaf.0.1, leaf.1)

unfoldable pub commit_at : List ℕ → Option (Rec × List ℕ)
commit_at bytes = do
  tx ← number_8_at bytes
  n ← number_8_at tx.1
  Some (Commit tx.0 n.0, n.1)

unfoldable pub end_at : List ℕ → Option (Rec × List ℕ)
end_at bytes = do
  tx ← number_8_at bytes
  Some (End tx.0, tx.1)

unfoldable pub counters_at : List ℕ → Option (Rec × List ℕ)
counters_at bytes = do
  n ← number_8_at bytes
  counter ← number_8_at n.1
  used ← number_4_at counter.1
  next ← number_8_at used.1
  Some (Counters n.0 counter.0 used.0 next.0, next.1)

unfoldable pub note_at : ℕ → List ℕ → Option (Rec × List ℕ)
note_at size bytes = do
  entry ← entry_at size bytes
  before ← mark_at entry.1
  leaf ← page_at 0 before.1
  Some (Note entry.0.0 entry.0.1 entry.0.2 before.0 leaf.0, leaf.1)

unfoldable pub bit_at : ℕ → List ℕ → Option (Rec × List ℕ)
bit_at size bytes = do
  entry ← entry_at size bytes
  before ← mark_at entry.1
  after ← mark_at before.1
  leaf ← page_at 1 after.1
  Some (Bit entry.0.0 entry.0.1 entry.0.2 before.0 after.0 leaf.0, leaf.1)

unfoldable pub add_at : ℕ → List ℕ → Option (Rec × List ℕ)
add_at size bytes = do
  entry ← entry_at size bytes
  leaf ← page_at 1 entry.1
  Some (Add entry.0.0 entry.0.1 entry.0.2 leaf.0, leaf.1)

unfoldable pub widen_at : ℕ → List ℕ → Option (Rec × List ℕ)
widen_at size bytes = do
  page ← page_at 1 bytes
  slot ← number_2_at page.1
  key ← bytes_at size slot.1
  Some (Widen page.0 slot.0 key.0, key.1)

-- so many slots, by rising number
unfoldable pub rising_slots_at : ℕ → List ℕ → Option (List ℕ × List ℕ)
rising_slots_at count bytes = do
  front ← bytes_at (SLOT_NUMBER * count) bytes
  if rise_from 0 (slots_in front.0) then Some (slots_in front.0, front.1) else None

-- one slot to the most, after their count
unfoldable pub slots_at : List ℕ → Option (List ℕ × List ℕ)
slots_at [] = None
slots_at (count ∷ rest) = if nat_lt count 1 || nat_lt 100 count then None else rising_slots_at count rest

unfoldable pub sweep_at : List ℕ → Option (Rec × List ℕ)
sweep_at bytes = do
  page ← page_at 1 bytes
  slots ← slots_at page.1
  Some (Sweep page.0 slots.0, slots.1)

-- the fields after a byte for the kind
unfoldable pub fields_at : ℕ → ℕ → List ℕ → Option (Rec × List ℕ)
fields_at size tag bytes =
    if tag == 1 then pages_at bytes
    else (if tag == 2 then write_at size bytes
    else (if tag == 3 then commit_at bytes
    else (if tag == 4 then end_at bytes
    else (if tag == 5 then counters_at bytes
    else (if tag == 6 then note_at size bytes
    else (if tag == 7 then bit_at size bytes
    else (if tag == 8 then add_at size bytes
    else (if tag == 9 then widen_at size bytes
    else (if tag == 10 then sweep_at bytes else None)))))))))

unfoldable pub record_at : ℕ → List ℕ → Option (Rec × List ℕ)
record_at size [] = None
record_at size (tag ∷ rest) = fields_at size tag rest
