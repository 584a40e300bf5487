-- What is logged of a change of one page, by the page's bit: if the selected extent has an image of the page, the
-- change alone, otherwise the page after it. And how many bytes that record has.
use Rattle.std.specs.Prelude.{ℕ, ◌+◌, ◌*◌, ◌<◌, ◌^◌, Bool, true, false, List}
use Rattle.gx_page.specs.Bytes.{AreBytes}
use Rattle.gx_record.specs.Rec.{Rec, Bit, Add, Widen, Sweep}
use Rattle.gx_record.specs.Writing.{write_record}
use Rattle.gx_record.specs.declared.sizes.TheConstants.{ADD_BESIDE_KEY, BIT_BESIDE_KEY, PAGE_RECORD, SLOT_NUMBER, SWEEP_BESIDE_SLOTS, WIDEN_BESIDE_KEY}
use Rattle.gx_store.specs.State.{Shelf}
use Rattle.gx_storage.specs.Whole.{page_given, write_of}

-- An entry has a spelling in bytes: its row fits 64 bits, and its key's spelling is bytes.
pub record IsSpelled {B : Type 0} (spelling : B → List ℕ) (row : ℕ) (key : B) : Type 0 where
  pub row_fits : row < 2 ^ 64
  pub key_bytes : AreBytes (spelling key)

-- a transaction added an entry to a leaf
abbrev pub add_said : {B D : Type 0} → (B → List ℕ) → Bool → ℕ → ℕ → B → ℕ → List ℕ → Shelf D → Rec
add_said spelling true transaction row key leaf seen s = Add transaction row (spelling key) leaf
add_said spelling false transaction row key leaf seen s = write_of spelling transaction row key true false leaf seen s

abbrev pub add_room : Bool → ℕ → ℕ
add_room true key = key + ADD_BESIDE_KEY
add_room false key = write_record key

-- a transaction set an entry's mark on a leaf
abbrev pub mark_said : {B D : Type 0} → (B → List ℕ) → Bool → ℕ → ℕ → B → Bool → Bool → ℕ → List ℕ → Shelf D → Rec
mark_said spelling true transaction row key before after leaf seen s = Bit transaction row (spelling key) before after leaf
mark_said spelling false transaction row key before after leaf seen s = write_of spelling transaction row key before after leaf seen s

abbrev pub mark_room : Bool → ℕ → ℕ
mark_room true key = key + BIT_BESIDE_KEY
mark_room false key = write_record key

-- a slot of an inner node got a wider key
abbrev pub widen_said : {B D : Type 0} → (B → List ℕ) → Bool → ℕ → ℕ → B → List ℕ → Shelf D → Rec
widen_said spelling true page slot key seen s = Widen page slot (spelling key)
widen_said spelling false page slot key seen s = page_given page seen s

abbrev pub widen_room : Bool → ℕ → ℕ
widen_room true key = key + WIDEN_BESIDE_KEY
widen_room false key = PAGE_RECORD

-- slots of a leaf were swept
abbrev pub sweep_said : {D : Type 0} → Bool → ℕ → List ℕ → List ℕ → Shelf D → Rec
sweep_said true page slots seen s = Sweep page slots
sweep_said false page slots seen s = page_given page seen s

abbrev pub sweep_room : Bool → ℕ → ℕ
sweep_room true slots = SWEEP_BESIDE_SLOTS + SLOT_NUMBER * slots
sweep_room false slots = PAGE_RECORD
