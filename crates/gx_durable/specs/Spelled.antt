-- Bytes as records: which records over entries and contents of pages the bytes of a log are.
use Rattle.std.specs.Prelude.{◌≡◌, ℕ, true, false, List, [], ◌∷◌}
use Rattle.std.specs.List.{AllByRecursion}
use Rattle.gx_record.specs.Rec.{Rec}
use Rattle.gx_record.specs.Rec as rec
use Rattle.gx_record.specs.Format.{spellings, IsRecord}
use Rattle.gx_recovery.specs.Records.{Image, Change, Whole, Small, Record, Pages, Adjust, Write, Commit, End, Counters, Note}
use Rattle.gx_durable.specs.Small.{PageChange, SetMark, AddPair, SetKey, RemoveSlots}

-- How bytes are read: how many bytes a key has; the entry of a row and a key's bytes; the content of a page's 4,096
-- bytes; what a small record's change is of such a content; what is taken for a page that the device doesn't have; and
-- which contents can be read as the page of a number.
pub record Reading (E P : Type 0) : Type 1 where
  pub key : ℕ
  pub entry : ℕ → List ℕ → E
  pub content : List ℕ → P
  pub change : PageChange → Change P
  pub no_page : P
  pub fits : ℕ → P → Type 0

-- a page's number and its image, read
abbrev pub image_read : {E P : Type 0} → Reading E P → ℕ × List ℕ → Image P
image_read r p = record { page = p.0; content = r.content p.1 }

abbrev pub images_read : {E P : Type 0} → Reading E P → List (ℕ × List ℕ) → List (Image P)
images_read r [] = []
images_read r (p ∷ pages) = image_read r p ∷ images_read r pages

-- A record, its key and its images read. A pair that is added was absent, which counts as marked.
abbrev pub record_read : {E P : Type 0} → Reading E P → Rec → Record E P
record_read r (rec.Pages counter used pages) = Pages (images_read r pages) counter used
record_read r (rec.Write tx row key before after leaf image) = Write tx (r.entry row key) before after leaf (Whole (r.content image))
record_read r (rec.Commit tx n) = Commit tx n
record_read r (rec.End tx) = End tx
record_read r (rec.Counters n counter used next) = Counters n counter used next
record_read r (rec.Note tx row key before leaf) = Note tx (r.entry row key) before leaf
record_read r (rec.Bit tx row key before after leaf) = Write tx (r.entry row key) before after leaf (Small (r.change (SetMark row key after)))
record_read r (rec.Add tx row key leaf) = Write tx (r.entry row key) true false leaf (Small (r.change (AddPair row key)))
record_read r (rec.Widen page slot key) = Adjust page (r.change (SetKey slot key))
record_read r (rec.Sweep page slots) = Adjust page (r.change (RemoveSlots slots))

abbrev pub records_read : {E P : Type 0} → Reading E P → List Rec → List (Record E P)
records_read r [] = []
records_read r (x ∷ xs) = record_read r x ∷ records_read r xs

-- the bytes are the spellings of records in range, with keys of that size, and read they are these records
pub record AreRecords {E P : Type 0} (r : Reading E P) (bytes : List ℕ) (records : List (Record E P)) : Type 0 where
  pub spelled : List Rec
  pub in_range : AllByRecursion (IsRecord r.key) spelled
  pub bytes_are : spellings spelled ≡ bytes
  pub read : records_read r spelled ≡ records
