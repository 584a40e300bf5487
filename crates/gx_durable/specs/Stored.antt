-- What a pool and a device store: each page as all records leave it.
use Rattle.std.specs.Prelude.{◌≡◌, ℕ, ◌≤◌, ◌&&◌, if◌then◌else◌, nat_le, nat_lt, List, [], ◌∷◌, Option, None, Some, Bool, true}
use Rattle.gx_page.specs.Contents.{Contents}
use Rattle.gx_page.specs.Edits.{blank}
use Rattle.gx_page.specs.Format.{image_of}
use Rattle.gx_record.specs.Rec as rec
use Rattle.gx_pool.specs.Area.{bytes_of}
use Rattle.gx_pool.specs.Bringing.{Brings}
use Rattle.gx_pool.specs.Creating.{Creates}
use Rattle.gx_pool.specs.Edits.{changed}
use Rattle.gx_pool.specs.Laws.{IsBacked}
use Rattle.gx_pool.specs.State.{State, Kept, kept, IsSound, NoneDirty}
use Rattle.gx_recovery.specs.Records.{Record}
use Rattle.gx_recovery.specs.Redo.{with_page, redo, redone}
use Rattle.gx_recovery.specs.Life.{AllWritten}
use Rattle.gx_recovery.specs.Logged.{Logged, all_records, appended}
use Rattle.gx_durable.specs.Spelled.{Reading, record_read}
use Rattle.gx_durable.specs.Area.{area_of}

-- the bytes that a page is: those of the frame that it is in, else those on the device
abbrev pub bytes_by : Option Kept → List ℕ → List ℕ
bytes_by None on_device = on_device
bytes_by (Some k) on_device = image_of k.page

-- the content of a page that is stored, of a device of so many pages
unfoldable pub stored : {E P : Type 0} → Reading E P → ℕ → State → List ℕ → ℕ → P
stored r pages frames seen p = if nat_lt 0 p && nat_le p pages then r.content (bytes_by (kept frames p) (bytes_of seen p)) else r.no_page

-- each page is stored as all records leave it
abbrev pub IsStored : {E P : Type 0} → Reading E P → ℕ → State → List ℕ → Logged E P → Type 0
IsStored r pages frames seen s = (p : ℕ) → stored r pages frames seen p ≡ redone s.area (all_records s) p

-- where nothing is dirty, in flight or filling, and each clean frame is what the device has, each page is written
abbrev pub NothingDirtyIsWritten : {E P : Type 0} → Reading E P → Type 0
NothingDirtyIsWritten {E} {P} r = (pages : ℕ) (frames : State) (seen : List ℕ) (s : Logged E P) → ((p : ℕ) → s.area p ≡ area_of r pages seen p) → NoneDirty frames → IsBacked frames seen
    → s.flight ≡ [] → s.filling ≡ [] → IsStored r pages frames seen s → AllWritten s

-- bringing pages of an honest device changes nothing that is stored
abbrev pub BringingStoresTheSame : {E P : Type 0} → Reading E P → Type 0
BringingStoresTheSame {E} {P} r = (passes : Contents → Bool) (pages : ℕ) (seen : List ℕ) (old new : State) (s : Logged E P) → Brings passes true seen old new → IsBacked old seen
    → IsStored r pages old seen s → IsStored r pages new seen s

-- One page is stored with these contents, and each other page as before.
abbrev pub StoresOne : {E P : Type 0} → Reading E P → ℕ → List ℕ → State → State → ℕ → Contents → Type 0
StoresOne r pages seen old new page contents = (p : ℕ) → stored r pages new seen p ≡ with_page page (r.content (image_of contents)) (stored r pages old seen) p

-- These pages are stored with these contents, one after another, and each other page as before.
abbrev pub StoresAll : {E P : Type 0} → Reading E P → ℕ → List ℕ → State → List (ℕ × Contents) → State → Type 0
StoresAll r pages seen old [] new = (p : ℕ) → stored r pages new seen p ≡ stored r pages old seen p
StoresAll r pages seen old (change ∷ changes) new = (between : State) × StoresOne r pages seen old between change.0 change.1 × StoresAll r pages seen between changes new

-- a kept page that is changed is stored so
abbrev pub ChangingStoresOne : {E P : Type 0} → Reading E P → Type 0
ChangingStoresOne r = (pages : ℕ) (seen : List ℕ) (s : State) (page batch : ℕ) (contents : Contents) (k : Kept) → IsSound s → kept s page ≡ Some k → 1 ≤ page → page ≤ pages
    → StoresOne r pages seen s (changed s page batch contents) page contents

-- a page that is made is stored blank
abbrev pub CreatingStoresOne : {E P : Type 0} → Reading E P → Type 0
CreatingStoresOne r = (pages : ℕ) (seen : List ℕ) (old new : State) (page level batch : ℕ) → Creates old new page level batch → IsBacked old seen → 1 ≤ page → page ≤ pages
    → StoresOne r pages seen old new page (blank level page)

-- Where each page is stored as a record makes it of what was stored, and that record is appended, each page is stored as all
-- records leave it again.
abbrev pub RecordingStaysStored : {E P : Type 0} → Reading E P → Type 0
RecordingStaysStored {E} {P} r = (pages : ℕ) (seen : List ℕ) (old new : State) (s : Logged E P) (x : Record E P) → ((p : ℕ) → stored r pages new seen p ≡ redo (stored r pages old seen) x p)
    → IsStored r pages old seen s → IsStored r pages new seen (appended x s)

-- the images of these pages
abbrev pub images_of : List (ℕ × Contents) → List (ℕ × List ℕ)
images_of [] = []
images_of (change ∷ changes) = (change.0, image_of change.1) ∷ images_of changes

-- This holds of a write that gives its leaf as that was changed, and of pages that are given in the order of their
-- changes.
abbrev pub WriteStaysStored : {E P : Type 0} → Reading E P → Type 0
WriteStaysStored {E} {P} r = (pages : ℕ) (seen : List ℕ) (old new : State) (s : Logged E P) (tx row : ℕ) (key : List ℕ) (before after : Bool) (leaf : ℕ) (contents : Contents)
    → StoresOne r pages seen old new leaf contents → IsStored r pages old seen s
    → IsStored r pages new seen (appended (record_read r (rec.Write tx row key before after leaf (image_of contents))) s)

abbrev pub PagesStayStored : {E P : Type 0} → Reading E P → Type 0
PagesStayStored {E} {P} r = (pages : ℕ) (seen : List ℕ) (old new : State) (s : Logged E P) (changes : List (ℕ × Contents)) (counter used : ℕ)
    → StoresAll r pages seen old changes new → IsStored r pages old seen s → IsStored r pages new seen (appended (record_read r (rec.Pages counter used (images_of changes))) s)
