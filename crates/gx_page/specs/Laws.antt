-- The laws of the format.
use Rattle.std.specs.Prelude.{◌≡◌, ◌↔◌, ℕ, ◌+◌, ◌-◌, ◌*◌, ◌<◌, ◌≤◌, List, [], ◌++◌, length, drop, slice_index_or, slice_range, None}
use Rattle.std.specs.List.{insert}
use Rattle.gx_page.specs.declared.block.TheConstants.{PAGE_SIZE}
use Rattle.gx_page.specs.Bytes.{AreBytes}
use Rattle.gx_page.specs.Contents.{Contents}
use Rattle.gx_page.specs.Format.{image_of, heap, total, Fits, IsWellFormed}
use Rattle.gx_page.specs.Reading.{read_of}
use Rattle.gx_page.specs.Faults.{fault_of}
use Rattle.gx_page.specs.Sizes.{AllOfLength, NoneLonger}

-- equal images are images of equal contents
abbrev pub ImagesTell : Type 0
ImagesTell = (v w : Contents) → IsWellFormed v → IsWellFormed w → image_of v ≡ image_of w → v ≡ w

-- an image reads as its contents
abbrev pub ImagesReadBack : Type 0
ImagesReadBack = (v : Contents) → IsWellFormed v → read_of (image_of v) ≡ v

-- bytes have no fault exactly if some well-formed contents have them as their image
abbrev pub FaultlessAreImages : Type 0
FaultlessAreImages = (bytes : List ℕ) → AreBytes bytes → ((fault_of bytes ≡ None) ↔ ((v : Contents) × (IsWellFormed v × (image_of v ≡ bytes))))

-- ---- the heap

-- an image ends with the heap of its items
abbrev pub ImagesEndWithTheHeap : Type 0
ImagesEndWithTheHeap = (v : Contents) → IsWellFormed v → drop (PAGE_SIZE - total v.items) (image_of v) ≡ heap v.items

-- the heap of the items from a slot on is that of the items after it, then the slot's item
abbrev pub HeapGoesOn : Type 0
HeapGoesOn = (items : List (List ℕ)) (slot : ℕ) → slot < length items → heap (drop slot items) ≡ heap (drop (slot + 1) items) ++ slice_index_or items slot []

-- ---- items of one length

abbrev pub TotalOfOneLength : Type 0
TotalOfOneLength = (items : List (List ℕ)) (size : ℕ) → AllOfLength size items → total items ≡ size * length items

-- an item's place in the heap
abbrev pub PlaceInHeap : Type 0
PlaceInHeap = (items : List (List ℕ)) (size slot : ℕ) → AllOfLength size items → slot < length items
    → slice_range (heap items) (size * (length items - (slot + 1))) (size * (length items - slot)) ≡ slice_index_or items slot []

-- an item's place in the image
abbrev pub PlaceInImage : Type 0
PlaceInImage = (v : Contents) (size slot : ℕ) → IsWellFormed v → AllOfLength size v.items → slot < length v.items
    → slice_range (image_of v) (PAGE_SIZE - size * (slot + 1)) (PAGE_SIZE - size * slot) ≡ slice_index_or v.items slot []

-- ---- room

-- if so many items of a greatest length fit a page with their slots, one more of them fits a page that has fewer
abbrev pub FewFit : Type 0
FewFit = (items : List (List ℕ)) (item : List ℕ) (slot most size : ℕ) → slot ≤ length items → NoneLonger size items → length item ≤ size
    → length items < most → most * (4 + size) ≤ 4064 → Fits (insert items slot item)
