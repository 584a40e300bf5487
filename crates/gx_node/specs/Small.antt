-- What a small change makes of a page: which pages it fits, and the items that the page has then. An item is its bytes
-- in the page, and keys and rows are sought by their bytes.
use Rattle.std.specs.Prelude.{ℕ, ◌+◌, ◌==◌, ◌&&◌, Bool, true, false, not, nat_lt, List, [], ◌∷◌, ◌++◌, length, take, drop, replicate, slice_index, slice_index_or, slice_set, is_some, bytes_eq}
use Rattle.std.specs.List.{list_all, list_any, position_or_len}
use Rattle.gx_page.specs.Bytes.{spell_64, number_16, number_64_at}
use Rattle.gx_page.specs.Contents.{Contents}
use Rattle.gx_node.specs.Lists.{staying}
use Rattle.gx_node.specs.Entries.{mark_byte}
use Rattle.gx_node.specs.Reading.{Format, inner_size, has_key, is_leaf}

-- the item is this pair's: after its key is the row, and it begins with the key's bytes
abbrev pub is_item_of : {B : Type 0} → Format B → ℕ → List ℕ → List ℕ → Bool
is_item_of f row key item = (number_64_at item f.key == row) && bytes_eq (take f.key item) key

-- one of the items is
abbrev pub has_item_of : {B : Type 0} → Format B → ℕ → List ℕ → List (List ℕ) → Bool
has_item_of f row key items = list_any (is_item_of f row key) items

-- the slot of the first that is
abbrev pub slot_of : {B : Type 0} → Format B → ℕ → List ℕ → List (List ℕ) → ℕ
slot_of f row key items = position_or_len (is_item_of f row key) items

-- ---- a pair's mark is set or cleared

-- the page is a leaf that has the pair
abbrev pub mark_fits : {B : Type 0} → Format B → ℕ → List ℕ → Contents → Bool
mark_fits f row key page = is_leaf f page && has_item_of f row key page.items

-- a leaf's item with this mark
abbrev pub item_marked : {B : Type 0} → Format B → Bool → List ℕ → List ℕ
item_marked f marked item = slice_set item (f.key + 8) (mark_byte marked)

-- the first item that is the pair's has the mark
abbrev pub mark_made : {B : Type 0} → Format B → ℕ → List ℕ → Bool → List (List ℕ) → List (List ℕ)
mark_made f row key marked items = slice_set items (slot_of f row key items) (item_marked f marked (slice_index_or items (slot_of f row key items) []))

-- ---- a pair is added, live

-- the page is a leaf of fewer than `most` pairs that doesn't have the pair, and the key is one of the class
abbrev pub pair_fits : {B : Type 0} → Format B → ℕ → ℕ → List ℕ → Contents → Bool
pair_fits f most row key page = is_leaf f page && (nat_lt (length page.items) most && (is_some (f.reading key) && not (has_item_of f row key page.items)))

-- a live pair's item
abbrev pub live_item : ℕ → List ℕ → List ℕ
live_item row key = key ++ (spell_64 row ++ mark_byte false ∷ [])

-- the pair's item is after the last
abbrev pub pair_made : ℕ → List ℕ → List (List ℕ) → List (List ℕ)
pair_made row key items = items ++ live_item row key ∷ []

-- ---- a bound is set

-- the item is as long as an inner node's entry and begins with a key. Which pages are taken isn't asked here
abbrev pub is_bound : {B : Type 0} → Format B → List ℕ → Bool
is_bound f item = (length item == inner_size f) && has_key f item

unfoldable pub are_bounds : {B : Type 0} → Format B → List (List ℕ) → Bool
are_bounds f items = list_all (is_bound f) items

-- the page is none of level 0, its items are bounds, it has the slot, and the key is one of the class
abbrev pub bound_fits : {B : Type 0} → Format B → ℕ → List ℕ → Contents → Bool
bound_fits f slot key page = not (page.level == 0) && (are_bounds f page.items && (nat_lt slot (length page.items) && is_some (f.reading key)))

-- the item with this key instead of its own
abbrev pub item_bounded : {B : Type 0} → Format B → List ℕ → List ℕ → List ℕ
item_bounded f key item = key ++ drop f.key item

-- the slot's item has the key, and names the page that it named
abbrev pub bound_made : {B : Type 0} → Format B → ℕ → List ℕ → List (List ℕ) → List (List ℕ)
bound_made f slot key items = slice_set items slot (item_bounded f key (slice_index_or items slot []))

-- ---- slots are removed

-- the slots that bytes spell, two bytes each, the greater first. A last byte alone spells none
abbrev pub slots_in : List ℕ → List ℕ
slots_in [] = []
slots_in (byte ∷ []) = []
slots_in (high ∷ low ∷ bytes) = number_16 (high ∷ low ∷ []) ∷ slots_in bytes

-- the leaf's item is marked
abbrev pub is_marked : {B : Type 0} → Format B → List ℕ → Bool
is_marked f item = slice_index item (f.key + 8) == 1

-- there is a slot of this number, and its item is marked
abbrev pub has_marked : {B : Type 0} → Format B → List (List ℕ) → ℕ → Bool
has_marked f items slot = nat_lt slot (length items) && is_marked f (slice_index_or items slot [])

-- the page is a leaf that has each of the slots, with a marked pair
abbrev pub slots_fit : {B : Type 0} → Format B → List ℕ → Contents → Bool
slots_fit f slots page = is_leaf f page && list_all (has_marked f page.items) slots

-- the sides, and these slots go too
abbrev pub sides_with : List Bool → List ℕ → List Bool
sides_with sides [] = sides
sides_with sides (slot ∷ slots) = sides_with (slice_set sides slot true) slots

-- of so many items, those of these slots go
abbrev pub sides_of : ℕ → List ℕ → List Bool
sides_of count slots = sides_with (replicate count false) slots

-- the items of these slots are gone
abbrev pub slots_made : List ℕ → List (List ℕ) → List (List ℕ)
slots_made slots items = staying (sides_of (length items) slots) items
