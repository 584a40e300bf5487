-- The one image of a page's contents, and which contents have one.
use Rattle.std.specs.Prelude.{ℕ, ◌+◌, ◌-◌, ◌*◌, ◌^◌, ◌<◌, ◌≤◌, List, [], ◌∷◌, ◌++◌, length}
use Rattle.std.specs.List.{All}
use Rattle.gx_page.specs.declared.block.TheConstants.{PAGE_SIZE}
use Rattle.gx_page.specs.Bytes.{spell_16, spell_32, spell_64, zeros, AreBytes}
use Rattle.gx_page.specs.Contents.{Contents}

-- how many bytes the items have in all
abbrev pub total : List (List ℕ) → ℕ
total [] = 0
total (item ∷ items) = length item + total items

-- the directory of items whose heap ends before the place `end`: the place and the length of each
abbrev pub directory : ℕ → List (List ℕ) → List ℕ
directory end [] = []
directory end (item ∷ items) = spell_16 (end - length item) ++ (spell_16 (length item) ++ directory (end - length item) items)

-- the items' bytes, the first item last
abbrev pub heap : List (List ℕ) → List ℕ
heap [] = []
heap (item ∷ items) = heap items ++ item

-- the 32 bytes of the header: level, count, where the heap starts, sequence number, right page and own number
abbrev pub header : Contents → List ℕ → List ℕ
header page body =
    spell_16 page.level ++ (spell_16 (length page.items) ++ (spell_16 (PAGE_SIZE - total page.items) ++ (0 ∷ 0 ∷ (spell_64 page.nsn ++ (spell_32 page.right ++ (spell_32 page.number
    ++ (0 ∷ 0 ∷ 0 ∷ 0 ∷ 0 ∷ 0 ∷ 0 ∷ 0 ∷ body)))))))

-- header, directory, zeros, and the items' bytes up to the end
unfoldable pub image_of : Contents → List ℕ
image_of page = header page (directory PAGE_SIZE page.items ++ (zeros (4064 - (4 * length page.items + total page.items)) ++ heap page.items))

abbrev pub Fits : List (List ℕ) → Type 0
Fits items = 32 + 4 * length items + total items ≤ PAGE_SIZE

abbrev pub IsItem : List ℕ → Type 0
IsItem item = (1 ≤ length item) × AreBytes item

pub record IsWellFormed (page : Contents) : Type 0 where
  pub level : page.level < 2 ^ 16
  pub nsn : page.nsn < 2 ^ 64
  pub right : page.right < 2 ^ 32
  pub number : page.number < 2 ^ 32
  pub items : All IsItem page.items
  pub fits : Fits page.items
