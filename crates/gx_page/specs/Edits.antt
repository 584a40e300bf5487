-- What an edit of the directory writes, from the lengths in the slots that it moves.
use Rattle.std.specs.Prelude.{ℕ, zero, suc, ◌-◌, List, [], ◌∷◌, ◌++◌, take, drop}
use Rattle.gx_page.specs.Bytes.{spell_16, number_16}
use Rattle.gx_page.specs.Contents.{Contents}

-- the length in the first slot of a directory
abbrev pub first_length : List ℕ → ℕ
first_length bytes = number_16 (take 2 (drop 2 bytes))

-- a slot of so many bytes below `end`, and after it the next so many slots of a directory, moved down
unfoldable pub opened : ℕ → ℕ → ℕ → List ℕ → List ℕ
opened zero end size bytes = spell_16 (end - size) ++ spell_16 size
opened (suc n) end size bytes = spell_16 (end - size) ++ (spell_16 size ++ opened n (end - size) (first_length bytes) (drop 4 bytes))

-- the next so many slots of a directory, moved up below `end`, and zeros for the slot that is no longer
unfoldable pub closed : ℕ → ℕ → List ℕ → List ℕ
closed zero end bytes = 0 ∷ 0 ∷ 0 ∷ 0 ∷ []
closed (suc n) end bytes = spell_16 (end - first_length bytes) ++ (spell_16 (first_length bytes) ++ closed n (end - first_length bytes) (drop 4 bytes))

-- no items, sequence number 0, and no page to the right
abbrev pub blank : ℕ → ℕ → Contents
blank level number = record { level = level; nsn = 0; right = 0; number = number; items = [] }

-- the contents with other items
abbrev pub with_items : Contents → List (List ℕ) → Contents
with_items page items = record page { items = items }
