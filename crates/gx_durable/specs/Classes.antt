-- What a log knows of a class of keys, and how its bytes are read.
use Rattle.std.specs.Prelude.{ℕ, ◌==◌, if◌then◌else◌, Bool, List, []}
use Rattle.gx_machine.specs.declared.entry.Entry.{Entry}
use Rattle.gx_machine.specs.Keys.{Members, keys_of}
use Rattle.gx_page.specs.Contents.{Contents}
use Rattle.gx_page.specs.Edits.{blank, with_items}
use Rattle.gx_page.specs.Format.{image_of}
use Rattle.gx_page.specs.Reading.{read_of}
use Rattle.gx_pool.specs.Area.{IsPassing}
use Rattle.gx_node.specs.Trees.{Node}
use Rattle.gx_class.specs.declared.class.KeyClass.{Ghosts}
use Rattle.gx_node.specs.Keyed.{rules_of}
use Rattle.gx_node.specs.Reading.{Format, format_of, leaf_of, inner_of, is_node}
use Rattle.gx_node.specs.Small.{mark_fits, mark_made, pair_fits, pair_made, bound_fits, bound_made, slots_fit, slots_made}
use Rattle.gx_recovery.specs.Known.{Known, Limits}
use Rattle.gx_recovery.specs.Records.{Change}
use Rattle.gx_index_laws.specs.Classes.{Class, Page, known_of}
use Rattle.gx_durable.specs.Small.{PageChange, SetMark, AddPair, SetKey, RemoveSlots}
use Rattle.gx_durable.specs.Spelled.{Reading}

-- a class of keys, by what its key type's trait says of them and by the test of keys, within an index's limits
abbrev pub class_of : {B : Type 0} → Members B → (B → Bool) → Limits → Class B
class_of shape is_key limits =
    record { keys = keys_of shape; rules = rules_of shape limits.most; is_key = is_key; pages = limits.pages; head = limits.head }

-- the node that a page is read as
abbrev pub node_of : {B : Type 0} → Format B → Contents → Node B
node_of f page = if page.level == 0 then leaf_of f page else inner_of f page

-- what a page's bytes are read as: a node, with the number that it has as its own
abbrev pub page_of : {B : Type 0} → Format B → List ℕ → Page B
page_of f bytes = record { node = node_of f (read_of bytes); own = (read_of bytes).number; bytes = bytes }

-- The content that a page's bytes have with other items: header and items have one spelling.
abbrev pub page_with : {B : Type 0} → Format B → Contents → List (List ℕ) → Page B
page_with f page items = page_of f (image_of (with_items page items))

-- a change of a page by a test of it, where a node may have so many entries, and by the items that it then has
abbrev pub change_by : {B : Type 0} → Format B → (ℕ → Contents → Bool) → (List (List ℕ) → List (List ℕ)) → Change (Page B)
change_by f fits made = record {
  fits = λ most page. fits most (read_of page.bytes);
  made = λ page. page_with f (read_of page.bytes) (made (read_of page.bytes).items);
}

-- what a small record's change is of a page
unfoldable pub change_of : {B : Type 0} → Format B → PageChange → Change (Page B)
change_of f (SetMark row key marked) = change_by f (λ most page. mark_fits f row key page) (mark_made f row key marked)
change_of f (AddPair row key) = change_by f (λ most page. pair_fits f most row key page) (pair_made row key)
change_of f (SetKey slot key) = change_by f (λ most page. bound_fits f slot key page) (bound_made f slot key)
change_of f (RemoveSlots slots) = change_by f (λ most page. slots_fit f slots page) (slots_made slots)

-- a row and a key's bytes as an entry, by what the bytes say; a page's bytes as a node; a small record's change by the page's
-- items; no page as one that is blank, has the number 0 and no bytes; and a page can be read where its bytes are the image of a
-- node with that number, on a device of so many pages
abbrev pub reading_of : {B : Type 0} → (List ℕ → B) → Format B → Reading (Entry B) (Page B)
reading_of said f = record {
  key = f.key;
  entry = λ row bytes. record { row = row; key = said bytes };
  content = page_of f;
  change = change_of f;
  no_page = record { node = node_of f (blank 0 0); own = 0; bytes = [] };
  fits = λ page content. (pages : ℕ) × IsPassing (is_node f pages) page content.bytes;
}

-- what a log knows of a class of keys within an index's limits, and how its bytes are read
abbrev pub known_at : {B : Type 0} → Members B → (B → Bool) → Limits → Known (Entry B) (Page B)
known_at shape is_key limits = known_of (class_of shape is_key limits)

abbrev pub reading_by : {C B : Type 0} → (List ℕ → B) → Ghosts C B → Reading (Entry B) (Page B)
reading_by said class = reading_of said (format_of class)
