-- Notes: what a transaction has written, each entry once, with its mark from before and its leaf.
use Rattle.std.specs.Prelude.{if◌then◌else◌, Option, None, Some, List, [], ◌∷◌, map}
use Rattle.std.specs.Ordering.{match_ordering}
use Rattle.gx_machine.specs.declared.entry.Entry.{Entry}
use Rattle.gx_machine.specs.Keys.{Keys, entry_cmp, same_entry}
use Rattle.gx_txn.specs.declared.note.Note.{Note}

-- the entries that are noted
abbrev pub entries_of : {B : Type 0} → List (Note B) → List (Entry B)
entries_of notes = map (λ n. n.entry) notes

-- the notes with one more write: an entry that is noted keeps its mark and gets the write's leaf, another one gets
-- its place in the order of entries
abbrev pub noting : {B : Type 0} → Keys B → Note B → List (Note B) → List (Note B)
noting k n [] = n ∷ []
noting k n (x ∷ notes) =
    match_ordering (entry_cmp k n.entry x.entry) (n ∷ x ∷ notes) (record x { leaf = n.leaf } ∷ notes) (x ∷ noting k n notes)

-- the notes of a list of writes, the last write first
abbrev pub notes_of : {B : Type 0} → Keys B → List (Note B) → List (Note B)
notes_of k [] = []
notes_of k (write ∷ earlier) = noting k write (notes_of k earlier)

-- the first in a list that is of this entry
abbrev pub of_entry : {B : Type 0} → Keys B → Entry B → List (Note B) → Option (Note B)
of_entry k e [] = None
of_entry k e (n ∷ notes) = if same_entry k e n.entry then Some n else of_entry k e notes

-- a write with the mark from before an earlier write of the same entry, if there is one
abbrev pub with_first_mark : {B : Type 0} → Note B → Option (Note B) → Note B
with_first_mark last None = last
with_first_mark last (Some first) = record last { before = first.before }

-- of the writes of an entry, given the last write first, the leaf of the last and the mark from before the first
abbrev pub written : {B : Type 0} → Keys B → Entry B → List (Note B) → Option (Note B)
written k e [] = None
written k e (write ∷ earlier) =
    if same_entry k e write.entry then Some (with_first_mark write (written k e earlier)) else written k e earlier
