-- How a pass along the chain comes to pairs that are sought, each in its leaf or to the right of it.
use Rattle.std.specs.Prelude.{◌≡◌, ◌⊎◌, ℕ, ◌==◌, Bool, if◌then◌else◌, List, [], ◌∷◌, map, slice_get, slice_index_or, Some}
use Rattle.std.specs.Ordering.{is_eq}
use Rattle.std.specs.declared.cmp.Ordering.{Ordering}
use Rattle.gx_machine.specs.declared.entry.Entry.{Entry}
use Rattle.gx_node.specs.Edits.{entry_of}
use Rattle.gx_node.specs.Lists.{SomeOf}
use Rattle.gx_node.specs.Trees.{Rules, Tree}
use Rattle.gx_node.specs.Writes.{IsSeek}
use Rattle.gx_node.specs.Legal.{Legal}
use Rattle.gx_legality.specs.Breaks.{Breaks}
use Rattle.gx_legality.specs.declared.fault.Rule.{Rule}
use Rattle.gx_legality.specs.declared.fault.Rule.TheVariants.{PairOutOfPlace}
use Rattle.gx_legality.specs.declared.notes.NotedPair.{NotedPair}
use Rattle.gx_legality.specs.declared.notes.NoteStage.{NoteStage}
use Rattle.gx_legality.specs.declared.notes.NoteStage.TheVariants.{Ahead, Reached, Found}

-- a note's pair is in its leaf, or to the right of it
abbrev pub IsPlaced : {B : Type 0} → Rules B → Tree B → NotedPair (Entry B) → Type 0
IsPlaced r t n = IsSeek r t n.leaf n.entry.row n.entry.key

-- this leaf is that of a note whose pair doesn't
abbrev pub IsOutOfPlace : {B : Type 0} → Rules B → Tree B → List (NotedPair (Entry B)) → ℕ → Rule → Type 0
IsOutOfPlace r t notes leaf rule = (rule ≡ PairOutOfPlace) × SomeOf (λ n. (n.leaf ≡ leaf) × (¬ IsPlaced r t n)) notes

-- a page of a tree breaks a rule; or the tree is legal, and the page is the leaf of a note whose pair isn't in its place
abbrev pub BreaksOrLeavesOut : {B : Type 0} → Rules B → Tree B → List (NotedPair (Entry B)) → ℕ → Rule → Type 0
BreaksOrLeavesOut r t notes page rule = Breaks r t page rule ⊎ (Legal r t × IsOutOfPlace r t notes page rule)

-- the entries of notes
abbrev pub noted : {E : Type 0} → List (NotedPair E) → List E
noted notes = map (λ n. n.entry) notes

-- this is the note's entry
abbrev pub is_noted : {E : Type 0} → (E → E → Ordering) → NotedPair E → E → Bool
is_noted cmp n x = is_eq (cmp x n.entry)

-- how far the pass has come with a note
abbrev pub stage_at : List NoteStage → ℕ → NoteStage
stage_at stages i = slice_index_or stages i Ahead

-- it comes to a page
abbrev pub come_to : ℕ → ℕ → NoteStage → NoteStage
come_to page leaf Ahead = if page == leaf then Reached else Ahead
come_to page leaf Reached = Reached
come_to page leaf Found = Found

-- it comes to an entry
abbrev pub meets : Bool → NoteStage → NoteStage
meets is Ahead = Ahead
meets is Reached = if is then Found else Reached
meets is Found = Found

-- it comes to these entries, one after another
abbrev pub met : {E : Type 0} → (E → Bool) → List E → NoteStage → NoteStage
met is [] s = s
met is (x ∷ xs) s = met is xs (meets (is x) s)

-- it comes to these pages, one after another
abbrev pub passed : {B : Type 0} → Tree B → (Entry B → Bool) → ℕ → List ℕ → NoteStage → NoteStage
passed t is leaf [] s = s
passed t is leaf (q ∷ qs) s = passed t is leaf qs (met is (map entry_of (t.node q).pairs) (come_to q leaf s))

-- each note's stage becomes this
abbrev pub Moves : {E : Type 0} → (NotedPair E → NoteStage → NoteStage) → List (NotedPair E) → List NoteStage → List NoteStage → Type 0
Moves {E} f notes old new = (i : ℕ) (n : NotedPair E) → slice_get notes i ≡ Some n → stage_at new i ≡ f n (stage_at old i)
