-- The entries of pages, in the order in which a pass comes to them.
use Rattle.std.specs.Prelude.{◌≡◌, List, [], ◌∷◌, ◌++◌, map, ℕ}
use Rattle.std.specs.declared.cmp.Ordering.{Ordering}
use Rattle.gx_machine.specs.declared.entry.Entry.{Entry}
use Rattle.gx_node.specs.Edits.{entry_of}
use Rattle.gx_node.specs.Trees.{Tree}
use Rattle.gx_legality.specs.declared.fault.Rule.{Rule}
use Rattle.gx_legality.specs.declared.fault.Rule.TheVariants.{PairTwice}
use Rattle.gx_legality.specs.Gathered.{StandsTwice}

-- the entries on these pages, page by page
abbrev pub entries_on : {B : Type 0} → Tree B → List ℕ → List (Entry B)
entries_on t [] = []
entries_on t (q ∷ qs) = map entry_of (t.node q).pairs ++ entries_on t qs

-- an entry is twice on the chain, which begins at page 2
abbrev pub IsPairTwice : {B : Type 0} → (Entry B → Entry B → Ordering) → List (Entry B) → ℕ → Rule → Type 0
IsPairTwice cmp all p rule = (rule ≡ PairTwice) × (p ≡ 2) × StandsTwice cmp all
