-- What a look found, as pairs.
use Rattle.std.specs.Prelude.{ℕ, List, map}
use Rattle.gx_node.specs.Trees.{Pair}
use Rattle.gx_tree.specs.declared.found.Found.{Found}

abbrev pub pair_found : {B : Type 0} → Found B → Pair B
pair_found f = record { row = f.entry.row; key = f.entry.key; marked = f.marked }

abbrev pub pairs_found : {B : Type 0} → List (Found B) → List (Pair B)
pairs_found fs = map pair_found fs

-- a pair that was found in this leaf
abbrev pub found_at : {B : Type 0} → ℕ → Pair B → Found B
found_at leaf x = record { entry = record { row = x.row; key = x.key }; marked = x.marked; leaf = leaf }
