-- What an edit leaves of a node: its page's number, level, sequence number and rightlink are unchanged.
use Rattle.std.specs.Prelude.{Bool, List}
use Rattle.gx_node.specs.Trees.{Pair, Child, Node}
use Rattle.gx_node.specs.Steps.{node_with}
use Rattle.gx_machine.specs.declared.entry.Entry.{Entry}

-- the node with these in place of its pairs, or of its children
abbrev pub with_pairs : {B : Type 0} → Node B → List (Pair B) → Node B
with_pairs node pairs = node_with node node.nsn node.right pairs node.children

abbrev pub with_children : {B : Type 0} → Node B → List (Child B) → Node B
with_children node children = node_with node node.nsn node.right node.pairs children

-- the pair of the same row and key with this mark
abbrev pub marked_as : {B : Type 0} → Bool → Pair B → Pair B
marked_as marked pair = record { row = pair.row; key = pair.key; marked = marked }

-- the child of the same page with this bound
abbrev pub bounded_by : {B : Type 0} → B → Child B → Child B
bounded_by key child = record { key = key; page = child.page }

-- a pair's row and key
abbrev pub entry_of : {B : Type 0} → Pair B → Entry B
entry_of pair = record { row = pair.row; key = pair.key }
