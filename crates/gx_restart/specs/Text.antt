-- The text of a tree: each line ends by a line feed (10), and has spaces (32) between its words.
use Rattle.std.specs.Prelude.{ℕ, zero, suc, Bool, true, false, codes, decimal, List, [], ◌∷◌, ◌++◌}
use Rattle.std.specs.List.{flat_map}
use Rattle.gx_node.specs.Trees.{Pair, Child, Node, Tree, size}
use Rattle.gx_script.specs.Corners.{Grammar, spaced}

-- the first line: the last commit's number, the greatest page in use, and the counter of splits
abbrev pub head_line : ℕ → ℕ → ℕ → List ℕ
head_line number used counter = codes "commits " ++ (decimal number ++ (codes " used " ++ (decimal used ++ (codes " counter " ++ (decimal counter ++ (10 ∷ []))))))

-- a page's line
abbrev pub page_line : (page level nsn right count : ℕ) → List ℕ
page_line page level nsn right count =
    codes "page " ++ (decimal page ++ (codes " level " ++ (decimal level ++ (codes " nsn " ++ (decimal nsn ++ (codes " right " ++ (decimal right ++ (codes " count " ++ (decimal count ++ (10 ∷ []))))))))))

-- an inner node's entry: the child's page, and the bound of what lies below it
abbrev pub child_line : {B : Type 0} → Grammar B → Child B → List ℕ
child_line grammar c = codes "child " ++ (decimal c.page ++ (spaced (grammar.corners c.key) ++ (10 ∷ [])))

-- a leaf's entry
abbrev pub mark_text : Bool → List ℕ
mark_text true = codes " marked"
mark_text false = codes " live"

abbrev pub entry_line : {B : Type 0} → Grammar B → Pair B → List ℕ
entry_line grammar x = codes "entry " ++ (decimal x.row ++ (spaced (grammar.corners x.key) ++ (mark_text x.marked ++ (10 ∷ []))))

-- a page's line, and those of its entries by slot; no node has entries of both kinds
unfoldable pub node_text : {B : Type 0} → Grammar B → ℕ → Node B → List ℕ
node_text grammar page node =
    page_line page node.level node.nsn node.right (size node) ++ (flat_map (child_line grammar) node.children ++ flat_map (entry_line grammar) node.pairs)

-- the pages from 1 to a number
unfoldable pub pages_text : {B : Type 0} → Grammar B → (ℕ → Node B) → ℕ → List ℕ
pages_text grammar node zero = []
pages_text grammar node (suc n) = pages_text grammar node n ++ node_text grammar (suc n) (node (suc n))

-- the whole of a tree, with the last commit's number
unfoldable pub dump_text : {B : Type 0} → Grammar B → ℕ → Tree B → List ℕ
dump_text grammar number t = head_line number t.used t.counter ++ pages_text grammar t.node t.used
