-- Trees worked out by hand, on boxes, four entries a node.
use Rattle.std.specs.Prelude.{ℕ, zero, suc, ◌+◌, ◌*◌, Bool, true, false, not, ◌&&◌, ◌==◌, nat_le, List, [], ◌∷◌, ◌++◌, length}
use Rattle.gx_node.specs.Trees.{Pair, Child, Node, Tree, Rules}
use Rattle.gx_node.specs.Steps.{Step, Splits, SplitsRoot, Widens, Adds, Marks, Sweeps}

-- a box by its corners
pub record Box : Type 0 where
  pub x1 : ℕ
  pub y1 : ℕ
  pub x2 : ℕ
  pub y2 : ℕ

-- a box of these corners
abbrev pub box : (x1 y1 x2 y2 : ℕ) → Box
box x1 y1 x2 y2 = record { x1 = x1; y1 = y1; x2 = x2; y2 = y2 }

-- whether the second lies in the first
abbrev pub box_covers : Box → Box → Bool
box_covers a b = nat_le a.x1 b.x1 && (nat_le a.y1 b.y1 && (nat_le b.x2 a.x2 && nat_le b.y2 a.y2))

-- whether the two are the same
abbrev pub box_same : Box → Box → Bool
box_same a b = (a.x1 == b.x1) && ((a.y1 == b.y1) && ((a.x2 == b.x2) && (a.y2 == b.y2)))

-- boxes as keys
abbrev pub boxes : Rules Box
boxes = record { covers = box_covers; same = box_same; most = 4 }

-- a page that isn't taken
abbrev pub blank : {K : Type 0} → Node K
blank = record { level = 0; nsn = 0; right = 0; pairs = []; children = [] }

-- the node of a page, where page 1 is first in the list
abbrev pub node_at : {K : Type 0} → List (Node K) → ℕ → Node K
node_at nodes zero = blank
node_at [] (suc p) = blank
node_at (node ∷ nodes) (suc zero) = node
node_at (node ∷ nodes) (suc (suc p)) = node_at nodes (suc p)

-- the tree of these nodes, page 1 first
abbrev pub tree_of : {K : Type 0} → List (Node K) → ℕ → Tree K
tree_of nodes counter = record { node = node_at nodes; used = length nodes; counter = counter }

-- a leaf: its number, its rightlink, its pairs
abbrev pub leaf : {K : Type 0} → ℕ → ℕ → List (Pair K) → Node K
leaf nsn right pairs = record { level = 0; nsn = nsn; right = right; pairs = pairs; children = [] }

-- an inner node that was never split: its level, its rightlink, its entries
abbrev pub inner : {K : Type 0} → ℕ → ℕ → List (Child K) → Node K
inner level right children = record { level = level; nsn = 0; right = right; pairs = []; children = children }

-- a pair without a mark, and one with it
abbrev pub live : ℕ → Box → Pair Box
live row key = record { row = row; key = key; marked = false }

abbrev pub dead : ℕ → Box → Pair Box
dead row key = record { row = row; key = key; marked = true }

-- an entry of an inner node
abbrev pub entry : Box → ℕ → Child Box
entry key page = record { key = key; page = page }

-- Four boxes are one above another on the right, one is at the origin. A search for what overlaps the box from the
-- origin to 5 5 has read the root; then others add, and split the leaf under it twice.

abbrev pub held : Tree Box
held = tree_of (inner 1 0 (entry (box 0 0 101 5) 2 ∷ []) ∷ leaf 0 0 (live 1 (box 100 4 101 5) ∷ live 2 (box 0 0 1 1) ∷ []) ∷ []) 0

abbrev pub held_split : Tree Box
held_split = tree_of
    (inner 1 0 (entry (box 100 2 101 5) 2 ∷ entry (box 0 0 101 1) 3 ∷ [])
    ∷ leaf 1 3 (live 1 (box 100 4 101 5) ∷ live 3 (box 100 2 101 3) ∷ [])
    ∷ leaf 0 0 (live 2 (box 0 0 1 1) ∷ live 4 (box 100 0 101 1) ∷ []) ∷ []) 1

abbrev pub held_steps : List (Step Box)
held_steps =
    Adds 2 (live 3 (box 100 2 101 3)) ∷ Adds 2 (live 4 (box 100 0 101 1))
    ∷ Splits 2 1 (false ∷ true ∷ false ∷ true ∷ []) (box 100 2 101 5) (box 0 0 101 1) ∷ []

abbrev pub held_end : Tree Box
held_end = tree_of
    (inner 1 0 (entry (box 100 2 101 5) 2 ∷ entry (box 0 0 101 1) 3 ∷ entry (box 100 6 101 11) 4 ∷ [])
    ∷ leaf 2 4 (live 1 (box 100 4 101 5) ∷ live 3 (box 100 2 101 3) ∷ [])
    ∷ leaf 0 0 (live 2 (box 0 0 1 1) ∷ live 4 (box 100 0 101 1) ∷ [])
    ∷ leaf 1 3 (live 5 (box 100 6 101 7) ∷ live 6 (box 100 8 101 9) ∷ live 7 (box 100 10 101 11) ∷ []) ∷ []) 2

-- what the search wants, and the bounds that may lead to it
abbrev pub near_origin : Box → Bool
near_origin b = nat_le b.x1 5 && nat_le b.y1 5

abbrev pub wanted_near_origin : Pair Box → Bool
wanted_near_origin x = not x.marked && near_origin x.key

-- Nine boxes in a row, as the root, full, is split for the ninth.

-- the i-th box of the row
abbrev pub in_row : ℕ → Pair Box
in_row i = live i (box (10 * i) 0 (10 * i + 1) 1)

abbrev pub row_leaves : List (Pair Box) → List (Node Box)
row_leaves last =
    leaf 1 3 (in_row 1 ∷ in_row 2 ∷ []) ∷ leaf 2 4 (in_row 3 ∷ in_row 4 ∷ []) ∷ leaf 3 5 (in_row 5 ∷ in_row 6 ∷ []) ∷ leaf 0 0 last ∷ []

abbrev pub eight_rows : Tree Box
eight_rows = tree_of
    (inner 1 0 (entry (box 10 0 21 1) 2 ∷ entry (box 30 0 41 1) 3 ∷ entry (box 50 0 61 1) 4 ∷ entry (box 70 0 81 1) 5 ∷ [])
    ∷ row_leaves (in_row 7 ∷ in_row 8 ∷ [])) 3

abbrev pub nine_rows : Tree Box
nine_rows = tree_of
    ((inner 2 0 (entry (box 10 0 41 1) 6 ∷ entry (box 50 0 91 1) 7 ∷ []) ∷ row_leaves (in_row 7 ∷ in_row 8 ∷ in_row 9 ∷ []))
    ++ (inner 1 7 (entry (box 10 0 21 1) 2 ∷ entry (box 30 0 41 1) 3 ∷ [])
    ∷ inner 1 0 (entry (box 50 0 61 1) 4 ∷ entry (box 70 0 91 1) 5 ∷ []) ∷ [])) 3

abbrev pub nine_steps : List (Step Box)
nine_steps =
    SplitsRoot (false ∷ false ∷ true ∷ true ∷ []) (box 10 0 41 1) (box 50 0 81 1)
    ∷ Widens 1 7 (box 90 0 91 1) (box 50 0 91 1) ∷ Widens 7 5 (box 90 0 91 1) (box 70 0 91 1) ∷ Adds 5 (in_row 9) ∷ []

-- Of two pairs one is deleted, and swept.

abbrev pub swept : Tree Box
swept = tree_of (inner 1 0 (entry (box 0 0 101 5) 2 ∷ []) ∷ leaf 0 0 (live 2 (box 0 0 1 1) ∷ []) ∷ []) 0

abbrev pub swept_steps : List (Step Box)
swept_steps = Marks 2 1 (box 100 4 101 5) true ∷ Sweeps 2 (λ x. false) ∷ []

-- Trees that aren't legal.

-- page 2 is named twice
abbrev pub named_twice : Tree Box
named_twice = tree_of
    (inner 1 0 (entry (box 0 0 1 1) 2 ∷ entry (box 0 0 1 1) 2 ∷ []) ∷ leaf 0 0 (live 2 (box 0 0 1 1) ∷ []) ∷ []) 0

-- no rightlink leads to page 3
abbrev pub off_the_chain : Tree Box
off_the_chain = tree_of
    (inner 1 0 (entry (box 0 0 1 1) 2 ∷ entry (box 5 5 6 6) 3 ∷ [])
    ∷ leaf 0 0 (live 2 (box 0 0 1 1) ∷ []) ∷ leaf 0 0 (live 3 (box 5 5 6 6) ∷ []) ∷ []) 0

-- the key of page 2's entry doesn't cover the pair there
abbrev pub bound_too_small : Tree Box
bound_too_small = tree_of (inner 1 0 (entry (box 0 0 1 1) 2 ∷ []) ∷ leaf 0 0 (live 2 (box 0 0 1 2) ∷ []) ∷ []) 0
