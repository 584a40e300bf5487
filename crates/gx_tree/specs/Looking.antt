-- A step of a look, whose stack has its top last.
use Rattle.std.specs.Prelude.{ℕ, ◌≡◌, Bool, if◌then◌else◌, nat_lt, List, [], ◌∷◌, ◌++◌, map, filter}
use Rattle.gx_node.specs.Trees.{Pair, Child, Node, Tree}
use Rattle.gx_node.specs.Reach.{TraversalItem}
use Rattle.gx_tree.specs.declared.found.Found.{Found}
use Rattle.gx_tree.specs.Found.{found_at}

-- the items that a look is to read, the next one last
pub record Stack : Type 0 where
  pub items : List TraversalItem

-- the rightlink of a node that was split since its number was read
abbrev pub beyond : {B : Type 0} → Node B → TraversalItem → List TraversalItem
beyond node item = if nat_lt item.seen node.nsn then record { page = node.right; seen = item.seen } ∷ [] else []

-- the entries that may lead to something wanted, remembered with this counter
abbrev pub below : {B : Type 0} → ℕ → (B → Bool) → List (Child B) → List TraversalItem
below counter leads children = map (λ c. record { page = c.page; seen = counter }) (filter (λ c. leads c.key) children)

-- a child, remembered with this counter
abbrev pub item_of : {B : Type 0} → ℕ → Child B → TraversalItem
item_of counter c = record { page = c.page; seen = counter }

-- a look has read the node of its stack's last item: the item is replaced by the rightlink, if the node was split
-- since, and by the entries that may lead to something wanted; and what is wanted of the node's pairs is found, in that
-- page
pub record Reads {B : Type 0} (counter : ℕ) (wants : Pair B → Bool) (leads : B → Bool) (node : Node B) (rest : List TraversalItem) (item : TraversalItem)
    (after : List TraversalItem) (old new : List (Found B)) : Type 0 where
  pub stack : after ≡ rest ++ (beyond node item ++ below counter leads node.children)
  pub found : new ≡ old ++ map (found_at item.page) (filter wants node.pairs)

-- a step of a look at a tree
abbrev pub LookStep : {B : Type 0} → Tree B → (Pair B → Bool) → (B → Bool) → List TraversalItem → List TraversalItem → List (Found B) → List (Found B) → Type 0
LookStep t wants leads before after old new =
    (rest : List TraversalItem) (item : TraversalItem) → before ≡ rest ++ item ∷ [] → Reads t.counter wants leads (t.node item.page) rest item after old new
