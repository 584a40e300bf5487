-- What a descent does at a node.
use Rattle.std.specs.Prelude.{◌≡◌, ◌≢◌, ℕ, Bool, true, false, ◌<◌, ◌≤◌, map, length, Option, Some, None, slice_get, slice_set}
use Rattle.std.specs.List.{IsFirstBest}
use Rattle.gx_node.specs.Hits.{costs_less}
use Rattle.gx_node.specs.Edits.{bounded_by}
use Rattle.gx_node.specs.Trees.{Child, Node}
use Rattle.gx_node.specs.Steps.{ChangesOnly}
use Rattle.gx_node.specs.Reach.{TraversalItem}
use Rattle.gx_node.specs.Store.{Store, tree_of}
use Rattle.gx_tree.specs.declared.descent.Way.{Way}
use Rattle.gx_tree.specs.declared.descent.Way.TheVariants.{Again, Add, FullLeaf, FullInner, Down, Widen}
use Rattle.gx_tree.specs.declared.descent.Descended.{Descended}
use Rattle.gx_tree.specs.declared.descent.Descended.TheVariants as did

-- the entry of least penalty, and of such entries the first: its slot, its page and its bound; the node isn't full
pub record IsChoice {B : Type 0} (cost : B → B → ℕ × ℕ) (most : ℕ) (node : Node B) (coming : B) (slot child : ℕ) (bound : B) : Type 0 where
  pub inner : 0 < node.level
  pub room : length node.children < most
  pub at : slice_get node.children slot ≡ Some (record { key = bound; page = child })
  pub least : IsFirstBest costs_less (map (λ c. cost c.key coming) node.children) (length node.children) slot

-- what is done at a node with what was remembered for its page
abbrev pub Descends : {B : Type 0} → (B → B → ℕ × ℕ) → (B → B → B) → ℕ → Node B → ℕ → B → Way B → Type 0
Descends cost joined most node seen coming Again = seen < node.nsn
Descends cost joined most node seen coming Add = (node.nsn ≤ seen) × (node.level ≡ 0) × (length node.pairs < most)
Descends cost joined most node seen coming FullLeaf = (node.nsn ≤ seen) × (node.level ≡ 0) × (most ≤ length node.pairs)
Descends cost joined most node seen coming FullInner = (node.nsn ≤ seen) × (0 < node.level) × (most ≤ length node.children)
Descends {B} cost joined most node seen coming (Down slot child) = (node.nsn ≤ seen) × ((bound : B) × IsChoice cost most node coming slot child bound × (joined bound coming ≡ bound))
Descends {B} cost joined most node seen coming (Widen slot child key) = (node.nsn ≤ seen) × ((bound : B) × IsChoice cost most node coming slot child bound × (key ≡ joined bound coming) × (key ≢ bound))

-- the descent is at this item, and its page says this way
abbrev pub WayAt : {B : Type 0} → (B → B → ℕ × ℕ) → (B → B → B) → ℕ → Store B → TraversalItem → B → Way B → Type 0
WayAt cost joined most s item coming way = Descends cost joined most ((tree_of s).node item.page) item.seen coming way

-- what a step of a descent did to the pages, and the item to which it went down
abbrev pub StepsDown : {B : Type 0} → (B → B → ℕ × ℕ) → (B → B → B) → ℕ → Store B → Store B → TraversalItem → B → Descended B → Type 0
StepsDown cost joined most old new item coming did.Again = WayAt cost joined most old item coming Again × (new ≡ old)
StepsDown cost joined most old new item coming did.Leaf = WayAt cost joined most old item coming Add × (new ≡ old)
StepsDown cost joined most old new item coming did.FullLeaf = WayAt cost joined most old item coming FullLeaf × (new ≡ old)
StepsDown cost joined most old new item coming did.FullInner = WayAt cost joined most old item coming FullInner × (new ≡ old)
StepsDown cost joined most old new item coming (did.Down next) =
    ((slot : ℕ) × WayAt cost joined most old item coming (Down slot next.page)) × (next.seen ≡ old.counter) × (new ≡ old)
StepsDown {B} cost joined most old new item coming (did.Widened next slot key) =
    WayAt cost joined most old item coming (Widen slot next.page key) × (next.seen ≡ old.counter)
    × ((c : Child B) → slice_get ((tree_of old).node item.page).children slot ≡ Some c
    → ChangesOnly (tree_of old) (tree_of new) item.page ((tree_of old).node item.page).pairs
    (slice_set ((tree_of old).node item.page).children slot (bounded_by key c)))

-- whether a bound was widened, so that the page has changed
abbrev pub is_widened : {B : Type 0} → Descended B → Bool
is_widened (did.Widened next slot key) = true
is_widened (did.Down next) = false
is_widened did.Again = false
is_widened did.Leaf = false
is_widened did.FullLeaf = false
is_widened did.FullInner = false

-- the slot whose bound was widened, if one was, is below so many
abbrev pub SlotBelow : {B : Type 0} → ℕ → Descended B → Type 0
SlotBelow most (did.Widened next slot key) = slot < most
SlotBelow most (did.Down next) = Unit {0}
SlotBelow most did.Again = Unit {0}
SlotBelow most did.Leaf = Unit {0}
SlotBelow most did.FullLeaf = Unit {0}
SlotBelow most did.FullInner = Unit {0}

-- the item to which it went down, if it did
abbrev pub next_of : {B : Type 0} → Descended B → Option TraversalItem
next_of (did.Down next) = Some next
next_of (did.Widened next slot key) = Some next
next_of did.Again = None
next_of did.Leaf = None
next_of did.FullLeaf = None
next_of did.FullInner = None
