-- An insert at work, and what becomes of the tree.
use Rattle.std.specs.Prelude.{◌≡◌, ◌≢◌, ◌<◌, ◌≤◌, ◌-◌, ◌^◌, ◌⊎◌, ℕ, Bool, true, false, not, ◌&&◌, List}
use Rattle.gx_machine.specs.declared.entry.Entry.{Entry}
use Rattle.gx_node.specs.Lists.{how_many}
use Rattle.gx_node.specs.Trees.{Pair, Tree, Rules, Used, size, standing, is_entry}
use Rattle.gx_node.specs.Legal.{Legal}
use Rattle.gx_node.specs.Looks.{from_root}
use Rattle.gx_node.specs.Steps.{Step, AreSteps, IsAdding, IsRootSplit, IsSplit, IsSweep}
use Rattle.gx_node.specs.Writes.{IsDescent, descent_left, is_sweepable, must_restart}
use Rattle.gx_node.specs.Keyed.{AreKeys}
use Rattle.gx_tree.specs.Writing.{live}
use Rattle.gx_memory_tree.specs.declared.inserts.DescentPlace.{DescentPlace}

-- a test that live pairs alone pass
abbrev pub live_and : {B : Type 0} → (Pair B → Bool) → Pair B → Bool
live_and test x = not x.marked && test x

-- the tree's steps led from the old tree to the new one; the live pairs are the same, and of no pairs there are more
pub record MakesWay {B : Type 0} (r : Rules B) (old new : Tree B) : Type 0 where
  pub steps : List (Step B)
  pub are : AreSteps r old steps new
  pub same : (test : Pair B → Bool) → standing (live_and test) new ≡ standing (live_and test) old
  pub no_more : (test : Pair B → Bool) → standing test new ≤ standing test old

-- a page, and the inner page above it from which an insert came to it
pub record CameFrom {B : Type 0} (t : Tree B) (parent page : ℕ) : Type 0 where
  pub there : Used t parent
  pub inner : 0 < (t.node parent).level
  pub apart : parent ≢ page

-- an insert is at a place that has this page: the root, or a page to which it came from another
abbrev pub IsPlace : {B : Type 0} → Tree B → DescentPlace → Type 0
IsPlace t place = (place.item.page ≡ 1) ⊎ CameFrom t place.parent place.item.page

-- an insert at work: the tree is legal, its keys are the class's, it doesn't have the pair, and the way to its leaf
-- goes on from this place
pub record IsInsert {B : Type 0} (r : Rules B) (IsKey : B → Type 0) (t : Tree B) (entry : Entry B) (place : DescentPlace) : Type 0 where
  pub legal : Legal r t
  pub keys : AreKeys IsKey t
  pub absent : standing (is_entry r entry.row entry.key) t ≡ 0
  pub descent : IsDescent r t place.item entry.key
  pub came : IsPlace t place

-- where an insert begins
abbrev pub from_top : {B : Type 0} → Tree B → DescentPlace
from_top t = record { item = from_root t; parent = 0 }

-- what an insert that runs alone has left, since pages are numbered up to this one, and no session claims a pair
abbrev pub insert_left : {B : Type 0} → Rules B → Tree B → DescentPlace → ℕ
insert_left r t place = descent_left r t (2 ^ 32 - 1) (λ x. false) place.parent place.item

-- an insert goes on from a place to the next: it has less left
pub record GoesOn {B : Type 0} (r : Rules B) (IsKey : B → Type 0) (old new : Tree B) (entry : Entry B) (place next : DescentPlace) : Type 0 where
  pub way : MakesWay r old new
  pub insert : IsInsert r IsKey new entry next
  pub less : insert_left r new next < insert_left r old place

-- an insert came to its end: once there was way for it, the pair was added
pub record HasAdded {B : Type 0} (r : Rules B) (IsKey : B → Type 0) (old new : Tree B) (entry : Entry B) : Type 0 where
  pub middle : Tree B
  pub way : MakesWay r old middle
  pub leaf : ℕ
  pub adding : IsAdding r middle new leaf (live entry)
  pub legal : Legal r new
  pub keys : AreKeys IsKey new

-- ---- on the way to a place

-- a descent is at a place with a full node of a legal tree
pub record IsFullAt {B : Type 0} (r : Rules B) (t : Tree B) (place : DescentPlace) : Type 0 where
  pub legal : Legal r t
  pub used : Used t place.item.page
  pub came : IsPlace t place
  pub full : r.most ≤ size (t.node place.item.page)

-- a full node was split, below its parent or as the root
pub record HasSplit {B : Type 0} (r : Rules B) (IsKey : B → Type 0) (old new : Tree B) (place : DescentPlace) : Type 0 where
  pub sides : List Bool
  pub left : B
  pub right : B
  pub split : IsRootSplit r old new sides left right ⊎ IsSplit r old new place.item.page place.parent sides left right
  pub keys : IsKey left × IsKey right

-- a full node was split; or its parent has no place for that, and nothing has changed
abbrev pub SplitsOrNot : {B : Type 0} → Rules B → (B → Type 0) → Tree B → Tree B → DescentPlace → Type 0
SplitsOrNot r IsKey old new place = HasSplit r IsKey old new place ⊎ ((new ≡ old) × (must_restart r old place.parent place.item ≡ true))

-- the marked pairs of a leaf went, of which there were some
pub record HasSwept {B : Type 0} (old new : Tree B) (page : ℕ) : Type 0 where
  pub sweep : IsSweep old new page (λ x. false)
  pub some : 0 < how_many (is_sweepable (λ x. false)) (old.node page).pairs

-- a full leaf was swept, and the insert stays; or its node was split, or could not be, and it begins again
abbrev pub MakesRoom : {B : Type 0} → Rules B → (B → Type 0) → Tree B → Tree B → DescentPlace → DescentPlace → Type 0
MakesRoom r IsKey old new place next = (HasSwept old new place.item.page × (next ≡ place)) ⊎ (SplitsOrNot r IsKey old new place × (next ≡ from_top new) × (new.used < 2 ^ 32))
