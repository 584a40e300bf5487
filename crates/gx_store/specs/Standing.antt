-- The pages that a store shows, and the tree's nodes that they are.
use Rattle.std.specs.Prelude.{◌≡◌, ℕ, zero, suc, ◌++◌, ◌∷◌, [], List, Bool, cond, Option, Some, None}
use Rattle.gx_disk.specs.Device.{Device}
use Rattle.gx_page.specs.Contents.{Contents}
use Rattle.gx_page.specs.Reading.{read_of}
use Rattle.gx_node.specs.Reading.{Format}
use Rattle.gx_node.specs.Trees.{Node}
use Rattle.gx_node.specs.Store.{Store, node_of}
use Rattle.gx_pool.specs.Area.{bytes_of}
use Rattle.gx_pool.specs.Laws.{shown}
use Rattle.gx_pool.specs.State.{State, Kept, kept}
use Rattle.gx_store.specs.State.{Shelf, IsSteady, may_go}

abbrev pub standing_by : Bool → Option Kept → Contents → Contents
standing_by goes None on_device = on_device
standing_by goes (Some k) on_device = cond goes on_device k.page

-- the page that a store shows: its frame's while it is dirty or the event holds it, otherwise the device's; so an
-- evicted page is shown as before
unfoldable pub standing : State → List ℕ → ℕ → Contents
standing frames seen page = standing_by (may_go frames page) (kept frames page) (read_of (bytes_of seen page))

-- the nodes of the pages from 1 to a number
unfoldable pub nodes_to : {B : Type 0} → (ℕ → Node B) → ℕ → List (Node B)
nodes_to node zero = []
nodes_to node (suc n) = nodes_to node n ++ node (suc n) ∷ []

-- the node that a page is shown as
abbrev pub standing_node : {B : Type 0} → Format B → State → List ℕ → ℕ → Node B
standing_node f frames seen page = node_of f (standing frames seen page)

-- what the tree's steps see of a store, whose device reads so
abbrev pub store_of : {B D : Type 0} → Format B → List ℕ → Shelf D → Store B
store_of f seen s = record { nodes = nodes_to (standing_node f s.frames seen) s.used; counter = s.counter; room = s.pages }

-- on a device that reads steadily, a page is what is shown of it
abbrev pub StandsAsShown : Device → Type 0
StandsAsShown d = (frames : State) (page : ℕ) → IsSteady d frames → standing frames d.seen page ≡ shown frames d.seen page
