-- Laws of a session's work: what the tree's laws say of it, for what its slot wants.
use Rattle.std.specs.Prelude.{ℕ, ◌≡◌, ◌≢◌, ◌<◌, ◌⊎◌, Bool, true, Option, None, Some, List, []}
use Rattle.gx_machine.specs.declared.entry.Entry.{Entry}
use Rattle.gx_machine.specs.declared.call.Call.{Call}
use Rattle.gx_machine.specs.declared.call.Call.TheVariants.{Insert}
use Rattle.gx_machine.specs.Keys.{Keys}
use Rattle.gx_machine.specs.Sets.{has}
use Rattle.gx_node.specs.Trees.{Pair, Tree, Used}
use Rattle.gx_node.specs.Reach.{TraversalItem}
use Rattle.gx_node.specs.Looks.{IsLook}
use Rattle.gx_node.specs.Writes.{IsDescent, IsSeek}
use Rattle.gx_events.specs.Slots.{Slot, Free, Working, Undoing, Waiting, noted}
use Rattle.gx_events.specs.Wants.{slot_wants}
use Rattle.gx_index_laws.specs.Classes.{Class, pair_of}
use Rattle.gx_index_laws.specs.States.{Work, Rests, Looks, Descends, Seeks}

-- the call that is open
abbrev pub open_call : {B : Type 0} → Slot B → Option (Call B)
open_call Free = None
open_call (Working locks notes call) = call
open_call (Undoing locks notes) = None
open_call (Waiting number) = None

-- the slot wants this pair of the tree
abbrev pub wants_pair : {B : Type 0} → Class B → Slot B → Pair B → Bool
wants_pair c slot x = slot_wants c.keys slot (pair_of x)

-- a descent is at the root, where it begins, or came from an inner page in use
abbrev pub CameFrom : {B : Type 0} → Tree B → ℕ → ℕ → Type 0
CameFrom t parent page = ((parent ≡ 0) × (page ≡ 1)) ⊎ (Used t parent × (0 < (t.node parent).level))

-- a descent is an open insert's, and nothing that it wants is in the tree: its look has ended with nothing found; and
-- it came from another page, if any, which is above a leaf
pub record DescendsFor {B : Type 0} (c : Class B) (t : Tree B) (slot : Slot B) (e : Entry B) (parent : ℕ) (item : TraversalItem) : Type 0 where
  pub call : open_call slot ≡ Some (Insert e)
  pub looked : IsLook t (wants_pair c slot) [] []
  pub descent : IsDescent c.rules t item e.key
  pub apart : parent ≢ item.page
  pub came : CameFrom t parent item.page

-- the pair that is sought is wanted, live or not, and is in the leaf or to the right of it
pub record SeeksFor {B : Type 0} (c : Class B) (t : Tree B) (slot : Slot B) (e : Entry B) (leaf : ℕ) : Type 0 where
  pub wanted : (live : Bool) → slot_wants c.keys slot (record { entry = e; live = live }) ≡ true
  pub seek : IsSeek c.rules t leaf e.row e.key

-- a session's work is right
abbrev pub DoesWork : {B : Type 0} → Class B → Tree B → Slot B → Work B → Type 0
DoesWork c t slot Rests = Unit {0}
DoesWork c t slot (Looks stack found) = IsLook t (wants_pair c slot) stack found
DoesWork c t slot (Descends e parent item) = DescendsFor c t slot e parent item
DoesWork c t slot (Seeks e leaf) = SeeksFor c t slot e leaf

-- what an abort has restored is as live as its note says
abbrev pub AreRestored : {B : Type 0} → Keys B → (Entry B → Bool) → Slot B → List (Entry B) → Type 0
AreRestored k live Free restored = Unit {0}
AreRestored k live (Working locks notes call) restored = Unit {0}
AreRestored {B} k live (Undoing locks notes) restored =
    (e : Entry B) (was : Bool) → has k e restored ≡ true → noted k e notes ≡ Some was → live e ≡ was
AreRestored k live (Waiting number) restored = Unit {0}
