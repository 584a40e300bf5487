-- What the setting of a mark leaves.
use Rattle.std.proofs.Common.{◌≡◌, ◌≢◌, subst, ℕ, Bool, Result, Ok, Err}
use Rattle.gx_disk.specs.Device.{Device}
use Rattle.gx_node.specs.Trees.{Node, Pair, Used}
use Rattle.gx_node.specs.declared.fault.StepFault.{StepFault}
use Rattle.gx_node.specs.declared.fault.StepFault.TheVariants.{Damaged}
use Rattle.gx_node.specs.Reading.{Format}
use Rattle.gx_node.specs.Store.{Store, tree_of}
use Rattle.gx_tree.specs.Calls.{TellsMark}
use Rattle.gx_tree.specs.Seeking.{Seeks}
use Rattle.gx_tree.specs.Writing.{SetsMark}
use Rattle.gx_tree.specs.declared.seek.Sought.{Sought}
use Rattle.gx_tree.specs.declared.seek.Sought.TheVariants.{Here, Right}
use Rattle.gx_store.specs.Standing.{store_of}
use Rattle.gx_store.specs.State.{Shelf}
use Rattle.gx_storage.specs.Changes.{begun}
use Rattle.gx_storage.specs.Changing.{HasWanted}
use Rattle.gx_storage.specs.State.{Volume}

module _ {B : Type 0} (wants : Pair B → Bool) (old new : Store B) (a : ℕ) (marked : Bool) where
  pub unmarked_stays : (sought : Sought) (next : ℕ) → sought ≡ Right next → SetsMark wants old new a marked sought → new ≡ old
  unmarked_stays sought next is did = (subst {A = Sought} (λ s. SetsMark wants old new a marked s) is did).1

-- what was sought in a leaf that is unchanged
pub found_here : {B : Type 0} (wants : Pair B → Bool) (node : Node B) (sought : Sought) (slot : ℕ) (before : Bool) → sought ≡ Here slot before → Seeks wants node sought → HasWanted wants node
found_here wants node sought slot before is seeks = (slot, before, subst {A = Sought} (λ s. Seeks wants node s) is seeks)

pub unmarked_right : {B : Type 0} (wants : Pair B → Bool) (old new : Store B) (a : ℕ) (marked : Bool) (sought : Sought) (next : ℕ) → sought ≡ Right next → new ≡ old
    → Seeks wants ((tree_of new).node a) sought → SetsMark wants old new a marked (Right next)
unmarked_right wants old new a marked sought next is same seeks = (subst {A = Store _} (λ t. Seeks wants ((tree_of t).node a) (Right next)) same (subst {A = Sought} (λ s. Seeks wants ((tree_of new).node a) s) is seeks), same)

-- the mark wasn't set, since the leaf wasn't brought or isn't one
pub unmarked : {B F : Type 0} (wants : Pair B → Bool) (page : ℕ) (mark : Bool) (fault : StepFault F) (steady : Type 0) (old new : Store B) → (steady → new ≡ old)
    → (fault ≡ Damaged → Used (tree_of new) page → ((tree_of new).node page).level ≢ 0) → TellsMark wants page mark (Err fault) steady old new
unmarked {B} {F} wants page mark fault steady old new same damaged = record {
  marked = λ is. tt;
  refused = same;
  damaged = λ is failed.
      (let damage : fault ≡ Damaged = (let both : ◌≡◌ {A = Result Sought (StepFault F)} (Err fault) (Err Damaged) = failed in cc) in
      subst {A = Store B} (λ t. Used (tree_of t) page → ((tree_of t).node page).level ≢ 0) (same is) (damaged damage));
}

-- it wasn't, since the pair isn't in the leaf
pub unmarked_here : {B F : Type 0} (wants : Pair B → Bool) (page : ℕ) (mark : Bool) (next : ℕ) (steady : Type 0) (old new : Store B) → (steady → SetsMark wants old new page mark (Right next))
    → TellsMark {F = F} wants page mark (Ok (Right next)) steady old new
unmarked_here {B} {F} wants page mark next steady old new passes = record {
  marked = passes;
  refused = λ is. tt;
  damaged = λ is failed. absurd (let never : ◌≡◌ {A = Result Sought (StepFault F)} (Ok (Right next)) (Err Damaged) = failed in cc);
}

-- since before the event began
pub marked_since : {B D : Type 0} (f : Format B) (state : D → Device) (v : Volume D) (size : ℕ) (u : Shelf D) (wants : Pair B → Bool) (new : Store B) (a : ℕ) (marked : Bool) (sought found : Sought)
    → u ≡ begun v size → sought ≡ found → SetsMark wants (store_of f (state u.disk).seen u) new a marked sought → SetsMark wants (store_of f (state v.shelf.disk).seen v.shelf) new a marked found
marked_since f state v size u wants new a marked sought found is same did =
    subst {A = Sought} (λ s. SetsMark wants (store_of f (state v.shelf.disk).seen v.shelf) new a marked s) same
    (subst {A = Shelf _} (λ x. SetsMark wants (store_of f (state x.disk).seen x) new a marked sought) is did)
