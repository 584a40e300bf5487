-- What a sweep removes from a leaf, by its plan.
use Rattle.std.specs.Prelude.{◌≡◌, ℕ, suc, ◌==◌, Bool, true, false, List, [], ◌∷◌, length, map}
use Rattle.gx_machine.specs.declared.entry.Entry.{Entry}
use Rattle.gx_node.specs.Edits.{entry_of}
use Rattle.gx_node.specs.Lists.{staying}
use Rattle.gx_node.specs.Trees.{Node}
use Rattle.gx_node.specs.Steps.{ChangesOnly}
use Rattle.gx_node.specs.Writes.{is_sweepable}
use Rattle.gx_node.specs.Owner.{Asking, Prepares}
use Rattle.gx_node.specs.Store.{Store, tree_of}

-- a leaf's page, and of each of its pairs whether it goes
pub record Planned : Type 0 where
  pub page : ℕ
  pub sides : List Bool

-- the slots of what goes, rising, where the first side is that of this slot
unfoldable pub slots_from : ℕ → List Bool → List ℕ
slots_from n [] = []
slots_from n (true ∷ sides) = n ∷ slots_from (suc n) sides
slots_from n (false ∷ sides) = slots_from (suc n) sides

abbrev pub slots_of : Planned → List ℕ
slots_of plan = slots_from 0 plan.sides

-- whether nothing goes
abbrev pub takes_none : Planned → Bool
takes_none plan = length (slots_of plan) == 0

-- the node is a leaf, with a side for each of its pairs
pub record FitsLeaf {B : Type 0} (plan : Planned) (node : Node B) : Type 0 where
  pub leaf : node.level ≡ 0
  pub childless : node.children ≡ []
  pub as_many : length plan.sides ≡ length node.pairs

-- what goes of a leaf is marked and no session claims it, and all of that goes
pub record PlansSweep {B : Type 0} (claimed : Entry B → Bool) (node : Node B) (plan : Planned) : Type 0 where
  pub leaf : node.level ≡ 0
  pub sides : plan.sides ≡ map (is_sweepable (λ x. claimed (entry_of x))) node.pairs

-- each answer to a claim is what the test says
abbrev pub Answers : {F B : Type 0} → (F → Entry B → Bool → Type 0) → F → (Entry B → Bool) → Type 0
Answers {F} {B} post claimed test = (entry : Entry B) (answer : Bool) → post claimed entry answer → answer ≡ test entry

-- the pairs of these slots go; if there are none nothing has changed
pub record TakesOut {B : Type 0} (plan : Planned) (old new : Store B) : Type 0 where
  pub some : takes_none plan ≡ false → ChangesOnly (tree_of old) (tree_of new) plan.page
      (staying plan.sides ((tree_of old).node plan.page).pairs) ((tree_of old).node plan.page).children
  pub none : takes_none plan ≡ true → new ≡ old

-- what taking out asks for: nothing, if nothing goes
abbrev pub to_take_out : Bool → ℕ → List Asking
to_take_out true page = []
to_take_out false page = Prepares (page ∷ []) 0 ∷ []
