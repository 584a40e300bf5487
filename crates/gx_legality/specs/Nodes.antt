-- What a node is tested for, by itself and below its parent.
use Rattle.std.specs.Prelude.{◌≡◌, ℕ, suc, ◌<◌, ◌≤◌, length}
use Rattle.gx_node.specs.Trees.{Node, Rules, size}
use Rattle.gx_node.specs.Legal.{Bounds}
use Rattle.gx_legality.specs.declared.fault.Rule.{Rule}
use Rattle.gx_legality.specs.declared.fault.Rule.TheVariants.{SplitsOutnumberPages, RootIsLeaf, TooManyEntries, NoChild, SequenceNumber, ChildPage, ChildLevel, Bound, NamedTwice, NotNamed, Chain, OffTheChain, PairTwice, PairOutOfPlace}

-- a node has room for its entries, one above the leaves has a child, and its number isn't ahead of the counter
pub record FitsAlone {K : Type 0} (most counter : ℕ) (node : Node K) : Type 0 where
  pub room : size node ≤ most
  pub inner : 0 < node.level → 0 < length node.children
  pub nsn : node.nsn ≤ counter

-- it fails in this
abbrev pub FailsAlone : {K : Type 0} → ℕ → ℕ → Node K → Rule → Type 0
FailsAlone most counter node TooManyEntries = most < size node
FailsAlone most counter node NoChild = (0 < node.level) × (length node.children ≡ 0)
FailsAlone most counter node SequenceNumber = counter < node.nsn
FailsAlone most counter node SplitsOutnumberPages = ⊥
FailsAlone most counter node RootIsLeaf = ⊥
FailsAlone most counter node (ChildPage slot) = ⊥
FailsAlone most counter node (ChildLevel slot) = ⊥
FailsAlone most counter node (Bound slot) = ⊥
FailsAlone most counter node NamedTwice = ⊥
FailsAlone most counter node NotNamed = ⊥
FailsAlone most counter node Chain = ⊥
FailsAlone most counter node OffTheChain = ⊥
FailsAlone most counter node PairTwice = ⊥
FailsAlone most counter node PairOutOfPlace = ⊥

-- a node below an entry of a node of this level
pub record FitsBelow {K : Type 0} (r : Rules K) (above : ℕ) (key : K) (node : Node K) : Type 0 where
  pub level : suc node.level ≡ above
  pub bounds : Bounds r key node

-- below the entry of this slot it fails in this
abbrev pub FailsBelow : {K : Type 0} → Rules K → ℕ → K → ℕ → Node K → Rule → Type 0
FailsBelow r above key slot node (ChildLevel at) = (at ≡ slot) × ¬ (suc node.level ≡ above)
FailsBelow r above key slot node (Bound at) = (at ≡ slot) × ¬ Bounds r key node
FailsBelow r above key slot node SplitsOutnumberPages = ⊥
FailsBelow r above key slot node RootIsLeaf = ⊥
FailsBelow r above key slot node TooManyEntries = ⊥
FailsBelow r above key slot node NoChild = ⊥
FailsBelow r above key slot node SequenceNumber = ⊥
FailsBelow r above key slot node (ChildPage at) = ⊥
FailsBelow r above key slot node NamedTwice = ⊥
FailsBelow r above key slot node NotNamed = ⊥
FailsBelow r above key slot node Chain = ⊥
FailsBelow r above key slot node OffTheChain = ⊥
FailsBelow r above key slot node PairTwice = ⊥
FailsBelow r above key slot node PairOutOfPlace = ⊥
