-- The keys of a tree as those of a class.
use Rattle.std.specs.Prelude.{ℕ}
use Rattle.std.specs.Ordering.{is_eq}
use Rattle.gx_machine.specs.Keys.{Members}
use Rattle.gx_node.specs.Lists.{Each}
use Rattle.gx_node.specs.Trees.{Tree, Rules, Used}
use Rattle.gx_node.specs.Steps.{Step, Splits, SplitsRoot, Widens, Adds, Marks, Sweeps}

-- what the tree's laws know of the keys of a type, by its trait, with so many entries a node
abbrev pub rules_of : {B : Type 0} → Members B → ℕ → Rules B
rules_of shape most = record { covers = λ a b. shape.inside b a; same = λ a b. is_eq (shape.cmp a b); most = most }

-- each key of the tree is a key of the class
pub record AreKeys {B : Type 0} (IsKey : B → Type 0) (t : Tree B) : Type 0 where
  pub pairs : (p : ℕ) → Used t p → Each (λ x. IsKey x.key) (t.node p).pairs
  pub children : (p : ℕ) → Used t p → Each (λ c. IsKey c.key) (t.node p).children

-- what a step writes of keys that weren't there are keys of the class
abbrev pub BringsKeys : {B : Type 0} → (B → Type 0) → Step B → Type 0
BringsKeys IsKey (Splits n p sides left right) = IsKey left × IsKey right
BringsKeys IsKey (SplitsRoot sides left right) = IsKey left × IsKey right
BringsKeys IsKey (Widens a x coming key) = IsKey key
BringsKeys IsKey (Adds a x) = IsKey x.key
BringsKeys IsKey (Marks a row key mark) = Unit {0}
BringsKeys IsKey (Sweeps a claimed) = Unit {0}
