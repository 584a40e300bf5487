-- Which rule of a legal tree is broken, and by which page.
use Rattle.std.specs.Prelude.{◌≡◌, ℕ, suc, ◌+◌, ◌<◌, ◌≤◌, ◌⊎◌, List, [], ◌∷◌, length, slice_get, Some}
use Rattle.gx_node.specs.Trees.{Tree, Rules, Used, size, times, parents, leaves, standing, is_entry}
use Rattle.gx_node.specs.Legal.{Bounds}
use Rattle.gx_legality.specs.declared.fault.Rule.{Rule}
use Rattle.gx_legality.specs.declared.fault.Rule.TheVariants.{SplitsOutnumberPages, RootIsLeaf, TooManyEntries, NoChild, SequenceNumber, ChildPage, ChildLevel, Bound, NamedTwice, NotNamed, Chain, OffTheChain, PairTwice, PairOutOfPlace}

-- from a page on rightlinks lead over these pages, each of them a leaf, to another
abbrev pub Leads : {K : Type 0} → Tree K → ℕ → List ℕ → ℕ → Type 0
Leads t a [] p = a ≡ p
Leads t a (q ∷ qs) p = (a ≡ q) × Used t q × ((t.node q).level ≡ 0) × Leads t (t.node q).right qs p

-- this holds of the element in this slot of a list
abbrev pub IsAtSlot : {X : Type 0} → (X → Type 0) → ℕ → List X → Type 0
IsAtSlot {X} Q slot xs = (x : X) × (slice_get xs slot ≡ Some x) × Q x

abbrev pub Breaks : {K : Type 0} → Rules K → Tree K → ℕ → Rule → Type 0
Breaks r t p SplitsOutnumberPages = (p ≡ 1) × (t.used < t.counter + 2)
Breaks r t p RootIsLeaf = (p ≡ 1) × ((t.node 1).level ≡ 0)
Breaks r t p TooManyEntries = Used t p × (r.most < size (t.node p))
Breaks r t p NoChild = Used t p × (0 < (t.node p).level) × (length (t.node p).children ≡ 0)
Breaks r t p SequenceNumber = Used t p × (t.counter < (t.node p).nsn)
Breaks r t p (ChildPage slot) = Used t p × IsAtSlot (λ c. ¬ ((2 ≤ c.page) × (c.page ≤ t.used))) slot (t.node p).children
Breaks r t p (ChildLevel slot) = Used t p × IsAtSlot (λ c. ¬ (suc (t.node c.page).level ≡ (t.node p).level)) slot (t.node p).children
Breaks r t p (Bound slot) = Used t p × IsAtSlot (λ c. ¬ Bounds r c.key (t.node c.page)) slot (t.node p).children
Breaks r t p NamedTwice = (2 ≤ p) × (p ≤ t.used) × (2 ≤ parents t p)
Breaks r t p NotNamed = (2 ≤ p) × (p ≤ t.used) × (parents t p ≡ 0)
Breaks r t p Chain = (0 < p) × (pages : List ℕ) × Leads t 2 pages p × ((Used t p → (t.node p).level ≡ 0 → ⊥) ⊎ (0 < times p pages))
Breaks r t p OffTheChain = Used t p × ((t.node p).level ≡ 0) × (times p (leaves t) ≡ 0)
Breaks {K} r t p PairTwice = (p ≡ 2) × (row : ℕ) × (key : K) × (2 ≤ standing (is_entry r row key) t)
Breaks r t p PairOutOfPlace = ⊥
