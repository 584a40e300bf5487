-- What a test leaves of its pages' owner, and why it was refused.
use Rattle.std.specs.Prelude.{◌≡◌, ℕ, IfErr, Result}
use Rattle.gx_node.specs.Owner.{KeepsSince}
use Rattle.gx_node.specs.Store.{Store, Stays, tree_of}
use Rattle.gx_node.specs.Trees.{Rules, Tree, Used}
use Rattle.gx_legality.specs.Breaks.{Breaks}
use Rattle.gx_legality.specs.declared.fault.LegalityFault.{LegalityFault}
use Rattle.gx_legality.specs.declared.fault.LegalityFault.TheVariants.{Memory, Pages, Broken, Unsteady}
use Rattle.gx_legality.specs.declared.fault.Rule.{Rule}

-- pages were read, and nothing else was done
pub record OnlyReads {P B : Type 0} (steady : P → Type 0) (store : P → Store B) (since : P → P → ℕ → Type 0) (old new : P) : Type 0 where
  pub stays : Stays (steady old) (store old) (store new)
  pub still : steady old → steady new
  pub goes_on : KeepsSince since old new

-- a page was held at some moment, up to which pages were read since another and nothing else was done
pub record WasHeld {P B : Type 0} (steady : P → Type 0) (store : P → Store B) (since : P → P → ℕ → Type 0) (held : P → ℕ → Type 0) (old : P) (page : ℕ) : Type 0 where
  pub moment : P
  pub reads : OnlyReads steady store since old moment
  pub is : held moment page

-- a test that takes no memory says why it was refused, if pages were
abbrev pub IsWhy : {F : Type 0} → (F → Type 0) → LegalityFault F → Type 0
IsWhy why (Pages fault) = why fault
IsWhy why Memory = ⊥
IsWhy why (Broken page rule) = Unit {0}
IsWhy why Unsteady = Unit {0}

-- one that takes memory first does too: it is refused memory before any page is read
abbrev pub IsWhyBehind : {P F : Type 0} → P → P → (F → Type 0) → LegalityFault F → Type 0
IsWhyBehind old new why (Pages fault) = why fault
IsWhyBehind old new why Memory = new ≡ old
IsWhyBehind old new why (Broken page rule) = Unit {0}
IsWhyBehind old new why Unsteady = Unit {0}

-- how many calls failed if a test is refused: as many as its pages' fault says, and else none
abbrev pub test_fails : {F : Type 0} → (F → ℕ) → LegalityFault F → ℕ
test_fails fails (Pages fault) = fails fault
test_fails fails Memory = 0
test_fails fails (Broken page rule) = 0
test_fails fails Unsteady = 0

-- what a test says of pages that show the same each time: the damage that it names is real
abbrev pub IsFound : {F : Type 0} → (ℕ → Rule → Type 0) → LegalityFault F → Type 0
IsFound breaks (Broken page rule) = breaks page rule
IsFound breaks Unsteady = ⊥
IsFound breaks Memory = Unit {0}
IsFound breaks (Pages fault) = Unit {0}

-- a test that is refused names a rule that the tree breaks
abbrev pub TellsBreak : {T F K : Type 0} → Rules K → Tree K → Result T (LegalityFault F) → Type 0
TellsBreak r t result = IfErr result (IsFound (Breaks r t))

-- each page in use was held, up to which pages were only read
abbrev pub WereHeld : {P B : Type 0} → (P → Type 0) → (P → Store B) → (P → P → ℕ → Type 0) → (P → ℕ → Type 0) → P → Type 0
WereHeld steady store since held old = (page : ℕ) → Used (tree_of (store old)) page → WasHeld steady store since held old page
