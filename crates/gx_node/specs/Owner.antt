-- What a step leaves of its pages' owner.
use Rattle.std.specs.Prelude.{◌≡◌, ℕ, ◌+◌, ◌≢◌, ◌≤◌, ◌⊎◌, Bool, true, false, List, [], ◌∷◌, ◌++◌, map, Result, MatchResult}
use Rattle.gx_node.specs.Trees.{times}
use Rattle.gx_node.specs.declared.fault.StepFault.{StepFault}
use Rattle.gx_node.specs.declared.fault.StepFault.TheVariants.{Damaged, Pages}
use Rattle.gx_node.specs.declared.fault.LookFault.{LookFault}
use Rattle.gx_node.specs.declared.fault.LookFault.TheVariants as look
use Rattle.gx_node.specs.declared.fault.SplitFault.{SplitFault}
use Rattle.gx_node.specs.declared.fault.SplitFault.TheVariants as split

-- whatever has only gone on since a moment still has
abbrev pub KeepsSince : {P : Type 0} → (P → P → ℕ → Type 0) → P → P → Type 0
KeepsSince {P} since old new = (was : P) (q : ℕ) → since was old q → since was new q

-- the same, except for one page
abbrev pub KeepsSinceBut : {P : Type 0} → (P → P → ℕ → Type 0) → ℕ → P → P → Type 0
KeepsSinceBut {P} since page old new = (was : P) (q : ℕ) → q ≢ page → since was old q → since was new q

-- a step that pages were refused for says why
abbrev pub IsWhy : {F : Type 0} → (F → Type 0) → StepFault F → Type 0
IsWhy why (Pages fault) = why fault
IsWhy why Damaged = Unit {0}

-- and so do a look, and a split
abbrev pub IsWhyOfLook : {F : Type 0} → (F → Type 0) → LookFault F → Type 0
IsWhyOfLook why (look.Step fault) = IsWhy why fault
IsWhyOfLook why look.Memory = Unit {0}

abbrev pub IsWhyOfSplit : {F : Type 0} → (F → Type 0) → SplitFault F → Type 0
IsWhyOfSplit why (split.Step fault) = IsWhy why fault
IsWhyOfSplit why split.PagesFull = Unit {0}

-- why pages are refused from here on is why they are refused from before on
abbrev pub IsWhyLater : {P F : Type 0} → (P → P → F → Type 0) → P → P → Type 0
IsWhyLater {P} {F} why old new = (later : P) (fault : F) → why new later fault → why old later fault

-- how many calls failed if a step is refused, a look, or a split: as many as its pages' fault says, and else none
abbrev pub step_fails : {F : Type 0} → (F → ℕ) → StepFault F → ℕ
step_fails fails (Pages fault) = fails fault
step_fails fails Damaged = 0

abbrev pub look_fails : {F : Type 0} → (F → ℕ) → LookFault F → ℕ
look_fails fails (look.Step fault) = step_fails fails fault
look_fails fails look.Memory = 0

abbrev pub split_fails : {F : Type 0} → (F → ℕ) → SplitFault F → ℕ
split_fails fails (split.Step fault) = step_fails fails fault
split_fails fails split.PagesFull = 0

-- no call has failed if the result is well, and else as many as its fault says
abbrev pub CountsFaults : {A F : Type 0} → (F → ℕ) → ℕ → ℕ → Result A F → Type 0
CountsFaults fails before after result = MatchResult result (λ _. after ≡ before) (λ why. after ≡ before + fails why)

-- what is asked of the owner before anything is changed: to bring pages; to make ready to change pages, and to take so many
pub data Asking : Type 0 where
  Brings : List ℕ → Asking
  Prepares : List ℕ → ℕ → Asking

-- what was asked since a moment is what had been asked before, and these, the last first
abbrev pub Asks : {P : Type 0} → (P → P → List Asking → Type 0) → List Asking → P → P → Type 0
Asks {P} asked these old new = (was : P) (before : List Asking) → asked was old before → asked was new (these ++ before)

-- a step that was refused has asked for nothing, or for its pages alone
abbrev pub AsksAtMost : {P : Type 0} → (P → P → List Asking → Type 0) → List ℕ → P → P → Type 0
AsksAtMost asked pages old new = Asks asked [] old new ⊎ Asks asked (Brings pages ∷ []) old new

-- what a step asks for that reads pages, and makes ready to change them if it writes
abbrev pub to_write : Bool → List ℕ → ℕ → List Asking
to_write true pages taken = Prepares pages taken ∷ Brings pages ∷ []
to_write false pages taken = Brings pages ∷ []

-- a step that writes and was refused has asked for no more than that
abbrev pub AsksToWrite : {P : Type 0} → (P → P → List Asking → Type 0) → List ℕ → ℕ → P → P → Type 0
AsksToWrite asked pages taken old new = AsksAtMost asked pages old new ⊎ Asks asked (to_write true pages taken) old new

-- what is asked by steps that read a page each
abbrev pub brings : List ℕ → List Asking
brings pages = map (λ p. Brings (p ∷ [])) pages

-- steps that read a page each have read none twice
pub record AsksEachOnce {P : Type 0} (asked : P → P → List Asking → Type 0) (old new : P) : Type 0 where
  pub pages : List ℕ
  pub asks : Asks asked (brings pages) old new
  pub once : (q : ℕ) → times q pages ≤ 1
