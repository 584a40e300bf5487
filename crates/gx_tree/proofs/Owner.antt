-- What a step leaves that was refused.
use Rattle.std.proofs.Common.{◌≡◌, ℕ, refl}
use Rattle.std.specs.Prelude.{Result, Ok, Err, OnErr}
use Rattle.gx_node.specs.declared.fault.SplitFault.{SplitFault}
use Rattle.gx_node.specs.declared.fault.SplitFault.TheVariants.{PagesFull, Step}
use Rattle.gx_node.specs.declared.fault.StepFault.TheVariants.{Damaged, Pages}
use Rattle.gx_node.specs.Owner.{IsWhyOfSplit, split_fails}

-- a fault that isn't of pages needs no reason
pub why_any : {F : Type 0} (why : F → Type 0) (fault : SplitFault F) → IsWhyOfSplit (λ _. ⊥) fault → IsWhyOfSplit why fault
why_any why PagesFull is = is
why_any why (Step Damaged) is = is
why_any why (Step (Pages fault)) is = absurd is

-- and says of no call that it failed
pub fails_none : {F : Type 0} (fails : F → ℕ) (fault : SplitFault F) → IsWhyOfSplit (λ _. ⊥) fault → split_fails fails fault ≡ 0
fails_none fails PagesFull is = refl
fails_none fails (Step Damaged) is = refl
fails_none fails (Step (Pages fault)) is = absurd is

-- what holds, holds if a step was refused
pub where_refused : {A F P : Type 0} (result : Result A F) → P → OnErr result P
where_refused (Ok done) holds = tt
where_refused (Err fault) holds = holds
