-- Any step, and any list of them, keeps a tree legal and a look going.
use Rattle.std.proofs.Common.{Bool, List, [], ◌∷◌, sym, subst}
use Rattle.gx_node.specs.Lists.{Each}
use Rattle.std.proofs.Common.{ℕ}
use Rattle.gx_node.specs.Trees.{Pair, Tree, Rules, IsLawful, is_entry}
use Rattle.gx_node.specs.Legal.{Legal}
use Rattle.gx_node.specs.Steps.{Step, Splits, SplitsRoot, Widens, Adds, Marks, Sweeps, IsStep, AreSteps, LeavesAlone}
use Rattle.gx_node.specs.Reach.{TraversalItem}
use Rattle.gx_node.specs.Looks.{IsLook}
use Rattle.gx_node.proofs.Splits.{legal_split}
use Rattle.gx_node.proofs.Roots.{legal_root}
use Rattle.gx_node.proofs.PageSteps.{legal_widened, legal_added, legal_marked, legal_swept}
use Rattle.gx_node.specs.Writes.{IsDescent, IsSeek}
use Rattle.gx_node.proofs.Sums.{each_always}
use Rattle.gx_node.proofs.LookSteps.{look_step}
use Rattle.gx_node.proofs.DescentSteps.{descent_step}
use Rattle.gx_node.proofs.SeekSteps.{seek_step}

module _ {K : Type 0} (r : Rules K) (law : IsLawful r) where
  pub legal_step : (old new : Tree K) (step : Step K) → Legal r old → IsStep r old step new → Legal r new
  legal_step old new (Splits n p sides left right) legal step = legal_split r law old new n p sides left right legal step
  legal_step old new (SplitsRoot sides left right) legal step = legal_root r old new sides left right legal step law.two
  legal_step old new (Widens a x coming key) legal step = legal_widened r old new a legal law x coming key step
  legal_step old new (Adds a x) legal step = legal_added r old new a legal law x step
  legal_step old new (Marks a row key mark) legal step = legal_marked r old new a legal row key mark step
  legal_step old new (Sweeps a claimed) legal step = legal_swept r old new a legal claimed step

  pub legal_steps : (steps : List (Step K)) (old new : Tree K) → Legal r old → AreSteps r old steps new → Legal r new
  legal_steps [] old new legal are = subst (λ t. Legal r t) (sym are) legal
  legal_steps (step ∷ steps) old new legal are = legal_steps steps are.0 new (legal_step old are.0 step legal are.1) are.2

  -- what each step keeps on legal trees, a list of them keeps
  pub kept_by_steps : (Alone : Step K → Type 0) (P : Tree K → Type 0)
      → ((old new : Tree K) (step : Step K) → Legal r old → IsStep r old step new → Alone step → P old → P new)
      → (steps : List (Step K)) (old new : Tree K) → Legal r old → AreSteps r old steps new → Each Alone steps → P old → P new
  kept_by_steps Alone P keeps [] old new legal are alone holds = subst P (sym are) holds
  kept_by_steps Alone P keeps (step ∷ steps) old new legal are alone holds =
      kept_by_steps Alone P keeps steps are.0 new (legal_step old are.0 step legal are.1) are.2 alone.1
      (keeps old are.0 step legal are.1 alone.0 holds)

  pub look_steps : (wants : Pair K → Bool) (stack : List TraversalItem) (found : List (Pair K)) (steps : List (Step K)) (old new : Tree K)
      → Legal r old → AreSteps r old steps new → Each (LeavesAlone r wants) steps → IsLook old wants stack found → IsLook new wants stack found
  look_steps wants stack found =
      kept_by_steps (LeavesAlone r wants) (λ t. IsLook t wants stack found)
      (λ old new step legal is alone look. look_step r law wants stack found old new step legal is alone look)

  pub descent_steps : (coming : K) (item : TraversalItem) (steps : List (Step K)) (old new : Tree K)
      → Legal r old → AreSteps r old steps new → IsDescent r old item coming → IsDescent r new item coming
  descent_steps coming item steps old new legal are descent =
      kept_by_steps (λ step. Unit {0}) (λ t. IsDescent r t item coming)
      (λ old new step legal is alone d. descent_step r coming law item old new step legal is d) steps old new legal are
      (each_always (λ step. Unit {0}) (λ step. tt) steps) descent

  pub seek_steps : (a row : ℕ) (key : K) (steps : List (Step K)) (old new : Tree K)
      → Legal r old → AreSteps r old steps new → Each (LeavesAlone r (is_entry r row key)) steps → IsSeek r old a row key → IsSeek r new a row key
  seek_steps a row key =
      kept_by_steps (LeavesAlone r (is_entry r row key)) (λ t. IsSeek r t a row key)
      (λ old new step legal is alone seek. seek_step r a row key law old new step legal is alone seek)
