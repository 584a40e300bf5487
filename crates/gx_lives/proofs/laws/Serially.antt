-- A run's searches, in terms of its own steps.
use Rattle.std.proofs.Common.{ℕ, List, [], ◌∷◌, ◌++◌, refl, subst}
use Rattle.gx_machine.specs.declared.entry.Entry.{Entry}
use Rattle.gx_machine.specs.declared.reply.Reply.TheVariants.{Found}
use Rattle.gx_machine.specs.Invariants.{KeptInOrder}
use Rattle.gx_machine.specs.Keys.{Keys}
use Rattle.gx_machine.specs.Machine.{Machine}
use Rattle.gx_machine.specs.Outcomes.{IsAnswered}
use Rattle.gx_machine.specs.Runs.{Answers, IsRun, IsStep, Step}
use Rattle.gx_lives.specs.Serially.{FindExactly}

module _ {B : Type 0} (k : Keys B) where
  -- a run of two parts
  split : (before after : List (Step B)) (old new : Machine B) → IsRun k old (before ++ after) new → (middle : Machine B) × IsRun k old before middle × IsRun k middle after new
  split [] after old new run = (old, refl, run)
  split (step ∷ before) after old new run =
      let rest = split before after run.0 new run.2 in (rest.0, (run.0, run.1, rest.1), rest.2)

  pub finds_exactly : ((old new : Machine B) (steps : List (Step B)) → KeptInOrder k old → IsRun k old steps new → KeptInOrder k new)
      → ((old new : Machine B) (s : ℕ) (entries : List (Entry B)) → KeptInOrder k old → IsStep k old (Answers s (Found entries)) new → IsAnswered k s old entries)
      → (start new : Machine B) (steps : List (Step B)) → KeptInOrder k start → IsRun k start steps new → FindExactly k start steps
  finds_exactly in_order found start new steps kept run = λ s entries before after parts.
      let both = split before (Answers s (Found entries) ∷ after) start new (subst (λ (all : List (Step B)). IsRun k start all new) parts run) in
      (both.0, both.1, found both.0 both.2.0 s entries (in_order start both.0 before kept both.1) both.2.1)
