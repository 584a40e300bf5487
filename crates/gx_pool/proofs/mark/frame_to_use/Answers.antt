use Rattle.std.proofs.Common.{◌≡◌, ℕ, true, false, Bool, Option, Some, None, IfSome, arith}
use Rattle.gx_pool.proofs.mark.frame_to_use.Goals as goal

-- what holds anyway holds of what was found
of_any : (o : Option ℕ) (P : ℕ → Type 0) → ((i : ℕ) → P i) → IfSome o P
of_any None P all = tt
of_any (Some i) P all = all i

true_false : (b : Bool) → b ≡ true → b ≡ false → ⊥
true_false b is not_so = grind arith

pub returns-in-Some-clause-first : goal.returns-in-Some-clause-first
returns-in-Some-clause-first c = λ upper. absurd (true_false _ upper c.in-Some.ensures.found.2)

pub returns-in-None-clause-first : goal.returns-in-None-clause-first
returns-in-None-clause-first c = of_any c.clean_frame.result _ (λ i upper. c.in-None.ensures.none)
