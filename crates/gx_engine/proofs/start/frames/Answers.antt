use Rattle.std.proofs.Common.{ap, subst, sym, ◌∙◌}
use Rattle.gx_pool.specs.State.{State}
use Rattle.gx_pool.specs.declared.pool.Pool.{Pool}
use Rattle.gx_engine.specs.Starting.{AreFresh}
use Rattle.gx_engine.proofs.start.Starting.{told_fresh}
use Rattle.gx_engine.proofs.start.frames.Goals as goal

pub returns : goal.returns
returns g c = (
  subst (λ (x : State). AreFresh c.args.count c.args.batch x) (sym (ap (λ (x : Pool _). x.frames) c.gated.ensures)) (told_fresh _ c.args.batch _ c.in_ok-pool.ensures.0),
  ap (λ (x : Pool _). x.test.pages) c.gated.ensures ∙ ap (λ x. x.pages) c.in_ok-pool.ensures.1 ∙ c.new.ensures,
)
