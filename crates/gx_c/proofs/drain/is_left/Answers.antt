use Rattle.std.proofs.Common.{sym, ◌∙◌}
use Rattle.gx_c.proofs.drain.Draining.{front_none, front_some}
use Rattle.gx_c.proofs.drain.is_left.Goals as goal

pub returns-clause-some : goal.returns-clause-some
returns-clause-some c = λ is. front_some _ c.front.result c.front.ensures (sym c.is_some.ensures ∙ is)

pub returns-clause-none : goal.returns-clause-none
returns-clause-none c = λ is. front_none _ c.front.result c.front.ensures (sym c.is_some.ensures ∙ is)
