use Rattle.std.proofs.Common.{arith}
use Rattle.gx_lives.proofs.Undamaged.{if_err}
use Rattle.gx_lives.proofs.turns.open.Goals as goal

pub returns-clause-undamaged : goal.returns-clause-undamaged
returns-clause-undamaged g c = λ p allowed m bears low high.
    let large = bears.large in
    let pages = allowed.range.least_pages in
    if_err _ _ (λ n refused. c.an_opening_finds_no_damage.ensures p allowed m c.args.disk n.disk n.why bears refused) c.open.result
    (c.open.ensures.refused bears.honest low high (omega (arith, large, pages)))
