use Rattle.gx_lives.proofs.Dumping.{brought_upkeep}
use Rattle.gx_lives.proofs.turns.bring_page.Goals as goal

pub returns-clause-turn : goal.returns-clause-turn
returns-clause-turn g c = λ l bodies i holds. (_, brought_upkeep c.bring_page.result, c.bring_page.ensures.leads l bodies i holds)
