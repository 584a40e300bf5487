use Rattle.gx_lives.proofs.turns.examine.Goals as goal

pub returns-clause-turn : goal.returns-clause-turn
returns-clause-turn g c = λ honest. record { same = c.examine.ensures.device; only = c.examine.ensures.rests honest }
