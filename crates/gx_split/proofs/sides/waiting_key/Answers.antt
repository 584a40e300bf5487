use Rattle.gx_split.proofs.sides.waiting_key.Goals as goal

pub returns-clause-grown : goal.returns-clause-grown
returns-clause-grown g c = record { first = c.growth-first.ensures.value; second = c.growth-second.ensures.value; apart = c.distance.ensures }
