use Rattle.gx_split.proofs.place.is_covered.Goals as goal

pub returns-then-second : goal.returns-then-second
returns-then-second g c is = rw c.if-second.true (c.covers.ensures is)

pub returns-else-second : goal.returns-else-second
returns-else-second g c is = rw c.if-second.false (c.covers-else-second.ensures is)
