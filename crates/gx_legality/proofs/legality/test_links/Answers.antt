use Rattle.gx_legality.proofs.Joined.{has_shape}
use Rattle.gx_legality.proofs.legality.test_links.Goals as goal

pub returns-clause-shape : goal.returns-clause-shape
returns-clause-shape g c = λ t are named.
    has_shape t c.args.marks.now c.args.links.now c.test_chain.result are c.requires.marks named c.in_default.ensures.marked
    (c.test_chain.ensures.chain t are) (c.test_chain.ensures.once t are)
