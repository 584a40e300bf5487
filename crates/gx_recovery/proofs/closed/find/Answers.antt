use Rattle.gx_recovery.proofs.closed.Searching.{number_searched}
use Rattle.gx_recovery.proofs.closed.find.Goals as goal

pub returns : goal.returns
returns c = number_searched c.args.t c.args.numbers.now c.binary_search.result c.requires c.binary_search.ensures.bound c.binary_search.ensures.position
