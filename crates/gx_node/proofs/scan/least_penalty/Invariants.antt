use Rattle.gx_node.specs.Reading.{format_of, key_of}
use Rattle.gx_node.proofs.scan.Choice.{IsChoice}
use Rattle.gx_node.proofs.scan.least_penalty.Given as goal

abbrev pub invariant-loop-slot : goal.invariant-loop-slot
invariant-loop-slot g l =
    let k = g.K.KeyClass in
    IsChoice (λ item. k.cost (key_of (format_of k) item) l.key) l.page.items l.slot l.rest l.best l.least
