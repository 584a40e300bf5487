use Rattle.gx_node.specs.Reading.{format_of, key_of}
use Rattle.gx_node.proofs.scan.Scanning.{IsScan}
use Rattle.gx_node.proofs.scan.next_passing.Given as goal

abbrev pub invariant-loop-slot : goal.invariant-loop-slot
invariant-loop-slot g l =
    let k = g.K.KeyClass in
    IsScan (λ item. g.K.Probing.passes l.probe (key_of (format_of k) item)) l.page.items l.from l.slot l.rest
