use Rattle.std.proofs.lemmas.Grind.{common_steps}
use Rattle.std.proofs.Common.{arith}
use Rattle.gx_node.specs.Reading.{format_of}
use Rattle.gx_tree.proofs.Parted.{node_halves}
use Rattle.gx_tree.proofs.halves.halve.Goals as goal

pub returns-clause-halves : goal.returns-clause-halves
returns-clause-halves g c =
    let k = g.K.KeyClass in
    node_halves _ (format_of k) c.args.page.now k.sides_of c.node_keys.new.keys c.halves_of.result
    c.node_keys.ensures c.halves_of.ensures.halves

pub returns-then-count-gt-MAX_ENTRIES-clause-none : goal.returns-then-count-gt-MAX_ENTRIES-clause-none
returns-then-count-gt-MAX_ENTRIES-clause-none g c = grind (arith, common_steps)

pub returns-clause-full : goal.returns-clause-full
returns-clause-full g c = grind (arith, common_steps)

pub returns-clause-none : goal.returns-clause-none
returns-clause-none g c = grind (arith, common_steps)
