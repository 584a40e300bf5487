use Rattle.std.proofs.Common.{◌≡◌, length}
use Rattle.std.specs.List.{list_all}
use Rattle.gx_node.specs.Reading.{format_of}
use Rattle.gx_node.specs.Small.{slots_in, has_marked}
use Rattle.gx_node.proofs.small.have_marked.Given as goal

abbrev pub invariant-loop-rest : goal.invariant-loop-rest
invariant-loop-rest g l =
    let test = has_marked (format_of g.K.KeyClass) l.page.items in
    list_all test (slots_in l.rest) ≡ list_all test (slots_in l.fn.slots)

abbrev pub decreases-loop-rest : goal.decreases-loop-rest
decreases-loop-rest g l = length l.rest
