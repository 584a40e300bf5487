use Rattle.gx_node.specs.Reading.{format_of}
use Rattle.gx_node.proofs.EditedInners.{blank_leaf, blank_inner}
use Rattle.gx_node.proofs.laws.blanks.Goals as goal

pub returns : goal.returns
returns g c =
    let k = g.K.KeyClass in
    let f = format_of k in
    (blank_leaf f, blank_inner f)
