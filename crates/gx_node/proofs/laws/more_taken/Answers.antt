use Rattle.gx_node.specs.Reading.{format_of}
use Rattle.gx_node.proofs.EditedInners.{more_taken}
use Rattle.gx_node.proofs.laws.more_taken.Goals as goal

pub returns : goal.returns
returns g c =
    let k = g.K.KeyClass in
    let f = format_of k in
    more_taken f
