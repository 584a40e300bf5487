use Rattle.gx_node.specs.Reading.{format_of}
use Rattle.gx_node.proofs.EditedLeaves.{leaf_stays}
use Rattle.gx_node.proofs.leaf_edits.keep.Goals as goal

pub returns : goal.returns
returns g c =
    let k = g.K.KeyClass in
    let is = leaf_stays (format_of k) c.args.page.now c.keep_staying.new.page c.args.sides.now c.requires.leaf c.keep_staying.ensures in
    record { leaf = is.leaf; node = is.node; number = is.number }
