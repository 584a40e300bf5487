use Rattle.gx_node.specs.Reading.{format_of}
use Rattle.gx_node.proofs.EditedInners.{inner_stays}
use Rattle.gx_node.proofs.inner_edits.keep.Goals as goal

pub returns : goal.returns
returns g c =
    let k = g.K.KeyClass in
    let is = inner_stays (format_of k) c.args._used c.args.page.now c.keep_staying.new.page c.args.sides.now c.requires.inner c.keep_staying.ensures in
    record { inner = is.inner; node = is.node; number = is.number }
