use Rattle.gx_node.proofs.entry.Keys.{read_is}
use Rattle.gx_node.proofs.entry.read_key.Goals as goal

pub returns : goal.returns
returns g c =
    read_is g.K.KeyClass.is_key g.K.KeyClass.spelling g.K.KeyClass.reading g.met.K.KeyClass.reading_back g.met.K.KeyClass.reading_only c.decode.result c.args.bytes.now
    (λ i. (c.type_inv.bytes i).fits) c.decode.ensures.only c.decode.ensures.back
