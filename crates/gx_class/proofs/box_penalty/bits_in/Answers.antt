use Rattle.std.proofs.Common.{arith}
use Rattle.gx_class.proofs.Order.{lanes_read}
use Rattle.gx_class.proofs.box_penalty.bits_in.Goals as goal

pub returns : goal.returns
returns c = lanes_read c.args.bytes.now (omega (arith, c.requires)) (λ i. (c.type_inv.bytes i).fits)
