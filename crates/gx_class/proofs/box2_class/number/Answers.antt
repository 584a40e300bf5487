use Rattle.std.proofs.Common.{rules, FitsSigned}
use Rattle.std.specs.Int.{w32}
use Rattle.std.proofs.lemmas.Nat.{be_bytes_4}
use Rattle.gx_class.specs.Boxes.{number_bytes}
use Rattle.gx_class.specs.Numbers.{bytes_kept}
use Rattle.gx_class.proofs.box2_class.number.Goals as goal

pub returns : goal.returns
unfolding number_bytes
returns c =
    let n = c.from_be_bytes.result in
    let fits : FitsSigned w32 c.cast_signed.result = search rules in
    let written = be_bytes_4 c.args.bytes.now n c.requires (λ i. (c.type_inv.bytes i).fits) c.from_be_bytes.ensures in
    bytes_kept w32 c.args.bytes.now n c.cast_signed.result written c.cast_signed.ensures fits c.from_be_bytes.type_inv
