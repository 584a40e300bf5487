use Rattle.std.proofs.Common.{rules, FitsSigned}
use Rattle.std.specs.Int.{w64}
use Rattle.std.proofs.lemmas.Nat.{be_bytes_8}
use Rattle.gx_class.specs.Intervals.{long_bytes}
use Rattle.gx_class.specs.Numbers.{bytes_kept}
use Rattle.gx_class.proofs.interval_class.number.Goals as goal

pub returns : goal.returns
unfolding long_bytes
returns c =
    let n = c.from_be_bytes.result in
    let fits : FitsSigned w64 c.cast_signed.result = search rules in
    let written = be_bytes_8 c.args.bytes.now n c.requires (λ i. (c.type_inv.bytes i).fits) c.from_be_bytes.ensures in
    bytes_kept w64 c.args.bytes.now n c.cast_signed.result written c.cast_signed.ensures fits c.from_be_bytes.type_inv
