use Rattle.std.proofs.Common.{◌*◌, ◌%◌, ◌^◌, ap, bit_and, arith}
use Rattle.std.proofs.lemmas.Nat.{and_le_l}
use Rattle.std.proofs.lemmas.Nat.Bits.{ones_shl}
use Rattle.gx_pool.proofs.Bits.{least_left, none_left}
use Rattle.gx_pool.proofs.words.first_bit.Goals as goal

pub returns-then-rest-eq0-clause-none : goal.returns-then-rest-eq0-clause-none
returns-then-rest-eq0-clause-none c =
    let mask = ones_shl 64 c.args.from (omega (arith, c.requires)) in
    none_left c.args.word c.args.from (rw (← mask) (omega (arith, c.if-rest-eq0.true)))

pub returns-else-rest-eq0-clause-found : goal.returns-else-rest-eq0-clause-found
returns-else-rest-eq0-clause-found c =
    let mask = ones_shl 64 c.args.from (omega (arith, c.requires)) in
    let less = and_le_l c.args.word (18446744073709551615 * 2 ^ c.args.from % 18446744073709551616) in
    least_left c.args.word c.args.from _ (ap (bit_and c.args.word) mask) (omega (arith, c.if-rest-eq0.false)) (omega (arith, less))
