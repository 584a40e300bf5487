use Rattle.std.proofs.Common.{FitsSigned, rules}
use Rattle.std.specs.Int.{w32}
use Rattle.std.proofs.lemmas.Int.{to_z-of_z}
use Rattle.gx_class.specs.BoxKeyLaws.{halves_join}
use Rattle.gx_class.proofs.box3_class.three_numbers.Goals as goal

pub returns : goal.returns
returns c =
    let first : FitsSigned w32 c.number.result = search rules in
    let second : FitsSigned w32 c.numbers-second.result.0 = search rules in
    let third : FitsSigned w32 c.numbers-second.result.1 = search rules in
    simp to_z-of_z (halves_join c.args.bytes.now _ _ _ _ 4 c.split_at.ensures.front c.split_at.ensures.back c.number.ensures c.numbers-second.ensures)
