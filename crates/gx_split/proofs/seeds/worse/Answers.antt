use Rattle.std.proofs.Common.{◌≡◌, Bool, true, false, cond, ap, sym, rules, FitsSigned}
use Rattle.std.specs.Prelude.{int_lt}
use Rattle.std.specs.Int.{w128}
use Rattle.std.proofs.lemmas.Int.{to_z-of_z}
use Rattle.gx_split.proofs.seeds.worse.Goals as goal

pub returns-then-other-first : goal.returns-then-other-first
returns-then-other-first c =
    let first_fits : FitsSigned w128 c.args.first.waste = search rules in
    let other_fits : FitsSigned w128 c.args.other.waste = search rules in
    let more : int_lt c.args.first.waste c.args.other.waste ≡ true = simp to_z-of_z at c.if-other-first.true in
    ap (λ (t : Bool). cond t c.args.other c.args.first) (sym more)

pub returns-else-other-first : goal.returns-else-other-first
returns-else-other-first c =
    let first_fits : FitsSigned w128 c.args.first.waste = search rules in
    let other_fits : FitsSigned w128 c.args.other.waste = search rules in
    let no_more : int_lt c.args.first.waste c.args.other.waste ≡ false = simp to_z-of_z at c.if-other-first.false in
    ap (λ (t : Bool). cond t c.args.other c.args.first) (sym no_more)
