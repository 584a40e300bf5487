use Rattle.std.proofs.Common.{ap, sym}
use Rattle.gx_split.specs.Waiting.{sides_with}
use Rattle.gx_split.proofs.place.mark.Goals as goal

pub returns-then-second : goal.returns-then-second
returns-then-second c = ap (λ t. sides_with t c.args.sides.now c.args.slot) (sym c.if-second.true)

pub returns-else-second : goal.returns-else-second
returns-else-second c = ap (λ t. sides_with t c.args.sides.now c.args.slot) (sym c.if-second.false)
