use Rattle.std.proofs.Common.{cond, ap, sym, ◌∙◌}
use Rattle.gx_split.proofs.choice.wider.Goals as goal

pub returns-then-is_less : goal.returns-then-is_less
returns-then-is_less g c = ap (λ t. cond t c.args.other c.args.first) (sym c.if-is_less.true ∙ c.is_less.ensures)

pub returns-else-is_less : goal.returns-else-is_less
returns-else-is_less g c = ap (λ t. cond t c.args.other c.args.first) (sym c.if-is_less.false ∙ c.is_less.ensures)
