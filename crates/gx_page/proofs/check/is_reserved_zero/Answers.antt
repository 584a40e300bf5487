-- The two parts are those of the definition.
use Rattle.std.proofs.Common.{Bool, ◌&&◌, ap, ◌∙◌}
use Rattle.std.specs.Prelude.{slice_range}
use Rattle.gx_page.specs.Bytes.{all_zero}
use Rattle.gx_page.specs.Faults.{is_reserved_zero}
use Rattle.gx_page.proofs.check.is_reserved_zero.Goals as goal

pub returns-then-all_zero : goal.returns-then-all_zero
unfolding is_reserved_zero
returns-then-all_zero c = c.all_zero-then-all_zero.ensures ∙ ap (λ (first : Bool). first && all_zero (slice_range c.args.bytes.now 24 32)) c.if-all_zero.ensures

pub returns-else-all_zero : goal.returns-else-all_zero
unfolding is_reserved_zero
returns-else-all_zero c = c.if-all_zero.false ∙ ap (λ (first : Bool). first && all_zero (slice_range c.args.bytes.now 24 32)) c.if-all_zero.ensures
