use Rattle.std.proofs.Common.{refl}
use Rattle.std.specs.Int.{w32}
use Rattle.gx_class.proofs.box_penalty.LaneAreas.{lifted_by}
use Rattle.gx_class.proofs.box_penalty.lifted.Goals as goal
use borrow.Rule.Simd.Lanes.{act2}
use borrow.Table.Row.{s_int}
use mir.Syntax.{wrap_add}

pub returns : goal.returns
returns c b is = lifted_by (act2 wrap_add (s_int w32) (s_int w32) (s_int w32)) (λ n. refl) c.args.bits b c.fits-bits.0 c.fits-bits.1 is
