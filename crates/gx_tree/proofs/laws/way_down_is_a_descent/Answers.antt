use Rattle.gx_tree.proofs.Ways.{way_down}
use Rattle.gx_tree.proofs.laws.way_down_is_a_descent.Goals as goal

pub returns : goal.returns
returns g c = λ r coming t legal a slot used ch at covers. way_down r coming t legal a slot used ch at covers
