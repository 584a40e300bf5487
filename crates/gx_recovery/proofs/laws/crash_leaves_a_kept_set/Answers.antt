use Rattle.gx_recovery.proofs.Lives.{left_stands}
use Rattle.gx_recovery.proofs.laws.crash_leaves_a_kept_set.Goals as goal

pub returns : goal.returns
returns g c = λ d l s area log h left. left_stands (g.M.Meaning.known d) l s h area log left
