use Rattle.std.proofs.Common.{rules}
use Rattle.gx_tree.proofs.descent.descend_step.Goals as goal

pub returns-in_ok-prepare-in-Widen-clause-tells : goal.returns-in_ok-prepare-in-Widen-clause-tells
returns-in_ok-prepare-in-Widen-clause-tells g c = record { descended = search rules; refused = search rules; damaged = search rules }
