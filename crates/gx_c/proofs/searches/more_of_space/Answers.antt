use Rattle.std.proofs.Common.{refl}
use Rattle.gx_c.proofs.Stages.{undone_space}
use Rattle.gx_c.proofs.searches.more_of_space.Goals as goal

pub returns-in-Space-clause-tells : goal.returns-in-Space-clause-tells
returns-in-Space-clause-tells c = rw c.in-Space.is (refl, c.more_solids.ensures)

pub returns-in_default-clause-tells : goal.returns-in_default-clause-tells
returns-in_default-clause-tells c = undone_space _ _ c.in_default.not-Space
