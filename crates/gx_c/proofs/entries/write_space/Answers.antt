use Rattle.gx_c.proofs.Stages.{undone_space}
use Rattle.gx_c.proofs.entries.write_space.Goals as goal

pub returns-in-Space : goal.returns-in-Space
returns-in-Space c = rw c.in-Space.is c.write_solid.ensures

pub returns-in_default : goal.returns-in_default
returns-in_default c = undone_space _ _ c.in_default.not-Space
