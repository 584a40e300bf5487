use Rattle.std.proofs.Common.{rules}
use Rattle.gx_geom.proofs.refusal.Refusal.number.Goals as goal

pub returns-in-Present : goal.returns-in-Present
returns-in-Present c = search rules

pub returns-in-Absent : goal.returns-in-Absent
returns-in-Absent c = search rules
