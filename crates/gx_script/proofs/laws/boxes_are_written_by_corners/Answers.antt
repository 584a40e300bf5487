use Rattle.gx_script.proofs.laws.PrintedLemmas.{rectangle_written, solid_written}
use Rattle.gx_script.proofs.laws.boxes_are_written_by_corners.Goals as goal

pub returns-clause-plane : goal.returns-clause-plane
returns-clause-plane c = rectangle_written

pub returns-clause-space : goal.returns-clause-space
returns-clause-space c = solid_written
