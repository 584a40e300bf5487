use Rattle.gx_node.proofs.laws.Gathered.{gathers_by_hits}
use Rattle.gx_node.proofs.laws.hits.Goals as goal

pub returns : goal.returns
returns g c = record { pairs = gathers_by_hits; children = gathers_by_hits }
