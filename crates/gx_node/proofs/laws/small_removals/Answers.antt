use Rattle.gx_node.specs.Reading.{format_of}
use Rattle.gx_node.proofs.laws.SmallNodes.{slots_mean, removals_filter}
use Rattle.gx_node.proofs.laws.small_removals.Goals as goal

pub returns : goal.returns
returns g c = record { removed = slots_mean (format_of g.K.KeyClass); filter = removals_filter }
