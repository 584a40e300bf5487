use Rattle.gx_split.proofs.Wastes.{first_worst}
use Rattle.gx_split.proofs.laws.seeds_are_first_worst.Goals as goal

pub returns : goal.returns
returns c = first_worst
