use Rattle.gx_split.proofs.Fairness.{first_greatest_is}
use Rattle.gx_split.proofs.laws.next_is_first_greatest.Goals as goal

pub returns : goal.returns
returns c = first_greatest_is
