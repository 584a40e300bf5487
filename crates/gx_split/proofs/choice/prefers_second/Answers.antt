use Rattle.std.proofs.Common.{rules}
use Rattle.gx_split.proofs.choice.prefers_second.Goals as goal

pub returns : goal.returns
returns c = search rules
