use Rattle.std.proofs.Common.{rules}
use Rattle.gx_split.proofs.narrow.is_less.Goals as goal

pub returns-then-SHORT : goal.returns-then-SHORT
returns-then-SHORT g c = search rules
