use Rattle.std.proofs.Common.{rules}
use Rattle.gx_geom.proofs.refusal.Refusal.text.Goals as goal

pub returns-in-NoCall : goal.returns-in-NoCall
returns-in-NoCall c = search rules
