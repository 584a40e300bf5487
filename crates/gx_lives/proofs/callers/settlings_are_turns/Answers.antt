use Rattle.gx_lives.proofs.Calling.{settled_so}
use Rattle.gx_lives.proofs.callers.settlings_are_turns.Goals as goal

pub returns : goal.returns
returns g c = settled_so _ g.K.ReadKeys.is_proper g.K.ReadKeys.said g.K.KeyClass _
