use Rattle.gx_lives.proofs.Calling.{answered, called_so}
use Rattle.gx_lives.proofs.callers.calls_are_turns.Goals as goal

pub returns-clause-answered : goal.returns-clause-answered
returns-clause-answered g c = answered _ g.K.ReadKeys.is_proper g.K.ReadKeys.said g.K.KeyClass _

pub returns-clause-calls : goal.returns-clause-calls
returns-clause-calls g c = called_so _ g.K.ReadKeys.is_proper g.K.ReadKeys.said g.K.KeyClass _
