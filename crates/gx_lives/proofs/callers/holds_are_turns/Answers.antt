use Rattle.gx_lives.proofs.Calling.{held}
use Rattle.gx_lives.proofs.callers.holds_are_turns.Goals as goal

pub returns-clause-session : goal.returns-clause-session
returns-clause-session g c = held _ g.K.ReadKeys.is_proper g.K.ReadKeys.said g.K.KeyClass _

pub returns-clause-work : goal.returns-clause-work
returns-clause-work g c = λ old new e o made. made
