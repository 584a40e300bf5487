use Rattle.gx_lives.proofs.Dumping.{dump_so, page_read}
use Rattle.gx_lives.proofs.callers.dumps_are_turns.Goals as goal

pub returns-clause-page : goal.returns-clause-page
returns-clause-page g c = λ page old new result is. page_read _ g.K.ReadKeys.is_proper g.K.ReadKeys.said g.K.KeyClass _ page old result new is

pub returns-clause-dump : goal.returns-clause-dump
returns-clause-dump g c = λ old new result is. dump_so _ g.K.ReadKeys.is_proper g.K.ReadKeys.said g.K.KeyClass _ old result new is
