use Rattle.gx_commands.proofs.laws.Dumped.{tells_kept}
use Rattle.gx_commands.proofs.laws.a_dump_that_is_done_tells_what_was_kept.Goals as goal

pub returns : goal.returns
returns g c = tells_kept _ _ g.K.ReadKeys.is_proper g.K.ReadKeys.said g.K.KeyClass _
