use Rattle.gx_script.specs.Corners.{grammar}
use Rattle.gx_lives.proofs.Calling.{script_done, script_so, script_stopped}
use Rattle.gx_lives.proofs.callers.scripts_are_turns.Goals as goal

pub returns-clause-lines : goal.returns-clause-lines
returns-clause-lines g c = script_so (grammar g.B.Corners.COUNT g.B.Corners.corners g.B.Corners.fit g.B.Corners.made) _ g.K.ReadKeys.is_proper g.K.ReadKeys.said g.K.KeyClass _

pub returns-clause-done : goal.returns-clause-done
returns-clause-done g c = script_done (grammar g.B.Corners.COUNT g.B.Corners.corners g.B.Corners.fit g.B.Corners.made) _ g.K.ReadKeys.is_proper g.K.ReadKeys.said g.K.KeyClass _

pub returns-clause-stopped : goal.returns-clause-stopped
returns-clause-stopped g c = script_stopped (grammar g.B.Corners.COUNT g.B.Corners.corners g.B.Corners.fit g.B.Corners.made) _ g.K.ReadKeys.is_proper g.K.ReadKeys.said g.K.KeyClass _
