use Rattle.gx_restart.proofs.Scripts.{script_alone}
use Rattle.gx_restart.proofs.laws.each_script_is_one_run.Goals as goal

pub returns : goal.returns
returns g c = λ l number lines old new text script was bodies i h m seen.
    script_alone _ _ g.K.ReadKeys.is_proper g.K.ReadKeys.said g.K.KeyClass _ l number lines old new text was (c.no_call_is_given_up.ensures l) (c.a_class_is_lawful.ensures l h.some) script bodies i h m seen
