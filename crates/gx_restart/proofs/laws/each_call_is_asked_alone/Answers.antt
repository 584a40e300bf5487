use Rattle.gx_restart.proofs.Alone.{call_alone}
use Rattle.gx_restart.proofs.laws.each_call_is_asked_alone.Goals as goal

pub returns : goal.returns
returns g c = λ l s call reply old new calls was bodies i h m seen.
    call_alone _ g.K.ReadKeys.is_proper g.K.ReadKeys.said g.K.KeyClass _ l old s call reply new calls was (c.no_call_is_given_up.ensures l) (c.a_class_is_lawful.ensures l h.some) bodies i h m seen
