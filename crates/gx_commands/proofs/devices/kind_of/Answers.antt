use Rattle.std.proofs.Common.{Err, refl}
use Rattle.std.proofs.lemmas.Result.{err_from_is_err_and}
use Rattle.gx_commands.proofs.devices.Classed.{found, none_found}
use Rattle.gx_commands.proofs.devices.kind_of.Goals as goal

pub returns-in_err-class : goal.returns-in_err-class
returns-in_err-class g c =
    let p = err_from_is_err_and c.from_residual.result c.from_residual.ensures.1 in
    rw (p.1, p.2) (record { class = Err c.in_err-class.field-0.0; read = c.in_err-class.ensures; because = refl })

pub returns-in-Some : goal.returns-in-Some
returns-in-Some g c = found _ _ _ c.in_ok-class.class c.in_ok-class.ensures c.in-Some.kind c.in-Some.ensures

pub returns-in-None : goal.returns-in-None
returns-in-None g c = none_found _ _ _ c.in_ok-class.class c.in_ok-class.ensures c.in-None.ensures
