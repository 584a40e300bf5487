use Rattle.std.proofs.Common.{Err, refl}
use Rattle.std.proofs.lemmas.Result.{err_from_is_err_and}
use Rattle.gx_commands.proofs.devices.Classed.{no_older_found, older_found}
use Rattle.gx_commands.proofs.devices.kind_of_old.Goals as goal

pub returns-in_err-told : goal.returns-in_err-told
returns-in_err-told g c =
    let p = err_from_is_err_and c.from_residual.result c.from_residual.ensures.1 in
    rw (p.1, p.2) (record { told = Err c.in_err-told.field-0.0; read = c.in_err-told.ensures; because = refl })

pub returns-in-Some : goal.returns-in-Some
returns-in-Some g c = older_found _ _ _ c.in_ok-told.told c.in_ok-told.ensures c.in-Some.kind c.in-Some.ensures

pub returns-in-None : goal.returns-in-None
returns-in-None g c = no_older_found _ _ _ c.in_ok-told.told c.in_ok-told.ensures c.in-None.ensures
