use Rattle.std.proofs.Common.{Err, ◌++◌}
use Rattle.std.proofs.lemmas.Result.{err_from_is_err_and}
use Rattle.gx_format.specs.Formatting.{clearing, laying, naming}
use Rattle.gx_format.proofs.Running.{goes_on, ends_there}
use Rattle.gx_format.proofs.fresh.make.Goals as goal

pub returns-in_err-clear : goal.returns-in_err-clear
returns-in_err-clear g c =
    let rest = laying c.args.parameters.now c.args.page.now ++ naming in
    let p = err_from_is_err_and c.from_residual.result c.from_residual.ensures.1 in
    rw (p.1, p.2) (ends_there g.D.SectorDisk.state clearing rest c.args.disk.now c.clear.new.disk c.in_err-clear.field-0.0 c.in_err-clear.ensures.runs)

pub returns-in_err-lay : goal.returns-in_err-lay
returns-in_err-lay g c =
    let s = g.D.SectorDisk.state in
    let laid = laying c.args.parameters.now c.args.page.now in
    let p = err_from_is_err_and c.from_residual-in_err-lay.result c.from_residual-in_err-lay.ensures.1 in
    rw (p.1, p.2) (goes_on s clearing (laid ++ naming) c.args.disk.now c.clear.new.disk c.lay.new.disk (Err c.in_err-lay.field-0.0) c.in_ok-clear.ensures.runs
    (ends_there s laid naming c.clear.new.disk c.lay.new.disk c.in_err-lay.field-0.0 c.in_err-lay.ensures.runs))

pub returns : goal.returns
returns g c =
    let s = g.D.SectorDisk.state in
    let laid = laying c.args.parameters.now c.args.page.now in
    goes_on s clearing (laid ++ naming) c.args.disk.now c.clear.new.disk c.name.new.disk c.name.result c.in_ok-clear.ensures.runs
    (goes_on s laid naming c.clear.new.disk c.lay.new.disk c.name.new.disk c.name.result c.in_ok-lay.ensures.runs c.name.ensures.runs)
