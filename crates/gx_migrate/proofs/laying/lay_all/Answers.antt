use Rattle.std.proofs.Common.{Err, ◌++◌}
use Rattle.std.proofs.lemmas.Result.{err_from_is_err_and}
use Rattle.gx_format.specs.Formatting.{clearing, naming}
use Rattle.gx_format.proofs.Running.{goes_on, ends_there}
use Rattle.gx_migrate.specs.Migrating.{log_writes, page_writes}
use Rattle.gx_migrate.proofs.laying.lay_all.Goals as goal

pub returns-in_err-clear : goal.returns-in_err-clear
returns-in_err-clear g c =
    let rest = page_writes c.args.bytes.now c.args.used ++ (log_writes c.args.parameters.now c.args.body.now ++ naming) in
    let p = err_from_is_err_and c.from_residual.result c.from_residual.ensures.1 in
    rw (p.1, p.2) (ends_there g.D.SectorDisk.state clearing rest c.args.disk.now c.clear.new.disk c.in_err-clear.field-0.0 c.in_err-clear.ensures.runs)

pub returns-in_err-lay_pages : goal.returns-in_err-lay_pages
returns-in_err-lay_pages g c =
    let s = g.D.SectorDisk.state in
    let pages = page_writes c.args.bytes.now c.args.used in
    let rest = log_writes c.args.parameters.now c.args.body.now ++ naming in
    let p = err_from_is_err_and c.from_residual-in_err-lay_pages.result c.from_residual-in_err-lay_pages.ensures.1 in
    rw (p.1, p.2) (goes_on s clearing (pages ++ rest) c.args.disk.now c.clear.new.disk c.lay_pages.new.disk (Err c.in_err-lay_pages.field-0.0) c.in_ok-clear.ensures.runs
    (ends_there s pages rest c.clear.new.disk c.lay_pages.new.disk c.in_err-lay_pages.field-0.0 c.in_err-lay_pages.ensures.runs))

pub returns-in_err-lay_log : goal.returns-in_err-lay_log
returns-in_err-lay_log g c =
    let s = g.D.SectorDisk.state in
    let pages = page_writes c.args.bytes.now c.args.used in
    let log = log_writes c.args.parameters.now c.args.body.now in
    let p = err_from_is_err_and c.from_residual-in_err-lay_log.result c.from_residual-in_err-lay_log.ensures.1 in
    rw (p.1, p.2) (goes_on s clearing (pages ++ (log ++ naming)) c.args.disk.now c.clear.new.disk c.lay_log.new.disk (Err c.in_err-lay_log.field-0.0) c.in_ok-clear.ensures.runs
    (goes_on s pages (log ++ naming) c.clear.new.disk c.lay_pages.new.disk c.lay_log.new.disk (Err c.in_err-lay_log.field-0.0) c.in_ok-lay_pages.ensures.runs
    (ends_there s log naming c.lay_pages.new.disk c.lay_log.new.disk c.in_err-lay_log.field-0.0 c.in_err-lay_log.ensures.runs)))

pub returns : goal.returns
returns g c =
    let s = g.D.SectorDisk.state in
    let pages = page_writes c.args.bytes.now c.args.used in
    let log = log_writes c.args.parameters.now c.args.body.now in
    goes_on s clearing (pages ++ (log ++ naming)) c.args.disk.now c.clear.new.disk c.name.new.disk c.name.result c.in_ok-clear.ensures.runs
    (goes_on s pages (log ++ naming) c.clear.new.disk c.lay_pages.new.disk c.name.new.disk c.name.result c.in_ok-lay_pages.ensures.runs
    (goes_on s log naming c.lay_pages.new.disk c.lay_log.new.disk c.name.new.disk c.name.result c.in_ok-lay_log.ensures.runs c.name.ensures.runs))
