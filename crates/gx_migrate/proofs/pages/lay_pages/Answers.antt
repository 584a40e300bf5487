use Rattle.std.proofs.Common.{◌∙◌, ◌+◌, arith}
use Rattle.std.proofs.lemmas.Result.{err_from_is_err_and}
use Rattle.gx_migrate.proofs.CallLists.{page_failed, pages_failed, pages_run}
use Rattle.gx_migrate.proofs.pages.lay_pages.Goals as goal

pub loop-before-preserved : goal.loop-before-preserved
loop-before-preserved g c = record {
  sectors = c.in_ok-lay_page.ensures.sectors ∙ c.loop-before.invariant.sectors;
  run = pages_run g.D.SectorDisk.state c.args.bytes.now c.loop-before.before c.args.disk.now c.loop-before.disk c.lay_page.new.disk c.loop-before.invariant.run c.in_ok-lay_page.ensures.runs;
}

pub returns-in_err-lay_page-clause-runs : goal.returns-in_err-lay_page-clause-runs
returns-in_err-lay_page-clause-runs g c =
    let p = err_from_is_err_and c.from_residual.result c.from_residual.ensures.1 in
    let s = g.D.SectorDisk.state in
    let i = c.loop-before.before in
    rw (p.1, p.2) (
      c.in_err-lay_page.ensures.runs.0,
      pages_failed s c.args.bytes.now (i + 1) c.args.pages c.args.disk.now c.lay_page.new.disk (omega (arith, c.loop-before-test.true))
          (page_failed s c.args.bytes.now i c.args.disk.now c.loop-before.disk c.lay_page.new.disk c.loop-before.invariant.run c.in_err-lay_page.ensures.runs.1),
    )
