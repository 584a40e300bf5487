use Rattle.std.proofs.Common.{◌≡◌, ◌+◌, ◌-◌, ◌*◌, ℕ, ap, refl, length, rules, arith}
use Rattle.gx_disk.specs.declared.layout.TheConstants.{PAGES_AT, PAGE_SECTORS}
use Rattle.gx_migrate.proofs.CallLists.{page_run, page_slice}
use Rattle.gx_migrate.proofs.pages.lay_page.Goals as goal

pub returns-clause-runs : goal.returns-clause-runs
returns-clause-runs g c =
    let here = ap (λ (n : ℕ). PAGES_AT + PAGE_SECTORS * (n - 1)) c.from.ensures in
    page_run g.D.SectorDisk.state c.args.bytes.now _ _ c.args.page c.args.disk.now c.write.new.disk c.write.result c.write.ensures.runs here
    (page_slice c.args.bytes.now _ _ _ c.args.page (omega arith) refl here) (search rules)
