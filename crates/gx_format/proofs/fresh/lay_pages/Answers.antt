use Rattle.std.proofs.Common.{Ok, Err, ap, [], ◌∷◌, ◌∙◌}
use Rattle.std.proofs.lemmas.Result.{err_from_is_err_and}
use Rattle.gx_disk.specs.declared.layout.TheConstants.{PAGES_AT, PAGE_SECTORS}
use Rattle.gx_page.specs.Edits.{blank}
use Rattle.gx_page.specs.Format.{image_of}
use Rattle.gx_format.specs.declared.fresh.TheConstants.{PAGE_2}
use Rattle.gx_format.specs.Calls.{Write}
use Rattle.gx_format.proofs.Running.{goes_on, ends_there, of_bytes}
use Rattle.gx_format.proofs.fresh.lay_pages.Goals as goal

pub returns-in_err-write-clause-runs : goal.returns-in_err-write-clause-runs
returns-in_err-write-clause-runs g c =
    let p = err_from_is_err_and c.from_residual.result c.from_residual.ensures.1 in
    rw (p.1, p.2) (ends_there g.D.SectorDisk.state (Write PAGES_AT PAGE_SECTORS (image_of c.args.page.now) ∷ []) (Write PAGE_2 PAGE_SECTORS (image_of (blank 0 2)) ∷ []) _ _ _
    (of_bytes g.D.SectorDisk.state PAGES_AT PAGE_SECTORS _ (image_of c.args.page.now) [] c.args.disk.now c.write.new.disk (Err c.in_err-write.field-0.0) c.image.ensures.image (c.in_err-write.ensures.runs 8 c.image.ensures.size)))

pub returns-clause-runs : goal.returns-clause-runs
returns-clause-runs g c =
    goes_on g.D.SectorDisk.state (Write PAGES_AT PAGE_SECTORS (image_of c.args.page.now) ∷ []) (Write PAGE_2 PAGE_SECTORS (image_of (blank 0 2)) ∷ []) _ _ _ _
    (of_bytes g.D.SectorDisk.state PAGES_AT PAGE_SECTORS _ (image_of c.args.page.now) [] c.args.disk.now c.write.new.disk (Ok tt) c.image.ensures.image (c.in_ok-write.ensures.runs 8 c.image.ensures.size))
    (of_bytes g.D.SectorDisk.state PAGE_2 PAGE_SECTORS _ (image_of (blank 0 2)) [] c.write.new.disk c.write-2.new.disk c.write-2.result (c.image-2.ensures.image ∙ ap image_of c.reset.ensures) (c.write-2.ensures.runs 8 c.image-2.ensures.size))
