use Rattle.std.proofs.Common.{◌∙◌, ap, refl}
use Rattle.std.proofs.lemmas.Result.{err_from_is_err_and}
use Rattle.gx_page.specs.Format.{image_of}
use Rattle.gx_geom.specs.declared.refusal.Refusal.{Refusal}
use Rattle.gx_pool.proofs.pool.Writing.{wrote_err, wrote_ok}
use Rattle.gx_pool.proofs.pool.Pool.write_frame.Goals as goal

pub stamp-requires-clause-page : goal.stamp-requires-clause-page
stamp-requires-clause-page g c = (c.requires.sound.there c.args.page c.args.i c.requires.frame.0).1

pub returns-clause-written : goal.returns-clause-written
returns-clause-written g c = λ k is.
    wrote_ok (g.D.SectorDisk.state c.args.disk.now) (g.D.SectorDisk.state c.write.new.self) c.args.self.now.frames c.stamp.new.self c.args.page c.args.i k c.image.result.now
    c.requires.sound c.requires.frame.0 is c.stamp.ensures.stamped c.requires.dirty (c.image.ensures.image ∙ ap image_of c.page_in.ensures) c.image.ensures.back.0 (c.image.ensures.back.1 ∙ c.page_in.ensures) c.image.ensures.size c.in_ok-write.ensures.counts
    (λ honest. rw (← c.first_sector.ensures) (c.in_ok-write.ensures.writes honest))

pub returns-in_err-write-clause-written : goal.returns-in_err-write-clause-written
returns-in_err-write-clause-written g c = λ k is.
    let p = err_from_is_err_and c.from_residual.result c.from_residual.ensures.1 in
    rw (p.1, p.2) (wrote_err (g.D.SectorDisk.state c.args.disk.now) (g.D.SectorDisk.state c.write.new.self) c.args.self.now.frames c.args.self.now.frames c.args.page c.args.i k c.image.result.now
    c.in_err-write.field-0.0 Refusal.Device c.requires.frame.0 is refl (c.image.ensures.image ∙ ap image_of c.page_in.ensures) c.image.ensures.back.0 (c.image.ensures.back.1 ∙ c.page_in.ensures) c.image.ensures.size c.in_err-write.ensures.counts
    (λ honest. rw (← c.first_sector.ensures) (c.in_err-write.ensures.writes honest)))
