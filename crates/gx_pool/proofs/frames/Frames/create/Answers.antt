use Rattle.std.proofs.Common.{◌∙◌, ap}
use Rattle.gx_page.specs.Edits.{blank}
use Rattle.gx_pool.specs.State.{place_of}
use Rattle.gx_pool.specs.Edits.{vacated, with_page}
use Rattle.gx_pool.proofs.Bringing.{loaded_absent}
use Rattle.gx_pool.proofs.Creating.{made, no_frame}
use Rattle.gx_pool.proofs.frames.Frames.create.Goals as goal

pub unreachable-requires : goal.unreachable-requires
unreachable-requires c = no_frame c.args.self.now c.requires.frame (c.in-None.ensures.none)

pub settle-requires-clause-page : goal.settle-requires-clause-page
settle-requires-clause-page c = (
  c.requires.page.0,
  ap (λ v. place_of v c.args.page) (c.reset.ensures ∙ ap (λ v. with_page v c.in-Some.i (blank c.args.level c.args.page)) (c.vacate.ensures.vacated ∙ ap (λ v. vacated v c.in-Some.i) c.frame_to_use.ensures.unchanged))
      ∙ loaded_absent c.args.self.now c.in-Some.i c.args.page (blank c.args.level c.args.page) c.frame_to_use.ensures.sound c.in-Some.ensures.found.0 c.requires.page.1,
)

pub returns : goal.returns
returns c =
    made c.args.self.now c.reset.new.self c.settle.new.self c.in-Some.i c.args.page c.args.batch (blank c.args.level c.args.page) c.frame_to_use.ensures.sound c.in-Some.ensures.found.0 c.in-Some.ensures.found.1
    c.in-Some.ensures.first c.requires.number c.requires.page.0 c.requires.page.1
    (c.reset.ensures ∙ ap (λ v. with_page v c.in-Some.i (blank c.args.level c.args.page)) (c.vacate.ensures.vacated ∙ ap (λ v. vacated v c.in-Some.i) c.frame_to_use.ensures.unchanged)) c.settle.ensures
