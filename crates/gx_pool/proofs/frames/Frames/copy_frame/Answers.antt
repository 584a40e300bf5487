use Rattle.std.proofs.Common.{◌∙◌, ap}
use Rattle.gx_pool.specs.State.{place_of, frame_at}
use Rattle.gx_pool.specs.Edits.{numbered, vacated, with_page}
use Rattle.gx_pool.proofs.Bringing.{loaded_absent}
use Rattle.gx_pool.proofs.Creating.{made, no_frame, other_frame}
use Rattle.gx_pool.proofs.frames.Frames.copy_frame.Goals as goal

pub unreachable-requires : goal.unreachable-requires
unreachable-requires c = no_frame c.args.self.now c.requires.frame (c.in-None.ensures.none)

pub copy-requires-clause-apart : goal.copy-requires-clause-apart
copy-requires-clause-apart c = other_frame c.args.self.now c.args.source c.in-Some.target c.requires.source.1 c.in-Some.ensures.found.1

pub settle-requires-clause-page : goal.settle-requires-clause-page
settle-requires-clause-page c =
    let v = c.vacate.ensures.vacated ∙ ap (λ v. vacated v c.in-Some.target) c.frame_to_use.ensures.unchanged in (
      c.requires.page.0,
      ap (λ v. place_of v c.args.page) (c.copy.ensures ∙ ap (λ v. with_page v c.in-Some.target (numbered (frame_at v c.args.source).page c.args.page)) v)
          ∙ loaded_absent c.args.self.now c.in-Some.target c.args.page (numbered (frame_at c.args.self.now c.args.source).page c.args.page) c.frame_to_use.ensures.sound c.in-Some.ensures.found.0 c.requires.page.1,
    )

pub returns : goal.returns
returns c =
    let v = c.vacate.ensures.vacated ∙ ap (λ v. vacated v c.in-Some.target) c.frame_to_use.ensures.unchanged in
    made c.args.self.now c.copy.new.self c.settle.new.self c.in-Some.target c.args.page c.args.batch (numbered (frame_at c.args.self.now c.args.source).page c.args.page) c.frame_to_use.ensures.sound c.in-Some.ensures.found.0
    c.in-Some.ensures.found.1 c.in-Some.ensures.first c.requires.number c.requires.page.0 c.requires.page.1
    (c.copy.ensures ∙ ap (λ v. with_page v c.in-Some.target (numbered (frame_at v c.args.source).page c.args.page)) v) c.settle.ensures
