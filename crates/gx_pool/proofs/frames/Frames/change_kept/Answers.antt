use Rattle.std.proofs.Common.{◌∙◌, sym, ap, refl, get_or, Some}
use Rattle.gx_page.specs.Edits.{blank}
use Rattle.gx_pool.specs.Edits.{with_page, stamped, later, changed_at}
use Rattle.gx_pool.proofs.Places.{not_kept, frame_page}
use Rattle.gx_pool.proofs.frames.Frames.change_kept.Goals as goal

pub unreachable-requires : goal.unreachable-requires
unreachable-requires c = not_kept c.args.self.now c.args.page (sym c.place.ensures.place ∙ c.in-None.is) c.requires.kept

pub stamp-requires-clause-page : goal.stamp-requires-clause-page
stamp-requires-clause-page c = (c.place.ensures.sound.there c.args.page c.in-Some.i (sym c.place.ensures.place ∙ c.in-Some.is)).1

pub returns : goal.returns
returns c =
    let at = sym c.place.ensures.place ∙ c.in-Some.is in (
      (
        refl,
        λ w. ap (λ v. with_page v c.in-Some.i w) c.stamp.ensures.stamped
            ∙ ap (λ n. with_page (stamped c.args.self.now c.in-Some.i (Some n)) c.in-Some.i w) (c.later-stamp.ensures ∙ ap (λ m. later c.args.batch m.stamp) c.mark.ensures)
            ∙ ap (λ o. changed_at c.args.self.now o c.args.batch w) (sym at),
      ),
      record {
        writes_back = tt;
        page = frame_page c.args.self.now c.args.page c.in-Some.i c.page_mut.result.now at (c.page_mut.ensures.page ∙ ap (λ v. get_or v.pages c.in-Some.i (blank 0 0)) c.stamp.ensures.stamped);
        sound = c.place.ensures.sound;
      },
    )
