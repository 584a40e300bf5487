use Rattle.std.proofs.Common.{◌∙◌, sym}
use Rattle.gx_pool.proofs.Places.{not_kept, frame_page}
use Rattle.gx_pool.proofs.frames.Frames.kept_page.Goals as goal

pub unreachable-requires : goal.unreachable-requires
unreachable-requires c = not_kept c.args.self.now c.args.page (sym c.place.ensures.place ∙ c.in-None.is) c.requires.kept

pub returns : goal.returns
returns c = frame_page c.args.self.now c.args.page c.in-Some.i c.page_in.result.now (sym c.place.ensures.place ∙ c.in-Some.is) c.page_in.ensures
