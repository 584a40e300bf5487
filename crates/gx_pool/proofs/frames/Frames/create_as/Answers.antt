use Rattle.std.proofs.Common.{◌∙◌, sym}
use Rattle.gx_pool.proofs.Creating.{copied, not_clean}
use Rattle.gx_pool.proofs.Places.{not_kept}
use Rattle.gx_pool.proofs.frames.Frames.create_as.Goals as goal

pub unreachable-requires : goal.unreachable-requires
unreachable-requires c = not_kept c.args.self.now c.args.from (sym c.place.ensures.place ∙ c.in-None.is) c.requires.from.1

pub copy_frame-requires-clause-source : goal.copy_frame-requires-clause-source
copy_frame-requires-clause-source c = (
  c.in-Some.ensures.inside,
  not_clean c.args.self.now c.args.from c.in-Some.source c.place.ensures.sound (sym c.place.ensures.place ∙ c.in-Some.is) c.requires.stays,
)

pub returns : goal.returns
returns c = copied c.args.self.now c.copy_frame.new.self c.args.page c.args.from c.in-Some.source c.args.batch (sym c.place.ensures.place ∙ c.in-Some.is) c.copy_frame.ensures
