use Rattle.std.proofs.Common.{None, Some}
use Rattle.gx_storage.proofs.Helping.{enough_clean, few_clean}
use Rattle.gx_storage.proofs.storage.Storage.frame_help.Goals as goal

pub returns-then-clean_frames-wanted : goal.returns-then-clean_frames-wanted
returns-then-clean_frames-wanted g c =
    rw (← c.self.view_is) (enough_clean c.self.inside.store.frames c.args.wanted c.clean_frames.result c.clean_frames.ensures c.if-clean_frames-wanted.true)

pub returns-in-Some : goal.returns-in-Some
returns-in-Some g c =
    rw (← c.self.view_is)
    (few_clean c.self.inside.store.frames c.args.wanted c.clean_frames.result (Some c.in-Some.page) c.clean_frames.ensures c.if-clean_frames-wanted.false c.in-Some.ensures.found)

pub returns-in-None : goal.returns-in-None
returns-in-None g c =
    rw (← c.self.view_is)
    (few_clean c.self.inside.store.frames c.args.wanted c.clean_frames.result None c.clean_frames.ensures c.if-clean_frames-wanted.false c.in-None.ensures.none)
