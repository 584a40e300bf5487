use Rattle.gx_storage.specs.State.{Volume, volume}
use Rattle.gx_storage.proofs.Helping.{not_clean}
use Rattle.gx_storage.proofs.storage.Storage.may_turn.Goals as goal

pub returns-then-has_head-clause-no : goal.returns-then-has_head-clause-no
returns-then-has_head-clause-no g c =
    let i = c.self.inside in
    let v : Volume g.row.D.Denot = volume i.journal i.store i.most in
    rw (← c.self.view_is) (not_clean v c.dirty_frames.result c.dirty_frames.ensures.zero.1)
