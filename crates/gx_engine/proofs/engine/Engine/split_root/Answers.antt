use Rattle.gx_engine.proofs.writes.descents.Moves.{root_splitting}
use Rattle.gx_engine.proofs.engine.Engine.split_root.Goals as goal

pub returns-clause-splits : goal.returns-clause-splits
returns-clause-splits g c =
    let did = c.split_root-split.ensures in
    rw (← c.self.view_is)
    (root_splitting _ _ _ _ _ _ _ _ _ g.K.KeyClass.sides_of c.split_root-split.result did.logged did.unlogged did.tells.split did.own did.why did.full did.tells.damaged)
