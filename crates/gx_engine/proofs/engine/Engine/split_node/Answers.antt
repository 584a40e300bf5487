use Rattle.gx_record.specs.declared.sizes.TheConstants.{SPLIT_RECORD}
use Rattle.gx_engine.proofs.writes.descents.Moves.{splitting}
use Rattle.gx_engine.proofs.Calling.{changed_read}
use Rattle.gx_tree.specs.Splitting.{has_split}
use Rattle.gx_engine.proofs.engine.Engine.split_node.Goals as goal

pub returns-clause-splits : goal.returns-clause-splits
returns-clause-splits g c =
    let did = c.split-split.ensures in
    rw (← c.self.view_is, ← c.page.ensures)
    (splitting _ _ _ _ _ _ _ _ _ g.K.KeyClass.sides_of c.page.result c.args.parent c.split-split.result did.logged did.unlogged did.tells.split did.own did.why did.full did.tells.damaged)

pub returns-clause-device : goal.returns-clause-device
returns-clause-device g c =
    let did = c.split-split.ensures in
    rw (← c.self.view_is) (changed_read _ _ _ _ _ _ _ _ SPLIT_RECORD _ has_split c.split-split.result did.logged did.unlogged)

pub returns-clause-told : goal.returns-clause-told
returns-clause-told g c = rw (← c.self.view_is) c.split-split.ensures.told
