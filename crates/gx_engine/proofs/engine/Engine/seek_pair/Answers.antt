use Rattle.gx_engine.proofs.writes.seeks.Joined.{found, unfound}
use Rattle.gx_engine.proofs.engine.Engine.seek_pair.Goals as goal

pub returns-clause-sought : goal.returns-clause-sought
returns-clause-sought g c =
    found _ g.K.KeyClass.is_key _ _ _ c.args.leaf c.args.entry.now _ c.entry-wanted.ensures.pairs c.seek_step.result c.seek_step.ensures.tells.sought

pub returns-clause-refused : goal.returns-clause-refused
returns-clause-refused g c =
    let did = c.seek_step.ensures in
    rw (← c.self.view_is) (unfound _ g.K.KeyClass.is_key _ _ _ c.args.leaf _ _ _ c.seek_step.result did.why did.tells.damaged)

pub returns-clause-told : goal.returns-clause-told
returns-clause-told g c = rw (← c.self.view_is) c.seek_step.ensures.told
