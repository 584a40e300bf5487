use Rattle.gx_engine_events.proofs.New.{if_new_sees}
use Rattle.gx_engine_events.proofs.begin.new_index.Goals as goal

pub returns-in-Ok-clause-seen : goal.returns-in-Ok-clause-seen
returns-in-Ok-clause-seen g c = λ honest.
    let is = c.in-Ok.ensures in
    let fresh = is.fresh honest in
    if_new_sees _ _ _ _ _ _ _ g.D.SectorDisk.state c.leaves.ensures.read c.inners.ensures.read g.met.K.KeyClass.start_is_key c.a_class_is_lawful.ensures
    (record { pages = c.args.pages; most = c.args.most; class = g.K.KeyClass.CLASS }) c.args.disk c.format.new.disk honest is.formats is.root fresh.0 fresh.1 c.args.frames c.begin_engine.result c.begin_engine.ensures.new
