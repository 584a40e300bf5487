use Rattle.std.proofs.Common.{true}
use Rattle.gx_machine.specs.Keys.{keys}
use Rattle.gx_node.specs.Reading.{format_of, is_node}
use Rattle.gx_engine.proofs.writes.seeks.Joined.{seek_write}
use Rattle.gx_engine.proofs.engine.Engine.delete_at.Goals as goal

pub returns-clause-comes : goal.returns-clause-comes
returns-clause-comes g c =
    let k = keys g.K.Key.Ord.cmp g.K.Key.Shape.overlap g.K.Key.Shape.inside in
    let short = g.met.K.KeyClass.key_is_short in
    seek_write (format_of g.K.KeyClass) g.K.KeyClass.is_key k g.K.KeyClass.KEY short (is_node (format_of g.K.KeyClass)) _ _ c.args.session c.args.entry c.args.leaf true c.args.self.now c.write_at.new.self
    c.requires.seeks c.write_at.result
    c.write_at.ensures.comes
