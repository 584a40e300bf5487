use Rattle.std.proofs.Common.{◌∙◌, refl, sym, inl}
use Rattle.gx_machine.specs.Keys.{keys}
use Rattle.gx_node.specs.Reading.{format_of}
use Rattle.gx_storage.specs.Imaged.{is_imaged}
use Rattle.gx_storage.specs.Small.{widen_room}
use Rattle.gx_engine.proofs.writes.descents.MakingRoom.{asks_widen, widen_is_short, widen_is_some}
use Rattle.gx_engine.proofs.engine.Engine.descend.Goals as goal

pub returns-then-is_due-clause-comes : goal.returns-then-is_due-clause-comes
returns-then-is_due-clause-comes g c =
    let old = c.args.self.now in
    let small = is_imaged old.volume.imaged c.args.item.page in (
      (
        widen_room small g.K.KeyClass.KEY,
        asks_widen (keys g.K.Key.Ord.cmp g.K.Key.Shape.overlap g.K.Key.Shape.inside) (format_of g.K.KeyClass) g.K.KeyClass.KEY (g.D.SectorDisk.state old.volume.shelf.disk) c.args.session c.args.entry c.args.parent c.args.item old c.requires.descends _ refl,
        widen_is_short small g.K.KeyClass.KEY g.met.K.KeyClass.key_is_short,
        inl (refl, sym c.is_due.ensures ∙ c.if-is_due.true, widen_is_some small g.K.KeyClass.KEY, λ page. refl),
      ),
      refl,
    )
