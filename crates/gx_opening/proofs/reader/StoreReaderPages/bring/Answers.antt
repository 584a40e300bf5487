use Rattle.gx_node.specs.Reading.{format_of, is_node}
use Rattle.gx_opening.proofs.Sounding.{read_right}
use Rattle.gx_opening.proofs.reader.StoreReaderPages.bring.Goals as goal

pub returns : goal.returns
returns g c =
    let f = format_of g.K.KeyClass in
    let brought = c.bring-brought.ensures in
    let new = c.bring-brought.new.self in
    rw (← c.self.view_is) (record {
      held = read_right (is_node f) (g.D.SectorDisk.state new.disk) new c.args.pages.now c.bring-brought.result brought.held c.in_order.ensures;
      stays = brought.stays;
      steady = brought.steady;
      since = brought.since;
      asked = brought.asked;
      why = brought.why;
      later = brought.later;
      told = brought.told;
    })
