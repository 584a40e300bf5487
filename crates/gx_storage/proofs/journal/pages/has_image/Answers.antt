use Rattle.gx_node.specs.Reading.{format_of, is_node}
use Rattle.gx_storage.proofs.Writing.{held_given}
use Rattle.gx_storage.proofs.journal.pages.has_image.Goals as goal

pub returns : goal.returns
returns g c =
    let s = c.args.store.now in
    held_given (is_node (format_of g.K.KeyClass) s.pages) s (g.D.SectorDisk.state s.disk).seen c.args.page c.held_page-held.result.now c.in_order.ensures.passed c.requires c.held_page-held.ensures c.image.ensures.well_formed
