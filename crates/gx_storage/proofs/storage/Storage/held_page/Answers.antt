use Rattle.gx_node.specs.Reading.{format_of, is_node}
use Rattle.gx_store.proofs.Shown.{held_node, lent}
use Rattle.gx_storage.proofs.Writing.{held_number, held_stands}
use Rattle.gx_storage.proofs.storage.Storage.held_page.Goals as goal

pub returns-clause-stands : goal.returns-clause-stands
returns-clause-stands g c =
    let s = c.self.inside.store in
    let held = rw (← c.self.view_is) at c.requires in
    rw (← c.self.view_is) (held_stands s (g.D.SectorDisk.state s.disk).seen c.args.page c.held_page.result.now held c.held_page.ensures)

pub returns-clause-node : goal.returns-clause-node
returns-clause-node g c =
    let s = c.self.inside.store in
    let held = rw (← c.self.view_is) at c.requires in
    let is = lent s.frames c.args.page c.held_page.result.now held.kept c.held_page.ensures in
    rw (← c.self.view_is) (held_node (format_of g.K.KeyClass) (g.D.SectorDisk.state s.disk).seen s c.args.page c.held_page.result.now held is)

pub returns-clause-number : goal.returns-clause-number
returns-clause-number g c =
    let s = c.self.inside.store in
    let held = rw (← c.self.view_is) at c.requires in
    held_number (is_node (format_of g.K.KeyClass) s.pages) s c.args.page c.held_page.result.now c.in_order.ensures.passed held c.held_page.ensures
