use Rattle.std.proofs.Common.{[], sym, ◌∙◌, arith}
use Rattle.gx_node.specs.Reading.{format_of}
use Rattle.gx_node.specs.Small.{is_item_of}
use Rattle.gx_node.proofs.Slots.{leaf_is_keyed}
use Rattle.gx_node.proofs.SmallItems.{mark_misses, mark_finds, found_at}
use Rattle.gx_node.proofs.small.mark_pair.Goals as goal

pub returns-in_default-clause-fits : goal.returns-in_default-clause-fits
returns-in_default-clause-fits g c = mark_misses (format_of g.K.KeyClass) c.args.row c.args.key.now c.args.page.now c.in_default.ensures

pub set_byte-requires-clause-index : goal.set_byte-requires-clause-index
set_byte-requires-clause-index g c =
    let f = format_of g.K.KeyClass in
    let items = c.args.page.now.items in
    let found = found_at (is_item_of f c.args.row c.args.key.now) items c.in-Some.slot c.in-Some.ensures in
    omega (arith, (leaf_is_keyed f c.args.page.now (sym c.is_leaf.ensures ∙ c.if-not-is_leaf.false) c.in-Some.slot [] found.1).long, c.KEY.ensures)

pub returns-clause-fits : goal.returns-clause-fits
returns-clause-fits g c =
    mark_finds (format_of g.K.KeyClass) c.args.row c.args.key.now c.args.page.now c.in-Some.slot (sym c.is_leaf.ensures ∙ c.if-not-is_leaf.false) c.in-Some.ensures
