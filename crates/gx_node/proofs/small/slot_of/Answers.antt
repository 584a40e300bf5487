use Rattle.std.proofs.Common.{[], length, ap, ◌∙◌, arith}
use Rattle.std.proofs.lemmas.Grind.{common_steps}
use Rattle.gx_node.specs.Reading.{format_of}
use Rattle.gx_node.specs.Small.{is_item_of}
use Rattle.gx_node.proofs.Slots.{leaf_is_keyed}
use Rattle.gx_node.proofs.SmallItems.{first_is, none_is}
use Rattle.gx_node.proofs.small.slot_of.Goals as goal

pub is_item_of-requires : goal.is_item_of-requires
is_item_of-requires g c =
    ap length c.get.ensures.item ∙ (leaf_is_keyed (format_of g.K.KeyClass) c.args.page.now c.requires c.loop-slot.slot [] (omega arith)).long

pub returns-then-is_item_of : goal.returns-then-is_item_of
returns-then-is_item_of g c =
    let f = format_of g.K.KeyClass in
    first_is (is_item_of f c.args.row c.args.key.now) c.args.page.now.items [] c.loop-slot.slot (omega arith) c.loop-slot.invariant (grind (arith, common_steps))

pub returns : goal.returns
returns g c =
    let f = format_of g.K.KeyClass in
    none_is (is_item_of f c.args.row c.args.key.now) c.args.page.now.items [] (λ k h. c.loop-slot.invariant k (omega arith))
