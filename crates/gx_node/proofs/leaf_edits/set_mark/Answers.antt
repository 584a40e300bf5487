use Rattle.std.proofs.Common.{◌+◌, ◌<◌, [], length, get_or, set, ap, ◌∙◌, arith}
use Rattle.std.proofs.lemmas.List.{length-map}
use Rattle.gx_page.specs.Edits.{with_items}
use Rattle.gx_node.specs.Edits.{with_pairs, marked_as}
use Rattle.gx_node.specs.Reading.{format_of, pair_of, leaf_of}
use Rattle.gx_node.proofs.Slots.{leaf_is_keyed, slot_is}
use Rattle.gx_node.proofs.EditedLeaves.{leaf_marked, bool_mark}
use Rattle.gx_node.proofs.leaf_edits.set_mark.Goals as goal

pub set_byte-requires-clause-index : goal.set_byte-requires-clause-index
set_byte-requires-clause-index g c =
    let k = g.K.KeyClass in
    let f = format_of k in
    let items = c.args.page.now.items in
    let here : c.args.slot < length items = omega (arith, c.requires.slot, length-map items (pair_of f)) in
    omega (arith, (leaf_is_keyed f c.args.page.now c.requires.leaf c.args.slot [] here).long, c.KEY.ensures)

pub returns : goal.returns
returns g c =
    let k = g.K.KeyClass in
    let f = format_of k in
    let items = c.args.page.now.items in
    let slot = c.args.slot in
    let item = get_or items slot [] in
    let here : slot < length items = omega (arith, c.requires.slot, length-map items (pair_of f)) in
    let is = leaf_marked f c.args.page.now c.set_byte.new.self slot c.from.result c.args.marked c.requires.leaf here (c.from.ensures ∙ bool_mark c.args.marked)
    (c.set_byte.ensures ∙ ap (λ n. with_items c.args.page.now (set items slot (set item (n + 8) c.from.result))) c.KEY.ensures) in
    record {
      leaf = is.leaf;
      node = λ pair at. is.node ∙ ap (λ x. with_pairs (leaf_of f c.args.page.now) (set (leaf_of f c.args.page.now).pairs slot (marked_as c.args.marked x))) (slot_is (pair_of f) items slot [] pair here at);
      number = is.number;
    }
