use Rattle.std.proofs.Common.{◌∙◌, ◌<◌, ap, sym, arith, [], length}
use Rattle.std.proofs.lemmas.List.{length-map}
use Rattle.std.specs.Prelude.{slice_get}
use Rattle.gx_node.specs.Reading.{format_of, pair_of}
use Rattle.gx_node.specs.Seen.{pair_seen}
use Rattle.gx_node.proofs.Slots.{slot_made}
use Rattle.gx_node.proofs.leaf.Leaf.entry.Goals as goal

pub returns : goal.returns
returns g c =
    let f = format_of g.K.KeyClass in
    let view = c.self.view_is in
    let items = c.self.inside.page.now.items in
    let here : c.args.slot < length items = omega (arith, ap (λ n. length n.pairs) view, length-map items (pair_of f)) in
    ap (λ n. slice_get n.pairs c.args.slot) (sym view) ∙ slot_made (pair_of f) items c.args.slot [] (pair_seen c.pair_of.result) here
    (c.pair_of.ensures ∙ ap (pair_of f) c.item_in.ensures.item)
