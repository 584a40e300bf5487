use Rattle.std.proofs.lemmas.Grind.{common_steps}
use Rattle.std.proofs.Common.{◌≡◌, ◌+◌, ◌≤◌, length, get_or, subst, ap, sym, ◌∙◌, arith}
use Rattle.std.proofs.lemmas.List.{take_at}
use Rattle.gx_node.specs.Reading.{format_of}
use Rattle.gx_node.specs.Seen.{pair_seen}
use Rattle.gx_node.proofs.Parts.{IsLawful}
use Rattle.gx_node.proofs.Slots.{leaf_is_keyed}
use Rattle.gx_node.proofs.EditedLeaves.{pair_long, leaf_appended}
use Rattle.gx_node.proofs.leaf_edits.append.Goals as goal

pub append_item-requires-clause-items : goal.append_item-requires-clause-items
append_item-requires-clause-items g c =
    let k = g.K.KeyClass in
    let f = format_of k in
    let laws : IsLawful k.is_key k.spelling f = record { back = g.met.K.KeyClass.reading_back; only = g.met.K.KeyClass.reading_only; size = g.met.K.KeyClass.spelling_length } in
    let size = c.KEY-size.ensures in
    let long : length c.write_pair.new.out ≡ c.KEY-size.result + 9 =
    ap length c.write_pair.ensures.bytes ∙ pair_long k.is_key k.spelling f laws (pair_seen (c.args.entry, c.args.marked)) c.write_pair.ensures.pair ∙ ap (λ n. n + 9) (sym size) in
    λ n d h. subst (λ m. length (get_or c.args.page.now.items n d) ≤ m) (sym (ap length (take_at c.write_pair.new.out _ (c.KEY-size.result + 9) long))) (omega (arith, (leaf_is_keyed f c.args.page.now c.requires.leaf n d h).long))

pub returns : goal.returns
returns g c =
    let k = g.K.KeyClass in
    let f = format_of k in
    let laws : IsLawful k.is_key k.spelling f = record { back = g.met.K.KeyClass.reading_back; only = g.met.K.KeyClass.reading_only; size = g.met.K.KeyClass.spelling_length } in
    let p = pair_seen (c.args.entry, c.args.marked) in
    let size = c.KEY-size.ensures in
    let long : length c.write_pair.new.out ≡ c.KEY-size.result + 9 =
    ap length c.write_pair.ensures.bytes ∙ pair_long k.is_key k.spelling f laws p c.write_pair.ensures.pair ∙ ap (λ n. n + 9) (sym size) in
    let is = leaf_appended f k.is_key k.spelling laws c.args.page.now c.append_item.new.page _ p c.requires.leaf c.write_pair.ensures.pair
    (take_at c.write_pair.new.out _ (c.KEY-size.result + 9) long ∙ c.write_pair.ensures.bytes) c.append_item.ensures in
    record { leaf = is.leaf; node = is.node; number = is.number }

pub slice_bounds-bytes-end-2 : goal.slice_bounds-bytes-end-2
slice_bounds-bytes-end-2 g c = grind (arith, common_steps)

pub slice_bounds-append_item-end : goal.slice_bounds-append_item-end
slice_bounds-append_item-end g c = grind (arith, common_steps)

pub append_item-requires-clause-few : goal.append_item-requires-clause-few
append_item-requires-clause-few g c = grind (arith, common_steps)

pub append_item-requires-clause-item : goal.append_item-requires-clause-item
append_item-requires-clause-item g c = grind (arith, common_steps)
