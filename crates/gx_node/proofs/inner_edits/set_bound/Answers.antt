use Rattle.std.proofs.lemmas.Grind.{common_steps}
use Rattle.std.proofs.Common.{◌≡◌, ◌+◌, ◌<◌, [], length, set, get_or, ap, sym, ◌∙◌, arith}
use Rattle.std.proofs.lemmas.List.{take_at, length-map}
use Rattle.gx_node.specs.Edits.{with_children, bounded_by}
use Rattle.gx_node.specs.Entries.{child_bytes}
use Rattle.gx_node.specs.Reading.{format_of, child_of, inner_of}
use Rattle.gx_node.specs.Seen.{child_seen}
use Rattle.gx_node.proofs.Parts.{IsLawful}
use Rattle.gx_node.proofs.Slots.{inner_is_keyed, slot_is}
use Rattle.gx_node.proofs.EditedInners.{child_long, inner_bounded}
use Rattle.gx_node.proofs.inner_edits.set_bound.Goals as goal

pub child_of-child-requires : goal.child_of-child-requires
child_of-child-requires g c =
    let k = g.K.KeyClass in
    let f = format_of k in
    let items = c.args.page.now.items in
    let here : c.args.slot < length items = omega (arith, c.requires.slot, length-map items (child_of f)) in
    ap length c.get.ensures.item ∙ (inner_is_keyed f c.args._used c.args.page.now c.requires.inner c.args.slot [] here).long

pub replace-requires-clause-size : goal.replace-requires-clause-size
replace-requires-clause-size g c =
    let k = g.K.KeyClass in
    let f = format_of k in
    let laws : IsLawful k.is_key k.spelling f = record { back = g.met.K.KeyClass.reading_back; only = g.met.K.KeyClass.reading_only; size = g.met.K.KeyClass.spelling_length } in
    let size = c.KEY-size.ensures in
    let long : length c.write_child.new.out ≡ c.KEY-size.result + 4 =
    ap length c.write_child.ensures ∙ child_long k.is_key k.spelling f laws (child_seen (c.args.bound, c.child_of-child.result.1)) c.known.ensures ∙ ap (λ n. n + 4) (sym size) in
    let items = c.args.page.now.items in
    let here : c.args.slot < length items = omega (arith, c.requires.slot, length-map items (child_of f)) in
    ap length (take_at c.write_child.new.out _ (c.KEY-size.result + 4) long) ∙ long ∙ ap (λ n. n + 4) size ∙ sym (inner_is_keyed f c.args._used c.args.page.now c.requires.inner c.args.slot [] here).long

pub returns : goal.returns
returns g c =
    let k = g.K.KeyClass in
    let f = format_of k in
    let laws : IsLawful k.is_key k.spelling f = record { back = g.met.K.KeyClass.reading_back; only = g.met.K.KeyClass.reading_only; size = g.met.K.KeyClass.spelling_length } in
    let size = c.KEY-size.ensures in
    let long : length c.write_child.new.out ≡ c.KEY-size.result + 4 =
    ap length c.write_child.ensures ∙ child_long k.is_key k.spelling f laws (child_seen (c.args.bound, c.child_of-child.result.1)) c.known.ensures ∙ ap (λ n. n + 4) (sym size) in
    let items = c.args.page.now.items in
    let slot = c.args.slot in
    let here : slot < length items = omega (arith, c.requires.slot, length-map items (child_of f)) in
    let bytes : c.write_child.new.out ≡ child_bytes k.spelling (bounded_by c.args.bound (child_of f (get_or items slot []))) =
    c.write_child.ensures ∙ ap (λ p. child_bytes k.spelling (bounded_by c.args.bound p)) (c.child_of-child.ensures ∙ ap (child_of f) c.get.ensures.item) in
    let is = inner_bounded f c.args._used k.is_key k.spelling laws c.ranges._used.fits c.args.page.now c.replace.new.self slot _ c.args.bound c.requires.inner here c.known.ensures
    (take_at c.write_child.new.out _ (c.KEY-size.result + 4) long ∙ bytes) c.replace.ensures in
    record {
      inner = is.inner;
      node = λ child at. is.node ∙ ap (λ x. with_children (inner_of f c.args.page.now) (set (inner_of f c.args.page.now).children slot (bounded_by c.args.bound x))) (slot_is (child_of f) items slot [] child here at);
      number = is.number;
    }

pub get-requires : goal.get-requires
get-requires g c = grind (arith, common_steps)

pub slice_bounds-bytes-end-2 : goal.slice_bounds-bytes-end-2
slice_bounds-bytes-end-2 g c = grind (arith, common_steps)

pub slice_bounds-replace-end : goal.slice_bounds-replace-end
slice_bounds-replace-end g c = grind (arith, common_steps)

pub replace-requires-clause-slot : goal.replace-requires-clause-slot
replace-requires-clause-slot g c = grind (arith, common_steps)
