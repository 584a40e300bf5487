use Rattle.std.proofs.lemmas.Grind.{common_steps}
use Rattle.std.proofs.Common.{◌≡◌, ◌+◌, ◌≤◌, length, get_or, subst, ap, sym, ◌∙◌, arith}
use Rattle.std.proofs.lemmas.List.{take_at}
use Rattle.gx_node.specs.Reading.{format_of}
use Rattle.gx_node.specs.Seen.{child_seen}
use Rattle.gx_node.proofs.Parts.{IsLawful}
use Rattle.gx_node.proofs.Slots.{inner_is_keyed}
use Rattle.gx_node.proofs.EditedInners.{child_long, inner_appended}
use Rattle.gx_node.proofs.inner_edits.append.Goals as goal

pub append_item-requires-clause-items : goal.append_item-requires-clause-items
append_item-requires-clause-items g c =
    let k = g.K.KeyClass in
    let f = format_of k in
    let laws : IsLawful k.is_key k.spelling f = record { back = g.met.K.KeyClass.reading_back; only = g.met.K.KeyClass.reading_only; size = g.met.K.KeyClass.spelling_length } in
    let size = c.KEY-size.ensures in
    let long : length c.write_child.new.out ≡ c.KEY-size.result + 4 =
    ap length c.write_child.ensures ∙ child_long k.is_key k.spelling f laws (child_seen (c.args.bound, c.args.child)) c.known.ensures ∙ ap (λ n. n + 4) (sym size) in
    λ n d h. subst (λ m. length (get_or c.args.page.now.items n d) ≤ m) (sym (ap length (take_at c.write_child.new.out _ (c.KEY-size.result + 4) long))) (omega (arith, (inner_is_keyed f c.args._used c.args.page.now c.requires.inner n d h).long))

pub returns : goal.returns
returns g c =
    let k = g.K.KeyClass in
    let f = format_of k in
    let laws : IsLawful k.is_key k.spelling f = record { back = g.met.K.KeyClass.reading_back; only = g.met.K.KeyClass.reading_only; size = g.met.K.KeyClass.spelling_length } in
    let size = c.KEY-size.ensures in
    let long : length c.write_child.new.out ≡ c.KEY-size.result + 4 =
    ap length c.write_child.ensures ∙ child_long k.is_key k.spelling f laws (child_seen (c.args.bound, c.args.child)) c.known.ensures ∙ ap (λ n. n + 4) (sym size) in
    let is = inner_appended f c.args._used k.is_key k.spelling laws c.ranges._used.fits c.args.page.now c.append_item.new.page _ (child_seen (c.args.bound, c.args.child)) c.requires.inner
    (record { key = c.known.ensures; some = c.requires.taken.0; taken = c.requires.taken.1 })
    (take_at c.write_child.new.out _ (c.KEY-size.result + 4) long ∙ c.write_child.ensures) c.append_item.ensures in
    record { inner = is.inner; node = is.node; number = is.number }

pub slice_bounds-bytes-end-2 : goal.slice_bounds-bytes-end-2
slice_bounds-bytes-end-2 g c = grind (arith, common_steps)

pub slice_bounds-append_item-end : goal.slice_bounds-append_item-end
slice_bounds-append_item-end g c = grind (arith, common_steps)

pub append_item-requires-clause-few : goal.append_item-requires-clause-few
append_item-requires-clause-few g c = grind (arith, common_steps)

pub append_item-requires-clause-item : goal.append_item-requires-clause-item
append_item-requires-clause-item g c = grind (arith, common_steps)
