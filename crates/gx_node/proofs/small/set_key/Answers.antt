use Rattle.std.proofs.Common.{◌≡◌, ◌+◌, not, length, drop, sym, ap, ◌∙◌, arith}
use Rattle.std.specs.Prelude.{is_some}
use Rattle.std.proofs.lemmas.List.{length-append, length-drop}
use Rattle.gx_node.specs.Reading.{format_of}
use Rattle.gx_node.proofs.Parts.{IsLawful}
use Rattle.gx_node.proofs.SmallItems.{bound_long, is_spelled, front_long}
use Rattle.gx_node.proofs.small.set_key.Goals as goal

pub write_bound-requires-clause-key : goal.write_bound-requires-clause-key
write_bound-requires-clause-key g c =
    let k = g.K.KeyClass in
    let f = format_of k in
    let laws : IsLawful k.is_key k.spelling f = record { back = g.met.K.KeyClass.reading_back; only = g.met.K.KeyClass.reading_only; size = g.met.K.KeyClass.spelling_length } in
    is_spelled k.is_key k.spelling f laws c.args.key.now (λ i. omega (arith, c.type_inv.key i)) (sym (ap is_some c.read_key.ensures) ∙ c.is_none.ensures ∙ ap not c.if-is_none.false)

pub write_bound-requires-clause-item : goal.write_bound-requires-clause-item
write_bound-requires-clause-item g c =
    let f = format_of g.K.KeyClass in
    ap length c.get.ensures.item ∙ bound_long f c.args.page.now.items c.args.slot (sym c.are_bounds.ensures ∙ c.if-not-are_bounds.false) (omega arith)

pub replace-requires-clause-size : goal.replace-requires-clause-size
replace-requires-clause-size g c =
    let k = g.K.KeyClass in
    let f = format_of k in
    let laws : IsLawful k.is_key k.spelling f = record { back = g.met.K.KeyClass.reading_back; only = g.met.K.KeyClass.reading_only; size = g.met.K.KeyClass.spelling_length } in
    let key = is_spelled k.is_key k.spelling f laws c.args.key.now (λ i. omega (arith, c.type_inv.key i)) (sym (ap is_some c.read_key.ensures) ∙ c.is_none.ensures ∙ ap not c.if-is_none.false) in
    let bound = bound_long f c.args.page.now.items c.args.slot (sym c.are_bounds.ensures ∙ c.if-not-are_bounds.false) (omega arith) in
    let item : length c.get.result.now ≡ k.KEY + 4 = ap length c.get.ensures.item ∙ bound in
    let long : length c.write_bound.new.out ≡ c.KEY-size.result + 4 =
    ap length c.write_bound.ensures ∙ omega (arith, length-append c.args.key.now (drop k.KEY c.get.result.now), length-drop k.KEY c.get.result.now, key, item, c.KEY-size.ensures) in
    front_long c.write_bound.new.out _ (c.KEY-size.result + 4) long ∙ ap (λ n. n + 4) c.KEY-size.ensures ∙ sym bound
