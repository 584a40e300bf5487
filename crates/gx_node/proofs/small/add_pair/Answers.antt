use Rattle.std.proofs.Common.{◌≡◌, ◌+◌, length, sym, ap, ◌∙◌, arith}
use Rattle.std.specs.Prelude.{is_some}
use Rattle.gx_node.specs.Reading.{format_of}
use Rattle.gx_node.proofs.Parts.{IsLawful}
use Rattle.gx_node.proofs.EditedLeaves.{pair_long}
use Rattle.gx_node.proofs.SmallItems.{pair_stands, pair_lacks, none_longer}
use Rattle.gx_node.proofs.small.add_pair.Goals as goal

pub returns-then-is_some-clause-fits : goal.returns-then-is_some-clause-fits
returns-then-is_some-clause-fits g c =
    pair_stands (format_of g.K.KeyClass) c.args.row c.args.key.now c.args.page.now c.args.most (sym (ap is_some c.slot_of.ensures) ∙ sym c.is_some.ensures ∙ c.if-is_some.true)

pub append_item-requires-clause-items : goal.append_item-requires-clause-items
append_item-requires-clause-items g c =
    let k = g.K.KeyClass in
    let f = format_of k in
    let laws : IsLawful k.is_key k.spelling f = record { back = g.met.K.KeyClass.reading_back; only = g.met.K.KeyClass.reading_only; size = g.met.K.KeyClass.spelling_length } in
    let size = c.KEY-size.ensures in
    let long : length c.write_pair.new.out ≡ c.KEY-size.result + 9 =
    ap length c.write_pair.ensures.bytes ∙ pair_long k.is_key k.spelling f laws _ c.write_pair.ensures.pair ∙ ap (λ n. n + 9) (sym size) in
    none_longer f c.args.page.now c.write_pair.new.out _ (c.KEY-size.result + 9) (sym c.is_leaf.ensures ∙ c.if-not-is_leaf.false) long (ap (λ n. n + 9) size)

pub returns-clause-fits : goal.returns-clause-fits
returns-clause-fits g c =
    pair_lacks (format_of g.K.KeyClass) c.args.row c.args.key.now c.args.page.now c.args.most (sym c.is_leaf.ensures ∙ c.if-not-is_leaf.false) (omega arith)
    (sym (ap is_some c.in-Some.ensures)) (sym (ap is_some c.slot_of.ensures) ∙ sym c.is_some.ensures ∙ c.if-is_some.false)
