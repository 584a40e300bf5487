use Rattle.std.proofs.Common.{sym, subst, List, not}
use Rattle.gx_machine.specs.declared.entry.Entry.{Entry}
use Rattle.gx_machine.specs.Keys.{keys, IsLawful}
use Rattle.gx_machine.specs.Sets.{has, InOrder}
use Rattle.gx_machine.proofs.SetLaws.{in_order_filter, in_order_including_all}
use Rattle.gx_plain.proofs.views.take_over.Goals as goal

pub returns-clause-in_order : goal.returns-clause-in_order
returns-clause-in_order g c =
    let k = keys g.B.Ord.cmp g.B.Shape.overlap g.B.Shape.inside in
    let lawful : IsLawful k = record { total = g.met.B.Ord.total; exact = g.met.B.Shape.same } in
    let P : List (Entry g.row.B.Denot) → Type 0 = λ s. InOrder k s in
    subst P (sym c.merge.ensures.items) (in_order_including_all k lawful c.args.added.now c.exclude_all.new.set.items
    (subst P (sym c.exclude_all.ensures.items) (in_order_filter k lawful (λ x. not (has k x c.args.taken.now)) c.args.latest.now.items c.requires.in_order)))

pub merge-requires-clause-in_order : goal.merge-requires-clause-in_order
merge-requires-clause-in_order g c =
    let k = keys g.B.Ord.cmp g.B.Shape.overlap g.B.Shape.inside in
    let lawful : IsLawful k = record { total = g.met.B.Ord.total; exact = g.met.B.Shape.same } in
    let P : List (Entry g.row.B.Denot) → Type 0 = λ s. InOrder k s in
    subst P (sym c.exclude_all.ensures.items) (in_order_filter k lawful (λ x. not (has k x c.args.taken.now)) c.args.latest.now.items c.requires.in_order)
