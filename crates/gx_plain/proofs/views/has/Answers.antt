use Rattle.std.proofs.Common.{◌≡◌, Bool, true, false, not, ◌||◌, ◌&&◌, ap, sym, ◌∙◌}
use Rattle.gx_machine.specs.Keys.{keys}
use Rattle.gx_machine.specs.Sets.{has}
use Rattle.gx_machine.proofs.SetLaws.{has-view}
use Rattle.gx_plain.proofs.views.has.Goals as goal

-- the three ways to the answer, where v is whether the view has the entry
by_plus : (v p m l r : Bool) → v ≡ (p || (not m && l)) → r ≡ p → r ≡ true → r ≡ v
by_plus v true m l r e f h = f ∙ sym e
by_plus v false m l r e f h = cc

by_latest : (v p m l r s t : Bool) → v ≡ (p || (not m && l)) → r ≡ p → r ≡ false → s ≡ m → s ≡ false → t ≡ l → t ≡ v
by_latest v true m l r s t e f h n i j = cc
by_latest v false m l r s t e f h n i j = j ∙ ap (λ (b : Bool). not b && l) (sym i ∙ n) ∙ sym e

by_minus : (v p m l r s : Bool) → v ≡ (p || (not m && l)) → r ≡ p → r ≡ false → s ≡ m → s ≡ true → not s ≡ v
by_minus v true m l r s e f h n i = cc
by_minus v false m l r s e f h n i = ap not i ∙ ap (λ (b : Bool). not b && l) (sym i ∙ n) ∙ sym e

pub returns-then-has : goal.returns-then-has
returns-then-has g c =
    let k = keys g.B.Ord.cmp g.B.Shape.overlap g.B.Shape.inside in
    let e = c.args.e.now in
    by_plus _ (has k e c.args.added.now) (has k e c.args.taken.now) (has k e c.args.latest.now) _
    (has-view k (record { total = g.met.B.Ord.total; exact = g.met.B.Shape.same }) e c.args.latest.now c.args.added.now c.args.taken.now)
    c.has.ensures c.if-has.true

pub returns-then-not-has : goal.returns-then-not-has
returns-then-not-has g c =
    let k = keys g.B.Ord.cmp g.B.Shape.overlap g.B.Shape.inside in
    let e = c.args.e.now in
    by_latest _ (has k e c.args.added.now) (has k e c.args.taken.now) (has k e c.args.latest.now) _ _ _
    (has-view k (record { total = g.met.B.Ord.total; exact = g.met.B.Shape.same }) e c.args.latest.now c.args.added.now c.args.taken.now)
    c.has.ensures c.if-has.false c.has-else-has.ensures c.if-not-has.true c.has_in_order.ensures

pub returns-else-not-has : goal.returns-else-not-has
returns-else-not-has g c =
    let k = keys g.B.Ord.cmp g.B.Shape.overlap g.B.Shape.inside in
    let e = c.args.e.now in
    by_minus _ (has k e c.args.added.now) (has k e c.args.taken.now) (has k e c.args.latest.now) _ _
    (has-view k (record { total = g.met.B.Ord.total; exact = g.met.B.Shape.same }) e c.args.latest.now c.args.added.now c.args.taken.now)
    c.has.ensures c.if-has.false c.has-else-has.ensures c.if-not-has.false
