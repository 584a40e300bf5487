use Rattle.std.proofs.Common.{◌-◌, ◌∙◌, ap, arith}
use Rattle.gx_geom.specs.Spans.{hull, size}
use Rattle.gx_class.specs.IntervalKeyLaws.{size_grows}
use Rattle.gx_class.proofs.interval_class.IntervalClassKeyClass.penalty.Goals as goal

pub overflow_sub-result : goal.overflow_sub-result
overflow_sub-result c =
    let grows = size_grows c.args.bound.now c.args.key.now c.size.ensures.in_order in
    let wide = c.size-2.ensures.value ∙ ap size c.union.ensures in
    omega (arith, grows, wide, c.size.ensures.value, c.from.ensures, c.from-size.ensures)

pub returns : goal.returns
returns c =
    let grown = c.from.ensures ∙ c.size-2.ensures.value ∙ ap size c.union.ensures in
    let was = c.from-size.ensures ∙ c.size.ensures.value in
    ap (λ n. (n - c.from-size.result, c.from-size.result)) grown ∙ ap (λ n. (size (hull c.args.bound.now c.args.key.now) - n, n)) was
