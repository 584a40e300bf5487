-- The key that the bytes spell is the one that is read.
use Rattle.std.proofs.Common.{◌≡◌, Some, ap, sym, ◌∙◌}
use Rattle.std.proofs.lemmas.Option.{none-some}
use Rattle.gx_geom.specs.Spans.{Span}
use Rattle.gx_class.specs.Intervals.{interval_passes}
use Rattle.gx_class.proofs.interval_probe.IntervalClassProbing.test.Goals as goal

one_key : (a b : Span) → Some a ≡ Some b → a ≡ b
one_key a b e = cc

pub returns-in_default : goal.returns-in_default
returns-in_default c key is e = absurd (none-some key (sym c.in_default.is ∙ c.decode.ensures.back key is e))

pub returns-then-probe : goal.returns-then-probe
returns-then-probe c key is e =
    let probe = c.args.probe.now in
    let same = one_key c.in-Some.key key (sym c.in-Some.is ∙ c.decode.ensures.back key is e) in
    c.consistent.ensures ∙ ap (λ t. interval_passes t probe.query c.in-Some.key) (sym c.if-probe.true) ∙ ap (interval_passes probe.of_bounds probe.query) same

pub returns-else-probe : goal.returns-else-probe
returns-else-probe c key is e =
    let probe = c.args.probe.now in
    let same = one_key c.in-Some.key key (sym c.in-Some.is ∙ c.decode.ensures.back key is e) in
    c.matches.ensures ∙ ap (λ t. interval_passes t probe.query c.in-Some.key) (sym c.if-probe.false) ∙ ap (interval_passes probe.of_bounds probe.query) same
