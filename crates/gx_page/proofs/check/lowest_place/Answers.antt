-- Each slot is the next of the directory, in order or not.
use Rattle.std.proofs.Common.{◌≡◌, ℕ, ◌+◌, ◌-◌, ◌*◌, drop, sym, ap, ◌∙◌, arith}
use Rattle.gx_page.specs.Faults.{lowest}
use Rattle.gx_page.specs.Reading.{entries}
use Rattle.gx_page.proofs.Slots.{lowest_none, lowest_goes, lowest_ends}
use Rattle.gx_page.proofs.check.lowest_place.Goals.{then-size-eq0-via-then-size-eq0, then-size-eq0-via-else-size-eq0+then-place-size}
use Rattle.gx_page.proofs.check.lowest_place.Goals as goal

pub returns-then-size-eq0 : goal.returns-then-size-eq0
returns-then-size-eq0 c =
    let ends = lowest_ends c.args.bytes.now c.args.count c.loop-slot.slot c.loop-slot.end c.from-place.result c.from-size.result (lowest 4096 (entries c.args.count (drop 32 c.args.bytes.now))) c.loop-slot-test.true
    (c.from-place.ensures ∙ c.u16_at.ensures) (c.from-size.ensures ∙ c.u16_at-in-loop-slot.ensures) in
    elim c.then-size-eq0.branch [
      | then-size-eq0-via-then-size-eq0 w ↦ ends (λ some is. some w.if-size-eq0.true) c.loop-slot.invariant
      | then-size-eq0-via-else-size-eq0+then-place-size w ↦ ends (λ some is. w.if-place-size.true is) c.loop-slot.invariant
    ]

pub loop-slot-preserved : goal.loop-slot-preserved
loop-slot-preserved c =
    lowest_goes c.args.bytes.now c.args.count c.loop-slot.slot c.loop-slot.end c.from-place.result c.from-size.result (lowest 4096 (entries c.args.count (drop 32 c.args.bytes.now))) c.loop-slot-test.true
    (c.from-place.ensures ∙ c.u16_at.ensures) (c.from-size.ensures ∙ c.u16_at-in-loop-slot.ensures) c.if-size-eq0.false c.if-place-size.false c.loop-slot.invariant

pub returns : goal.returns
returns c =
    let none : c.args.count - c.loop-slot.slot ≡ 0 = omega arith in
    sym (lowest_none c.loop-slot.end) ∙ ap (λ (n : ℕ). lowest c.loop-slot.end (entries n (drop (32 + 4 * c.loop-slot.slot) c.args.bytes.now))) (sym none) ∙ c.loop-slot.invariant
