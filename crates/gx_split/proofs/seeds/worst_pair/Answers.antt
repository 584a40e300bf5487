use Rattle.std.proofs.Common.{sym, ◌∙◌, ap, ◌-◌, ◌≡◌, length, arith}
use Rattle.gx_split.specs.Split.{measure, waste_at, worst_in_row}
use Rattle.gx_split.proofs.Steps.{worst_in_rows-none, worst_in_rows-more, worst_pair-is}
use Rattle.gx_split.proofs.seeds.worst_pair.Goals as goal

pub loop-lower-init : goal.loop-lower-init
loop-lower-init g c = record { slots = rw worst_in_rows-none (cc); wastes = c.pair_of-worst.ensures.wastes; in_order = omega arith; within = omega arith }

pub loop-lower-preserved : goal.loop-lower-preserved
loop-lower-preserved g c = record {
  slots =
      c.worst_with_row-worst.ensures.slots
      ∙ ap (λ p. worst_in_row (waste_at (measure g.M.Measure.joined g.M.Measure.extent) c.args.keys.now) p c.loop-lower.lower (length c.args.keys.now - 1 - c.loop-lower.lower)) c.loop-lower.invariant.slots
      ∙ sym (worst_in_rows-more _ _ _);
  wastes = c.worst_with_row-worst.ensures.wastes;
  in_order = c.worst_with_row-worst.ensures.in_order;
  within = c.worst_with_row-worst.ensures.within;
}

pub returns-clause-slots : goal.returns-clause-slots
returns-clause-slots g c =
    let e : c.loop-lower.lower ≡ length c.args.keys.now - 1 = omega arith in
    rw (worst_pair-is, ← e) c.loop-lower.invariant.slots
