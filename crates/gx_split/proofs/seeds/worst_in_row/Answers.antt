use Rattle.std.proofs.Common.{sym, length, arith}
use Rattle.gx_split.specs.Split.{measure, pair, waste_at}
use Rattle.gx_split.proofs.Steps.{worst_in_row-none, row_goes_on}
use Rattle.gx_split.proofs.seeds.worst_in_row.Goals as goal

pub loop-k-init : goal.loop-k-init
loop-k-init g c = record {
  slots = sym (worst_in_row-none _ _ _);
  wastes = c.requires.wasted;
  in_order = c.requires.best_order;
  within = c.requires.best;
}

pub loop-k-preserved : goal.loop-k-preserved
loop-k-preserved g c =
    let w_at = waste_at (measure g.M.Measure.joined g.M.Measure.extent) c.args.keys.now in
    row_goes_on w_at (length c.args.keys.now) (pair c.args.best.lower c.args.best.higher) c.args.lower c.loop-k.k c.loop-k.worst c.pair_of.result c.worse-worst.result
    c.worse-worst.ensures c.loop-k.invariant c.pair_of.ensures.lower c.pair_of.ensures.higher c.pair_of.ensures.wastes (omega arith)
