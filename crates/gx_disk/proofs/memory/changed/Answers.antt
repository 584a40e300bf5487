use Rattle.std.proofs.Common.{◌*◌, ◌-◌, sym, ◌∙◌, arith}
use Rattle.gx_disk.proofs.Spans.{rest_agrees}
use Rattle.gx_disk.proofs.memory.changed.Goals as goal

-- the last sector is the same too
pub loop-n-preserved : goal.loop-n-preserved
loop-n-preserved c = record {
  within = omega arith;
  same = rest_agrees (512 * (c.loop-n.n - 1)) 512 (512 * c.loop-n.n) c.args.old.now c.args.new.now (omega arith) (sym c.part.ensures ∙ c.are_same.ensures c.if-not-are_same.false ∙ c.part-in-loop-n.ensures) c.loop-n.invariant.same;
}
