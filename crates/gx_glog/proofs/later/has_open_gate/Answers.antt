use Rattle.std.proofs.Common.{◌∙◌, ap, sym, ℕ, List, arith}
use Rattle.gx_glog.specs.Layout.{is_open}
use Rattle.gx_glog.proofs.later.has_open_gate.Goals as goal

pub returns-then-branch-clause-below : goal.returns-then-branch-clause-below
returns-then-branch-clause-below g c = λ is. omega (arith, c.loop-i-test.true, c.loop-i.invariant.later)

pub returns-then-branch-clause-gates : goal.returns-then-branch-clause-gates
returns-then-branch-clause-gates g c = λ honest. record {
  place = c.loop-i.i;
  later = c.loop-i.invariant.later;
  below = c.loop-i-test.true;
  reads = ap (λ (seen : List ℕ). is_open seen c.args.extent c.loop-i.i) (sym (c.loop-i.invariant.looks honest).rests.seen) ∙ sym (c.in_ok-is_open_gate.ensures.state (c.loop-i.invariant.counts.honest ∙ honest)) ∙ c.if-branch.true;
}
