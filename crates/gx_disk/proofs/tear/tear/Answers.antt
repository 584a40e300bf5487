use Rattle.std.proofs.Common.{◌≡◌, ◌∙◌, sym, inl, inr, refl, false, arith}
use Rattle.std.proofs.lemmas.Bool.{cases_lt}
use Rattle.gx_disk.specs.Memory.{pending_after}
use Rattle.gx_disk.proofs.tear.Tearing.{pending_below_none, pending_below_next}
use Rattle.gx_disk.proofs.tear.tear.Goals as goal

pub loop-s-init : goal.loop-s-init
loop-s-init c = record {
  size = c.requires.whole;
  count = pending_below_none (pending_after c.args.calls.now false);
  few = omega arith;
  below = λ r lt. absurd (omega arith);
  above = λ r le. refl;
}

pub loop-s-preserved : goal.loop-s-preserved
loop-s-preserved c = let k = c.loop-s.invariant in let e = c.tear_next-i.ensures in record {
  size = e.size ∙ k.size;
  count = omega (arith, e.count, k.count, pending_below_next (pending_after c.args.calls.now false) c.loop-s.s);
  few = omega (arith, e.bound, k.few);
  below = λ r lt. elim (cases_lt r c.loop-s.s) [
    | inl less ↦ e.others r (inl less) ∙ k.below r less
    | inr at_least ↦ let is : r ≡ c.loop-s.s = omega arith in rw is (e.there c.args.bytes.now.items c.requires.whole (sym (k.above c.loop-s.s (omega arith))) k.count)
  ];
  above = λ r le. e.others r (inr le) ∙ k.above r (omega arith);
}
