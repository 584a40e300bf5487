use Rattle.std.proofs.Common.{◌∙◌, sym, ap, length, drop, arith}
use Rattle.gx_queue_disk.proofs.queue.Outlines.{none_left, nothing_kept}
use Rattle.gx_queue_disk.proofs.queue.CallQueue.begin_anew.Goals as goal

pub invariant_of-self : goal.invariant_of-self
invariant_of-self c = nothing_kept c.clear.new.self.items c.clear-2.new.self.items c.clear.ensures.items c.clear-2.ensures.items

pub returns : goal.returns
returns c =
    let s = c.self.inside in
    let was = none_left s.calls.items (drop s.at s.bytes.items) s.taken (omega (arith, c.len.ensures, s.calls.ok.0, c.if-self-len.false)) in
    none_left c.clear.new.self.items c.clear-2.new.self.items 0 (omega (arith, ap length c.clear.ensures.items)) ∙ sym was ∙ c.self.view_is
