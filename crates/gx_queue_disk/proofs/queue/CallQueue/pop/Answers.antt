use Rattle.std.proofs.Common.{◌∙◌, ◌+◌, ◌<◌, sym, ap, length, drop, arith}
use Rattle.gx_queue_disk.specs.Queues.{calls_of}
use Rattle.gx_queue_disk.proofs.queue.Outlines.{none_left, front_inside, front_kept, front_taken}
use Rattle.gx_queue_disk.proofs.queue.CallQueue.pop.Goals as goal

pub returns-then-self-len : goal.returns-then-self-len
returns-then-self-len c =
    let s = c.self.inside in
    let none = sym c.self.view_is ∙ none_left s.calls.items (drop s.at s.bytes.items) s.taken (omega (arith, c.len.ensures, s.calls.ok.0, c.if-self-len.true)) in
    none ∙ sym (ap (drop 1) none)

pub overflow_add-self : goal.overflow_add-self
overflow_add-self c =
    let s = c.self.inside in
    let some : s.taken < length s.calls.items = omega (arith, c.len.ensures, s.calls.ok.0, c.self.invariant.few, c.if-self-len.false) in
    let inside = front_inside s.calls.items s.bytes.items s.taken s.at c.index.result.now c.self.invariant some c.index.ensures in
    record { fits = omega (arith, inside, c.size.ensures, s.bytes.ok.0, s.bytes.ok.1, s.bytes.small) }

pub invariant_of-self : goal.invariant_of-self
invariant_of-self c =
    let s = c.self.inside in
    let some : s.taken < length s.calls.items = omega (arith, c.len.ensures, s.calls.ok.0, c.self.invariant.few, c.if-self-len.false) in
    rw c.size.ensures (front_kept s.calls.items s.bytes.items s.taken s.at c.index.result.now c.self.invariant some c.index.ensures)

pub returns : goal.returns
returns c =
    let s = c.self.inside in
    let some : s.taken < length s.calls.items = omega (arith, c.len.ensures, s.calls.ok.0, c.self.invariant.few, c.if-self-len.false) in
    let left = front_taken s.calls.items s.bytes.items s.taken s.at c.index.result.now c.self.invariant some c.index.ensures in
    c.begin_anew.ensures ∙ ap (λ n. calls_of (drop (s.taken + 1) s.calls.items) (drop (s.at + n) s.bytes.items)) c.size.ensures ∙ left ∙ ap (drop 1) c.self.view_is
