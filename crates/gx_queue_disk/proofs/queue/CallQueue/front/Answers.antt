use Rattle.std.proofs.Common.{◌∙◌, ◌+◌, ◌<◌, ◌∷◌, sym, ap, length, drop, arith}
use Rattle.gx_queue_disk.specs.Queues.{size_of, calls_of}
use Rattle.gx_queue_disk.proofs.queue.Outlines.{none_left, front_lent, front_shown}
use Rattle.gx_queue_disk.proofs.queue.CallQueue.front.Goals as goal

pub returns-then-self-len : goal.returns-then-self-len
returns-then-self-len c =
    let s = c.self.inside in
    sym c.self.view_is ∙ none_left s.calls.items (drop s.at s.bytes.items) s.taken (omega (arith, c.len.ensures, s.calls.ok.0, c.if-self-len.true))

pub lend-requires : goal.lend-requires
lend-requires c =
    let s = c.self.inside in
    let some : s.taken < length s.calls.items = omega (arith, c.len.ensures, s.calls.ok.0, c.self.invariant.few, c.if-self-len.false) in
    front_lent s.calls.items s.bytes.items s.taken s.at c.index.result.now c.self.invariant some c.index.ensures c.deref.result.now c.deref.ensures.value

pub returns : goal.returns
returns c =
    let s = c.self.inside in
    let some : s.taken < length s.calls.items = omega (arith, c.len.ensures, s.calls.ok.0, c.self.invariant.few, c.if-self-len.false) in
    let rest = calls_of (drop (s.taken + 1) s.calls.items) (drop (size_of c.index.result.now) (drop s.at s.bytes.items)) in (
      rest,
      sym c.self.view_is
          ∙ front_shown s.calls.items s.bytes.items s.taken s.at c.index.result.now c.self.invariant some c.index.ensures c.deref.result.now c.deref.ensures.value
          ∙ ap (λ call. call ∷ rest) (sym c.lend.ensures),
    )
