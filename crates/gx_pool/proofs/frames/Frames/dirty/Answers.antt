use Rattle.std.proofs.Common.{ℕ, sym, subst, arith}
use Rattle.gx_pool.specs.State.{State, IsWritable}
use Rattle.gx_pool.proofs.frames.Queues.{NoneBelow, least_ready, may_not, may_written, none_passed, none_ready, none_written}
use Rattle.gx_pool.proofs.frames.Frames.dirty.Goals as goal

pub returns-then-is_some-clause-found : goal.returns-then-is_some-clause-found
returns-then-is_some-clause-found c =
    let s : State = record { pages = c.self.inside.pages.items; marks = c.self.inside.marks.items; places = c.self.inside.places.items; held = c.self.inside.held.items; gated = c.self.inside.gated } in
    let passed = subst (NoneBelow c.loop-page.from) (sym c.self.view_is) c.loop-page.invariant.0 in
    let before = subst (NoneBelow c.in-Some.page) c.self.view_is (none_ready s c.self.inside.queue c.loop-page.from c.in-Some.page c.self.invariant.0 c.self.invariant.3 passed c.in-Some.ensures.found.0) in (
      may_written c.args.self.now c.in-Some.page c.writable.result c.is_some.result c.is_some.ensures c.if-is_some.true c.writable.ensures.some,
      least_ready c.args.self.now c.in-Some.page before,
    )

pub loop-page-preserved : goal.loop-page-preserved
loop-page-preserved c =
    let s : State = record { pages = c.self.inside.pages.items; marks = c.self.inside.marks.items; places = c.self.inside.places.items; held = c.self.inside.held.items; gated = c.self.inside.gated } in
    let passed = subst (NoneBelow c.loop-page.from) (sym c.self.view_is) c.loop-page.invariant.0 in
    let before = subst (NoneBelow c.in-Some.page) c.self.view_is (none_ready s c.self.inside.queue c.loop-page.from c.in-Some.page c.self.invariant.0 c.self.invariant.3 passed c.in-Some.ensures.found.0) in (
      none_passed c.args.self.now c.in-Some.page before (may_not c.args.self.now c.in-Some.page c.writable.result c.is_some.result c.is_some.ensures c.if-is_some.false c.writable.ensures.none),
      omega (arith, c.in-Some.ensures.found.1),
    )

pub returns-clause-none : goal.returns-clause-none
returns-clause-none c =
    let s : State = record { pages = c.self.inside.pages.items; marks = c.self.inside.marks.items; places = c.self.inside.places.items; held = c.self.inside.held.items; gated = c.self.inside.gated } in
    let passed = subst (NoneBelow c.loop-page.from) (sym c.self.view_is) c.loop-page.invariant.0 in
    subst (λ (v : State). (q : ℕ) → IsWritable v q → ⊥) c.self.view_is (none_written s c.self.inside.queue c.loop-page.from c.self.invariant.0 c.self.invariant.3 passed c.in_default.ensures.none)
