use Rattle.std.proofs.Common.{◌++◌, refl, ap, sym, ◌∙◌, inl, inr}
use Rattle.gx_c.specs.Waiting.{queued_in}
use Rattle.gx_c.proofs.drain.Draining.{drained_none, drained_waits}
use Rattle.gx_c.proofs.drain.refill.Goals as goal

pub returns-then-is_left-clause-all : goal.returns-then-is_left-clause-all
returns-then-is_left-clause-all c = λ none. absurd (c.is_left.ensures.some c.if-is_left.true none)

pub returns-then-is_left-clause-rests : goal.returns-then-is_left-clause-rests
returns-then-is_left-clause-rests c = inl refl

pub drain-requires : goal.drain-requires
drain-requires c = c.is_left.ensures.none c.if-is_left.false

pub returns-clause-same : goal.returns-clause-same
returns-clause-same c =
    drained_waits _ _ _ _ _ c.args.held.now.stage c.drain.new.stage c.drain.new.calls c.drain.ensures
    ∙ sym (ap (λ calls. calls ++ queued_in c.args.held.now.stage) (c.is_left.ensures.none c.if-is_left.false))

pub returns-clause-all : goal.returns-clause-all
returns-clause-all c = λ none.
    ap (λ calls. calls ++ queued_in c.drain.new.stage) none ∙ drained_none _ _ _ _ _ c.args.held.now.stage c.drain.new.stage c.drain.new.calls c.drain.ensures

pub returns-clause-rests : goal.returns-clause-rests
returns-clause-rests c = inr (c.drain.new.calls, c.drain.ensures)
