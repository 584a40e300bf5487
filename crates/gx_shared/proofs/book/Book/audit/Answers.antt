use Rattle.std.proofs.Common.{arith, sym, ◌∙◌, vec_capacity}
use Rattle.gx_machine.specs.Keys.{keys}
use Rattle.gx_shared.proofs.Sharing.{kept_total}
use Rattle.gx_shared.proofs.book.Book.audit.Goals as goal

pub invariant_of-self : goal.invariant_of-self
invariant_of-self g c =
    kept_total (keys g.B.Ord.cmp g.B.Shape.overlap g.B.Shape.inside) g.E.Events.granted g.E.Events.sees g.R.Run.starts c.self.inside.engine c.self.inside.calls.items c.self.inside.opened
    (vec_capacity c.self.inside.calls) c.self.inside.tally.total c.audit.new.self.total c.self.invariant c.audit.ensures.total

pub returns-clause-bound : goal.returns-clause-bound
returns-clause-bound g c =
    rw (← c.self.view_is) (let counted = c.self.invariant.counted_is in omega (arith, counted, c.audit.ensures.bound))

pub returns-clause-whole : goal.returns-clause-whole
returns-clause-whole g c = λ all. rw (← c.self.view_is) (sym c.self.invariant.counted_is ∙ sym (c.audit.ensures.whole all))
