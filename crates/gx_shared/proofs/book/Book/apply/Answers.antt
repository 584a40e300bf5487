use Rattle.std.proofs.Common.{refl, vec_capacity}
use Rattle.gx_machine.specs.Keys.{keys}
use Rattle.gx_shared.proofs.book.Keeping.{kept_work, hold_work}
use Rattle.gx_shared.proofs.book.Book.apply.Goals as goal

pub invariant_of-self : goal.invariant_of-self
invariant_of-self g c =
    let kept = c.self.invariant in
    record {
      fits = kept.fits;
      has_capacity = kept.has_capacity;
      counted_is = kept.counted_is;
      facts = λ granted.
          let f = kept.facts granted in
          let h = c.step.ensures.happens f.book.machine f.book.seen in
          record {
            start = f.start;
            at = f.at;
            book = kept_work (keys g.B.Ord.cmp g.B.Shape.overlap g.B.Shape.inside) g.E.Events.sees f.start c.self.inside.engine c.self.inside.calls.items c.self.inside.opened
                (vec_capacity c.self.inside.calls) c.self.inside.tally.total f.book c.args.event c.step.result h.0 c.step.new.self c.requires h.1 h.2;
          };
    }

pub returns-clause-worked : goal.returns-clause-worked
returns-clause-worked g c =
    rw (← c.self.view_is) record {
      made = c.step.ensures.made;
      calls = refl;
      hold = λ granted.
          let f = c.self.invariant.facts granted in
          let h = c.step.ensures.happens f.book.machine f.book.seen in
          hold_work (keys g.B.Ord.cmp g.B.Shape.overlap g.B.Shape.inside) g.E.Events.sees f.start c.self.inside.engine c.self.inside.calls.items c.self.inside.opened
          (vec_capacity c.self.inside.calls) c.self.inside.tally.total f.book c.args.event c.step.result h.0 c.step.new.self c.requires h.1 h.2;
    }
