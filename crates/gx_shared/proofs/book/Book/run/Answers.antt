use Rattle.gx_machine.specs.Keys.{keys}
use Rattle.gx_shared.proofs.Sharing.{run_by_own}
use Rattle.gx_shared.proofs.book.Book.run.Goals as goal

pub returns-else-is_work-clause-made : goal.returns-else-is_work-clause-made
returns-else-is_work-clause-made g c =
    run_by_own (keys g.B.Ord.cmp g.B.Shape.overlap g.B.Shape.inside) g.E.Events c.args.self.now c.apply_for.new.self c.args.event c.apply_for.result c.given_up-outcome-else-is_work.result
    c.note-else-is_work.result c.is_work.result c.is_work.ensures c.if-is_work.false c.apply_for.ensures.made (λ granted. c.apply_for.ensures.hold granted) c.given_up-outcome-else-is_work.ensures
    c.note-else-is_work.ensures.same
