use Rattle.std.proofs.Common.{arith, vec_capacity}
use Rattle.gx_machine.specs.Keys.{keys}
use Rattle.gx_shared.proofs.Sharing.{begun}
use Rattle.gx_shared.proofs.book.Book.new.Goals as goal

pub invariant_of-result : goal.invariant_of-result
invariant_of-result g c =
    begun (keys g.B.Ord.cmp g.B.Shape.overlap g.B.Shape.inside) g.E.Events.granted g.E.Events.sees g.R.Run.starts c.args.engine c.in-Ok.calls.items (vec_capacity c.in-Ok.calls) c.args.tally.total
    c.requires.starts c.in-Ok.ensures.items (omega (arith, c.in-Ok.ensures.capacity)) c.requires.none_finished
