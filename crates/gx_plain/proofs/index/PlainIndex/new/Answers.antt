use Rattle.std.proofs.Common.{vec_capacity}
use Rattle.gx_machine.specs.Keys.{keys}
use Rattle.gx_plain.proofs.IndexLaws.{kept_fresh}
use Rattle.gx_plain.proofs.index.PlainIndex.new.Goals as goal

pub invariant_of-result : goal.invariant_of-result
invariant_of-result g c =
    kept_fresh (keys g.B.Ord.cmp g.B.Shape.overlap g.B.Shape.inside) c.new.result.items (vec_capacity c.new.result) c.in_ok-idle_slots.field-0.items
    c.new.ensures.items c.in_ok-idle_slots.ensures
