use Rattle.std.proofs.Common.{arith}
use Rattle.gx_machine.specs.Keys.{Members}
use Rattle.gx_engine.proofs.CallsEnd.{call_ends}
use Rattle.gx_engine.proofs.laws.progress.a_call_alone_ends.Goals as goal

pub returns : goal.returns
returns g c = λ l.
    (let shape : Members g.row.K-Key.Denot = record { partial_cmp = g.K.Key.PartialOrd.partial_cmp; eq = g.K.Key.PartialEq.eq; cmp = g.K.Key.Ord.cmp; overlap = g.K.Key.Shape.overlap; inside = g.K.Key.Shape.inside } in
    let few = g.met.K.KeyClass.key_is_short in
    call_ends shape g.K.ReadKeys.is_proper g.K.ReadKeys.said g.K.KeyClass g.D.SectorDisk.state (omega (arith, few)) l (λ some. c.a_class_is_lawful.ensures l some)
    c.what_a_call_has_left_is_bounded.ensures)
