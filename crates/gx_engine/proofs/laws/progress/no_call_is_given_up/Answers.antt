use Rattle.std.proofs.Common.{refl, arith}
use Rattle.gx_machine.specs.Keys.{Members}
use Rattle.gx_events.specs.declared.event.Event.TheVariants.{Ask}
use Rattle.gx_engine.proofs.CallsEnd.{starts_end}
use Rattle.gx_engine.proofs.laws.progress.no_call_is_given_up.Goals as goal

pub returns : goal.returns
returns g c = λ l old new s call bodies i holds given_up.
    (let shape : Members g.row.K-Key.Denot = record { partial_cmp = g.K.Key.PartialOrd.partial_cmp; eq = g.K.Key.PartialEq.eq; cmp = g.K.Key.Ord.cmp; overlap = g.K.Key.Shape.overlap; inside = g.K.Key.Shape.inside } in
    let short = g.met.K.KeyClass.key_is_short in
    let few =
    starts_end shape g.K.ReadKeys.is_proper g.K.ReadKeys.said g.K.KeyClass g.D.SectorDisk.state (omega (arith, short)) l (λ some. c.a_class_is_lawful.ensures l some)
    c.what_a_call_has_left_is_bounded.ensures old new s 72057594037927936 (Ask s call) given_up.0 bodies i holds refl given_up.1
    in
    omega (arith, few))
