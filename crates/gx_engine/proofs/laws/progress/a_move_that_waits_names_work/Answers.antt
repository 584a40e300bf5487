use Rattle.std.proofs.Common.{[], arith}
use Rattle.gx_machine.specs.Keys.{Members}
use Rattle.gx_engine.proofs.Helping.{helps}
use Rattle.gx_engine.proofs.Waits.{names_work, waiting_flushes, waiting_leaves}
use Rattle.gx_engine.proofs.laws.progress.a_move_that_waits_names_work.Goals as goal

pub returns-clause-work : goal.returns-clause-work
returns-clause-work g c = λ l.
    (let shape : Members g.row.K-Key.Denot = record { partial_cmp = g.K.Key.PartialOrd.partial_cmp; eq = g.K.Key.PartialEq.eq; cmp = g.K.Key.Ord.cmp; overlap = g.K.Key.Shape.overlap; inside = g.K.Key.Shape.inside } in
    let few = g.met.K.KeyClass.key_is_short in
    names_work shape g.K.ReadKeys.is_proper g.K.ReadKeys.said g.K.KeyClass g.D.SectorDisk.state (omega (arith, few)) l)

pub returns-clause-left : goal.returns-clause-left
returns-clause-left g c = λ l.
    (let shape : Members g.row.K-Key.Denot = record { partial_cmp = g.K.Key.PartialOrd.partial_cmp; eq = g.K.Key.PartialEq.eq; cmp = g.K.Key.Ord.cmp; overlap = g.K.Key.Shape.overlap; inside = g.K.Key.Shape.inside } in
    let few = g.met.K.KeyClass.key_is_short in
    waiting_leaves shape g.K.ReadKeys.is_proper g.K.ReadKeys.said g.K.KeyClass g.D.SectorDisk.state (omega (arith, few)) l)

pub returns-clause-helps : goal.returns-clause-helps
returns-clause-helps g c = λ old new n given work made.
    (let shape : Members g.row.K-Key.Denot = record { partial_cmp = g.K.Key.PartialOrd.partial_cmp; eq = g.K.Key.PartialEq.eq; cmp = g.K.Key.Ord.cmp; overlap = g.K.Key.Shape.overlap; inside = g.K.Key.Shape.inside } in
    helps shape g.K.ReadKeys.is_proper g.K.ReadKeys.said g.K.KeyClass g.D.SectorDisk.state old new n given work made)

pub returns-clause-flush : goal.returns-clause-flush
returns-clause-flush g c = λ old new s n made.
    (let shape : Members g.row.K-Key.Denot = record { partial_cmp = g.K.Key.PartialOrd.partial_cmp; eq = g.K.Key.PartialEq.eq; cmp = g.K.Key.Ord.cmp; overlap = g.K.Key.Shape.overlap; inside = g.K.Key.Shape.inside } in
    let few = g.met.K.KeyClass.key_is_short in
    waiting_flushes shape g.K.ReadKeys.is_proper g.K.ReadKeys.said g.K.KeyClass g.D.SectorDisk.state (omega (arith, few)) (record { pages = 0; most = 0; head = [] }) old new s n made)
