use Rattle.gx_machine.specs.Keys.{Members}
use Rattle.std.proofs.Common.{arith}
use Rattle.gx_engine.proofs.Helping.{helps_by}
use Rattle.gx_engine.proofs.Lessening.{few_left, few_orderly}
use Rattle.gx_engine.proofs.Waits.{page_names_work}
use Rattle.gx_engine.proofs.laws.progress.a_page_that_waits_names_work.Goals as goal

pub returns-clause-work : goal.returns-clause-work
returns-clause-work g c = λ l.
    (let shape : Members g.row.K-Key.Denot = record { partial_cmp = g.K.Key.PartialOrd.partial_cmp; eq = g.K.Key.PartialEq.eq; cmp = g.K.Key.Ord.cmp; overlap = g.K.Key.Shape.overlap; inside = g.K.Key.Shape.inside } in
    let few = g.met.K.KeyClass.key_is_short in
    page_names_work shape g.K.ReadKeys.is_proper g.K.ReadKeys.said g.K.KeyClass g.D.SectorDisk.state (omega (arith, few)) l)

pub returns-clause-helps : goal.returns-clause-helps
returns-clause-helps g c = λ old new n given work comes. helps_by _ _ old new n given work comes

pub returns-clause-few : goal.returns-clause-few
returns-clause-few g c = λ e order. few_left e (few_orderly e order)
