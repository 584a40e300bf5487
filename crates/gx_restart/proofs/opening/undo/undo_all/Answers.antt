use Rattle.std.proofs.Common.{◌∙◌, arith}
use Rattle.std.proofs.lemmas.Result.{err_from_is_err_and}
use Rattle.gx_engine.specs.Made.{Makes}
use Rattle.gx_restart.proofs.Going.{free_more, goes_joined, goes_stays, stopped_later}
use Rattle.gx_restart.proofs.opening.undo.undo_all.Goals as goal
use Rattle.gx_class.specs.Traits.{traits_of}

pub returns-in_err-undo-clause-goes : goal.returns-in_err-undo-clause-goes
returns-in_err-undo-clause-goes g c = goes_joined (Makes (record { partial_cmp = g.K.Key.PartialOrd.partial_cmp; eq = g.K.Key.PartialEq.eq; cmp = g.K.Key.Ord.cmp; overlap = g.K.Key.Shape.overlap; inside = g.K.Key.Shape.inside }) (traits_of g.K.ReadKeys.is_proper g.K.ReadKeys.said g.K.KeyClass) g.D.SectorDisk.state) c.args.engine.now c.loop-place.engine c.undo.new.engine c.loop-place.invariant.goes c.undo.ensures.goes

pub returns-in_err-undo-clause-why : goal.returns-in_err-undo-clause-why
returns-in_err-undo-clause-why g c =
    let p = err_from_is_err_and c.from_residual.result c.from_residual.ensures.1 in
    rw (p.1, p.2) (stopped_later (Makes (record { partial_cmp = g.K.Key.PartialOrd.partial_cmp; eq = g.K.Key.PartialEq.eq; cmp = g.K.Key.Ord.cmp; overlap = g.K.Key.Shape.overlap; inside = g.K.Key.Shape.inside }) (traits_of g.K.ReadKeys.is_proper g.K.ReadKeys.said g.K.KeyClass) g.D.SectorDisk.state) c.args.engine.now c.loop-place.engine c.undo.new.engine c.in_err-undo.field-0.0 c.loop-place.invariant.goes c.in_err-undo.ensures.why)

pub loop-place-preserved : goal.loop-place-preserved
loop-place-preserved g c = record {
  goes = goes_joined (Makes (record { partial_cmp = g.K.Key.PartialOrd.partial_cmp; eq = g.K.Key.PartialEq.eq; cmp = g.K.Key.Ord.cmp; overlap = g.K.Key.Shape.overlap; inside = g.K.Key.Shape.inside }) (traits_of g.K.ReadKeys.is_proper g.K.ReadKeys.said g.K.KeyClass) g.D.SectorDisk.state) c.args.engine.now c.loop-place.engine c.undo.new.engine c.loop-place.invariant.goes c.undo.ensures.goes;
  undoes = (goes_stays (record { partial_cmp = g.K.Key.PartialOrd.partial_cmp; eq = g.K.Key.PartialEq.eq; cmp = g.K.Key.Ord.cmp; overlap = g.K.Key.Shape.overlap; inside = g.K.Key.Shape.inside }) g.K.ReadKeys.is_proper g.K.ReadKeys.said g.K.KeyClass g.D.SectorDisk.state c.loop-place.engine c.undo.new.engine c.loop-place.invariant.undoes c.undo.ensures.goes).undoes;
  told = c.in_ok-undo.ensures.told ∙ c.loop-place.invariant.told;
  works = c.in_ok-undo.ensures.works;
  free = free_more (record { partial_cmp = g.K.Key.PartialOrd.partial_cmp; eq = g.K.Key.PartialEq.eq; cmp = g.K.Key.Ord.cmp; overlap = g.K.Key.Shape.overlap; inside = g.K.Key.Shape.inside }) g.K.ReadKeys.is_proper g.K.ReadKeys.said g.K.KeyClass g.D.SectorDisk.state c.loop-place.place c.loop-place.engine c.undo.new.engine c.loop-place.invariant.undoes c.undo.ensures.goes c.loop-place.invariant.free c.in_ok-undo.ensures.undone;
}

pub returns-in_err-undo-clause-told : goal.returns-in_err-undo-clause-told
returns-in_err-undo-clause-told g c =
    let p = err_from_is_err_and c.from_residual.result c.from_residual.ensures.1 in
    let same = c.loop-place.invariant.told in
    let more = c.in_err-undo.ensures.told in
    rw (p.1, p.2) (omega (arith, same, more))
