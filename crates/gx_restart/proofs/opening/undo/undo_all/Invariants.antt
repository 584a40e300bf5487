use Rattle.std.proofs.Common.{◌≡◌}
use Rattle.gx_engine.specs.Made.{Makes}
use Rattle.gx_engine.specs.Resting.{WorksOff}
use Rattle.gx_restart.specs.Undoing.{AreFreeBelow, GoesBy, OnlyUndoes}
use Rattle.gx_restart.proofs.opening.undo.undo_all.Given as goal
use Rattle.gx_class.specs.Traits.{traits_of}

-- so many sessions are free
abbrev pub invariant-loop-place : goal.invariant-loop-place
invariant-loop-place g l = record {
  goes : GoesBy (Makes (record { partial_cmp = g.K.Key.PartialOrd.partial_cmp; eq = g.K.Key.PartialEq.eq; cmp = g.K.Key.Ord.cmp; overlap = g.K.Key.Shape.overlap; inside = g.K.Key.Shape.inside }) (traits_of g.K.ReadKeys.is_proper g.K.ReadKeys.said g.K.KeyClass) g.D.SectorDisk.state) l.initial.engine l.engine;
  told : (g.D.SectorDisk.state l.engine.volume.shelf.disk).faults ≡ (g.D.SectorDisk.state l.initial.engine.volume.shelf.disk).faults;
  undoes : OnlyUndoes l.engine;
  works : WorksOff l.engine;
  free : AreFreeBelow l.place l.engine;
}
