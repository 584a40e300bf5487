use Rattle.std.proofs.Common.{◌≤◌, ◌*◌}
use Rattle.gx_restart.specs.Bringing.{AreBrought, Brings, Helps}
use Rattle.gx_restart.specs.Counted.{HasLiveUpTo}
use Rattle.gx_restart.proofs.verification.entries.count_entries.Given as goal
use Rattle.gx_class.specs.Traits.{traits_of}

-- the pages before this one were brought, and counted
abbrev pub invariant-loop-last : goal.invariant-loop-last
invariant-loop-last g l = record {
  all : AreBrought (Brings (record { partial_cmp = g.K.Key.PartialOrd.partial_cmp; eq = g.K.Key.PartialEq.eq; cmp = g.K.Key.Ord.cmp; overlap = g.K.Key.Shape.overlap; inside = g.K.Key.Shape.inside }) (traits_of g.K.ReadKeys.is_proper g.K.ReadKeys.said g.K.KeyClass) g.D.SectorDisk.state)
      (Helps (record { partial_cmp = g.K.Key.PartialOrd.partial_cmp; eq = g.K.Key.PartialEq.eq; cmp = g.K.Key.Ord.cmp; overlap = g.K.Key.Shape.overlap; inside = g.K.Key.Shape.inside }) (traits_of g.K.ReadKeys.is_proper g.K.ReadKeys.said g.K.KeyClass) g.D.SectorDisk.state) l.fn.engine l.last l.engine;
  live : HasLiveUpTo (record { partial_cmp = g.K.Key.PartialOrd.partial_cmp; eq = g.K.Key.PartialEq.eq; cmp = g.K.Key.Ord.cmp; overlap = g.K.Key.Shape.overlap; inside = g.K.Key.Shape.inside }) (traits_of g.K.ReadKeys.is_proper g.K.ReadKeys.said g.K.KeyClass) g.D.SectorDisk.state l.fn.engine l.last l.entries;
  few : l.entries ≤ 812 * l.last;
}
