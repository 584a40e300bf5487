use Rattle.gx_engine.specs.Made.{Makes}
use Rattle.gx_engine.specs.Repeated.{IsGoingOn}
use Rattle.gx_engine.proofs.repeated.repeat.Given as goal
use Rattle.gx_class.specs.Traits.{traits_of}

-- the event was made so many times
abbrev pub invariant-loop-turn : goal.invariant-loop-turn
invariant-loop-turn g l = IsGoingOn (Makes (record { partial_cmp = g.K.Key.PartialOrd.partial_cmp; eq = g.K.Key.PartialEq.eq; cmp = g.K.Key.Ord.cmp; overlap = g.K.Key.Shape.overlap; inside = g.K.Key.Shape.inside }) (traits_of g.K.ReadKeys.is_proper g.K.ReadKeys.said g.K.KeyClass) g.D.SectorDisk.state) l.event l.initial.engine l._turn l.engine
