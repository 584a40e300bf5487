use Rattle.std.proofs.Common.{◌≡◌}
use Rattle.gx_events.specs.declared.outcome.Outcome.TheVariants.{More}
use Rattle.gx_engine.specs.Calls.{TellsAs}
use Rattle.gx_engine.specs.Driven.{IsUnderWay}
use Rattle.gx_engine.specs.Made.{Makes}
use Rattle.gx_engine.proofs.driven.drive.Given as goal
use Rattle.gx_class.specs.Traits.{traits_of}

-- so many events were made, and the next one is due
abbrev pub invariant-loop-turn : goal.invariant-loop-turn
invariant-loop-turn g l = record {
  driver : l.driver ≡ l.session;
  way : IsUnderWay (Makes (record { partial_cmp = g.K.Key.PartialOrd.partial_cmp; eq = g.K.Key.PartialEq.eq; cmp = g.K.Key.Ord.cmp; overlap = g.K.Key.Shape.overlap; inside = g.K.Key.Shape.inside }) (traits_of g.K.ReadKeys.is_proper g.K.ReadKeys.said g.K.KeyClass) g.D.SectorDisk.state) l.session l.fn.first l.initial.engine l._turn l.next l.engine;
  told : TellsAs g.D.SectorDisk.state l.initial.engine l.engine More;
}
