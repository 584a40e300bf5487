use Rattle.std.proofs.Common.{refl}
use Rattle.gx_events.specs.Engines.{opened_machine}
use Rattle.gx_machine.specs.Invariants.{KeptInOrder}
use Rattle.gx_machine.specs.Keys.{Members, keys_of}
use Rattle.gx_machine.specs.Machine.{Machine}
use Rattle.gx_opening.specs.Formatted.{IsAllowed}
use Rattle.gx_lives.proofs.migrated.a_migrated_index_lives_on.Goals as goal

pub returns : goal.returns
returns g c = λ old new told honest is turns now lives.
    let shape : Members g.row.K-Key.Denot = record { partial_cmp = g.K.Key.PartialOrd.partial_cmp; eq = g.K.Key.PartialEq.eq; cmp = g.K.Key.Ord.cmp; overlap = g.K.Key.Shape.overlap; inside = g.K.Key.Shape.inside } in
    let began = c.a_migration_begins_a_life.ensures old new told honest is in
    let may = began.held.older.1.1.0 in
    let allowed : IsAllowed g.K.KeyClass.CLASS began.parameters = record { range = may.range; class_is = may.class_is } in
    let start : Machine g.row.K-Key.Denot = opened_machine told.0 began.set in
    let kept : KeptInOrder (keys_of shape) start = record { older = (c.kept_sets_stay_in_order.ensures.fresh (keys_of shape)).older; latest = began.held.set_is.in_order } in
    record { began = began; run = c.a_life_is_one_run.ensures began.parameters allowed start refl kept new began.bears turns now lives }
