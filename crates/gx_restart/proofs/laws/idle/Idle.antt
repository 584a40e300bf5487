-- An engine that was opened is seen as an idle machine.
use Rattle.std.proofs.Common.{◌≤◌, ℕ, Bool, List}
use Rattle.gx_disk.specs.Device.{Device}
use Rattle.gx_durable.specs.Area.{area_of}
use Rattle.gx_events.specs.Engines.{stood}
use Rattle.gx_engine.specs.States.{Parts}
use Rattle.gx_index_laws.specs.States.{engine_of}
use Rattle.gx_machine.specs.Keys.{Members}
use Rattle.gx_machine.proofs.SetsByTests.{set_of_a_test_that_agrees}
use Rattle.gx_node.specs.Reading.{Format}
use Rattle.gx_index_laws.specs.Classes.{IsLawful}
use Rattle.gx_opening.specs.Standing.{known_for, limits_of, reading}
use Rattle.gx_durable.specs.Classes.{class_of}
use Rattle.gx_recovery.specs.Analysis.{number_of}
use Rattle.gx_recovery.specs.Damage.{records_of}
use Rattle.gx_recovery.specs.Known.{Limits}
use Rattle.gx_recovery.specs.Standing.{stands_for}
use Rattle.gx_restart.specs.Idle.{IsSeenIdle}
use Rattle.gx_restart.specs.Opened.{IsOpened}

module _ {B D : Type 0} (shape : Members B) (proper : B → Bool) (said : List ℕ → B) (f : Format B) (lawful : (l : Limits) → 4 ≤ l.most → IsLawful (class_of shape proper l)) where
  pub opened_idle : (class : ℕ) (d e : Device) (engine : Parts B D) → IsOpened shape proper said f class d e engine → IsSeenIdle shape proper said f e engine
  opened_idle class d e engine o =
      let p = o.parameters in
      let h = o.holds in
      let whole = h.holds.whole in
      let c = class_of shape proper (limits_of p) in
      let log = records_of h.found.log.bodies in
      let set = set_of_a_test_that_agrees c.keys (lawful (limits_of p) h.holds.some).keys (stood c.keys (engine_of c h.index))
      (stands_for (known_for shape proper said f p) (area_of (reading shape proper said f) p.pages d.seen) log) whole.machine.latest h.set.stands whole.seen.latest in
      record {
        limits = limits_of p;
        bodies = h.bodies;
        index = h.index;
        holds = h.holds;
        number = number_of (known_for shape proper said f p) log;
        set = whole.machine.latest;
        seen = o.seen whole.machine.latest set;
      }
