-- An event of an engine, as what happens to the machine that it is seen as.
use Rattle.std.proofs.Common.{◌≡◌, sym, subst, ℕ, ◌≤◌, Bool, List}
use Rattle.gx_machine.specs.declared.entry.Entry.{Entry}
use Rattle.gx_machine.specs.Keys.{Members, keys_of}
use Rattle.gx_machine.specs.Machine.{Machine}
use Rattle.gx_disk.specs.Device.{Device}
use Rattle.gx_node.specs.Reading.{Format, is_node}
use Rattle.gx_durable.specs.Head.{head_in}
use Rattle.gx_events.specs.Engines.{SeenAs}
use Rattle.gx_recovery.specs.Known.{Limits}
use Rattle.gx_recovery.specs.Records.{Record}
use Rattle.gx_index_laws.specs.Classes.{IsLawful, Page}
use Rattle.gx_index_laws.specs.States as index
use Rattle.gx_index_laws.specs.States.{engine_of}
use Rattle.gx_durable.specs.Classes.{class_of, reading_of}
use Rattle.gx_events.specs.declared.event.Event.{Event}
use Rattle.gx_events.specs.declared.outcome.Outcome.{Outcome}
use Rattle.gx_events.specs.Happens.{Happens}
use Rattle.gx_engine.specs.Holds.{Holds}
use Rattle.gx_engine.specs.States.{Parts}
use Rattle.gx_engine.specs.Stepping.{Steps, Stepped}
use Rattle.gx_engine.proofs.Machines.{event_happens}
use Rattle.gx_engine_events.specs.Seen.{Sees, class_in, limits_in}

module _ {B D : Type 0} (shape : Members B) (proper : B → Bool) (said : List ℕ → B) (f : Format B) (state : D → Device) where
  -- the limits that an index is held with are the engine's
  pub sees_within : (l : Limits) (e : Parts B D) (bodies : List (List (Record (Entry B) (Page B)))) (i : index.State B) (m : Machine B)
      → Holds (class_of shape proper l) (reading_of said f) f (is_node f) (state e.volume.shelf.disk) e bodies i → SeenAs (keys_of shape) (engine_of (class_of shape proper l) i) m
      → Sees shape proper said f state e m
  sees_within l e bodies i m h seen =
      let most : l.most ≡ e.volume.most = sym h.most in
      let pages : l.pages ≡ e.volume.shelf.pages = h.keeps.pages in
      let says : l.head ≡ head_in (state e.volume.shelf.disk).seen = sym h.keeps.runs.up.carries.head.reads in
      let same : l ≡ limits_in state e = λ t. record { most = most t; pages = pages t; head = says t } in
      record {
        bodies = bodies;
        index = i;
        holds = subst (λ (x : Limits). Holds (class_of shape proper x) (reading_of said f) f (is_node f) (state e.volume.shelf.disk) e bodies i) same h;
        seen = subst (λ (x : Limits). SeenAs (keys_of shape) (engine_of (class_of shape proper x) i) m) same seen;
      }

  -- whatever machine the engine was seen as, it is seen as the one that the event and its outcome lead to
  pub step_leads : ((l : Limits) → 4 ≤ l.most → IsLawful (class_of shape proper l)) → (old new : Parts B D) (event : Event B) (outcome : Outcome B)
      → ((l : Limits) → Steps (class_of shape proper l) (reading_of said f) f (is_node f) (state old.volume.shelf.disk) (state new.volume.shelf.disk) event old new outcome)
      → (m : Machine B) → Sees shape proper said f state old m → (n : Machine B) × Happens (keys_of shape) m event outcome n × Sees shape proper said f state new n
  step_leads lawful old new event outcome steps m s =
      let c = class_in shape proper state old in
      let one : Stepped c (reading_of said f) f (is_node f) (state old.volume.shelf.disk) (state new.volume.shelf.disk) event old new outcome s.index =
      steps (limits_in state old) s.bodies s.index s.holds in
      let led = event_happens c (lawful (limits_in state old) s.holds.some) s.index one.led.index s.holds.whole event outcome one.events one.are one.led.happening m s.seen in
      (led.0, led.1, sees_within (limits_in state old) new one.led.bodies one.led.index led.0 one.led.holds led.2)
