-- What a crash leaves of an engine's device stands for a set that its machine keeps.
use Rattle.std.proofs.Common.{◌≡◌, ◌∙◌, inl, inr, sym, subst, ℕ, ◌+◌, ◌≤◌, Bool, List, length, arith}
use Rattle.gx_machine.specs.declared.entry.Entry.{Entry}
use Rattle.gx_machine.specs.Keys.{Members}
use Rattle.gx_machine.specs.Machine.{Machine}
use Rattle.gx_machine.specs.Machine as machine
use Rattle.gx_machine.proofs.SetsByTests.{set_of_a_test_that_agrees}
use Rattle.gx_disk.specs.Device.{Device, MayLeave}
use Rattle.gx_disk.specs.Moments.{Leaves}
use Rattle.gx_node.specs.Reading.{Format, is_node}
use Rattle.gx_events.specs.Engines as engines
use Rattle.gx_events.specs.Engines.{SeenAs}
use Rattle.gx_events.proofs.Faults.{kept_set}
use Rattle.gx_recovery.specs.Analysis.{number_of}
use Rattle.gx_recovery.specs.Damage.{records_of}
use Rattle.gx_recovery.specs.Known.{Limits}
use Rattle.gx_recovery.specs.Standing.{stands_for}
use Rattle.gx_index_laws.specs.Classes.{Class, IsLawful, Page, known_of}
use Rattle.gx_index_laws.specs.States.{State, engine_of}
use Rattle.gx_index_laws.specs.Whole.{IsWhole}
use Rattle.gx_index_laws.proofs.Restarts.{kept_alike}
use Rattle.gx_durable.specs.Area.{area_of}
use Rattle.gx_durable.specs.Spelled.{Reading}
use Rattle.gx_durable.specs.Standing.{Stands}
use Rattle.gx_durable.proofs.Crashes.{crash_leaves}
use Rattle.gx_durable.specs.Classes.{class_of, reading_of}
use Rattle.gx_durable.proofs.Used.{known_lawful}
use Rattle.gx_events.specs.declared.event.Event.{Event}
use Rattle.gx_events.specs.declared.outcome.Outcome.{Outcome}
use Rattle.gx_engine.specs.States.{Parts}
use Rattle.gx_engine.specs.Stepping.{Steps, Stepped}
use Rattle.gx_engine_events.specs.Crashes.{LeavesSets, StandsForSet}
use Rattle.gx_engine_events.specs.Seen.{Sees, class_in, limits_in}

module _ {B : Type 0} (c : Class B) (l : IsLawful c) (r : Reading (Entry B) (Page B)) (s : State B) (w : IsWhole c s) (m : Machine B) (seen : SeenAs c.keys (engine_of c s) m) where
  newest_is : machine.newest m ≡ s.oldest + length s.older
  newest_is = λ j. seen.oldest j + length (seen.older j)

  -- an image that stands for a kept set of an index stands for a set of its machine
  pub set_of_image : (image : List ℕ) → Stands (known_of c) r s.log image → StandsForSet c r m image
  set_of_image image stands =
      let log = records_of stands.bodies in
      let kept = stands.stands in
      let rises : s.oldest ≤ number_of (known_of c) log = (let first = w.sets.first in let low = kept.at_least in omega (arith, first, low)) in
      let sealed : number_of (known_of c) log ≤ s.oldest + length s.older = (let last = w.sets.last in let high = kept.at_most in omega (arith, last, high)) in
      record {
        bodies = stands.bodies;
        told = stands.told;
        undamaged = stands.undamaged;
        kept = record {
          at_least = subst (λ n. n ≤ number_of (known_of c) log) (sym seen.oldest) rises;
          at_most = subst (λ n. number_of (known_of c) log ≤ n) (sym newest_is) sealed;
          set = set_of_a_test_that_agrees c.keys l.keys (engines.kept c.keys (number_of (known_of c) log) (engine_of c s)) (stands_for (known_of c) (area_of r c.pages image) log)
              (machine.set_of (number_of (known_of c) log) m)
              (λ e. kept_alike c l s w (number_of (known_of c) log) rises sealed e ∙ sym (kept.same_set e))
              (kept_set c.keys l.keys (engine_of c s) m w.sound seen (number_of (known_of c) log) rises sealed);
        };
      }

  pub sets_of_images : (d e : Device) → Leaves (Stands (known_of c) r s.log) d e → Leaves (StandsForSet c r m) d e
  sets_of_images d e leaves = record {
    later = leaves.later;
    only = λ t image before left. elim (leaves.only t image before left) [
      | inl was ↦ inl was
      | inr stands ↦ inr (set_of_image image stands)
    ];
    keeps = leaves.keeps;
  }

module _ {B D : Type 0} (shape : Members B) (proper : B → Bool) (said : List ℕ → B) (f : Format B) (state : D → Device) (lawful : (l : Limits) → 4 ≤ l.most → IsLawful (class_of shape proper l)) where
  pub crash_kept : (e : Parts B D) (m : Machine B) → Sees shape proper said f state e m → (image : List ℕ) → MayLeave (state e.volume.shelf.disk) image
      → StandsForSet (class_in shape proper state e) (reading_of said f) m image
  crash_kept e m s image may =
      let c = class_in shape proper state e in
      let l : IsLawful c = lawful (limits_in state e) s.holds.some in
      let d = state e.volume.shelf.disk in
      set_of_image c l (reading_of said f) s.index s.holds.whole m s.seen image
      (crash_leaves (known_of c) (reading_of said f) (known_lawful c l.keys) e.volume.log d.sectors d.seen d.pending s.bodies s.index.log image s.holds.keeps.runs.up may)

  pub step_leaves : (old new : Parts B D) (event : Event B) (outcome : Outcome B)
      → ((l : Limits) → Steps (class_of shape proper l) (reading_of said f) f (is_node f) (state old.volume.shelf.disk) (state new.volume.shelf.disk) event old new outcome)
      → (m : Machine B) → Sees shape proper said f state old m → LeavesSets shape proper said f state m old new
  step_leaves old new event outcome steps m s =
      let c = class_in shape proper state old in
      let one : Stepped c (reading_of said f) f (is_node f) (state old.volume.shelf.disk) (state new.volume.shelf.disk) event old new outcome s.index =
      steps (limits_in state old) s.bodies s.index s.holds in
      sets_of_images c (lawful (limits_in state old) s.holds.some) (reading_of said f) s.index s.holds.whole m s.seen (state old.volume.shelf.disk) (state new.volume.shelf.disk) one.led.leaves
