-- Events one after another, joined.
use Rattle.std.proofs.Common.{sym, refl, subst, inl, inr, ℕ, Bool, List, [], ◌∷◌, ◌++◌}
use Rattle.gx_machine.specs.declared.entry.Entry.{Entry}
use Rattle.gx_disk.specs.Device.{Device}
use Rattle.gx_disk.proofs.Leaving.{leaves_joined, leaves_weaker, nothing_leaves}
use Rattle.gx_page.specs.Contents.{Contents}
use Rattle.gx_node.specs.Reading.{Format}
use Rattle.gx_events.specs.Happenings as laws
use Rattle.gx_recovery.specs.Records.{Record}
use Rattle.gx_index_laws.specs.Classes.{Class, Page}
use Rattle.gx_index_laws.specs.Happening.{AreHappening}
use Rattle.gx_index_laws.specs.States as index
use Rattle.gx_durable.specs.Spelled.{Reading}
use Rattle.gx_events.specs.declared.event.Event.{Event}
use Rattle.gx_events.specs.declared.outcome.Outcome.{Outcome}
use Rattle.gx_engine.specs.Holds.{Holds}
use Rattle.gx_engine.specs.Running.{AreSteps, Ran, StandsForOne}
use Rattle.gx_engine.specs.States.{Parts}

-- what happened, and then happened more, happened
happening_joined : {B : Type 0} (c : Class B) (i j k : index.State B) (first next : List (laws.Happening B)) → AreHappening c i first j → AreHappening c j next k
    → AreHappening c i (first ++ next) k
happening_joined c i j k [] next one other = subst (λ (x : _). AreHappening c x next k) one other
happening_joined c i j k (event ∷ first) next one other = (one.0, one.1, happening_joined c one.0 j k first next one.2 other)

module _ {B D : Type 0} (c : Class B) (r : Reading (Entry B) (Page B)) (f : Format B) (passes : ℕ → Contents → Bool) (state : D → Device) where
  abbrev at : Parts B D → Device
  at e = state e.volume.shelf.disk

  pub ran : (steps : List (Event B × Outcome B)) (old new : Parts B D) → AreSteps c r f passes state old steps new
      → (bodies : List (List (Record (Entry B) (Page B)))) (i : index.State B) → Holds c r f passes (at old) old bodies i → Ran c r f passes (at old) (at new) new i
  ran [] old new same bodies i h =
      subst (λ (x : Parts B D). Ran c r f passes (at old) (at x) x i) (sym same) (record {
        passed = [];
        events = [];
        bodies = bodies;
        index = i;
        happening = refl;
        holds = h;
        leaves = nothing_leaves (StandsForOne c r f passes []) (at old);
      })
  ran (step ∷ steps) old new (middle, one, others) bodies i h =
      let first = (one bodies i h).led in
      let rest = ran steps middle new others first.bodies first.index first.holds in
      record {
        passed = i ∷ rest.passed;
        events = (one bodies i h).events ++ rest.events;
        bodies = rest.bodies;
        index = rest.index;
        happening = happening_joined c i first.index rest.index (one bodies i h).events rest.events first.happening rest.happening;
        holds = rest.holds;
        leaves =
            leaves_joined (StandsForOne c r f passes (i ∷ rest.passed)) (at old) (at middle) (at new)
            (leaves_weaker _ (StandsForOne c r f passes (i ∷ rest.passed)) (at old) (at middle) (λ image stands. inl stands) first.leaves)
            (leaves_weaker (StandsForOne c r f passes rest.passed) (StandsForOne c r f passes (i ∷ rest.passed)) (at middle) (at new) (λ image stands. inr stands) rest.leaves);
      }
