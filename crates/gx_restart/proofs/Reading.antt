-- What was done of an index, one part after another, and that its tree is unchanged.
use Rattle.std.proofs.Common.{inl, inr, ℕ, Bool, List, [], ◌∷◌, ◌++◌, refl, ap, ◌∙◌, subst}
use Rattle.gx_machine.specs.declared.entry.Entry.{Entry}
use Rattle.gx_disk.specs.Device.{Device}
use Rattle.gx_disk.proofs.Leaving.{leaves_joined, leaves_weaker, nothing_leaves}
use Rattle.gx_page.specs.Contents.{Contents}
use Rattle.gx_node.specs.Reading.{Format}
use Rattle.gx_events.specs.Happenings as laws
use Rattle.gx_index_laws.specs.Classes.{Class, Page}
use Rattle.gx_index_laws.specs.Happening.{AreHappening}
use Rattle.gx_index_laws.specs.States as index
use Rattle.gx_durable.specs.Spelled.{Reading}
use Rattle.gx_engine.specs.Ending.{SparesSo}
use Rattle.gx_engine.specs.Holds.{Led, Leads}
use Rattle.gx_engine.specs.Running.{Ran, StandsForOne}
use Rattle.gx_engine.specs.States.{Parts}
use Rattle.gx_restart.specs.Reading.{Reads, Runs}

-- what happened, and then happened more, happened
happening_joined : {B : Type 0} (c : Class B) (i j k : index.State B) (first next : List (laws.Happening B)) → AreHappening c i first j → AreHappening c j next k
    → AreHappening c i (first ++ next) k
happening_joined {B} c i j k [] next one other = subst (λ (x : index.State B). AreHappening c x next k) one other
happening_joined c i j k (event ∷ first) next one other = (one.0, one.1, happening_joined c one.0 j k first next one.2 other)

module _ {B : Type 0} (c : Class B) (r : Reading (Entry B) (Page B)) (f : Format B) (passes : ℕ → Contents → Bool) where
  among_first : (xs ys : List (index.State B)) (image : List ℕ) → StandsForOne c r f passes xs image → StandsForOne c r f passes (xs ++ ys) image
  among_first [] ys image stands = absurd stands
  among_first (x ∷ xs) ys image (inl stands) = inl stands
  among_first (x ∷ xs) ys image (inr stands) = inr (among_first xs ys image stands)

  among_last : (xs ys : List (index.State B)) (image : List ℕ) → StandsForOne c r f passes ys image → StandsForOne c r f passes (xs ++ ys) image
  among_last [] ys image stands = stands
  among_last (x ∷ xs) ys image stands = inr (among_last xs ys image stands)

module _ {B D : Type 0} (c : Class B) (r : Reading (Entry B) (Page B)) (f : Format B) (passes : ℕ → Contents → Bool) where
  abbrev led_ran : (d e : Device) (new : Parts B D) (i : index.State B) (events : List (laws.Happening B)) → Led c r f passes d e new i events → Ran c r f passes d e new i
  led_ran d e new i events led = record {
    passed = i ∷ [];
    events = events;
    bodies = led.bodies;
    index = led.index;
    happening = led.happening;
    holds = led.holds;
    leaves = leaves_weaker _ (StandsForOne c r f passes (i ∷ [])) d e (λ image stands. inl stands) led.leaves;
  }

  abbrev ran_joined : (d e g : Device) (middle new : Parts B D) (i : index.State B) (one : Ran c r f passes d e middle i) → Ran c r f passes e g new one.index → Ran c r f passes d g new i
  ran_joined d e g middle new i one two = record {
    passed = one.passed ++ two.passed;
    events = one.events ++ two.events;
    bodies = two.bodies;
    index = two.index;
    happening = happening_joined c i one.index two.index one.events two.events one.happening two.happening;
    holds = two.holds;
    leaves =
        leaves_joined (StandsForOne c r f passes (one.passed ++ two.passed)) d e g
        (leaves_weaker (StandsForOne c r f passes one.passed) (StandsForOne c r f passes (one.passed ++ two.passed)) d e (among_first c r f passes one.passed two.passed) one.leaves)
        (leaves_weaker (StandsForOne c r f passes two.passed) (StandsForOne c r f passes (one.passed ++ two.passed)) e g (among_last c r f passes one.passed two.passed) two.leaves);
  }

  module _ (state : D → Device) where
    abbrev at : Parts B D → Device
    at e = state e.volume.shelf.disk

    pub nothing_read : (e : Parts B D) → Reads c r f passes state e e
    nothing_read e bodies i h = record {
      ran = record { passed = []; events = []; bodies = bodies; index = i; happening = refl; holds = h; leaves = nothing_leaves (StandsForOne c r f passes []) (at e) };
      same = refl;
    }

    pub read_joined : (old middle new : Parts B D) → Reads c r f passes state old middle → Reads c r f passes state middle new → Reads c r f passes state old new
    read_joined old middle new first next bodies i h =
        let one = first bodies i h in
        let two = next one.ran.bodies one.ran.index one.ran.holds in
        record { ran = ran_joined (at old) (at middle) (at new) middle new i one.ran two.ran; same = two.same ∙ one.same }

    pub run_joined : (old middle new : Parts B D) → Reads c r f passes state old middle → Runs c r f passes state middle new → Runs c r f passes state old new
    run_joined old middle new first next bodies i h =
        let one = first bodies i h in
        ran_joined (at old) (at middle) (at new) middle new i one.ran (next one.ran.bodies one.ran.index one.ran.holds)

    pub read_runs : (old new : Parts B D) → Reads c r f passes state old new → Runs c r f passes state old new
    read_runs old new reads bodies i h = (reads bodies i h).ran

    -- what led to events, and to none
    pub leads_run : (old new : Parts B D) (events : List (laws.Happening B)) → Leads c r f passes (at old) (at new) old new events → Runs c r f passes state old new
    leads_run old new events leads bodies i h = led_ran (at old) (at new) new i events (leads bodies i h)

    pub leads_read : (old new : Parts B D) → Leads c r f passes (at old) (at new) old new [] → Reads c r f passes state old new
    leads_read old new leads bodies i h =
        let led = leads bodies i h in
        record { ran = led_ran (at old) (at new) new i [] led; same = ap (index.tree_now c) led.happening }

    -- an event that spared the sessions' calls
    pub spares_read : (old new : Parts B D) (AreSo : List (laws.Happening B) → Type 0) → SparesSo c r f passes (at old) (at new) old new AreSo → Reads c r f passes state old new
    spares_read old new AreSo spares bodies i h =
        let one = spares bodies i h in
        record { ran = led_ran (at old) (at new) new i one.0 one.2.led; same = one.2.same }
