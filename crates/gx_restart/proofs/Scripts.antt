-- A script for an index is one run of the machine that it is seen as.
use Rattle.std.proofs.Common.{◌≡◌, inl, inr, ℕ, ◌+◌, Bool, false, List, [], ◌∷◌, ◌++◌, refl, ap, sym, ◌∙◌, subst}
use Rattle.gx_class.specs.Traits.{traits_of}
use Rattle.gx_class.specs.declared.class.KeyClass.{Ghosts}
use Rattle.gx_machine.specs.declared.entry.Entry.{Entry}
use Rattle.gx_machine.specs.declared.item.Item.{Item}
use Rattle.gx_machine.specs.Keys.{Members, keys_of}
use Rattle.gx_machine.specs.Machine.{Machine}
use Rattle.gx_machine.specs.Records.{calls_and_replies, record_of}
use Rattle.gx_machine.proofs.RunLemmas.{join}
use Rattle.gx_disk.specs.Device.{Device}
use Rattle.gx_disk.proofs.Leaving.{leaves_joined, leaves_weaker, nothing_leaves}
use Rattle.gx_page.specs.Contents.{Contents}
use Rattle.gx_node.specs.Reading.{Format, format_of, is_node}
use Rattle.gx_recovery.specs.Known.{Limits}
use Rattle.gx_recovery.specs.Records.{Record}
use Rattle.gx_index_laws.specs.Classes.{Class, IsLawful, Page}
use Rattle.gx_index_laws.specs.States as index
use Rattle.gx_durable.specs.Spelled.{Reading}
use Rattle.gx_durable.specs.Classes.{class_of, reading_of}
use Rattle.gx_script.specs.declared.line.Line.{Line}
use Rattle.gx_script.specs.declared.line.Line.TheVariants.{Blank, Bad, Reversed, Asks}
use Rattle.gx_script.specs.Corners.{Grammar}
use Rattle.gx_script.specs.Scripts.{IsScript, asked_as}
use Rattle.gx_plain.specs.OneRun.{IsOneRun, Tells}
use Rattle.gx_plain.proofs.CallRuns.{joined}
use Rattle.gx_events.specs.declared.event.Event.{Event}
use Rattle.gx_events.specs.declared.outcome.Outcome.{Outcome}
use Rattle.gx_engine.specs.Holds.{Holds}
use Rattle.gx_engine.specs.Running.{Ran, StandsForOne}
use Rattle.gx_engine.specs.States.{Parts}
use Rattle.gx_restart.specs.Alone.{RunsAs, RunsFrom}
use Rattle.gx_restart.specs.Called.{CallsIndex}
use Rattle.gx_engine.specs.Made.{Makes}
use Rattle.gx_restart.specs.States.{State}
use Rattle.gx_engine.specs.Helping.{AskedEnds}
use Rattle.gx_restart.proofs.Alone.{call_alone, call_goes_on, happening_joined}

module _ {B : Type 0} (c : Class B) (r : Reading (Entry B) (Page B)) (f : Format B) (passes : ℕ → Contents → Bool) where
  among_first : (xs ys : List (index.State B)) (image : List ℕ) → StandsForOne c r f passes xs image → StandsForOne c r f passes (xs ++ ys) image
  among_first [] ys image stands = absurd stands
  among_first (x ∷ xs) ys image (inl stands) = inl stands
  among_first (x ∷ xs) ys image (inr stands) = inr (among_first xs ys image stands)

  among_last : (xs ys : List (index.State B)) (image : List ℕ) → StandsForOne c r f passes ys image → StandsForOne c r f passes (xs ++ ys) image
  among_last [] ys image stands = stands
  among_last (x ∷ xs) ys image stands = inr (among_last xs ys image stands)

-- two runs of an index, of which the second begins where the first ends, are one
module _ {B D : Type 0} (c : Class B) (r : Reading (Entry B) (Page B)) (f : Format B) (passes : ℕ → Contents → Bool) where
  ran_joined : (d e g : Device) (middle new : Parts B D) (i : index.State B) (one : Ran c r f passes d e middle i) → Ran c r f passes e g new one.index → Ran c r f passes d g new i
  ran_joined d e g middle new i one two = record {
    passed = one.passed ++ two.passed;
    events = one.events ++ two.events;
    bodies = two.bodies;
    index = two.index;
    happening = happening_joined c i one.index two.index one.events two.events one.happening two.happening;
    holds = two.holds;
    leaves =
        leaves_joined (StandsForOne c r f passes (one.passed ++ two.passed)) d e g
        (leaves_weaker (StandsForOne c r f passes one.passed) (StandsForOne c r f passes (one.passed ++ two.passed)) d e (among_first c r f passes one.passed two.passed) one.leaves)
        (leaves_weaker (StandsForOne c r f passes two.passed) (StandsForOne c r f passes (one.passed ++ two.passed)) e g (among_last c r f passes one.passed two.passed) two.leaves);
  }

  ran_nothing : (d : Device) (e : Parts B D) (bodies : List (List (Record (Entry B) (Page B)))) (i : index.State B) → Holds c r f passes d e bodies i → Ran c r f passes d d e i
  ran_nothing d e bodies i h = record {
    passed = [];
    events = [];
    bodies = bodies;
    index = i;
    happening = refl;
    holds = h;
    leaves = nothing_leaves (StandsForOne c r f passes []) d;
  }

module _ {B C D : Type 0} (grammar : Grammar B) (shape : Members B) (proper : B → Bool) (said : List ℕ → B) (class : Ghosts C B) (state : D → Device) (l : Limits) where
  abbrev makes : Parts B D → Event B → Outcome B → Parts B D → Type 0
  makes = Makes shape (traits_of proper said class) state

  abbrev c : Class B
  c = class_of shape proper l

  abbrev From : State B D → State B D → (Machine B → Machine B → Type 0) → Type 0
  From old new Run = RunsFrom c (reading_of said (format_of class)) (format_of class) (is_node (format_of class)) state old.engine new.engine Run

  -- a line that asks nothing changes nothing
  quiet : (number : ℕ) (line : Line B) (more : List (Line B)) (old middle new : State B D) (first rest text : List ℕ) → middle ≡ old → text ≡ first ++ rest
      → ((m n : Machine B) → IsOneRun grammar (keys_of shape) (number + 1) more m n rest → IsOneRun grammar (keys_of shape) number (line ∷ more) m n text)
      → From middle new (λ m n. IsOneRun grammar (keys_of shape) (number + 1) more m n rest) → From old new (λ m n. IsOneRun grammar (keys_of shape) number (line ∷ more) m n text)
  quiet number line more old middle new first rest text same is tells from bodies i h m seen =
      let there = subst (λ (x : State B D). From x new (λ m n. IsOneRun grammar (keys_of shape) (number + 1) more m n rest)) same from in
      let after = there bodies i h m seen in
      record { ran = after.ran; machine = after.machine; seen = after.seen; runs = tells m after.machine after.runs }

  pub script_alone : (number : ℕ) (lines : List (Line B)) (old new : State B D) (text : List ℕ) → old.ended ≡ false
      → AskedEnds shape (traits_of proper said class) state l → IsLawful c → IsScript grammar (CallsIndex makes) number lines old text new → From old new (λ m n. IsOneRun grammar (keys_of shape) number lines m n text)
  unfolding ran_nothing ran_joined
  script_alone number [] old new text was never lawful script bodies i h m seen =
      subst (λ (x : State B D). RunsAs c (reading_of said (format_of class)) (format_of class) (is_node (format_of class)) (state old.engine.volume.shelf.disk) (state x.engine.volume.shelf.disk)
      x.engine i (λ n. IsOneRun grammar (keys_of shape) number [] m n text)) (sym script.1)
      (record {
        ran = ran_nothing c _ _ _ (state old.engine.volume.shelf.disk) old.engine bodies i h;
        machine = m;
        seen = seen;
        runs = record { steps = []; runs = refl; tells = (refl, script.0) };
      })
  script_alone number (Blank ∷ more) old new text was never lawful script bodies i h m seen =
      quiet number Blank more old script.2 new script.0 script.1 text script.3.1 script.5
      (λ m n run. record {
        steps = run.steps;
        runs = run.runs;
        tells = subst (λ (t : List ℕ). Tells grammar (number + 1) more (calls_and_replies (record_of run.steps)) t) (sym (script.5 ∙ ap (λ (t : List ℕ). t ++ script.1) script.3.0)) run.tells;
      })
      (script_alone (number + 1) more script.2 new script.1 (ap (λ x. x.ended) script.3.1 ∙ was) never lawful script.4) bodies i h m seen
  script_alone number (Bad ∷ more) old new text was never lawful script bodies i h m seen =
      quiet number Bad more old script.2 new script.0 script.1 text script.3.1 script.5
      (λ m n run. record { steps = run.steps; runs = run.runs; tells = (script.1, script.5 ∙ ap (λ (t : List ℕ). t ++ script.1) script.3.0, run.tells) })
      (script_alone (number + 1) more script.2 new script.1 (ap (λ x. x.ended) script.3.1 ∙ was) never lawful script.4) bodies i h m seen
  script_alone number (Reversed session ∷ more) old new text was never lawful script bodies i h m seen =
      quiet number (Reversed session) more old script.2 new script.0 script.1 text script.3.1 script.5
      (λ m n run. record { steps = run.steps; runs = run.runs; tells = (script.1, script.5 ∙ ap (λ (t : List ℕ). t ++ script.1) script.3.0, run.tells) })
      (script_alone (number + 1) more script.2 new script.1 (ap (λ x. x.ended) script.3.1 ∙ was) never lawful script.4) bodies i h m seen
  script_alone number (Asks session call ∷ more) old new text was never lawful script bodies i h m seen =
      let told = script.3 in
      let middle = script.2 in
      let goes_on = call_goes_on shape proper said class state l old (asked_as session) call told.0 middle told.1 was never bodies i h in
      let first = call_alone shape proper said class state l old (asked_as session) call told.0 middle told.1 was never lawful bodies i h m seen in
      let rest = script_alone (number + 1) more middle new script.1 goes_on never lawful script.4 first.ran.bodies first.ran.index first.ran.holds first.machine first.seen in
      record {
        ran = ran_joined c _ _ _ (state old.engine.volume.shelf.disk) (state middle.engine.volume.shelf.disk) (state new.engine.volume.shelf.disk) middle.engine new.engine i first.ran rest.ran;
        machine = rest.machine;
        seen = rest.seen;
        runs = record {
          steps = first.runs.steps ++ rest.runs.steps;
          runs = join (keys_of shape) first.runs.steps rest.runs.steps m first.machine rest.machine first.runs.runs rest.runs.runs;
          tells = (
            told.0,
            calls_and_replies (record_of rest.runs.steps),
            script.1,
            joined (keys_of shape) first.runs.steps rest.runs.steps
                ∙ ap (λ (items : List (Item B)). items ++ calls_and_replies (record_of rest.runs.steps)) first.runs.record_is,
            script.5 ∙ ap (λ (t : List ℕ). t ++ script.1) told.2,
            rest.runs.tells,
          );
        };
      }
