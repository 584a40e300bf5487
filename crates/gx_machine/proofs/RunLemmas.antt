-- Runs as lists of steps: they join, and go without the faults that no session sees.
use Rattle.std.proofs.Common.{◌≡◌, ℕ, true, false, inl, inr, List, [], ◌∷◌, ◌++◌, refl, ap, sym, ◌∙◌, subst}
use Rattle.gx_geom.specs.declared.refusal.Refusal.{Refusal}
use Rattle.gx_geom.specs.declared.refusal.Refusal.TheVariants as refusal
use Rattle.gx_machine.specs.declared.call.Call.{Call}
use Rattle.gx_machine.specs.Keys.{Keys}
use Rattle.gx_machine.specs.Machine.{Machine, crash, failed_machine}
use Rattle.gx_machine.specs.Runs.{Step, Asks, Answers, Seals, Durable, Closes, RefusesAsk, RefusesCall, Fails, Crashes, Nothing, IsStep, IsRun, AskRefused, MeetsFault, is_unseen_fault}
use Rattle.gx_machine.specs.Records.{items_of, record_of, without_unseen_faults, SameOrFailed, RunsUnseen}

module _ {B : Type 0} (k : Keys B) where
  -- two runs, of which the second begins where the first ends, are one
  pub join : (before after : List (Step B)) (old middle new : Machine B) → IsRun k old before middle → IsRun k middle after new → IsRun k old (before ++ after) new
  join [] after old middle new first second = subst (λ (m : Machine B). IsRun k m after new) first second
  join (step ∷ before) after old middle new first second = (first.0, first.1, join before after first.0 middle new first.2 second)

  -- a run of one step
  pub one_step : (step : Step B) (old new : Machine B) → IsStep k old step new → IsRun k old (step ∷ []) new
  one_step step old new is = (new, is, refl)

  no_fault : (m : Machine B) → ¬ ((failed_machine m).failed ≡ false)
  no_fault m h = let no : true ≡ false = h in cc

  abbrev Passes : Step B → Machine B → Machine B → Type 0
  Passes step m next = (end : Machine B) × IsStep k m step end × SameOrFailed end next

  fault_passes : (why : Refusal) (m next : Machine B) → MeetsFault why (failed_machine m) next → MeetsFault why m (failed_machine m) × (next ≡ failed_machine m)
  fault_passes refusal.Device m next h = absurd (no_fault m h.0)
  fault_passes refusal.Failed m next h = (refl, h)
  fault_passes other m next h = absurd h

  ask_passes : (s : ℕ) (call : Call B) (why : Refusal) (m next : Machine B) → AskRefused k s call why (failed_machine m) next
      → AskRefused k s call why m (failed_machine m) × (next ≡ failed_machine m)
  ask_passes s call refusal.HistoryFull m next h = absurd (no_fault m h.0)
  ask_passes s call refusal.Device m next h = absurd (no_fault m h.0)
  ask_passes s call refusal.Failed m next h = (refl, h)
  ask_passes s call other m next h = absurd h

  -- what a machine that has failed may do, it may do if it hadn't
  passes_failed : (step : Step B) (m next : Machine B) → is_unseen_fault step ≡ false → IsStep k (failed_machine m) step next → Passes step m next
  passes_failed (Asks s call given) m next seen h = absurd (no_fault m h.0)
  passes_failed (Answers s r) m next seen h = absurd (no_fault m h.0)
  passes_failed (Seals s number) m next seen h = absurd (no_fault m h.0)
  passes_failed (Durable number) m next seen h = absurd (no_fault m h.0)
  passes_failed (Closes s why) m next seen h = absurd (no_fault m h.0)
  passes_failed (RefusesAsk s call why) m next seen h =
      let both = ask_passes s call why m next h in (failed_machine m, both.0, inl (sym both.1))
  passes_failed (RefusesCall s why) m next seen h =
      let both = fault_passes why m next h.1 in (failed_machine m, (h.0, both.0), inl (sym both.1))
  passes_failed Fails m next seen h = let no : ⊥ = cc in absurd no
  passes_failed (Crashes number) m next seen h = (crash number m, (h.0, h.1, refl), inl (sym h.2))
  passes_failed Nothing m next seen h = (m, refl, inr h)

  passes : (step : Step B) (m n next : Machine B) → is_unseen_fault step ≡ false → SameOrFailed m n → IsStep k n step next → Passes step m next
  passes step m n next seen (inl e) h = (next, subst (λ (z : Machine B). IsStep k z step next) (sym e) h, inl refl)
  passes step m n next seen (inr e) h = passes_failed step m next seen (subst (λ (z : Machine B). IsStep k z step next) e h)

  fault_unseen : (m n next : Machine B) → SameOrFailed m n → next ≡ failed_machine n → SameOrFailed m next
  fault_unseen m n next (inl e) h = inr (h ∙ ap failed_machine (sym e))
  fault_unseen m n next (inr e) h = inr (h ∙ ap failed_machine e)

  abbrev Ends : List (Step B) → Machine B → Machine B → Type 0
  Ends steps m new = (end : Machine B) × IsRun k m steps end × SameOrFailed end new

  goes_on : (step : Step B) (steps : List (Step B)) (m n new : Machine B) (next : Machine B) → is_unseen_fault step ≡ false → SameOrFailed m n → IsStep k n step next
      → ((z : Machine B) → SameOrFailed z next → Ends steps z new) → Ends (step ∷ steps) m new
  goes_on step steps m n new next seen same is rest =
      let one = passes step m n next seen same is in
      let more = rest one.0 one.2 in
      (more.0, (one.0, one.1, more.1), more.2)

  unseen : (steps : List (Step B)) (m n new : Machine B) → SameOrFailed m n → IsRun k n steps new → Ends (without_unseen_faults steps) m new
  unseen [] m n new same run = (m, refl, subst (SameOrFailed m) (sym run) same)
  unseen (Asks s call given ∷ steps) m n new same run =
      goes_on (Asks s call given) (without_unseen_faults steps) m n new run.0 refl same run.1 (λ z next. unseen steps z run.0 new next run.2)
  unseen (Answers s r ∷ steps) m n new same run =
      goes_on (Answers s r) (without_unseen_faults steps) m n new run.0 refl same run.1 (λ z next. unseen steps z run.0 new next run.2)
  unseen (Seals s number ∷ steps) m n new same run =
      goes_on (Seals s number) (without_unseen_faults steps) m n new run.0 refl same run.1 (λ z next. unseen steps z run.0 new next run.2)
  unseen (Durable number ∷ steps) m n new same run =
      goes_on (Durable number) (without_unseen_faults steps) m n new run.0 refl same run.1 (λ z next. unseen steps z run.0 new next run.2)
  unseen (Closes s why ∷ steps) m n new same run =
      goes_on (Closes s why) (without_unseen_faults steps) m n new run.0 refl same run.1 (λ z next. unseen steps z run.0 new next run.2)
  unseen (RefusesAsk s call why ∷ steps) m n new same run =
      goes_on (RefusesAsk s call why) (without_unseen_faults steps) m n new run.0 refl same run.1 (λ z next. unseen steps z run.0 new next run.2)
  unseen (RefusesCall s why ∷ steps) m n new same run =
      goes_on (RefusesCall s why) (without_unseen_faults steps) m n new run.0 refl same run.1 (λ z next. unseen steps z run.0 new next run.2)
  unseen (Fails ∷ steps) m n new same run = unseen steps m run.0 new (fault_unseen m n run.0 same run.1) run.2
  unseen (Crashes number ∷ steps) m n new same run =
      goes_on (Crashes number) (without_unseen_faults steps) m n new run.0 refl same run.1 (λ z next. unseen steps z run.0 new next run.2)
  unseen (Nothing ∷ steps) m n new same run =
      goes_on Nothing (without_unseen_faults steps) m n new run.0 refl same run.1 (λ z next. unseen steps z run.0 new next run.2)

  same_record : (steps : List (Step B)) → record_of (without_unseen_faults steps) ≡ record_of steps
  same_record [] = refl
  same_record (Asks s call given ∷ steps) = ap (λ items. items_of (Asks s call given) ++ items) (same_record steps)
  same_record (Answers s r ∷ steps) = ap (λ items. items_of (Answers s r) ++ items) (same_record steps)
  same_record (Seals s number ∷ steps) = ap (λ items. items_of {B = B} (Seals s number) ++ items) (same_record steps)
  same_record (Durable number ∷ steps) = same_record steps
  same_record (Closes s why ∷ steps) = ap (λ items. items_of {B = B} (Closes s why) ++ items) (same_record steps)
  same_record (RefusesAsk s call why ∷ steps) = ap (λ items. items_of (RefusesAsk s call why) ++ items) (same_record steps)
  same_record (RefusesCall s why ∷ steps) = ap (λ items. items_of {B = B} (RefusesCall s why) ++ items) (same_record steps)
  same_record (Fails ∷ steps) = same_record steps
  same_record (Crashes number ∷ steps) = same_record steps
  same_record (Nothing ∷ steps) = same_record steps

  -- a run without its unseen faults is a run with the same record
  pub runs_unseen : (old new : Machine B) (steps : List (Step B)) → IsRun k old steps new → RunsUnseen k old steps new
  runs_unseen old new steps run =
      let ends = unseen steps old old new (inl refl) run in
      record { end = ends.0; runs = ends.1; same_record = same_record steps; same = ends.2 }
