-- What each step keeps: kept sets in order, locks apart from one another, and transactions sound.
use Rattle.std.proofs.Common.{◌≡◌, ◌≢◌, ℕ, zero, suc, ◌+◌, ◌-◌, true, not, inl, inr, List, [], ◌∷◌, replicate, refl, sym, ◌∙◌, subst}
use Rattle.std.specs.Prelude.{slice_set, All}
use Rattle.std.specs.List.{slice_index_or}
use Rattle.std.proofs.lemmas.List.{length-set}
use Rattle.std.proofs.lemmas.List.Elements.{All-drop, All-nil, All-head, All-tail, All-push}
use Rattle.gx_machine.specs.declared.limits.TheConstants.{SESSIONS}
use Rattle.gx_machine.specs.declared.entry.Entry.{Entry}
use Rattle.gx_machine.specs.Keys.{Keys, IsLawful}
use Rattle.gx_machine.specs.Sets.{has, excluding_all, InOrder}
use Rattle.gx_machine.specs.Sessions.{Session, Idle, Committing, Changes, locks_of, view}
use Rattle.gx_machine.specs.Machine.{Machine, newest, kept_sets, is_session, session_at}
use Rattle.gx_machine.specs.Runs.{Step, IsStep, IsRun}
use Rattle.gx_machine.specs.Invariants.{KeptInOrder, AllIdle, Apart, LocksApart, IsSound, SessionsHold}
use Rattle.gx_machine.specs.Outcomes.{NoneConflicts}
use Rattle.gx_machine.proofs.SetLaws.{in_order_filter, in_order_including_all}
use Rattle.gx_machine.proofs.SessionsApart.{sound_move, apart_move, moved_apart}
use Rattle.gx_machine.proofs.Places.{at_set, at_idle}
use Rattle.gx_machine.proofs.StepEffects.{Effect, quiet, moved, sealed, settled, crashed, Began, step_effect}

-- what each step keeps
pub record Invariant {B : Type 0} (k : Keys B) (m : Machine B) : Type 0 where
  pub sessions : SessionsHold k m.sessions
  pub kept : KeptInOrder k m

module _ {B : Type 0} (k : Keys B) (l : IsLawful k) where
  carry : {x y z w : Session B} → x ≡ z → y ≡ w → Apart k (locks_of z) (locks_of w) → Apart k (locks_of x) (locks_of y)
  carry {x} {y} {z} {w} p q a =
      subst (λ (v : Session B). Apart k (locks_of x) (locks_of v)) (sym q) (subst (λ (u : Session B). Apart k (locks_of u) (locks_of w)) (sym p) a)

  pub idle_apart : LocksApart k (replicate SESSIONS Idle)
  idle_apart = record { eight = refl; apart = λ a b ne. carry {z = Idle} {w = Idle} (at_idle a) (at_idle b) (λ e h. refl) }

  pub idle_hold : SessionsHold k (replicate SESSIONS Idle)
  idle_hold = record { locks = idle_apart; sound = λ a. subst (IsSound k) (sym (at_idle a)) tt }

  -- the locks once one session is changed
  set_apart : (s : ℕ) (sessions : List (Session B)) (y : Session B) → is_session s ≡ true → LocksApart k sessions
      → ((a : ℕ) → a ≢ s → Apart k (locks_of y) (locks_of (session_at a sessions))) → ((a : ℕ) → a ≢ s → Apart k (locks_of (session_at a sessions)) (locks_of y))
      → LocksApart k (slice_set sessions (s - 1) y)
  set_apart s sessions y is hold from to = record {
    eight = length-set sessions (s - 1) y ∙ hold.eight;
    apart = λ a b ne.
        elim (at_set a s sessions y is hold.eight) [
          | inl p ↦ elim (at_set b s sessions y is hold.eight) [
            | inl q ↦ absurd (ne (p.0 ∙ sym q.0))
            | inr q ↦ carry p.1 q.1 (from b q.0)
          ]
          | inr p ↦ elim (at_set b s sessions y is hold.eight) [
            | inl q ↦ carry p.1 q.1 (to a p.0)
            | inr q ↦ carry p.1 q.1 (hold.apart a b ne)
          ]
        ];
  }

  -- the sessions once one of them is changed
  set_sound : (s : ℕ) (sessions : List (Session B)) (y : Session B) → is_session s ≡ true → SessionsHold k sessions → IsSound k y
      → (a : ℕ) → IsSound k (session_at a (slice_set sessions (s - 1) y))
  set_sound s sessions y is hold sound a =
      elim (at_set a s sessions y is hold.locks.eight) [
        | inl p ↦ subst (IsSound k) (sym p.1) sound
        | inr p ↦ subst (IsSound k) (sym p.1) (hold.sound a)
      ]

  module _ (begun : ℕ → Type 0) (old new : Machine B) where
    effect_apart : Effect k begun old new → LocksApart k old.sessions → LocksApart k new.sessions
    effect_apart (quiet failed e) hold = subst (λ (m : Machine B). LocksApart k m.sessions) (sym e) hold
    effect_apart (moved s y is move e) hold =
        subst (λ (m : Machine B). LocksApart k m.sessions) (sym e)
        (set_apart s old.sessions y is hold
        (λ a ne. apart_move k l (λ call. NoneConflicts k s call old.sessions) (begun s) (locks_of (session_at a old.sessions)) (λ call clear. clear a ne) move (hold.apart s a (λ p. ne (sym p))))
        (λ a ne. moved_apart k l (λ call. NoneConflicts k s call old.sessions) (begun s) (locks_of (session_at a old.sessions)) (λ call clear. clear a ne) move (hold.apart a s ne)))
    effect_apart (sealed s locks changes is at e) hold =
        subst (λ (m : Machine B). LocksApart k m.sessions) (sym e)
        (set_apart s old.sessions (Committing (newest old + 1)) is hold (λ a ne z c. cc) (λ a ne z c. refl))
    effect_apart (settled number e) hold = subst (λ (m : Machine B). LocksApart k m.sessions) (sym e) hold
    effect_apart (crashed number e) hold = subst (λ (m : Machine B). LocksApart k m.sessions) (sym e) idle_apart

    effect_sound : Effect k begun old new → SessionsHold k old.sessions → (a : ℕ) → IsSound k (session_at a new.sessions)
    effect_sound (quiet failed e) hold a = subst (λ (m : Machine B). IsSound k (session_at a m.sessions)) (sym e) (hold.sound a)
    effect_sound (moved s y is move e) hold a =
        subst (λ (m : Machine B). IsSound k (session_at a m.sessions)) (sym e)
        (set_sound s old.sessions y is hold (sound_move k l (λ call. NoneConflicts k s call old.sessions) (begun s) move (hold.sound s)) a)
    effect_sound (sealed s locks changes is at e) hold a =
        subst (λ (m : Machine B). IsSound k (session_at a m.sessions)) (sym e)
        (set_sound s old.sessions (Committing (newest old + 1)) is hold tt a)
    effect_sound (settled number e) hold a = subst (λ (m : Machine B). IsSound k (session_at a m.sessions)) (sym e) (hold.sound a)
    effect_sound (crashed number e) hold a = subst (λ (m : Machine B). IsSound k (session_at a m.sessions)) (sym e) (idle_hold.sound a)

    effect_holds : Effect k begun old new → SessionsHold k old.sessions → SessionsHold k new.sessions
    effect_holds effect hold = record { locks = effect_apart effect hold.locks; sound = effect_sound effect hold }

  pub view_in_order : (latest : List (Entry B)) (changes : Changes B) → InOrder k latest → InOrder k (view k latest changes)
  view_in_order latest changes o =
      in_order_including_all k l changes.added (excluding_all k changes.taken latest) (in_order_filter k l (λ x. not (has k x changes.taken)) latest o)

  one_in_order : (i : ℕ) (sets : List (List (Entry B))) → All (InOrder k) sets → InOrder k (slice_index_or sets i [])
  one_in_order i [] o = tt
  one_in_order zero (set ∷ sets) o = All-head (InOrder k) set sets o
  one_in_order (suc i) (set ∷ sets) o = one_in_order i sets (All-tail (InOrder k) set sets o)

  module _ (begun : ℕ → Type 0) (old new : Machine B) where
    effect_keeps : Effect k begun old new → KeptInOrder k old → KeptInOrder k new
    effect_keeps (quiet failed e) kept = subst (KeptInOrder k) (sym e) (record { older = kept.older; latest = kept.latest })
    effect_keeps (moved s y is move e) kept = subst (KeptInOrder k) (sym e) (record { older = kept.older; latest = kept.latest })
    effect_keeps (sealed s locks changes is at e) kept =
        subst (KeptInOrder k) (sym e) (record {
          older = All-push (InOrder k) old.older old.latest kept.older kept.latest;
          latest = view_in_order old.latest changes kept.latest;
        })
    effect_keeps (settled number e) kept =
        subst (KeptInOrder k) (sym e) (record { older = All-drop (InOrder k) (number - old.oldest) old.older kept.older; latest = kept.latest })
    effect_keeps (crashed number e) kept =
        subst (KeptInOrder k) (sym e) (record {
          older = All-nil (InOrder k);
          latest = one_in_order (number - old.oldest) (kept_sets old) (All-push (InOrder k) old.older old.latest kept.older kept.latest);
        })

    effect_invariant : Effect k begun old new → Invariant k old → Invariant k new
    effect_invariant effect i = record { sessions = effect_holds begun old new effect i.sessions; kept = effect_keeps effect i.kept }

  -- what each step keeps, each run keeps
  pub run_keeps : (P : Machine B → Type 0) → ((old new : Machine B) (step : Step B) → IsStep k old step new → P old → P new)
      → (steps : List (Step B)) (old new : Machine B) → IsRun k old steps new → P old → P new
  run_keeps P keeps [] old new run p = subst P (sym run) p
  run_keeps P keeps (step ∷ steps) old new run p = run_keeps P keeps steps run.0 new run.2 (keeps old run.0 step run.1 p)

  pub step_invariant : (old new : Machine B) (step : Step B) → IsStep k old step new → Invariant k old → Invariant k new
  step_invariant old new step is i = effect_invariant (Began k l step) old new (step_effect k l old new step is) i

  -- one step keeps locks apart, whatever else the sessions hold
  pub step_apart : (old new : Machine B) (step : Step B) → IsStep k old step new → LocksApart k old.sessions → LocksApart k new.sessions
  step_apart old new step is hold = effect_apart (Began k l step) old new (step_effect k l old new step is) hold

  pub run_invariant : (steps : List (Step B)) (old new : Machine B) → IsRun k old steps new → Invariant k old → Invariant k new
  run_invariant = run_keeps (Invariant k) step_invariant

  pub run_in_order : (steps : List (Step B)) (old new : Machine B) → IsRun k old steps new → KeptInOrder k old → KeptInOrder k new
  run_in_order = run_keeps (KeptInOrder k) (λ old new step is kept. effect_keeps (Began k l step) old new (step_effect k l old new step is) kept)

  pub run_holds : (steps : List (Step B)) (old new : Machine B) → IsRun k old steps new → SessionsHold k old.sessions → SessionsHold k new.sessions
  run_holds =
      run_keeps (λ (m : Machine B). SessionsHold k m.sessions)
      (λ old new step is hold. effect_holds (Began k l step) old new (step_effect k l old new step is) hold)

  -- a machine whose sessions are idle has what each step keeps
  pub idle_invariant : (m : Machine B) → AllIdle m → KeptInOrder k m → Invariant k m
  idle_invariant m idle kept = record { sessions = subst (SessionsHold k) (sym idle) idle_hold; kept = kept }
