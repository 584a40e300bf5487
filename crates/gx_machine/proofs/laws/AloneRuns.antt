-- A committed transaction reads as if it had run alone where its commit was sealed.
use Rattle.std.proofs.Common.{◌≡◌, ◌≢◌, ℕ, ◌+◌, ◌-◌, Bool, true, false, ◌⊎◌, inl, inr, List, [], ◌∷◌, ◌++◌, Option, Some, None, length, refl, ap, sym, ◌∙◌, subst, eq-eqb}
use Rattle.std.specs.Prelude.{if◌then◌else◌, ◌==◌, slice_set, Result, Ok, Err}
use Rattle.std.proofs.lemmas.Bool.{ne_eqb}
use Rattle.std.proofs.lemmas.List.Elements.{All-head, All-tail}
use Rattle.std.proofs.Math.Decide.{ℕ_discrete}
use Rattle.gx_geom.specs.declared.refusal.Refusal.{Refusal}
use Rattle.gx_geom.specs.declared.refusal.Refusal.TheVariants as refusal
use Rattle.gx_machine.specs.declared.call.Call.{Call}
use Rattle.gx_machine.specs.declared.call.Call.TheVariants.{Begin, Insert, Delete, Search, Commit, Abort}
use Rattle.gx_machine.specs.declared.reply.Reply.{Reply}
use Rattle.gx_machine.specs.declared.reply.Reply.TheVariants as reply
use Rattle.gx_machine.specs.declared.reply.Asked.{Asked}
use Rattle.gx_machine.specs.declared.reply.Asked.TheVariants as asked
use Rattle.gx_machine.specs.Keys.{Keys, IsLawful}
use Rattle.gx_machine.specs.Sessions.{Session, Idle, Open, Aborting, Committing, Locks, Changes, no_locks, no_changes, lock_for, asked_with, ask_open, ask_session, answer_call, answer_session, closed_session}
use Rattle.gx_machine.specs.Machine.{Machine, newest, is_session, session_at, with_session, least_conflicting, claims_held, ask, answer, seal, close, crash}
use Rattle.gx_machine.specs.Runs.{Step, Asks, Answers, Seals, Durable, Closes, RefusesAsk, RefusesCall, Fails, Crashes, Nothing, IsStep, IsRun, AskRefused, MeetsFault}
use Rattle.gx_machine.specs.Invariants.{KeptInOrder, AllIdle}
use Rattle.gx_machine.specs.Outcomes.{NoneConflicts}
use Rattle.gx_machine.specs.Serial.{Begins, BeginsNone}
use Rattle.gx_machine.specs.Alone.{RunsAlone, answered_call, answered_in, answered_calls, CommittedRunAlone}
use Rattle.gx_machine.proofs.SessionMoves.{Move, stays, begins, asks, claims, watches, aborts, answers, ends, value_of}
use Rattle.gx_machine.proofs.Places.{session_there, at_same, at_other, at_set, at_idle}
use Rattle.gx_machine.proofs.StepEffects.{Effect, quiet, moved, sealed, settled, crashed, Began, step_effect, mapped, asked_session, asked_there}
use Rattle.gx_machine.proofs.StepsKeep.{Invariant, idle_invariant, step_invariant, run_invariant}
use Rattle.gx_machine.proofs.laws.SerialRuns.{answered_at_seal, sealed_open}

same_number : (n : ℕ) → (n == n) ≡ true
same_number n = eq-eqb n n refl

-- no transaction is open
abbrev IsClosed : {B : Type 0} → Session B → Type 0
IsClosed Idle = Unit {0}
IsClosed (Open locks changes pending) = ⊥
IsClosed (Aborting locks) = Unit {0}
IsClosed (Committing number) = Unit {0}

-- a session that is open has made these changes
abbrev HasChanges : {B : Type 0} → Changes B → Session B → Type 0
HasChanges c Idle = Unit {0}
HasChanges c (Open locks changes pending) = changes ≡ c
HasChanges c (Aborting locks) = Unit {0}
HasChanges c (Committing number) = Unit {0}

-- from one to the other, an open transaction that stays open has changed nothing
abbrev SameChanges : {B : Type 0} → Session B → Session B → Type 0
SameChanges Idle y = Unit {0}
SameChanges (Open locks changes pending) y = HasChanges changes y
SameChanges (Aborting locks) y = Unit {0}
SameChanges (Committing number) y = Unit {0}

same_changes_itself : {B : Type 0} → (x : Session B) → SameChanges x x
same_changes_itself Idle = tt
same_changes_itself (Open locks changes pending) = refl
same_changes_itself (Aborting locks) = tt
same_changes_itself (Committing number) = tt

same_changes_closed : {B : Type 0} → (x y : Session B) → IsClosed y → SameChanges x y
same_changes_closed Idle y closed = tt
same_changes_closed (Open locks changes pending) Idle closed = tt
same_changes_closed (Open locks changes pending) (Open g c other) closed = absurd closed
same_changes_closed (Open locks changes pending) (Aborting g) closed = tt
same_changes_closed (Open locks changes pending) (Committing number) closed = tt
same_changes_closed (Aborting locks) y closed = tt
same_changes_closed (Committing number) y closed = tt

module _ {B : Type 0} (k : Keys B) where
  -- Asking changes nothing.

  with_same : (call : Call B) (lock : Result (Locks B) Refusal) (locks : Locks B) (changes : Changes B) → HasChanges changes (asked_with call lock locks changes).1
  with_same call (Ok g) locks changes = refl
  with_same call (Err why) locks changes = refl

  open_same : (call : Call B) (least : Option ℕ) (spent : ℕ) (locks : Locks B) (changes : Changes B) → HasChanges changes (ask_open k call least spent locks changes).1
  open_same Begin least spent locks changes = refl
  open_same (Insert e) least spent locks changes = with_same (Insert e) (lock_for k (Insert e) least spent locks) locks changes
  open_same (Delete e) least spent locks changes = with_same (Delete e) (lock_for k (Delete e) least spent locks) locks changes
  open_same (Search q) least spent locks changes = with_same (Search q) (lock_for k (Search q) least spent locks) locks changes
  open_same Commit least spent locks changes = with_same Commit (lock_for k Commit least spent locks) locks changes
  open_same Abort least spent locks changes = tt

  asked_same : (call : Call B) (least : Option ℕ) (spent : ℕ) (x : Session B) → SameChanges x (ask_session k call least spent x).1
  asked_same call least spent Idle = tt
  asked_same call least spent (Open locks changes None) = open_same call least spent locks changes
  asked_same call least spent (Open locks changes (Some pending)) = refl
  asked_same call least spent (Aborting locks) = tt
  asked_same call least spent (Committing number) = tt

  closed_same : (x y : Session B) → closed_session x ≡ Some y → SameChanges x y
  closed_same Idle y h = tt
  closed_same (Open g c None) y h = let no : ⊥ = cc in absurd no
  closed_same (Open g c (Some call)) y h = subst (HasChanges c) (value_of h) refl
  closed_same (Aborting g) y h = tt
  closed_same (Committing number) y h = tt

  module _ (s : ℕ) (old new : Machine B) (eight : length old.sessions ≡ 8) where
    -- this session, from one machine to another
    abbrev SameAt : Machine B → Type 0
    SameAt m = SameChanges (session_at s old.sessions) (session_at s m.sessions)

    set_same : (t : ℕ) (y : Session B) → is_session t ≡ true → SameChanges (session_at t old.sessions) y → SameAt (with_session t y old)
    set_same t y is same =
        elim (at_set s t old.sessions y is eight) [
          | inl p ↦
              (let here : SameChanges (session_at s old.sessions) y = subst (λ n. SameChanges (session_at n old.sessions) y) (sym p.0) same in
              subst (SameChanges (session_at s old.sessions)) (sym p.1) here)
          | inr p ↦ subst (SameChanges (session_at s old.sessions)) (sym p.1) (same_changes_itself (session_at s old.sessions))
        ]

    close_same : (t : ℕ) → close t old ≡ Some new → SameAt new
    close_same t h =
        let found = mapped (λ (x : Session B). with_session t x old) (closed_session (session_at t old.sessions)) new h in
        let busy : ¬ (session_at t old.sessions ≡ Idle) = λ idle.
        (let none : None ≡ Some found.0 = sym (ap closed_session idle) ∙ found.1 in cc) in
        subst SameAt found.2
        (set_same t found.0 (session_there t old.sessions busy (is_session t) refl) (closed_same (session_at t old.sessions) found.0 found.1))

    quiet_same : (failed : Bool) → new ≡ record old { failed = failed } → SameAt new
    quiet_same failed e = subst SameAt (sym e) (same_changes_itself (session_at s old.sessions))

    fault_same : (why : Refusal) → MeetsFault why old new → SameAt new
    fault_same refusal.Device h = quiet_same true h.1
    fault_same refusal.Failed h = quiet_same true h
    fault_same other h = absurd h

    ask_refused_same : (t : ℕ) (call : Call B) (why : Refusal) → AskRefused k t call why old new → SameAt new
    ask_refused_same t call refusal.HistoryFull h = quiet_same old.failed h.2
    ask_refused_same t call refusal.Device h = quiet_same true h.1
    ask_refused_same t call refusal.Failed h = quiet_same true h
    ask_refused_same t call other h = absurd h

    ask_by_same : (t : ℕ) (call : Call B) (r : Asked B) (there : Bool) → is_session t ≡ there → asked_there k t call old there ≡ (r, new) → SameAt new
    ask_by_same t call r true is h =
        subst SameAt (ap (λ (p : Asked B × Machine B). p.1) h)
        (set_same t (asked_session k t call old).1 is
        (asked_same call (least_conflicting k call t 1 old.sessions) (claims_held old.sessions) (session_at t old.sessions)))
    ask_by_same t call r false is h = quiet_same old.failed (sym (ap (λ (p : Asked B × Machine B). p.1) h))

    ask_same : (t : ℕ) (call : Call B) (r : Asked B) → ask k t call old ≡ (r, new) → SameAt new
    ask_same t call r h = ask_by_same t call r (is_session t) refl h

    other_answer_same : (t : ℕ) (r : Reply B) → t ≢ s → answer k t old ≡ Some (r, new) → SameAt new
    other_answer_same t r ne h =
        let found = mapped (λ (p : Reply B × Session B). (p.0, with_session t p.1 old)) (answer_session k old.latest old.oldest (session_at t old.sessions)) (r, new) h in
        let busy : ¬ (session_at t old.sessions ≡ Idle) = λ idle.
        (let none : None ≡ Some found.0 = sym (ap (answer_session k old.latest old.oldest) idle) ∙ found.1 in cc) in
        let there : is_session t ≡ true = session_there t old.sessions busy (is_session t) refl in
        subst SameAt (ap (λ (p : Reply B × Machine B). p.1) found.2)
        (subst (SameChanges (session_at s old.sessions)) (sym (at_other s t old.sessions found.0.1 there (λ p. ne (sym p))))
        (same_changes_itself (session_at s old.sessions)))

    crash_same : (number : ℕ) → new ≡ crash number old → SameAt new
    crash_same number e =
        subst SameAt (sym e)
        (same_changes_closed (session_at s old.sessions) (session_at s (crash number old).sessions) (subst IsClosed (sym (at_idle s)) tt))

  module _ (l : IsLawful k) where
    seal_same : (s t : ℕ) (old new : Machine B) (eight : length old.sessions ≡ 8) → seal k t old ≡ Some new → SameAt s old new eight new
    seal_same s t old new eight h =
        let of = sealed_open k l t old new h in
        let busy : ¬ (session_at t old.sessions ≡ Idle) = λ idle. (let both : Idle ≡ Open of.0 of.1 (Some Commit) = sym idle ∙ of.2 in cc) in
        let there : is_session t ≡ true = session_there t old.sessions busy (is_session t) refl in
        let after : new.sessions ≡ slice_set old.sessions (t - 1) (Committing (newest old + 1)) = of.4 in
        subst (λ (sessions : List (Session B)). SameChanges (session_at s old.sessions) (session_at s sessions)) (sym after)
        (set_same s old new eight t (Committing (newest old + 1)) there (same_changes_closed (session_at t old.sessions) (Committing (newest old + 1)) tt))

    -- a step that doesn't answer the session leaves an open transaction's changes alone
    step_same : (s : ℕ) (old new : Machine B) (eight : length old.sessions ≡ 8) (step : Step B) → IsStep k old step new
        → ((t : ℕ) (r : Reply B) → step ≡ Answers t r → t ≢ s) → SameAt s old new eight new × (answered_in s old step ≡ [])
    step_same s old new eight (Asks t call given) h other = (ask_same s old new eight t call given h.1, refl)
    step_same s old new eight (Answers t r) h other = (
      other_answer_same s old new eight t r (other t r refl) h.1,
      ap (λ b. if b then answered_call (session_at s old.sessions) r else []) (ne_eqb t s (other t r refl)),
    )
    step_same s old new eight (Seals t number) h other = (seal_same s t old new eight h.2, refl)
    step_same s old new eight (Durable number) h other =
        (subst (SameAt s old new eight) (sym h.3) (same_changes_itself (session_at s old.sessions)), refl)
    step_same s old new eight (Closes t why) h other = (close_same s old new eight t h.2, refl)
    step_same s old new eight (RefusesAsk t call why) h other = (ask_refused_same s old new eight t call why h, refl)
    step_same s old new eight (RefusesCall t why) h other = (fault_same s old new eight why h.1, refl)
    step_same s old new eight Fails h other = (quiet_same s old new eight true h, refl)
    step_same s old new eight (Crashes number) h other = (crash_same s old new eight number h.2, refl)
    step_same s old new eight Nothing h other = (quiet_same s old new eight old.failed h, refl)

    -- A session that isn't open stays so unless it begins.

    closed_move : (free : Call B → Type 0) (begun : Type 0) {x y : Session B} → ¬ begun → Move k free begun x y → IsClosed x → IsClosed y
    closed_move free begun never stays closed = closed
    closed_move free begun never (begins b) closed = absurd (never b)
    closed_move free begun never (asks holds) closed = absurd closed
    closed_move free begun never (claims e clear alike holds) closed = absurd closed
    closed_move free begun never (watches q clear holds) closed = absurd closed
    closed_move free begun never aborts closed = tt
    closed_move free begun never (answers after keeps) closed = absurd closed
    closed_move free begun never ends closed = tt

    closed_effect : (s : ℕ) (begun : ℕ → Type 0) (old new : Machine B) → length old.sessions ≡ 8 → ¬ begun s → Effect k begun old new
        → IsClosed (session_at s old.sessions) → IsClosed (session_at s new.sessions)
    closed_effect s begun old new eight never (quiet failed e) closed = subst (λ (m : Machine B). IsClosed (session_at s m.sessions)) (sym e) closed
    closed_effect s begun old new eight never (moved t y is move e) closed =
        subst (λ (m : Machine B). IsClosed (session_at s m.sessions)) (sym e)
        (elim (at_set s t old.sessions y is eight) [
          | inl p ↦
              (let never_t : ¬ begun t = subst (λ n. ¬ begun n) p.0 never in
              let closed_t : IsClosed (session_at t old.sessions) = subst (λ n. IsClosed (session_at n old.sessions)) p.0 closed in
              subst IsClosed (sym p.1) (closed_move (λ call. NoneConflicts k t call old.sessions) (begun t) never_t move closed_t))
          | inr p ↦ subst IsClosed (sym p.1) closed
        ])
    closed_effect s begun old new eight never (sealed t locks changes is at e) closed =
        subst (λ (m : Machine B). IsClosed (session_at s m.sessions)) (sym e)
        (elim (at_set s t old.sessions (Committing (newest old + 1)) is eight) [
          | inl p ↦ subst IsClosed (sym p.1) tt
          | inr p ↦ subst IsClosed (sym p.1) closed
        ])
    closed_effect s begun old new eight never (settled number e) closed = subst (λ (m : Machine B). IsClosed (session_at s m.sessions)) (sym e) closed
    closed_effect s begun old new eight never (crashed number e) closed =
        subst (λ (m : Machine B). IsClosed (session_at s m.sessions)) (sym e) (subst IsClosed (sym (at_idle s)) tt)

    closed_run : (s : ℕ) (steps : List (Step B)) (old new : Machine B) → IsRun k old steps new → BeginsNone s steps → Invariant k old
        → IsClosed (session_at s old.sessions) → IsClosed (session_at s new.sessions)
    closed_run s [] old new run none i closed = subst (λ (m : Machine B). IsClosed (session_at s m.sessions)) (sym run) closed
    closed_run s (step ∷ steps) old new run none i closed =
        closed_run s steps run.0 new run.2 (All-tail (λ (z : Step B). ¬ Begins s z) step steps none)
        (step_invariant k l old run.0 step run.1 i)
        (closed_effect s (Began k l step) old run.0 i.sessions.locks.eight (All-head (λ (z : Step B). ¬ Begins s z) step steps none)
        (step_effect k l old run.0 step run.1) closed)

    open_by : (x : Session B) → ¬ IsClosed x → (locks : Locks B) × (changes : Changes B) × (pending : Option (Call B)) × (x ≡ Open locks changes pending)
    open_by Idle not_closed = absurd (not_closed tt)
    open_by (Open locks changes pending) not_closed = (locks, changes, pending, refl)
    open_by (Aborting locks) not_closed = absurd (not_closed tt)
    open_by (Committing number) not_closed = absurd (not_closed tt)

    -- a step answers the session, or it doesn't
    answers_or_not : (s : ℕ) (step : Step B) → ((r : Reply B) × (step ≡ Answers s r)) ⊎ ((t : ℕ) (r : Reply B) → step ≡ Answers t r → t ≢ s)
    answers_or_not s (Asks t call given) = inr (λ u r e p. (let no : ⊥ = cc in no))
    answers_or_not s (Answers t r) =
        elim (ℕ_discrete t s) [
          | yes e ↦ inl (r, ap (λ n. Answers n r) e)
          | no ne ↦ inr (λ u z e p. (let same : t ≡ u = cc in ne (same ∙ p)))
        ]
    answers_or_not s (Seals t number) = inr (λ u r e p. (let no : ⊥ = cc in no))
    answers_or_not s (Durable number) = inr (λ u r e p. (let no : ⊥ = cc in no))
    answers_or_not s (Closes t why) = inr (λ u r e p. (let no : ⊥ = cc in no))
    answers_or_not s (RefusesAsk t call why) = inr (λ u r e p. (let no : ⊥ = cc in no))
    answers_or_not s (RefusesCall t why) = inr (λ u r e p. (let no : ⊥ = cc in no))
    answers_or_not s Fails = inr (λ u r e p. (let no : ⊥ = cc in no))
    answers_or_not s (Crashes number) = inr (λ u r e p. (let no : ⊥ = cc in no))
    answers_or_not s Nothing = inr (λ u r e p. (let no : ⊥ = cc in no))

    -- an answer closes the open call
    answer_closes : (s : ℕ) (h : Locks B) (c : Changes B) (pending : Option (Call B)) (r : Reply B) (old new : Machine B) → length old.sessions ≡ 8
        → session_at s old.sessions ≡ Open h c pending → answer k s old ≡ Some (r, new)
        → (call : Call B) × (pending ≡ Some call) × (then_changes : Changes B) × (session_at s new.sessions ≡ Open h then_changes None)
    answer_closes s h c None r old new eight at is =
        let outer = mapped (λ (p : Reply B × Session B). (p.0, with_session s p.1 old)) (answer_session k old.latest old.oldest (session_at s old.sessions)) (r, new) is in
        let none : None ≡ Some outer.0 = sym (ap (answer_session k old.latest old.oldest) at) ∙ outer.1 in
        let no : ⊥ = cc in
        absurd no
    answer_closes s h c (Some call) r old new eight at is =
        let outer = mapped (λ (p : Reply B × Session B). (p.0, with_session s p.1 old)) (answer_session k old.latest old.oldest (session_at s old.sessions)) (r, new) is in
        let opened : answer_session k old.latest old.oldest (Open h c (Some call)) ≡ Some outer.0 =
        sym (ap (answer_session k old.latest old.oldest) at) ∙ outer.1 in
        let inner = mapped (λ (p : Reply B × Changes B). (p.0, Open h p.1 None)) (answer_call k call old.latest c) outer.0 opened in
        let busy : ¬ (session_at s old.sessions ≡ Idle) = λ idle. (let both : Idle ≡ Open h c (Some call) = sym idle ∙ at in cc) in
        let there : is_session s ≡ true = session_there s old.sessions busy (is_session s) refl in (
          call,
          refl,
          inner.0.1,
          sym (ap (λ (p : Reply B × Machine B). session_at s p.1.sessions) outer.2) ∙ at_same s old.sessions outer.0.1 there eight
              ∙ sym (ap (λ (p : Reply B × Session B). p.1) inner.2),
        )

    module _ (sealing : Machine B) (s : ℕ) (seal_locks : Locks B) (seal_changes : Changes B) (commit : session_at s sealing.sessions ≡ Open seal_locks seal_changes (Some Commit)) where
      -- the rest of a transaction, alone
      abbrev Rest : Changes B → List (Call B × Reply B) → Type 0
      Rest c calls = RunsAlone k sealing.latest c calls seal_changes

      module _ (old new : Machine B) (i : Invariant k old) (steps : List (Step B)) (run : IsRun k new steps sealing) (none : BeginsNone s steps)
          (h : Locks B) (c : Changes B) (pending : Option (Call B)) (at : session_at s old.sessions ≡ Open h c pending) (calls : List (Call B × Reply B))
          (rest : (g : Locks B) (d : Changes B) (p : Option (Call B)) → session_at s new.sessions ≡ Open g d p → Rest d calls) where
        answered_alone : (r : Reply B) → IsStep k old (Answers s r) new → Rest c (answered_in s old (Answers s r) ++ calls)
        answered_alone r step =
            let answer = answer_closes s h c pending r old new i.sessions.locks.eight at step.1 in
            let opened : session_at s old.sessions ≡ Open h c (Some answer.0) = at ∙ ap (Open h c) answer.1 in
            let alike : answer_call k answer.0 sealing.latest c ≡ Some (r, answer.2) =
            answered_at_seal k l s answer.0 h h seal_locks c answer.2 seal_changes r old new sealing steps i opened step answer.3 run none commit in
            let is : answered_in s old (Answers s r) ≡ (answer.0, r) ∷ [] =
            ap (λ b. if b then answered_call (session_at s old.sessions) r else []) (same_number s) ∙ ap (λ (x : Session B). answered_call x r) opened in
            subst (λ (front : List (Call B × Reply B)). Rest c (front ++ calls)) (sym is)
            (answer.2, alike, rest h answer.2 None answer.3)

        step_alone : (step : Step B) → IsStep k old step new → Rest c (answered_in s old step ++ calls)
        step_alone step is =
            elim (answers_or_not s step) [
              | inl e ↦
                  subst (λ (z : Step B). Rest c (answered_in s old z ++ calls)) (sym e.1)
                  (answered_alone e.0 (subst (λ (z : Step B). IsStep k old z new) e.1 is))
              | inr other ↦
                  (let same = step_same s old new i.sessions.locks.eight step is other in
                  let not_closed : ¬ IsClosed (session_at s new.sessions) = λ closed.
                  subst IsClosed commit (closed_run s steps new sealing run none (step_invariant k l old new step is i) closed) in
                  let opened = open_by (session_at s new.sessions) not_closed in
                  let kept : opened.1 ≡ c =
                  subst (λ (x : Session B). SameChanges x (Open opened.0 opened.1 opened.2)) at
                  (subst (SameChanges (session_at s old.sessions)) opened.3 same.0) in
                  let alone : Rest c calls =
                  subst (λ (d : Changes B). Rest d calls) kept (rest opened.0 opened.1 opened.2 opened.3) in
                  subst (λ (front : List (Call B × Reply B)). Rest c (front ++ calls)) (sym same.1) alone)
            ]

      alone : (steps : List (Step B)) (old : Machine B) (run : IsRun k old steps sealing) (h : Locks B) (c : Changes B) (pending : Option (Call B)) → Invariant k old
          → BeginsNone s steps → session_at s old.sessions ≡ Open h c pending → Rest c (answered_calls k s old steps sealing run)
      alone [] old run h c pending i none at =
          let both : Open h c pending ≡ Open seal_locks seal_changes (Some Commit) = sym at ∙ sym (ap (λ (m : Machine B). session_at s m.sessions) run) ∙ commit in
          let same : seal_changes ≡ c = cc in
          same
      alone (step ∷ steps) old run h c pending i none at =
          let none_later : BeginsNone s steps = All-tail (λ (z : Step B). ¬ Begins s z) step steps none in
          step_alone old run.0 i steps run.2 none_later h c pending at (answered_calls k s run.0 steps sealing run.2)
          (λ g d p at_new. alone steps run.0 run.2 g d p (step_invariant k l old run.0 step run.1 i) none_later at_new)
          step run.1

    -- A begin that is answered Ok opens a transaction that holds nothing.

    begin_opens : (least : Option ℕ) (spent : ℕ) (x : Session B) → (ask_session k Begin least spent x).0 ≡ asked.Now reply.Ok
        → (ask_session k Begin least spent x).1 ≡ Open no_locks no_changes None
    begin_opens least spent Idle h = refl
    begin_opens least spent (Open g c None) h = let no : ⊥ = cc in absurd no
    begin_opens least spent (Open g c (Some pending)) h = let no : ⊥ = cc in absurd no
    begin_opens least spent (Aborting g) h = let no : ⊥ = cc in absurd no
    begin_opens least spent (Committing number) h = let no : ⊥ = cc in absurd no

    begun_by : (s : ℕ) (old new : Machine B) (there : Bool) → length old.sessions ≡ 8 → is_session s ≡ there
        → asked_there k s Begin old there ≡ (asked.Now reply.Ok, new) → session_at s new.sessions ≡ Open no_locks no_changes None
    begun_by s old new true eight is h =
        sym (ap (λ (p : Asked B × Machine B). session_at s p.1.sessions) h) ∙ at_same s old.sessions (asked_session k s Begin old).1 is eight
        ∙ begin_opens (least_conflicting k Begin s 1 old.sessions) (claims_held old.sessions) (session_at s old.sessions)
        (ap (λ (p : Asked B × Machine B). p.0) h)
    begun_by s old new false eight is h =
        let refused : asked.Now (reply.Refused refusal.BadSession) ≡ asked.Now reply.Ok = ap (λ (p : Asked B × Machine B). p.0) h in
        let no : ⊥ = cc in
        absurd no

    pub committed_alone : (start : Machine B) → AllIdle start → KeptInOrder k start → CommittedRunAlone k start
    committed_alone start idle kept s begun steps sealing after run c =
        let at_idle : Invariant k c.idle = run_invariant k l c.before start c.idle c.leads_to_idle (idle_invariant k l start idle kept) in
        let at_begun : Invariant k begun = step_invariant k l c.idle begun (Asks s Begin (asked.Now reply.Ok)) c.begins at_idle in
        let opened : session_at s begun.sessions ≡ Open no_locks no_changes None = begun_by s c.idle begun (is_session s) at_idle.sessions.locks.eight refl c.begins.1 in
        let commit = sealed_open k l s sealing after c.is_sealed.2 in
        (commit.1, alone sealing s commit.0 commit.1 commit.2 steps begun run no_locks no_changes None at_begun c.goes_on opened, commit.3)
