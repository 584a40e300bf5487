-- What each step of the machine keeps of each session, and of the sets, if nothing is inserted or deleted.
use Rattle.std.proofs.Common.{◌≡◌, ℕ, zero, suc, ◌+◌, ◌-◌, ◌<◌, Bool, true, false, inl, inr, List, [], ◌∷◌, ◌++◌, drop, length, Option, Some, None, refl, ap, sym, ◌∙◌, subst, arith}
use Rattle.std.specs.Prelude.{◌==◌, replicate, slice_set}
use Rattle.std.specs.List.{slice_index_or}
use Rattle.std.proofs.lemmas.List.{length-set}
use Rattle.gx_machine.specs.declared.call.Call.{Call}
use Rattle.gx_machine.specs.declared.call.Call.TheVariants.{Commit}
use Rattle.gx_machine.specs.declared.entry.Entry.{Entry}
use Rattle.gx_machine.specs.declared.limits.TheConstants.{SESSIONS}
use Rattle.gx_machine.specs.declared.reply.Asked.{Asked}
use Rattle.gx_machine.specs.declared.reply.Asked.TheVariants as asked
use Rattle.gx_machine.specs.declared.reply.Reply.{Reply}
use Rattle.gx_machine.specs.declared.reply.Reply.TheVariants as reply
use Rattle.gx_machine.specs.Keys.{Keys}
use Rattle.gx_machine.specs.Machine.{Machine, answer, claims_held, close, is_session, least_conflicting, newest, session_at, with_session}
use Rattle.gx_machine.specs.Runs.{Step, Asks, Answers, Seals, Durable, Closes, RefusesAsk, RefusesCall, Fails, Crashes, Nothing, IsStep}
use Rattle.gx_machine.specs.Sessions.{Session, Idle, Open, Committing, answer_session, ask_session, closed_session, sealed_set}
use Rattle.gx_machine.proofs.Places.{at_idle, at_set, session_there}
use Rattle.gx_machine.proofs.StepEffects.{asked_session, asked_there, mapped, sealed_view, with_set}
use Rattle.gx_machine.proofs.Transactions.{ask_refused_sessions, failed_sessions, fault_sessions}
use Rattle.gx_node.specs.Lists.{Each}
use Rattle.gx_lives.specs.Later.{is_change}

-- lists of which each element has a property
pub each_push : {X : Type 0} (P : X → Type 0) (xs : List X) (x : X) → Each P xs → P x → Each P (xs ++ x ∷ [])
each_push P [] x all so = (so, tt)
each_push P (y ∷ xs) x all so = (all.0, each_push P xs x all.1 so)

pub each_drop : {X : Type 0} (P : X → Type 0) (n : ℕ) (xs : List X) → Each P xs → Each P (drop n xs)
each_drop P zero xs all = all
each_drop P (suc n) [] all = tt
each_drop P (suc n) (x ∷ xs) all = each_drop P n xs all.1

pub each_at : {X : Type 0} (P : X → Type 0) (xs : List X) (i : ℕ) (d : X) → Each P xs → i < length xs → P (slice_index_or xs i d)
each_at P [] i d all low = absurd (omega arith)
each_at P (x ∷ xs) zero d all low = all.0
each_at P (x ∷ xs) (suc i) d all low = each_at P xs i d all.1 (omega arith)

-- a step that reports a change
abbrev pub step_changes : {B : Type 0} → Step B → Bool
step_changes (Answers s r) = is_change r
step_changes other = false

-- a step in which this session asks
abbrev pub step_asks : {B : Type 0} → ℕ → Step B → Bool
step_asks s (Asks t call given) = t == s
step_asks s other = false

-- What a step has to keep of a session of this number, for each step to keep it of each session.
pub record Keeps {B : Type 0} (k : Keys B) (P : ℕ → Session B → Type 0) (step : Step B) : Type 0 where
  pub idle : (s : ℕ) → P s Idle
  pub waits : (s number : ℕ) → P s (Committing number)
  pub asks : (s : ℕ) (call : Call B) (given : Asked B) → step ≡ Asks s call given → (least : Option ℕ) (spent : ℕ) (x : Session B) → P s x → P s (ask_session k call least spent x).1
  pub answers : (s : ℕ) (r : Reply B) → step ≡ Answers s r → (latest : List (Entry B)) (oldest : ℕ) (x y : Session B) → answer_session k latest oldest x ≡ Some (r, y) → P s x → P s y
  pub closes : (s : ℕ) (x y : Session B) → closed_session x ≡ Some y → P s x → P s y

module _ {B : Type 0} (k : Keys B) (P : ℕ → Session B → Type 0) where
  -- there are eight sessions, and this holds of each
  pub record AllAre (sessions : List (Session B)) : Type 0 where
    pub eight : length sessions ≡ 8
    pub each : (a : ℕ) → P a (session_at a sessions)

  set_one : (s : ℕ) (sessions : List (Session B)) (y : Session B) → is_session s ≡ true → AllAre sessions → P s y → AllAre (slice_set sessions (s - 1) y)
  set_one s sessions y is all so = record {
    eight = length-set sessions (s - 1) y ∙ all.eight;
    each = λ a. elim (at_set a s sessions y is all.eight) [
      | inl p ↦ subst (P a) (sym p.1) (subst (λ n. P n y) (sym p.0) so)
      | inr p ↦ subst (P a) (sym p.1) (all.each a)
    ];
  }

  pub idle_are : ((s : ℕ) → P s Idle) → AllAre (replicate SESSIONS Idle)
  idle_are idle = record { eight = refl; each = λ a. subst (P a) (sym (at_idle a)) (idle a) }

  same_all : (old new : Machine B) → new.sessions ≡ old.sessions → AllAre old.sessions → AllAre new.sessions
  same_all old new same all = subst AllAre (sym same) all

  module _ (step : Step B) (keeps : Keeps k P step) where
    asks_all : (s : ℕ) (call : Call B) (given : Asked B) (old new : Machine B) (there : Bool) → step ≡ Asks s call given → is_session s ≡ there
        → asked_there k s call old there ≡ (given, new) → AllAre old.sessions → AllAre new.sessions
    asks_all s call given old new true is there h all =
        subst (λ (m : Machine B). AllAre m.sessions) (ap (λ (p : Asked B × Machine B). p.1) h)
        (set_one s old.sessions (asked_session k s call old).1 there all
        (keeps.asks s call given is (least_conflicting k call s 1 old.sessions) (claims_held old.sessions) (session_at s old.sessions) (all.each s)))
    asks_all s call given old new false is there h all = subst (λ (m : Machine B). AllAre m.sessions) (ap (λ (p : Asked B × Machine B). p.1) h) all

    answers_all : (s : ℕ) (r : Reply B) (old new : Machine B) → step ≡ Answers s r → answer k s old ≡ Some (r, new) → AllAre old.sessions → AllAre new.sessions
    answers_all s r old new is h all =
        let found = mapped (λ (p : Reply B × Session B). (p.0, with_session s p.1 old)) (answer_session k old.latest old.oldest (session_at s old.sessions)) (r, new) h in
        let busy : ¬ (session_at s old.sessions ≡ Idle) = λ idle.
        (let none : None ≡ Some found.0 = sym (ap (answer_session k old.latest old.oldest) idle) ∙ found.1 in cc) in
        let given : found.0.0 ≡ r = ap (λ (p : Reply B × Machine B). p.0) found.2 in
        subst (λ (m : Machine B). AllAre m.sessions) (ap (λ (p : Reply B × Machine B). p.1) found.2)
        (set_one s old.sessions found.0.1 (session_there s old.sessions busy (is_session s) refl) all
        (keeps.answers s r is old.latest old.oldest (session_at s old.sessions) found.0.1 (found.1 ∙ (λ i. Some (given i, found.0.1))) (all.each s)))

    closes_all : (s : ℕ) (old new : Machine B) → close s old ≡ Some new → AllAre old.sessions → AllAre new.sessions
    closes_all s old new h all =
        let found = mapped (λ (x : Session B). with_session s x old) (closed_session (session_at s old.sessions)) new h in
        let busy : ¬ (session_at s old.sessions ≡ Idle) = λ idle.
        (let none : None ≡ Some found.0 = sym (ap closed_session idle) ∙ found.1 in cc) in
        subst (λ (m : Machine B). AllAre m.sessions) found.2
        (set_one s old.sessions found.0 (session_there s old.sessions busy (is_session s) refl) all (keeps.closes s (session_at s old.sessions) found.0 found.1 (all.each s)))

    seals_all : (s number : ℕ) (old new : Machine B) → IsStep k old (Seals s number) new → AllAre old.sessions → AllAre new.sessions
    seals_all s number old new h all =
        let found = mapped (with_set s old) (sealed_set k old.latest (session_at s old.sessions)) new h.2 in
        let of = sealed_view k old.latest found.0 (session_at s old.sessions) found.1 in
        let busy : ¬ (session_at s old.sessions ≡ Idle) = λ idle. (let both : Idle ≡ Open of.0 of.1 (Some Commit) = sym idle ∙ of.2 in cc) in
        subst (λ (m : Machine B). AllAre m.sessions) found.2
        (set_one s old.sessions (Committing (newest old + 1)) (session_there s old.sessions busy (is_session s) refl) all (keeps.waits s (newest old + 1)))

    keeps_all : (at : Step B) (old new : Machine B) → step ≡ at → IsStep k old at new → AllAre old.sessions → AllAre new.sessions
    keeps_all (Asks s call given) old new is h all = asks_all s call given old new (is_session s) is refl h.1 all
    keeps_all (Answers s r) old new is h all = answers_all s r old new is h.1 all
    keeps_all (Seals s number) old new is h all = seals_all s number old new h all
    keeps_all (Durable number) old new is h all = same_all old new (ap (λ (m : Machine B). m.sessions) h.3) all
    keeps_all (Closes s why) old new is h all = closes_all s old new h.2 all
    keeps_all (RefusesAsk s call why) old new is h all = same_all old new (ask_refused_sessions k s call why old new h) all
    keeps_all (RefusesCall s why) old new is h all = same_all old new (fault_sessions k why old new h.1) all
    keeps_all Fails old new is h all = same_all old new (failed_sessions k old new h) all
    keeps_all (Crashes number) old new is h all = subst (λ (m : Machine B). AllAre m.sessions) (sym h.2) (idle_are keeps.idle)
    keeps_all Nothing old new is h all = same_all old new (ap (λ (m : Machine B). m.sessions) h) all

  -- so each step keeps it of each session
  pub step_keeps_all : (step : Step B) → Keeps k P step → (old new : Machine B) → IsStep k old step new → AllAre old.sessions → AllAre new.sessions
  step_keeps_all step keeps old new h all = keeps_all step keeps step old new refl h all
