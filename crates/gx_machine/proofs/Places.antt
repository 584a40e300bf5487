-- Sessions by their numbers, in the list of all eight.
use Rattle.std.proofs.Common.{◌≡◌, ◌≢◌, ℕ, zero, suc, ◌+◌, ◌-◌, ◌<◌, Bool, true, false, not, ◌&&◌, ◌⊎◌, inl, inr, List, [], ◌∷◌, Option, Some, None, length, replicate, refl, ap, ◌∙◌, arith, get_or-set_same, get_or-set_other}
use Rattle.std.specs.Prelude.{if◌then◌else◌, nat_lt, nat_le, ◌==◌, slice_set}
use Rattle.std.specs.List.{slice_index_or}
use Rattle.std.proofs.lemmas.Bool.{ltb-true, leb-true, ne_eqb}
use Rattle.std.proofs.lemmas.List.{get_or-replicate}
use Rattle.std.proofs.Math.Decide.{ℕ_discrete}
use Rattle.gx_machine.specs.declared.limits.TheConstants.{SESSIONS}
use Rattle.gx_machine.specs.declared.call.Call.{Call}
use Rattle.gx_machine.specs.declared.call.Call.TheVariants.{Begin, Insert, Delete, Search, Commit, Abort}
use Rattle.gx_machine.specs.Keys.{Keys}
use Rattle.gx_machine.specs.Sessions.{Session, Idle, no_locks, conflicts, session_conflicts}
use Rattle.gx_machine.specs.Machine.{is_session, session_at, least_conflicting}

both_first : (a b : Bool) → (a && b) ≡ true → a ≡ true
both_first true b h = refl
both_first false b h = h

both_second : (a b : Bool) → (a && b) ≡ true → b ≡ true
both_second true b h = h
both_second false b h = cc

pub session_bounds : (s : ℕ) → is_session s ≡ true → (0 < s) × (s < 9)
session_bounds s h =
    (ltb-true 0 s (both_first (nat_lt 0 s) (nat_le s 8) h), omega (arith, leb-true s 8 (both_second (nat_lt 0 s) (nat_le s 8) h)))

abbrev conflicting : Bool → ℕ → Option ℕ → Option ℕ
conflicting test n rest = if test then Some n else rest

not_conflicting : (test : Bool) (n : ℕ) (rest : Option ℕ) → conflicting test n rest ≡ None → (test ≡ false) × (rest ≡ None)
not_conflicting true n rest h = let no : ⊥ = cc in absurd no
not_conflicting false n rest h = (refl, h)

conflicts_not : (same meets : Bool) → same ≡ false → (not same && meets) ≡ false → meets ≡ false
conflicts_not true meets e h = cc
conflicts_not false meets e h = h

-- nothing conflicts with no locks
pub idle_clear : {B : Type 0} (k : Keys B) (call : Call B) → conflicts k call no_locks ≡ false
idle_clear k Begin = refl
idle_clear k (Insert e) = refl
idle_clear k (Delete e) = refl
idle_clear k (Search q) = refl
idle_clear k Commit = refl
idle_clear k Abort = refl

module _ {B : Type 0} where
  -- a place read if the number is a session's
  abbrev place : Bool → ℕ → List (Session B) → Session B
  place there s sessions = if there then slice_index_or sessions (s - 1) Idle else Idle

  -- a session that isn't idle is one of the eight
  pub session_there : (s : ℕ) (sessions : List (Session B)) → ¬ (session_at s sessions ≡ Idle) → (there : Bool) → is_session s ≡ there → is_session s ≡ true
  session_there s sessions busy true is = is
  session_there s sessions busy false is = absurd (busy (ap (λ t. place t s sessions) is))

  pub at_same : (s : ℕ) (sessions : List (Session B)) (x : Session B) → is_session s ≡ true → length sessions ≡ 8
      → session_at s (slice_set sessions (s - 1) x) ≡ x
  at_same s sessions x is eight =
      let bounds : (0 < s) × (s < 9) = session_bounds s is in
      ap (λ t. place t s (slice_set sessions (s - 1) x)) is ∙ get_or-set_same sessions (s - 1) x Idle (omega arith)

  other_place : (a s : ℕ) (sessions : List (Session B)) (x : Session B) (there : Bool) → is_session a ≡ there → is_session s ≡ true → a ≢ s
      → place there a (slice_set sessions (s - 1) x) ≡ place there a sessions
  other_place a s sessions x true is_a is_s ne =
      let a_bounds : (0 < a) × (a < 9) = session_bounds a is_a in
      let s_bounds : (0 < s) × (s < 9) = session_bounds s is_s in
      get_or-set_other sessions (s - 1) (a - 1) x Idle (omega arith)
  other_place a s sessions x false is_a is_s ne = refl

  pub at_other : (a s : ℕ) (sessions : List (Session B)) (x : Session B) → is_session s ≡ true → a ≢ s
      → session_at a (slice_set sessions (s - 1) x) ≡ session_at a sessions
  at_other a s sessions x is ne = other_place a s sessions x (is_session a) refl is ne

  -- the sessions once one of them is changed
  pub at_set : (a s : ℕ) (sessions : List (Session B)) (x : Session B) → is_session s ≡ true → length sessions ≡ 8
      → ((a ≡ s) × (session_at a (slice_set sessions (s - 1) x) ≡ x))
      ⊎ ((a ≢ s) × (session_at a (slice_set sessions (s - 1) x) ≡ session_at a sessions))
  at_set a s sessions x is eight =
      elim (ℕ_discrete a s) [
        | yes e ↦ inl (e, ap (λ n. session_at n (slice_set sessions (s - 1) x)) e ∙ at_same s sessions x is eight)
        | no ne ↦ inr (ne, at_other a s sessions x is ne)
      ]

  idle_place : (a : ℕ) (there : Bool) → is_session a ≡ there → place there a (replicate SESSIONS Idle) ≡ Idle
  idle_place a true is = let bounds : (0 < a) × (a < 9) = session_bounds a is in get_or-replicate SESSIONS (a - 1) Idle Idle (omega arith)
  idle_place a false is = refl

  -- if all are idle, each is
  pub at_idle : (a : ℕ) → ◌≡◌ {A = Session B} (session_at a (replicate SESSIONS Idle)) Idle
  at_idle a = idle_place a (is_session a) refl

  module _ (k : Keys B) (call : Call B) (s : ℕ) where
    none_at : (n : ℕ) (sessions : List (Session B)) (i : ℕ) → least_conflicting k call s n sessions ≡ None → n + i ≢ s
        → session_conflicts k call (slice_index_or sessions i Idle) ≡ false
    none_at n [] i none ne = idle_clear k call
    none_at n (x ∷ xs) zero none ne =
        let other : n ≢ s = λ e. ne (omega arith) in
        conflicts_not (n == s) (session_conflicts k call x) (ne_eqb n s other)
        (not_conflicting (not (n == s) && session_conflicts k call x) n (least_conflicting k call s (n + 1) xs) none).0
    none_at n (x ∷ xs) (suc i) none ne =
        let other : (n + 1) + i ≢ s = λ e. ne (omega arith) in
        none_at (n + 1) xs i (not_conflicting (not (n == s) && session_conflicts k call x) n (least_conflicting k call s (n + 1) xs) none).1 other

    place_clear : (a : ℕ) (sessions : List (Session B)) (there : Bool) → is_session a ≡ there → least_conflicting k call s 1 sessions ≡ None → a ≢ s
        → session_conflicts k call (place there a sessions) ≡ false
    place_clear a sessions true is none ne =
        let bounds : (0 < a) × (a < 9) = session_bounds a is in
        let other : 1 + (a - 1) ≢ s = λ e. ne (omega arith) in
        none_at 1 sessions (a - 1) none other
    place_clear a sessions false is none ne = idle_clear k call

    -- if no session is found that conflicts, no other one does
    pub others_clear : (sessions : List (Session B)) → least_conflicting k call s 1 sessions ≡ None → (a : ℕ) → a ≢ s
        → session_conflicts k call (session_at a sessions) ≡ false
    others_clear sessions none a ne = place_clear a sessions (is_session a) refl none ne
