-- What refusals, faults and seals leave of the sessions' transactions.
use Rattle.std.proofs.Common.{◌≡◌, ℕ, ◌+◌, ◌-◌, Bool, true, false, inl, inr, List, [], ◌∷◌, Some, None, refl, ap, sym, ◌∙◌, subst, arith}
use Rattle.std.specs.Prelude.{nat_le, slice_set, length}
use Rattle.std.proofs.lemmas.List.{length-append}
use Rattle.gx_geom.specs.declared.refusal.Refusal.{Refusal}
use Rattle.gx_geom.specs.declared.refusal.Refusal.TheVariants as refusal
use Rattle.gx_machine.specs.declared.entry.Entry.{Entry}
use Rattle.gx_machine.specs.declared.call.Call.{Call}
use Rattle.gx_machine.specs.declared.call.Call.TheVariants.{Begin, Insert, Delete, Search, Commit, Abort}
use Rattle.gx_machine.specs.declared.reply.Reply.{Reply}
use Rattle.gx_machine.specs.declared.reply.Reply.TheVariants as reply
use Rattle.gx_machine.specs.Keys.{Keys}
use Rattle.gx_machine.specs.Sets.{has}
use Rattle.gx_machine.specs.Sessions.{Session, Idle, Open, Aborting, Committing, Locks, Changes, answer_session, sealed_set, closed_session, view}
use Rattle.gx_machine.specs.Machine.{Machine, newest, kept_sets, is_session, session_at, with_session, answer, seal, close, failed_machine}
use Rattle.gx_machine.specs.Runs.{AskRefused, MeetsFault}
use Rattle.gx_machine.specs.Outcomes.{KeepsTransaction, IsSealed}
use Rattle.gx_machine.proofs.SessionMoves.{value_of, insert_answered, delete_answered, commit_answered}
use Rattle.gx_machine.proofs.Places.{session_there, at_same, at_other, at_set}
use Rattle.gx_machine.proofs.StepEffects.{mapped, with_set, sealed_view}

module _ {B : Type 0} (k : Keys B) where
  -- the call is gone, and no more
  gone : (locks : Locks B) (changes : Changes B) (call : Call B) (y : Session B) → y ≡ Open locks changes None
      → KeepsTransaction (Open locks changes (Some call)) y
  gone locks changes call y is = inr (locks, changes, call, refl, is)

  refused_insert : (e : Entry B) (locks : Locks B) (changes : Changes B) (why : Refusal) (y : Session B) (present : Bool)
      → ◌≡◌ {A = Reply B × Session B} (reply.Refused why, y) ((insert_answered k e present changes).0, Open locks (insert_answered k e present changes).1 None)
      → KeepsTransaction (Open locks changes (Some (Insert e))) y
  refused_insert e locks changes why y true is = gone locks changes (Insert e) y (ap (λ (p : Reply B × Session B). p.1) is)
  refused_insert e locks changes why y false is =
      let no : reply.Refused why ≡ reply.Inserted = ap (λ (p : Reply B × Session B). p.0) is in cc

  refused_delete : (e : Entry B) (locks : Locks B) (changes : Changes B) (why : Refusal) (y : Session B) (present : Bool)
      → ◌≡◌ {A = Reply B × Session B} (reply.Refused why, y) ((delete_answered k e present changes).0, Open locks (delete_answered k e present changes).1 None)
      → KeepsTransaction (Open locks changes (Some (Delete e))) y
  refused_delete e locks changes why y true is =
      let no : reply.Refused why ≡ reply.Deleted = ap (λ (p : Reply B × Session B). p.0) is in cc
  refused_delete e locks changes why y false is = gone locks changes (Delete e) y (ap (λ (p : Reply B × Session B). p.1) is)

  refused_commit : (number : ℕ) (why : Refusal) (y : Session B) (lasting : Bool)
      → commit_answered number lasting ≡ Some (reply.Refused why, y) → KeepsTransaction (Committing number) y
  refused_commit number why y true is =
      let no : reply.Committed number ≡ reply.Refused why = ap (λ (p : Reply B × Session B). p.0) (value_of is) in cc
  refused_commit number why y false is = let no : ⊥ = cc in absurd no

  -- a session whose call is answered by a refusal
  refused_session : (latest : List (Entry B)) (oldest : ℕ) (why : Refusal) (x y : Session B)
      → answer_session k latest oldest x ≡ Some (reply.Refused why, y) → KeepsTransaction x y
  refused_session latest oldest why Idle y is = let no : ⊥ = cc in absurd no
  refused_session latest oldest why (Open locks changes None) y is = let no : ⊥ = cc in absurd no
  refused_session latest oldest why (Open locks changes (Some Begin)) y is = let no : ⊥ = cc in absurd no
  refused_session latest oldest why (Open locks changes (Some (Insert e))) y is =
      refused_insert e locks changes why y (has k e (view k latest changes)) (sym (value_of is))
  refused_session latest oldest why (Open locks changes (Some (Delete e))) y is =
      refused_delete e locks changes why y (has k e (view k latest changes)) (sym (value_of is))
  refused_session latest oldest why (Open locks changes (Some (Search q))) y is =
      gone locks changes (Search q) y (sym (ap (λ (p : Reply B × Session B). p.1) (value_of is)))
  refused_session latest oldest why (Open locks changes (Some Commit)) y is = let no : ⊥ = cc in absurd no
  refused_session latest oldest why (Open locks changes (Some Abort)) y is = let no : ⊥ = cc in absurd no
  refused_session latest oldest why (Aborting locks) y is =
      let no : reply.Aborted ≡ reply.Refused why = ap (λ (p : Reply B × Session B). p.0) (value_of is) in cc
  refused_session latest oldest why (Committing number) y is = refused_commit number why y (nat_le number oldest) is

  -- a session whose call is closed
  closed_keeps : (x y : Session B) → closed_session x ≡ Some y → KeepsTransaction x y
  closed_keeps Idle y is = let no : ⊥ = cc in absurd no
  closed_keeps (Open locks changes None) y is = let no : ⊥ = cc in absurd no
  closed_keeps (Open locks changes (Some call)) y is = gone locks changes call y (sym (value_of is))
  closed_keeps (Aborting locks) y is = let no : ⊥ = cc in absurd no
  closed_keeps (Committing number) y is = let no : ⊥ = cc in absurd no

  -- each session, if one of them keeps its transaction and no other changes
  keeps_at : (s : ℕ) (y : Session B) (old new : Machine B) → length old.sessions ≡ 8 → is_session s ≡ true
      → KeepsTransaction (session_at s old.sessions) y → with_session s y old ≡ new
      → (a : ℕ) → KeepsTransaction (session_at a old.sessions) (session_at a new.sessions)
  keeps_at s y old new eight there kept is a =
      let now : session_at a new.sessions ≡ session_at a (slice_set old.sessions (s - 1) y) =
      sym (ap (λ (m : Machine B). session_at a m.sessions) is) in
      elim (at_set a s old.sessions y there eight) [
        | inl p ↦ subst (λ (z : Session B). KeepsTransaction (session_at a old.sessions) z) (sym (now ∙ p.1))
            (subst (λ (n : ℕ). KeepsTransaction (session_at n old.sessions) y) (sym p.0) kept)
        | inr p ↦ inl (now ∙ p.1)
      ]

  pub refused_answer : (s : ℕ) (why : Refusal) (old new : Machine B) → length old.sessions ≡ 8
      → answer k s old ≡ Some (reply.Refused why, new) → (a : ℕ) → KeepsTransaction (session_at a old.sessions) (session_at a new.sessions)
  refused_answer s why old new eight h =
      let x : Session B = session_at s old.sessions in
      let found = mapped (λ (p : Reply B × Session B). (p.0, with_session s p.1 old)) (answer_session k old.latest old.oldest x) (reply.Refused why, new) h in
      let busy : ¬ (session_at s old.sessions ≡ Idle) = λ idle.
      (let none : None ≡ Some found.0 = sym (ap (answer_session k old.latest old.oldest) idle) ∙ found.1 in cc) in
      let refused : found.0.0 ≡ reply.Refused why = ap (λ (p : Reply B × Machine B). p.0) found.2 in
      keeps_at s found.0.1 old new eight (session_there s old.sessions busy (is_session s) refl)
      (refused_session old.latest old.oldest why x found.0.1 (found.1 ∙ (λ i. Some (refused i, found.0.1))))
      (ap (λ (p : Reply B × Machine B). p.1) found.2)

  pub closed_call : (s : ℕ) (old new : Machine B) → length old.sessions ≡ 8 → close s old ≡ Some new
      → (a : ℕ) → KeepsTransaction (session_at a old.sessions) (session_at a new.sessions)
  closed_call s old new eight h =
      let found = mapped (λ (x : Session B). with_session s x old) (closed_session (session_at s old.sessions)) new h in
      let busy : ¬ (session_at s old.sessions ≡ Idle) = λ idle.
      (let none : None ≡ Some found.0 = sym (ap closed_session idle) ∙ found.1 in cc) in
      keeps_at s found.0 old new eight (session_there s old.sessions busy (is_session s) refl)
      (closed_keeps (session_at s old.sessions) found.0 found.1) found.2

  pub failed_sessions : (old new : Machine B) → new ≡ failed_machine old → new.sessions ≡ old.sessions
  failed_sessions old new h = ap (λ (m : Machine B). m.sessions) h

  pub fault_sessions : (why : Refusal) (old new : Machine B) → MeetsFault why old new → new.sessions ≡ old.sessions
  fault_sessions refusal.Device old new h = failed_sessions old new h.1
  fault_sessions refusal.Failed old new h = failed_sessions old new h
  fault_sessions other old new h = absurd h

  pub ask_refused_sessions : (s : ℕ) (call : Call B) (why : Refusal) (old new : Machine B) → AskRefused k s call why old new
      → new.sessions ≡ old.sessions
  ask_refused_sessions s call refusal.HistoryFull old new h = ap (λ (m : Machine B). m.sessions) h.2
  ask_refused_sessions s call refusal.Device old new h = failed_sessions old new h.1
  ask_refused_sessions s call refusal.Failed old new h = failed_sessions old new h
  ask_refused_sessions s call other old new h = absurd h

  pub sealed_is : (s number : ℕ) (old new : Machine B) → length old.sessions ≡ 8 → number ≡ newest old + 1 → seal k s old ≡ Some new
      → IsSealed k s number old new
  sealed_is s number old new eight next h =
      let found = mapped (with_set s old) (sealed_set k old.latest (session_at s old.sessions)) new h in
      let of = sealed_view k old.latest found.0 (session_at s old.sessions) found.1 in
      let busy : ¬ (session_at s old.sessions ≡ Idle) = λ idle. (let both : Idle ≡ Open of.0 of.1 (Some Commit) = sym idle ∙ of.2 in cc) in
      let there : is_session s ≡ true = session_there s old.sessions busy (is_session s) refl in
      let older : new.older ≡ kept_sets old = sym (ap (λ (m : Machine B). m.older) found.2) in
      let oldest : new.oldest ≡ old.oldest = sym (ap (λ (m : Machine B). m.oldest) found.2) in
      let length_of : length new.older ≡ length (kept_sets old) = ap (λ (xs : List (List (Entry B))). length xs) older in
      let many : length (kept_sets old) ≡ length old.older + 1 = length-append old.older (old.latest ∷ []) in
      let sessions : new.sessions ≡ slice_set old.sessions (s - 1) (Committing (newest old + 1)) =
      sym (ap (λ (m : Machine B). m.sessions) found.2) in
      record {
        locks = of.0;
        changes = of.1;
        asked = of.2;
        set = sym (ap (λ (m : Machine B). m.latest) found.2) ∙ of.3;
        kept = older;
        newest_is = omega (arith, oldest, length_of, many, next);
        waits = ap (λ (xs : List (Session B)). session_at s xs) sessions
            ∙ at_same s old.sessions (Committing (newest old + 1)) there eight ∙ ap (λ (n : ℕ). Committing n) (sym next);
        others = λ a ne. ap (λ (xs : List (Session B)). session_at a xs) sessions
            ∙ at_other a s old.sessions (Committing (newest old + 1)) there ne;
      }
