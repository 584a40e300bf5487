-- Every run is serial: what a transaction was answered stays right up to its commit.
use Rattle.std.proofs.Common.{◌≡◌, ℕ, ◌+◌, ◌-◌, Bool, true, false, not, cond, ◌&&◌, ◌||◌, inl, inr, List, [], ◌∷◌, ◌++◌, Option, Some, None, length, refl, ap, sym, ◌∙◌, subst}
use Rattle.std.specs.Prelude.{slice_set}
use Rattle.std.specs.List.{filter, list_any}
use Rattle.std.proofs.lemmas.Bool.{or_parts}
use Rattle.std.proofs.lemmas.List.Folds.{list_any-append}
use Rattle.std.proofs.lemmas.List.Elements.{All-head, All-tail}
use Rattle.gx_machine.specs.declared.entry.Entry.{Entry}
use Rattle.gx_machine.specs.declared.query.Query.{Query}
use Rattle.gx_machine.specs.declared.call.Call.{Call}
use Rattle.gx_machine.specs.declared.call.Call.TheVariants.{Begin, Insert, Delete, Search, Commit, Abort}
use Rattle.gx_machine.specs.declared.reply.Reply.{Reply}
use Rattle.gx_machine.specs.declared.reply.Reply.TheVariants.{Ok, Found}
use Rattle.gx_machine.specs.declared.reply.Asked.TheVariants.{Now}
use Rattle.gx_machine.specs.Keys.{Keys, IsLawful, matches, same_entry, same_query}
use Rattle.gx_machine.specs.Sets.{has, including, including_all, excluding_all, found, InOrder}
use Rattle.gx_machine.specs.Sessions.{Session, Idle, Open, Aborting, Committing, Locks, Changes, locks_of, has_query, view, answer_call, answer_session, sealed_set}
use Rattle.gx_machine.specs.Machine.{Machine, newest, is_session, session_at, with_session, answer, seal, crash}
use Rattle.gx_machine.specs.Runs.{Step, Asks, Answers, IsStep, IsRun}
use Rattle.gx_machine.specs.Invariants.{KeptInOrder, AllIdle, Apart, Covered, HoldsFor, AreClaimed, IsSound}
use Rattle.gx_machine.specs.Outcomes.{NoneConflicts}
use Rattle.gx_machine.specs.Serial.{Begins, BeginsNone, IsSerial}
use Rattle.gx_machine.proofs.SetLaws.{in_order_filter, filter_including_all, has-view}
use Rattle.gx_machine.proofs.SessionMoves.{Move, stays, begins, asks, claims, watches, aborts, answers, ends, included_covers, or_first, or_second, same_itself, insert_answered, delete_answered}
use Rattle.gx_machine.proofs.SessionsApart.{not_claimed, predicate_matches}
use Rattle.gx_machine.proofs.Places.{session_there, at_same, at_set, at_idle}
use Rattle.gx_machine.proofs.StepEffects.{Effect, quiet, moved, sealed, settled, crashed, Began, step_effect, sealed_view, with_set, mapped}
use Rattle.gx_machine.proofs.StepsKeep.{Invariant, idle_invariant, step_invariant, run_invariant}

-- a call sees no difference between two sets: a write sees whether they have its entry, a search their matching entries
abbrev pub Sees : {B : Type 0} → Keys B → Call B → List (Entry B) → List (Entry B) → Type 0
Sees k (Insert e) new old = has k e new ≡ has k e old
Sees k (Delete e) new old = has k e new ≡ has k e old
Sees k (Search q) new old = found k q new ≡ found k q old
Sees k Begin new old = Unit {0}
Sees k Commit new old = Unit {0}
Sees k Abort new old = Unit {0}

-- while its transaction is open, a session holds what the call needed, and the call sees no difference
abbrev pub Still : {B : Type 0} → Keys B → Call B → List (Entry B) → Session B → List (Entry B) → Type 0
Still k call old Idle latest = Unit {0}
Still k call old (Open locks changes pending) latest = HoldsFor k call locks × Sees k call latest old
Still k call old (Aborting locks) latest = Unit {0}
Still k call old (Committing number) latest = Unit {0}

-- Filters.

filter_none : {X : Type 0} (p : X → Bool) (x : X) (xs : List X) → p x ≡ false → filter p xs ≡ [] → filter p (x ∷ xs) ≡ []
filter_none p x xs fails rest = ap (λ t. cond t (x ∷ filter p xs) (filter p xs)) fails ∙ rest

filter_twice_by : {X : Type 0} (p r : X → Bool) (x : X) (xs : List X) (s t : Bool) → p x ≡ s → r x ≡ t → (p x ≡ true → r x ≡ true)
    → filter p (filter r xs) ≡ filter p xs → filter p (cond t (x ∷ filter r xs) (filter r xs)) ≡ cond s (x ∷ filter p xs) (filter p xs)
filter_twice_by {X} p r x xs true true u v each rest =
    ap (λ b. cond b (x ∷ filter p (filter r xs)) (filter p (filter r xs))) u ∙ ap (λ (ys : List X). x ∷ ys) rest
filter_twice_by p r x xs true false u v each rest = let no : ⊥ = (let is : true ≡ false = sym (each u) ∙ v in cc) in absurd no
filter_twice_by p r x xs false true u v each rest = ap (λ b. cond b (x ∷ filter p (filter r xs)) (filter p (filter r xs))) u ∙ rest
filter_twice_by p r x xs false false u v each rest = rest

-- a filter that keeps what another keeps changes nothing below that one
filter_twice : {X : Type 0} (p r : X → Bool) (xs : List X) → ((x : X) → p x ≡ true → r x ≡ true) → filter p (filter r xs) ≡ filter p xs
filter_twice p r [] each = refl
filter_twice p r (x ∷ xs) each = filter_twice_by p r x xs (p x) (r x) refl refl (each x) (filter_twice p r xs each)

filter_swap_by : {X : Type 0} (p r : X → Bool) (x : X) (xs : List X) (s t : Bool) → p x ≡ s → r x ≡ t
    → filter p (filter r xs) ≡ filter r (filter p xs)
    → filter p (cond t (x ∷ filter r xs) (filter r xs)) ≡ filter r (cond s (x ∷ filter p xs) (filter p xs))
filter_swap_by {X} p r x xs true true u v rest =
    ap (λ b. cond b (x ∷ filter p (filter r xs)) (filter p (filter r xs))) u ∙ ap (λ (ys : List X). x ∷ ys) rest
    ∙ sym (ap (λ b. cond b (x ∷ filter r (filter p xs)) (filter r (filter p xs))) v)
filter_swap_by p r x xs true false u v rest = rest ∙ sym (ap (λ b. cond b (x ∷ filter r (filter p xs)) (filter r (filter p xs))) v)
filter_swap_by p r x xs false true u v rest = ap (λ b. cond b (x ∷ filter p (filter r xs)) (filter p (filter r xs))) u ∙ rest
filter_swap_by p r x xs false false u v rest = rest

filter_swap : {X : Type 0} (p r : X → Bool) (xs : List X) → filter p (filter r xs) ≡ filter r (filter p xs)
filter_swap p r [] = refl
filter_swap p r (x ∷ xs) = filter_swap_by p r x xs (p x) (r x) refl refl (filter_swap p r xs)

pair_path : {X Y : Type 0} {x a : X} {y b : Y} → x ≡ a → y ≡ b → ◌≡◌ {A = X × Y} (x, y) (a, b)
pair_path p q = λ i. (p i, q i)

module _ {B : Type 0} (k : Keys B) (l : IsLawful k) where
  sees_same : (call : Call B) (set : List (Entry B)) → Sees k call set set
  sees_same (Insert e) set = refl
  sees_same (Delete e) set = refl
  sees_same (Search q) set = refl
  sees_same Begin set = tt
  sees_same Commit set = tt
  sees_same Abort set = tt

  sees_through : (call : Call B) (a b c : List (Entry B)) → Sees k call a b → Sees k call b c → Sees k call a c
  sees_through (Insert e) a b c p q = p ∙ q
  sees_through (Delete e) a b c p q = p ∙ q
  sees_through (Search q) a b c p r = p ∙ r
  sees_through Begin a b c p q = tt
  sees_through Commit a b c p q = tt
  sees_through Abort a b c p q = tt

  -- A call that sees no difference is answered alike.

  has_viewed : (e : Entry B) (a b : List (Entry B)) (h : Changes B) → has k e a ≡ has k e b → has k e (view k a h) ≡ has k e (view k b h)
  has_viewed e a b h same =
      has-view k l e a h.added h.taken ∙ ap (λ t. has k e h.added || (not (has k e h.taken) && t)) same ∙ sym (has-view k l e b h.added h.taken)

  found_view : (q : Query B) (a : List (Entry B)) (h : Changes B) → InOrder k a
      → found k q (view k a h) ≡ including_all k (found k q h.added) (excluding_all k h.taken (found k q a))
  found_view q a h o =
      filter_including_all k l (matches k q) h.added (excluding_all k h.taken a) (in_order_filter k l (λ x. not (has k x h.taken)) a o)
      ∙ ap (including_all k (found k q h.added)) (filter_swap (matches k q) (λ x. not (has k x h.taken)) a)

  found_viewed : (q : Query B) (a b : List (Entry B)) (h : Changes B) → InOrder k a → InOrder k b → found k q a ≡ found k q b
      → found k q (view k a h) ≡ found k q (view k b h)
  found_viewed q a b h in_a in_b same =
      found_view q a h in_a ∙ ap (λ (s : List (Entry B)). including_all k (found k q h.added) (excluding_all k h.taken s)) same
      ∙ sym (found_view q b h in_b)

  answered_alike : (call : Call B) (h : Changes B) (a b : List (Entry B)) → InOrder k a → InOrder k b → Sees k call a b
      → answer_call k call a h ≡ answer_call k call b h
  answered_alike (Insert e) h a b in_a in_b same = ap (λ t. Some (insert_answered k e t h)) (has_viewed e a b h same)
  answered_alike (Delete e) h a b in_a in_b same = ap (λ t. Some (delete_answered k e t h)) (has_viewed e a b h same)
  answered_alike (Search q) h a b in_a in_b same = ap (λ (s : List (Entry B)). Some (Found s, h)) (found_viewed q a b h in_a in_b same)
  answered_alike Begin h a b in_a in_b same = refl
  answered_alike Commit h a b in_a in_b same = refl
  answered_alike Abort h a b in_a in_b same = refl

  -- Another session's commit makes no difference to a call whose needs are still held.

  uncovered : (e : Entry B) (xs ys : List (Entry B)) (t : Bool) → has k e xs ≡ t → Covered k xs ys → has k e ys ≡ false → t ≡ false
  uncovered e xs ys true is covered none = let no : ⊥ = (let both : true ≡ false = sym (covered e is) ∙ none in cc) in absurd no
  uncovered e xs ys false is covered none = refl

  module _ (latest : List (Entry B)) (locks : Locks B) (g : Changes B) (claimed : AreClaimed k locks g) where
    unclaimed_stays : (e : Entry B) → has k e locks.claims ≡ false → has k e (view k latest g) ≡ has k e latest
    unclaimed_stays e none =
        let not_added : has k e g.added ≡ false = uncovered e g.added locks.claims (has k e g.added) refl claimed.added none in
        let not_taken_away : has k e g.taken ≡ false = uncovered e g.taken locks.claims (has k e g.taken) refl claimed.taken none in
        has-view k l e latest g.added g.taken ∙ ap (λ t. t || (not (has k e g.taken) && has k e latest)) not_added
        ∙ ap (λ t. not t && has k e latest) not_taken_away

    module _ (p : Entry B → Bool) (apart : (e : Entry B) → has k e locks.claims ≡ true → p e ≡ false) where
      none_added : (xs : List (Entry B)) → Covered k xs locks.claims → filter p xs ≡ []
      none_added [] covered = refl
      none_added (x ∷ xs) covered = filter_none p x xs (apart x (covered x (or_first (same_entry k x x) (has k x xs) (same_itself k l x)))) (none_added xs (λ e h. covered e (or_second (same_entry k e x) (has k e xs) h)))

      not_taken : (e : Entry B) (t : Bool) → has k e g.taken ≡ t → p e ≡ true → not t ≡ true
      not_taken e true is passes = let no : ⊥ = (let both : true ≡ false = sym passes ∙ apart e (claimed.taken e is) in cc) in absurd no
      not_taken e false is passes = refl

      unmatched_stays : InOrder k latest → filter p (view k latest g) ≡ filter p latest
      unmatched_stays o =
          filter_including_all k l p g.added (excluding_all k g.taken latest) (in_order_filter k l (λ x. not (has k x g.taken)) latest o)
          ∙ ap (λ (s : List (Entry B)). including_all k s (filter p (excluding_all k g.taken latest))) (none_added g.added claimed.added)
          ∙ filter_twice p (λ x. not (has k x g.taken)) latest (λ e passes. not_taken e (has k e g.taken) refl passes)

    sees_sealed : (call : Call B) (h : Locks B) → HoldsFor k call h → Apart k h locks → Apart k locks h → InOrder k latest
        → Sees k call (view k latest g) latest
    sees_sealed (Insert e) h holds to from o = unclaimed_stays e (not_claimed k l e locks (to e holds))
    sees_sealed (Delete e) h holds to from o = unclaimed_stays e (not_claimed k l e locks (to e holds))
    sees_sealed (Search q) h holds to from o =
        unmatched_stays (matches k q)
        (λ e among. predicate_matches k l q e h.predicates holds (or_parts (has k e h.claims) (list_any (λ z. matches k z e) h.predicates) (from e among)).1)
        o
    sees_sealed Begin h holds to from o = tt
    sees_sealed Commit h holds to from o = tt
    sees_sealed Abort h holds to from o = tt

  -- What is held stays held while the transaction is open.

  holds_more : (call : Call B) (g h : Locks B) → Covered k g.claims h.claims
      → ((q : Query B) → has_query k q g.predicates ≡ true → has_query k q h.predicates ≡ true) → HoldsFor k call g → HoldsFor k call h
  holds_more (Insert e) g h entries queries holds = entries e holds
  holds_more (Delete e) g h entries queries holds = entries e holds
  holds_more (Search q) g h entries queries holds = queries q holds
  holds_more Begin g h entries queries holds = tt
  holds_more Commit g h entries queries holds = tt
  holds_more Abort g h entries queries holds = tt

  query_stays : (q z : Query B) (predicates : List (Query B)) → has_query k q predicates ≡ true → has_query k q (predicates ++ z ∷ []) ≡ true
  query_stays q z predicates h = list_any-append (same_query k q) predicates (z ∷ []) ∙ or_first (has_query k q predicates) (same_query k q z || false) h

  module _ (call : Call B) (old : List (Entry B)) where
    still_move : (free : Call B → Type 0) (begun : Type 0) (latest : List (Entry B)) {x y : Session B} → ¬ begun → Move k free begun x y
        → Still k call old x latest → Still k call old y latest
    still_move free begun latest never stays s = s
    still_move free begun latest never (begins b) s = absurd (never b)
    still_move free begun latest never (asks holds) s = s
    still_move free begun latest never (claims {locks = h} e clear alike holds) s =
        (holds_more call h (record h { claims = including k e h.claims }) (included_covers k l e h.claims) (λ q is. is) s.0, s.1)
    still_move free begun latest never (watches {locks = h} q clear holds) s =
        (holds_more call h (record h { predicates = h.predicates ++ q ∷ [] }) (λ e is. is) (λ z is. query_stays z q h.predicates is) s.0, s.1)
    still_move free begun latest never aborts s = tt
    still_move free begun latest never (answers after keeps) s = s
    still_move free begun latest never ends s = tt

    still_sealed : (latest : List (Entry B)) (locks : Locks B) (g : Changes B) (x : Session B) → AreClaimed k locks g → InOrder k latest
        → Apart k (locks_of x) locks → Apart k locks (locks_of x) → Still k call old x latest → Still k call old x (view k latest g)
    still_sealed latest locks g Idle claimed o to from s = tt
    still_sealed latest locks g (Open h changes pending) claimed o to from s =
        (s.0, sees_through call (view k latest g) latest old (sees_sealed latest locks g claimed call h s.0 to from o) s.1)
    still_sealed latest locks g (Aborting h) claimed o to from s = tt
    still_sealed latest locks g (Committing number) claimed o to from s = tt

    -- one step of the machine, none that begins a transaction of the session
    still_effect : (s : ℕ) (begun : ℕ → Type 0) (before after : Machine B) → ¬ begun s → Invariant k before → Effect k begun before after
        → Still k call old (session_at s before.sessions) before.latest → Still k call old (session_at s after.sessions) after.latest
    still_effect s begun before after never i (quiet failed e) still =
        subst (λ (m : Machine B). Still k call old (session_at s m.sessions) m.latest) (sym e) still
    still_effect s begun before after never i (moved t y is move e) still =
        subst (λ (m : Machine B). Still k call old (session_at s m.sessions) m.latest) (sym e)
        (elim (at_set s t before.sessions y is i.sessions.locks.eight) [
          | inl p ↦
              (let never_t : ¬ begun t = subst (λ n. ¬ begun n) p.0 never in
              let still_t : Still k call old (session_at t before.sessions) before.latest = subst (λ n. Still k call old (session_at n before.sessions) before.latest) p.0 still in
              subst (λ (x : Session B). Still k call old x before.latest) (sym p.1)
              (still_move (λ call. NoneConflicts k t call before.sessions) (begun t) before.latest never_t move still_t))
          | inr p ↦ subst (λ (x : Session B). Still k call old x before.latest) (sym p.1) still
        ])
    still_effect s begun before after never i (sealed t g changes is at e) still =
        subst (λ (m : Machine B). Still k call old (session_at s m.sessions) m.latest) (sym e)
        (elim (at_set s t before.sessions (Committing (newest before + 1)) is i.sessions.locks.eight) [
          | inl p ↦ subst (λ (x : Session B). Still k call old x (view k before.latest changes)) (sym p.1) tt
          | inr p ↦
              (let sound : InOrder k g.claims × AreClaimed k g changes × Unit {0} = subst (IsSound k) at (i.sessions.sound t) in
              let to : Apart k (locks_of (session_at s before.sessions)) g =
              subst (λ (x : Session B). Apart k (locks_of (session_at s before.sessions)) (locks_of x)) at (i.sessions.locks.apart s t p.0) in
              let from : Apart k g (locks_of (session_at s before.sessions)) =
              subst (λ (x : Session B). Apart k (locks_of x) (locks_of (session_at s before.sessions))) at (i.sessions.locks.apart t s (λ q. p.0 (sym q))) in
              subst (λ (x : Session B). Still k call old x (view k before.latest changes)) (sym p.1)
              (still_sealed before.latest g changes (session_at s before.sessions) sound.1 i.kept.latest to from still))
        ])
    still_effect s begun before after never i (settled number e) still =
        subst (λ (m : Machine B). Still k call old (session_at s m.sessions) m.latest) (sym e) still
    still_effect s begun before after never i (crashed number e) still =
        subst (λ (m : Machine B). Still k call old (session_at s m.sessions) m.latest) (sym e)
        (subst (λ (x : Session B). Still k call old x (crash number before).latest) (sym (at_idle s)) tt)

    -- any run in which the session begins no transaction
    pub still_run : (s : ℕ) (steps : List (Step B)) (before after : Machine B) → IsRun k before steps after → BeginsNone s steps → Invariant k before
        → Still k call old (session_at s before.sessions) before.latest → Still k call old (session_at s after.sessions) after.latest
    still_run s [] before after run none i still =
        subst (λ (m : Machine B). Still k call old (session_at s m.sessions) m.latest) (sym run) still
    still_run s (step ∷ steps) before after run none i still =
        still_run s steps run.0 after run.2 (All-tail (λ (z : Step B). ¬ Begins s z) step steps none)
        (step_invariant k l before run.0 step run.1 i)
        (still_effect s (Began k l step) before run.0 (All-head (λ (z : Step B). ¬ Begins s z) step steps none) i
        (step_effect k l before run.0 step run.1) still)

  -- the reply that an open call was given, and the changes then, are those of its answer
  pub answer_of : (s : ℕ) (call : Call B) (locks then_locks : Locks B) (changes then_changes : Changes B) (r : Reply B) (before after : Machine B) → length before.sessions ≡ 8
      → session_at s before.sessions ≡ Open locks changes (Some call) → answer k s before ≡ Some (r, after)
      → session_at s after.sessions ≡ Open then_locks then_changes None → answer_call k call before.latest changes ≡ Some (r, then_changes)
  answer_of s call locks then_locks changes then_changes r before after eight at is closed =
      let outer = mapped (λ (p : Reply B × Session B). (p.0, with_session s p.1 before)) (answer_session k before.latest before.oldest (session_at s before.sessions)) (r, after) is in
      let opened : answer_session k before.latest before.oldest (Open locks changes (Some call)) ≡ Some outer.0 =
      sym (ap (answer_session k before.latest before.oldest) at) ∙ outer.1 in
      let inner = mapped (λ (p : Reply B × Changes B). (p.0, Open locks p.1 None)) (answer_call k call before.latest changes) outer.0 opened in
      let busy : ¬ (session_at s before.sessions ≡ Idle) = λ idle. (let both : Idle ≡ Open locks changes (Some call) = sym idle ∙ at in cc) in
      let there : is_session s ≡ true = session_there s before.sessions busy (is_session s) refl in
      let same_reply : inner.0.0 ≡ r = ap (λ (p : Reply B × Session B). p.0) inner.2 ∙ ap (λ (p : Reply B × Machine B). p.0) outer.2 in
      let same_session : Open locks inner.0.1 None ≡ Open then_locks then_changes None =
      ap (λ (p : Reply B × Session B). p.1) inner.2 ∙ sym (at_same s before.sessions outer.0.1 there eight)
      ∙ ap (λ (p : Reply B × Machine B). session_at s p.1.sessions) outer.2 ∙ closed in
      let same_changes : inner.0.1 ≡ then_changes = cc in
      inner.1 ∙ ap Some (pair_path same_reply same_changes)

  -- a session whose commit is sealed had asked for it, and its view is added
  pub sealed_open : (s : ℕ) (before after : Machine B) → seal k s before ≡ Some after
      → (locks : Locks B) × (changes : Changes B) × (session_at s before.sessions ≡ Open locks changes (Some Commit)) × (after.latest ≡ view k before.latest changes)
      × (after.sessions ≡ slice_set before.sessions (s - 1) (Committing (newest before + 1)))
  sealed_open s before after is =
      let set = mapped (with_set s before) (sealed_set k before.latest (session_at s before.sessions)) after is in
      let of = sealed_view k before.latest set.0 (session_at s before.sessions) set.1 in
      (of.0, of.1, of.2, sym (ap (λ (m : Machine B). m.latest) set.2) ∙ of.3, sym (ap (λ (m : Machine B). m.sessions) set.2))

  -- What a transaction sees stays as long as it holds its locks: a call whose lock it holds sees no difference after any
  -- steps in which it begins no other transaction, while it is open.
  pub sees_as_long_as_it_holds : (s : ℕ) (call : Call B) (locks then_locks : Locks B) (changes then_changes : Changes B) (pending then_pending : Option (Call B))
      (steps : List (Step B)) (old new : Machine B) → Invariant k old → session_at s old.sessions ≡ Open locks changes pending → HoldsFor k call locks
      → IsRun k old steps new → BeginsNone s steps → session_at s new.sessions ≡ Open then_locks then_changes then_pending
      → HoldsFor k call then_locks × Sees k call new.latest old.latest
  sees_as_long_as_it_holds s call locks then_locks changes then_changes pending then_pending steps old new at_old is_open holds run none still_open =
      let before : Still k call old.latest (session_at s old.sessions) old.latest =
      subst (λ (x : Session B). Still k call old.latest x old.latest) (sym is_open) (holds, sees_same call old.latest) in
      subst (λ (x : Session B). Still k call old.latest x new.latest) still_open
      (still_run call old.latest s steps old new run none at_old before)

  -- a call that got its reply in a transaction that is to be sealed is answered alike when it is sealed
  pub answered_at_seal : (s : ℕ) (call : Call B) (locks then_locks seal_locks : Locks B) (changes then_changes seal_changes : Changes B) (reply : Reply B)
      (asked answered sealing : Machine B) (between : List (Step B))
      → Invariant k asked → session_at s asked.sessions ≡ Open locks changes (Some call) → IsStep k asked (Answers s reply) answered
      → session_at s answered.sessions ≡ Open then_locks then_changes None → IsRun k answered between sealing → BeginsNone s between
      → session_at s sealing.sessions ≡ Open seal_locks seal_changes (Some Commit) → answer_call k call sealing.latest changes ≡ Some (reply, then_changes)
  answered_at_seal s call locks then_locks seal_locks changes then_changes seal_changes reply asked answered sealing between at_asked is_open step closed run goes_on commit =
      let sound : InOrder k locks.claims × AreClaimed k locks changes × HoldsFor k call locks = subst (IsSound k) is_open (at_asked.sessions.sound s) in
      let still_asked : Still k call asked.latest (session_at s asked.sessions) asked.latest =
      subst (λ (x : Session B). Still k call asked.latest x asked.latest) (sym is_open) (sound.2, sees_same call asked.latest) in
      let at_answered : Invariant k answered = step_invariant k l asked answered (Answers s reply) step at_asked in
      let never : ¬ Began k l (Answers s reply) s = λ b. (let is : Answers s reply ≡ Asks s Begin (Now Ok) = b in cc) in
      let still_answered = still_effect call asked.latest s (Began k l (Answers s reply)) asked answered never at_asked
      (step_effect k l asked answered (Answers s reply) step) still_asked in
      let at_sealing : Invariant k sealing = run_invariant k l between answered sealing run at_answered in
      let still_sealing = still_run call asked.latest s between answered sealing run goes_on at_answered still_answered in
      let still : HoldsFor k call seal_locks × Sees k call sealing.latest asked.latest =
      subst (λ (x : Session B). Still k call asked.latest x sealing.latest) commit still_sealing in
      answered_alike call changes sealing.latest asked.latest at_sealing.kept.latest at_asked.kept.latest still.1
      ∙ answer_of s call locks then_locks changes then_changes reply asked answered at_asked.sessions.locks.eight is_open step.1 closed

  pub serial : (start : Machine B) → AllIdle start → KeptInOrder k start → IsSerial k start
  serial start idle kept s call changes reply then_changes sealing a =
      let at_asked : Invariant k a.asked = run_invariant k l a.before start a.asked a.leads_to_asked (idle_invariant k l start idle kept) in
      let commit = sealed_open s sealing a.sealed a.is_sealed.2 in
      answered_at_seal s call a.locks a.then_locks commit.0 changes then_changes commit.1 reply a.asked a.answered sealing a.between at_asked a.call_is_open a.is_answered
      a.call_is_closed a.leads_to_sealing a.goes_on commit.2
