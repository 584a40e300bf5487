-- What an answer or a refusal says of the session that it is given to, and of the others.
use Rattle.std.proofs.Common.{◌≡◌, ◌≢◌, ℕ, zero, suc, ◌+◌, ◌-◌, ◌<◌, ◌≤◌, Bool, true, false, not, ◌&&◌, ◌⊎◌, inl, inr, List, [], ◌∷◌, Option, Some, None, length, refl, ap, sym, ◌∙◌, subst, arith, eq-eqb}
use Rattle.std.specs.Prelude.{if◌then◌else◌, nat_lt, nat_le, ◌==◌, Result, Ok, Err}
use Rattle.std.specs.List.{slice_index_or}
use Rattle.std.proofs.lemmas.Bool.{leb-true, leb-false, le-leb, lt-ltb, ne_eqb}
use Rattle.gx_geom.specs.declared.refusal.Refusal.{Refusal}
use Rattle.gx_geom.specs.declared.refusal.Refusal.TheVariants as refusal
use Rattle.gx_machine.specs.declared.entry.Entry.{Entry}
use Rattle.gx_machine.specs.declared.query.Query.{Query}
use Rattle.gx_machine.specs.declared.call.Call.{Call}
use Rattle.gx_machine.specs.declared.call.Call.TheVariants.{Begin, Insert, Delete, Search, Commit, Abort}
use Rattle.gx_machine.specs.declared.reply.Reply.{Reply}
use Rattle.gx_machine.specs.declared.reply.Reply.TheVariants as reply
use Rattle.gx_machine.specs.declared.reply.Asked.TheVariants as asked
use Rattle.gx_machine.specs.declared.limits.TheConstants.{MAX_CLAIMS, MAX_PREDICATES}
use Rattle.gx_machine.specs.Keys.{Keys, IsLawful, matches}
use Rattle.gx_machine.specs.Sets.{has, found, InOrder}
use Rattle.gx_machine.specs.Sessions.{Session, Idle, Open, Aborting, Committing, Locks, Changes, has_query, view, session_conflicts, with_lock, lock_for, asked_with, ask_open, ask_session, answer_session}
use Rattle.gx_machine.specs.Machine.{Machine, is_session, session_at, with_session, least_conflicting, claims_held, ask, answer}
use Rattle.gx_machine.specs.Outcomes.{NoneConflicts, IsLeastConflict, IsAnswered}
use Rattle.gx_machine.specs.Invariants.{KeptInOrder}
use Rattle.gx_machine.proofs.SetLaws.{in_order_filter, has-filter}
use Rattle.gx_machine.proofs.SessionMoves.{value_of, claim_given, predicate_given, insert_answered, delete_answered, commit_answered}
use Rattle.gx_machine.proofs.Places.{session_bounds, others_clear, idle_clear}
use Rattle.gx_machine.proofs.StepEffects.{mapped, asked_there}
use Rattle.gx_machine.proofs.StepsKeep.{view_in_order}

module _ {B : Type 0} (k : Keys B) where
  -- Busy.

  claim_not_busy : (e : Entry B) (claimed room : Bool) (locks : Locks B) (other : ℕ) → ¬ (claim_given k e claimed room locks ≡ Err (refusal.Busy other))
  claim_not_busy e true room locks other h = cc
  claim_not_busy e false true locks other h = cc
  claim_not_busy e false false locks other h = cc

  predicate_not_busy : (q : Query B) (held room : Bool) (locks : Locks B) (other : ℕ) → ¬ (predicate_given q held room locks ≡ Err (refusal.Busy other))
  predicate_not_busy q true room locks other h = cc
  predicate_not_busy q false true locks other h = cc
  predicate_not_busy q false false locks other h = cc

  lock_not_busy : (call : Call B) (spent : ℕ) (locks : Locks B) (other : ℕ) → ¬ (with_lock k call spent locks ≡ Err (refusal.Busy other))
  lock_not_busy Begin spent locks other h = cc
  lock_not_busy (Insert e) spent locks other h = claim_not_busy e (has k e locks.claims) (nat_lt spent MAX_CLAIMS) locks other h
  lock_not_busy (Delete e) spent locks other h = claim_not_busy e (has k e locks.claims) (nat_lt spent MAX_CLAIMS) locks other h
  lock_not_busy (Search q) spent locks other h = predicate_not_busy q (has_query k q locks.predicates) (nat_lt (length locks.predicates) MAX_PREDICATES) locks other h
  lock_not_busy Commit spent locks other h = cc
  lock_not_busy Abort spent locks other h = cc

  lock_busy : (call : Call B) (least : Option ℕ) (spent : ℕ) (locks : Locks B) (other : ℕ) → lock_for k call least spent locks ≡ Err (refusal.Busy other) → least ≡ Some other
  lock_busy call None spent locks other h = absurd (lock_not_busy call spent locks other h)
  lock_busy call (Some least) spent locks other h = let same : least ≡ other = cc in ap Some same

  with_busy : (call : Call B) (lock : Result (Locks B) Refusal) (locks : Locks B) (changes : Changes B) (other : ℕ)
      → (asked_with call lock locks changes).0 ≡ asked.Now (reply.Refused (refusal.Busy other)) → lock ≡ Err (refusal.Busy other)
  with_busy call (Ok locks) old changes other h = let no : ⊥ = cc in absurd no
  with_busy call (Err why) old changes other h = let same : why ≡ refusal.Busy other = cc in ap Err same

  open_busy : (call : Call B) (least : Option ℕ) (spent : ℕ) (locks : Locks B) (changes : Changes B) (other : ℕ)
      → (ask_open k call least spent locks changes).0 ≡ asked.Now (reply.Refused (refusal.Busy other)) → least ≡ Some other
  open_busy Begin least spent locks changes other h = let no : ⊥ = cc in absurd no
  open_busy (Insert e) least spent locks changes other h =
      lock_busy (Insert e) least spent locks other (with_busy (Insert e) (lock_for k (Insert e) least spent locks) locks changes other h)
  open_busy (Delete e) least spent locks changes other h =
      lock_busy (Delete e) least spent locks other (with_busy (Delete e) (lock_for k (Delete e) least spent locks) locks changes other h)
  open_busy (Search q) least spent locks changes other h =
      lock_busy (Search q) least spent locks other (with_busy (Search q) (lock_for k (Search q) least spent locks) locks changes other h)
  open_busy Commit least spent locks changes other h =
      lock_busy Commit least spent locks other (with_busy Commit (lock_for k Commit least spent locks) locks changes other h)
  open_busy Abort least spent locks changes other h = let no : ⊥ = cc in absurd no

  session_busy : (call : Call B) (least : Option ℕ) (spent : ℕ) (x : Session B) (other : ℕ)
      → (ask_session k call least spent x).0 ≡ asked.Now (reply.Refused (refusal.Busy other)) → least ≡ Some other
  session_busy Begin least spent Idle other h = let no : ⊥ = cc in absurd no
  session_busy (Insert e) least spent Idle other h = let no : ⊥ = cc in absurd no
  session_busy (Delete e) least spent Idle other h = let no : ⊥ = cc in absurd no
  session_busy (Search q) least spent Idle other h = let no : ⊥ = cc in absurd no
  session_busy Commit least spent Idle other h = let no : ⊥ = cc in absurd no
  session_busy Abort least spent Idle other h = let no : ⊥ = cc in absurd no
  session_busy call least spent (Open locks changes None) other h = open_busy call least spent locks changes other h
  session_busy call least spent (Open locks changes (Some pending)) other h = let no : ⊥ = cc in absurd no
  session_busy call least spent (Aborting locks) other h = let no : ⊥ = cc in absurd no
  session_busy call least spent (Committing number) other h = let no : ⊥ = cc in absurd no

  -- the least session that conflicts: that it does, and that none before it does
  record IsFirst (call : Call B) (s n other : ℕ) (sessions : List (Session B)) : Type 0 where
    from : n ≤ other
    within : other < n + length sessions
    another : other ≢ s
    conflicts : session_conflicts k call (slice_index_or sessions (other - n) Idle) ≡ true
    least : (a : ℕ) → n ≤ a → a < other → a ≢ s → session_conflicts k call (slice_index_or sessions (a - n) Idle) ≡ false

  read_next : (x : Session B) (xs : List (Session B)) (n a : ℕ) → n + 1 ≤ a → slice_index_or (x ∷ xs) (a - n) Idle ≡ slice_index_or xs (a - (n + 1)) Idle
  read_next x xs n a h = ap (λ i. slice_index_or (x ∷ xs) i Idle) place
    where
      place : a - n ≡ suc (a - (n + 1))
      place = omega arith

  read_first : (x : Session B) (xs : List (Session B)) (n a : ℕ) → a ≡ n → slice_index_or (x ∷ xs) (a - n) Idle ≡ x
  read_first x xs n a h = ap (λ i. slice_index_or (x ∷ xs) i Idle) place
    where
      place : a - n ≡ zero
      place = omega arith

  both_true : (a b : Bool) → (a && b) ≡ true → (a ≡ true) × (b ≡ true)
  both_true true true h = (refl, refl)
  both_true true false h = let no : ⊥ = cc in absurd no
  both_true false b h = let no : ⊥ = cc in absurd no

  differs : (n s : ℕ) → not (n == s) ≡ true → n ≢ s
  differs n s h e = let no : ⊥ = (let same : (n == s) ≡ true = eq-eqb n s e in cc) in no

  passed : (n s : ℕ) (meets : Bool) → (not (n == s) && meets) ≡ false → n ≢ s → meets ≡ false
  passed n s meets h ne = sym (ap (λ t. not t && meets) (ne_eqb n s ne)) ∙ h

  first_by : (call : Call B) (s n other : ℕ) (x : Session B) (xs : List (Session B)) (test : Bool) → (not (n == s) && session_conflicts k call x) ≡ test
      → (if test then Some n else least_conflicting k call s (n + 1) xs) ≡ Some other
      → (least_conflicting k call s (n + 1) xs ≡ Some other → IsFirst call s (n + 1) other xs) → IsFirst call s n other (x ∷ xs)
  first_by call s n other x xs true is h rest =
      let same : other ≡ n = sym (value_of h) in
      let both = both_true (not (n == s)) (session_conflicts k call x) is in
      record {
        from = omega arith;
        within = omega arith;
        another = λ e. differs n s both.0 (sym same ∙ e);
        conflicts = ap (session_conflicts k call) (read_first x xs n other same) ∙ both.1;
        least = λ a from below ne. absurd (omega arith);
      }
  first_by call s n other x xs false is h rest =
      let more = rest h in
      record {
        from = omega (arith, more.from);
        within = omega (arith, more.within);
        another = more.another;
        conflicts = ap (session_conflicts k call) (read_next x xs n other more.from) ∙ more.conflicts;
        least = λ a from below ne. least_at a from below ne more (nat_le (n + 1) a) refl;
      }
    where
      least_at : (a : ℕ) → n ≤ a → a < other → a ≢ s → IsFirst call s (n + 1) other xs → (later : Bool) → nat_le (n + 1) a ≡ later
          → session_conflicts k call (slice_index_or (x ∷ xs) (a - n) Idle) ≡ false
      least_at a from below ne more true later =
          ap (session_conflicts k call) (read_next x xs n a (leb-true (n + 1) a later)) ∙ more.least a (leb-true (n + 1) a later) below ne
      least_at a from below ne more false later =
          let same : a ≡ n = omega (arith, leb-false (n + 1) a later) in
          ap (session_conflicts k call) (read_first x xs n a same) ∙ passed n s (session_conflicts k call x) is (λ e. ne (same ∙ e))

  first : (call : Call B) (s n other : ℕ) (sessions : List (Session B)) → least_conflicting k call s n sessions ≡ Some other → IsFirst call s n other sessions
  first call s n other [] h = let no : ⊥ = cc in absurd no
  first call s n other (x ∷ xs) h = first_by call s n other x xs (not (n == s) && session_conflicts k call x) refl h (first call s (n + 1) other xs)

  place_found : (call : Call B) (s other : ℕ) (sessions : List (Session B)) → length sessions ≡ 8 → IsFirst call s 1 other sessions → is_session other ≡ true
  place_found call s other sessions eight f = is_there other f.from (omega (arith, f.within))
    where
      is_there : (n : ℕ) → 1 ≤ n → n ≤ 8 → is_session n ≡ true
      is_there n low high = both_are (nat_lt 0 n) (nat_le n 8) (lt-ltb 0 n (omega arith)) (le-leb n 8 high)
        where
          both_are : (a b : Bool) → a ≡ true → b ≡ true → (a && b) ≡ true
          both_are true b p q = q
          both_are false b p q = p

  at_place : (a : ℕ) (sessions : List (Session B)) → is_session a ≡ true → session_at a sessions ≡ slice_index_or sessions (a - 1) Idle
  at_place a sessions is = ap (λ t. if t then slice_index_or sessions (a - 1) Idle else Idle) is

  none_below : (call : Call B) (s other a : ℕ) (sessions : List (Session B)) (there : Bool) → is_session a ≡ there → IsFirst call s 1 other sessions → a < other → a ≢ s
      → session_conflicts k call (session_at a sessions) ≡ false
  none_below call s other a sessions true is f below ne =
      ap (session_conflicts k call) (at_place a sessions is) ∙ f.least a (session_bounds a is).0 below ne
  none_below call s other a sessions false is f below ne =
      ap (λ t. session_conflicts k call (if t then slice_index_or sessions (a - 1) Idle else Idle)) is ∙ idle_clear k call

  pub least_conflict : (call : Call B) (s other : ℕ) (sessions : List (Session B)) → length sessions ≡ 8 → least_conflicting k call s 1 sessions ≡ Some other
      → IsLeastConflict k s call other sessions
  least_conflict call s other sessions eight h =
      let f = first call s 1 other sessions h in
      let there : is_session other ≡ true = place_found call s other sessions eight f in
      record {
        is_there = there;
        is_another = f.another;
        conflicts = ap (session_conflicts k call) (at_place other sessions there) ∙ f.conflicts;
        is_least = λ a below ne. none_below call s other a sessions (is_session a) refl f below ne;
      }

  busy_by : (s : ℕ) (call : Call B) (other : ℕ) (m : Machine B) (there : Bool) → is_session s ≡ there
      → (asked_there k s call m there).0 ≡ asked.Now (reply.Refused (refusal.Busy other)) → least_conflicting k call s 1 m.sessions ≡ Some other
  busy_by s call other m true is h =
      session_busy call (least_conflicting k call s 1 m.sessions) (claims_held m.sessions) (session_at s m.sessions) other h
  busy_by s call other m false is h = let no : ⊥ = cc in absurd no

  pub busy_least : (s : ℕ) (call : Call B) (other : ℕ) (m : Machine B) → length m.sessions ≡ 8
      → (ask k s call m).0 ≡ asked.Now (reply.Refused (refusal.Busy other)) → IsLeastConflict k s call other m.sessions
  busy_least s call other m eight h = least_conflict call s other m.sessions eight (busy_by s call other m (is_session s) refl h)

  -- A call that is open met no conflict.

  with_open : (call : Call B) (least : Option ℕ) (spent : ℕ) (old locks : Locks B) (changes : Changes B)
      → (asked_with call (lock_for k call least spent locks) old changes).0 ≡ asked.Open → least ≡ None
  with_open call None spent old locks changes h = refl
  with_open call (Some other) spent old locks changes h = let no : ⊥ = cc in absurd no

  call_open : (call : Call B) (least : Option ℕ) (spent : ℕ) (x : Session B) → (ask_session k call least spent x).0 ≡ asked.Open → (call ≡ Abort) ⊎ (least ≡ None)
  call_open Begin least spent Idle h = let no : ⊥ = cc in absurd no
  call_open (Insert e) least spent Idle h = let no : ⊥ = cc in absurd no
  call_open (Delete e) least spent Idle h = let no : ⊥ = cc in absurd no
  call_open (Search q) least spent Idle h = let no : ⊥ = cc in absurd no
  call_open Commit least spent Idle h = let no : ⊥ = cc in absurd no
  call_open Abort least spent Idle h = let no : ⊥ = cc in absurd no
  call_open Begin least spent (Open locks changes None) h = let no : ⊥ = cc in absurd no
  call_open (Insert e) least spent (Open locks changes None) h = inr (with_open (Insert e) least spent locks locks changes h)
  call_open (Delete e) least spent (Open locks changes None) h = inr (with_open (Delete e) least spent locks locks changes h)
  call_open (Search q) least spent (Open locks changes None) h = inr (with_open (Search q) least spent locks locks changes h)
  call_open Commit least spent (Open locks changes None) h = inr (with_open Commit least spent locks locks changes h)
  call_open Abort least spent (Open locks changes None) h = inl refl
  call_open call least spent (Open locks changes (Some pending)) h = let no : ⊥ = cc in absurd no
  call_open call least spent (Aborting locks) h = let no : ⊥ = cc in absurd no
  call_open call least spent (Committing number) h = let no : ⊥ = cc in absurd no

  none_by : (s : ℕ) (call : Call B) (m : Machine B) (there : Bool) → is_session s ≡ there → (asked_there k s call m there).0 ≡ asked.Open
      → NoneConflicts k s call m.sessions
  none_by s call m true is h =
      elim (call_open call (least_conflicting k call s 1 m.sessions) (claims_held m.sessions) (session_at s m.sessions) h) [
        | inl e ↦ (λ a ne. ap (λ (c : Call B). session_conflicts k c (session_at a m.sessions)) e)
        | inr none ↦ others_clear k call s m.sessions none
      ]
  none_by s call m false is h = let no : ⊥ = cc in absurd no

  pub open_free : (s : ℕ) (call : Call B) (m : Machine B) → (ask k s call m).0 ≡ asked.Open → NoneConflicts k s call m.sessions
  open_free s call m h = none_by s call m (is_session s) refl h

  -- Answers.

  answered_reply : {X : Type 0} (f : Reply B × X → Reply B × Session B) → ((p : Reply B × X) → (f p).0 ≡ p.0) → (p : Reply B × X) (r : Reply B) (y : Session B)
      → Some (f p) ≡ Some (r, y) → p.0 ≡ r
  answered_reply f first_is p r y h = sym (first_is p) ∙ ap (λ (q : Reply B × Session B). q.0) (value_of h)

  insert_finds_none : (e : Entry B) (present : Bool) (changes : Changes B) (entries : List (Entry B)) → ¬ ((insert_answered k e present changes).0 ≡ reply.Found entries)
  insert_finds_none e true changes entries h = cc
  insert_finds_none e false changes entries h = cc

  delete_finds_none : (e : Entry B) (present : Bool) (changes : Changes B) (entries : List (Entry B)) → ¬ ((delete_answered k e present changes).0 ≡ reply.Found entries)
  delete_finds_none e true changes entries h = cc
  delete_finds_none e false changes entries h = cc

  commits_find_none : (number oldest : ℕ) (lasting : Bool) (entries : List (Entry B)) (y : Session B)
      → ¬ (commit_answered number lasting ≡ Some (reply.Found entries, y))
  commits_find_none number oldest true entries y h = let same : reply.Committed number ≡ reply.Found entries = ap (λ (q : Reply B × Session B). q.0) (value_of h) in cc
  commits_find_none number oldest false entries y h = cc

  first_reply : {p q : Reply B × Session B} → Some p ≡ Some q → p.0 ≡ q.0
  first_reply h = ap (λ (r : Reply B × Session B). r.0) (value_of h)

  -- the session has a search open, and these are the entries of its view that match
  abbrev Finds : List (Entry B) → List (Entry B) → Session B → Type 0
  Finds latest entries x =
      (locks : Locks B) × (changes : Changes B) × (q : Query B) × (x ≡ Open locks changes (Some (Search q))) × (entries ≡ found k q (view k latest changes))

  finds : (latest : List (Entry B)) (oldest : ℕ) (x y : Session B) (entries : List (Entry B)) → answer_session k latest oldest x ≡ Some (reply.Found entries, y)
      → Finds latest entries x
  finds latest oldest Idle y entries h = let no : ⊥ = cc in absurd no
  finds latest oldest (Open g c None) y entries h = let no : ⊥ = cc in absurd no
  finds latest oldest (Open g c (Some Begin)) y entries h = let no : ⊥ = cc in absurd no
  finds latest oldest (Open g c (Some (Insert e))) y entries h = absurd (insert_finds_none e (has k e (view k latest c)) c entries (first_reply h))
  finds latest oldest (Open g c (Some (Delete e))) y entries h = absurd (delete_finds_none e (has k e (view k latest c)) c entries (first_reply h))
  finds latest oldest (Open g c (Some (Search q))) y entries h =
      let alike : reply.Found (found k q (view k latest c)) ≡ reply.Found entries = first_reply h in
      let same : found k q (view k latest c) ≡ entries = cc in
      (g, c, q, refl, sym same)
  finds latest oldest (Open g c (Some Commit)) y entries h = let no : ⊥ = cc in absurd no
  finds latest oldest (Open g c (Some Abort)) y entries h = let no : ⊥ = cc in absurd no
  finds latest oldest (Aborting g) y entries h = let no : reply.Aborted ≡ reply.Found entries = first_reply h in let never : ⊥ = cc in absurd never
  finds latest oldest (Committing number) y entries h = absurd (commits_find_none number oldest (nat_le number oldest) entries y h)

  pub found_exactly : IsLawful k → (old new : Machine B) (s : ℕ) (entries : List (Entry B)) → KeptInOrder k old → answer k s old ≡ Some (reply.Found entries, new)
      → IsAnswered k s old entries
  found_exactly l old new s entries kept h =
      let outer = mapped (λ (p : Reply B × Session B). (p.0, with_session s p.1 old)) (answer_session k old.latest old.oldest (session_at s old.sessions)) (reply.Found entries, new) h in
      let is_found : outer.0.0 ≡ reply.Found entries = ap (λ (p : Reply B × Machine B). p.0) outer.2 in
      let f = finds old.latest old.oldest (session_at s old.sessions) outer.0.1 entries (outer.1 ∙ (λ i. Some (is_found i, outer.0.1))) in
      record {
        locks = f.0;
        changes = f.1;
        query = f.2;
        asked = f.3;
        in_order = subst (InOrder k) (sym f.4) (in_order_filter k l (matches k f.2) (view k old.latest f.1) (view_in_order k l old.latest f.1 kept.latest));
        exact = λ e. ap (has k e) f.4 ∙ has-filter k l (matches k f.2) e (view k old.latest f.1);
      }

  -- Commits.

  insert_commits_none : (e : Entry B) (present : Bool) (changes : Changes B) (number : ℕ) → ¬ ((insert_answered k e present changes).0 ≡ reply.Committed number)
  insert_commits_none e true changes number h = cc
  insert_commits_none e false changes number h = cc

  delete_commits_none : (e : Entry B) (present : Bool) (changes : Changes B) (number : ℕ) → ¬ ((delete_answered k e present changes).0 ≡ reply.Committed number)
  delete_commits_none e true changes number h = cc
  delete_commits_none e false changes number h = cc

  committed_by : (number committed oldest : ℕ) (lasting : Bool) (y : Session B) → nat_le number oldest ≡ lasting
      → commit_answered number lasting ≡ Some (reply.Committed committed, y) → committed ≤ oldest
  committed_by number committed oldest true y is h =
      let alike : reply.Committed number ≡ reply.Committed committed = first_reply h in
      let same : number ≡ committed = cc in
      subst (λ n. n ≤ oldest) same (leb-true number oldest is)
  committed_by number committed oldest false y is h = let no : ⊥ = cc in absurd no

  -- a commit that is answered is durable
  pub durable_commit : (latest : List (Entry B)) (oldest committed : ℕ) (x y : Session B) → answer_session k latest oldest x ≡ Some (reply.Committed committed, y) → committed ≤ oldest
  durable_commit latest oldest committed Idle y h = let no : ⊥ = cc in absurd no
  durable_commit latest oldest committed (Open g c None) y h = let no : ⊥ = cc in absurd no
  durable_commit latest oldest committed (Open g c (Some Begin)) y h = let no : ⊥ = cc in absurd no
  durable_commit latest oldest committed (Open g c (Some (Insert e))) y h = absurd (insert_commits_none e (has k e (view k latest c)) c committed (first_reply h))
  durable_commit latest oldest committed (Open g c (Some (Delete e))) y h = absurd (delete_commits_none e (has k e (view k latest c)) c committed (first_reply h))
  durable_commit latest oldest committed (Open g c (Some (Search q))) y h =
      let no : reply.Found (found k q (view k latest c)) ≡ reply.Committed committed = first_reply h in let never : ⊥ = cc in absurd never
  durable_commit latest oldest committed (Open g c (Some Commit)) y h = let no : ⊥ = cc in absurd no
  durable_commit latest oldest committed (Open g c (Some Abort)) y h = let no : ⊥ = cc in absurd no
  durable_commit latest oldest committed (Aborting g) y h =
      let no : reply.Aborted ≡ reply.Committed committed = first_reply h in let never : ⊥ = cc in absurd never
  durable_commit latest oldest committed (Committing number) y h = committed_by number committed oldest (nat_le number oldest) y refl h
