-- How many calls are open, and what they may still add, from event to event.
use Rattle.std.proofs.Common.{arith, ◌≡◌, ℕ, ◌+◌, ◌-◌, ◌*◌, ◌<◌, ◌≤◌, inl, inr, Bool, true, false, List, [], ◌∷◌, ◌++◌, length, Option, Some, None, refl, ap, sym, ◌∙◌, subst}
use Rattle.std.specs.Prelude.{if◌then◌else◌, nat_le, nat_lt, slice_set, Ok, Err, sum_by, slice_index_or}
use Rattle.std.proofs.lemmas.List.{length-set}
use Rattle.std.proofs.lemmas.List.Sums.{sum_by-set, sum_by-cons}
use Rattle.gx_geom.specs.declared.refusal.Refusal.{Refusal}
use Rattle.gx_geom.specs.declared.refusal.Refusal.TheVariants as refusal
use Rattle.gx_machine.specs.declared.limits.TheConstants.{MAX_CLAIMS, MAX_PREDICATES}
use Rattle.gx_machine.specs.declared.entry.Entry.{Entry}
use Rattle.gx_machine.specs.declared.query.Query.{Query}
use Rattle.gx_machine.specs.declared.call.Call.{Call}
use Rattle.gx_machine.specs.declared.call.Call.TheVariants.{Begin, Insert, Delete, Search, Commit, Abort}
use Rattle.gx_machine.specs.declared.reply.Reply.{Reply}
use Rattle.gx_machine.specs.declared.reply.Reply.TheVariants as reply
use Rattle.gx_machine.specs.declared.reply.Asked.{Asked as Given}
use Rattle.gx_machine.specs.declared.reply.Asked.TheVariants as asked
use Rattle.gx_machine.specs.declared.item.Item.{Item}
use Rattle.gx_machine.specs.declared.item.Item.TheVariants.{Asked, Sealed}
use Rattle.gx_machine.specs.Keys.{Keys}
use Rattle.gx_machine.specs.Sets.{has, including}
use Rattle.gx_machine.specs.Sessions.{Session, Idle, Open, Aborting, Committing, Locks, Changes, ask_session, asked_with, unless_busy, with_claim, with_predicate, has_query, answer_session, answer_call, closed_session, sealed_set, is_unanswered}
use Rattle.gx_machine.specs.Machine.{Machine, newest, is_session, session_at, with_session, least_conflicting, claims_held, ask, kept_sets}
use Rattle.gx_machine.specs.Runs.{Answers, Seals, Closes, IsStep}
use Rattle.gx_machine.proofs.Places.{session_bounds, session_there}
use Rattle.gx_machine.proofs.SessionMoves.{value_of}
use Rattle.gx_machine.proofs.StepEffects.{mapped, asked_there, sealed_view}
use Rattle.gx_events.specs.declared.outcome.Outcome.{Outcome}
use Rattle.gx_events.specs.declared.outcome.Outcome.TheVariants as outcome
use Rattle.gx_events.specs.Happens.{AskRefused, Ends, AskHappens, MoveHappens, MeetsFault}
use Rattle.gx_events.specs.Items.{items_moved, items_sealed, items_of}
use Rattle.gx_events.specs.declared.event.Event.TheVariants.{Ask, Move}
use Rattle.gx_shared.specs.Calls.{open_of, open_calls, owed_of, owed}
use Rattle.gx_events.specs.Work.{replied}
use Rattle.gx_shared.specs.Books.{is_fault, IsHanded}
use Rattle.gx_events.proofs.GivenUp.{given_up}
use Rattle.gx_events.proofs.Goes.{not_less, is_less}

abbrev pub is_found : {B : Type 0} → Reply B → Bool
is_found (reply.Found entries) = true
is_found reply.Ok = false
is_found reply.Inserted = false
is_found reply.Deleted = false
is_found (reply.Committed number) = false
is_found reply.Aborted = false
is_found (reply.Refused why) = false

-- one if an ask opens the call
abbrev pub opens : {B : Type 0} → Given B → ℕ
opens (asked.Now r) = 0
opens asked.Open = 1

abbrev pub finds : {B : Type 0} → Given B → Bool
finds (asked.Now r) = is_found r
finds asked.Open = false

-- one if an ask's outcome leaves the call open
abbrev pub asked_more : {B : Type 0} → Outcome B → ℕ
asked_more outcome.More = 1
asked_more other = 0

-- one if a move's outcome ends the call
abbrev pub closes_of : Bool → ℕ
closes_of true = 0
closes_of false = 1

abbrev pub ended : {B : Type 0} → Outcome B → ℕ
ended (outcome.Replied r) = closes_of (is_fault r)
ended other = 0

-- Sums over the sessions.

module _ {B : Type 0} where
  at_place : (s : ℕ) (xs : List (Session B)) → is_session s ≡ true → session_at s xs ≡ slice_index_or xs (s - 1) Idle
  at_place s xs is = ap (λ (b : Bool). if b then slice_index_or xs (s - 1) Idle else Idle) is

  pub changed : (f : Session B → ℕ) (s : ℕ) (xs : List (Session B)) (y : Session B) → is_session s ≡ true → length xs ≡ 8
      → sum_by f (slice_set xs (s - 1) y) + f (session_at s xs) ≡ sum_by f xs + f y
  changed f s xs y is eight =
      let bounds : (0 < s) × (s < 9) = session_bounds s is in
      let sum : sum_by f (slice_set xs (s - 1) y) + f (slice_index_or xs (s - 1) Idle) ≡ sum_by f xs + f y =
      sum_by-set f xs (s - 1) y Idle (omega (arith, bounds.0, bounds.1, eight)) in
      ap (λ (x : Session B). sum_by f (slice_set xs (s - 1) y) + f x) (at_place s xs is) ∙ sum

  -- a session with an open call exists
  pub is_there : (s : ℕ) (xs : List (Session B)) → open_of (session_at s xs) ≡ 1 → is_session s ≡ true
  is_there s xs one = session_there s xs (λ idle. let none : open_of (session_at s xs) ≡ 0 = ap open_of idle in let no : ⊥ = omega (arith, none, one) in no) (is_session s) refl

  owed_few : (x : Session B) → owed_of x ≤ 2 * open_of x
  owed_few Idle = omega arith
  owed_few (Open locks changes None) = omega arith
  owed_few (Open locks changes (Some call)) = omega arith
  owed_few (Aborting locks) = omega arith
  owed_few (Committing number) = omega arith

  -- an open call may add two items at most
  pub owed_by_open : (xs : List (Session B)) → owed xs ≤ 2 * open_calls xs
  owed_by_open [] = omega arith
  owed_by_open (x ∷ xs) = let a = owed_few x in let b = owed_by_open xs in let c = sum_by-cons owed_of x xs in let d = sum_by-cons open_of x xs in omega arith

  -- an open call owes an item at least
  pub owes_one : (x : Session B) → open_of x ≡ 1 → 1 ≤ owed_of x
  owes_one Idle h = let no : ⊥ = omega (arith, h) in absurd no
  owes_one (Open locks changes None) h = let no : ⊥ = omega (arith, h) in absurd no
  owes_one (Open locks changes (Some call)) h = omega arith
  owes_one (Aborting locks) h = omega arith
  owes_one (Committing number) h = omega arith

  pub owed_in_all : (s : ℕ) (xs : List (Session B)) → length xs ≡ 8 → open_of (session_at s xs) ≡ 1 → 1 ≤ owed xs
  owed_in_all s xs eight one =
      let a = changed owed_of s xs Idle (is_there s xs one) eight in
      let b = owes_one (session_at s xs) one in
      omega (arith, a, b)

  unanswered_open : (x : Session B) → is_unanswered x ≡ true → open_of x ≡ 1
  unanswered_open x h = ap (λ (b : Bool). if b then 1 else 0) h

-- What an event does to the sums, if it opens and ends so many calls, adds so many items, and may owe so many more.
pub record Sums {B : Type 0} (m n : Machine B) (opened closed added allowed : ℕ) : Type 0 where
  pub eight : length n.sessions ≡ 8
  pub calls : open_calls n.sessions + closed ≡ open_calls m.sessions + opened
  pub owes : n.failed ≡ false → added + owed n.sessions ≤ owed m.sessions + allowed
  pub works : n.failed ≡ false → m.failed ≡ false

-- Asks.

pub record IsAsked {B : Type 0} (x : Session B) (given : Given B) (y : Session B) : Type 0 where
  pub opened : open_of y ≡ open_of x + opens given
  pub owes : owed_of y ≡ owed_of x + 2 * opens given
  pub finds_none : finds given ≡ false

module _ {B : Type 0} (k : Keys B) where
  claim_asks : (call : Call B) (one two old : Locks B) (changes : Changes B) (there room : Bool)
      → (let r : Given B × Session B = asked_with call (if there then Ok one else if room then Ok two else Err refusal.ClaimsFull) old changes in IsAsked (Open old changes None) r.0 r.1)
  claim_asks call one two old changes true room = record { opened = refl; owes = refl; finds_none = refl }
  claim_asks call one two old changes false true = record { opened = refl; owes = refl; finds_none = refl }
  claim_asks call one two old changes false false = record { opened = refl; owes = refl; finds_none = refl }

  predicate_asks : (call : Call B) (one two old : Locks B) (changes : Changes B) (there room : Bool)
      → (let r : Given B × Session B = asked_with call (if there then Ok one else if room then Ok two else Err refusal.PredicatesFull) old changes in IsAsked (Open old changes None) r.0 r.1)
  predicate_asks call one two old changes true room = record { opened = refl; owes = refl; finds_none = refl }
  predicate_asks call one two old changes false true = record { opened = refl; owes = refl; finds_none = refl }
  predicate_asks call one two old changes false false = record { opened = refl; owes = refl; finds_none = refl }

  write_asks : (call : Call B) (e : Entry B) (least : Option ℕ) (spent : ℕ) (locks : Locks B) (changes : Changes B)
      → (let r : Given B × Session B = asked_with call (unless_busy least (with_claim k e spent locks)) locks changes in IsAsked (Open locks changes None) r.0 r.1)
  write_asks call e None spent locks changes =
      claim_asks call locks (record locks { claims = including k e locks.claims }) locks changes (has k e locks.claims) (nat_lt spent MAX_CLAIMS)
  write_asks call e (Some other) spent locks changes = record { opened = refl; owes = refl; finds_none = refl }

  search_asks : (q : Query B) (least : Option ℕ) (spent : ℕ) (locks : Locks B) (changes : Changes B)
      → (let r : Given B × Session B = asked_with (Search q) (unless_busy least (with_predicate k q locks)) locks changes in IsAsked (Open locks changes None) r.0 r.1)
  search_asks q None spent locks changes =
      predicate_asks (Search q) locks (record locks { predicates = locks.predicates ++ q ∷ [] }) locks changes (has_query k q locks.predicates) (nat_lt (length locks.predicates) MAX_PREDICATES)
  search_asks q (Some other) spent locks changes = record { opened = refl; owes = refl; finds_none = refl }

  commit_asks : (least : Option ℕ) (locks : Locks B) (changes : Changes B)
      → (let r : Given B × Session B = asked_with Commit (unless_busy least (Ok locks)) locks changes in IsAsked (Open locks changes None) r.0 r.1)
  commit_asks None locks changes = record { opened = refl; owes = refl; finds_none = refl }
  commit_asks (Some other) locks changes = record { opened = refl; owes = refl; finds_none = refl }

  session_asks : (call : Call B) (least : Option ℕ) (spent : ℕ) (x : Session B) → IsAsked x (ask_session k call least spent x).0 (ask_session k call least spent x).1
  session_asks Begin least spent Idle = record { opened = refl; owes = refl; finds_none = refl }
  session_asks (Insert e) least spent Idle = record { opened = refl; owes = refl; finds_none = refl }
  session_asks (Delete e) least spent Idle = record { opened = refl; owes = refl; finds_none = refl }
  session_asks (Search q) least spent Idle = record { opened = refl; owes = refl; finds_none = refl }
  session_asks Commit least spent Idle = record { opened = refl; owes = refl; finds_none = refl }
  session_asks Abort least spent Idle = record { opened = refl; owes = refl; finds_none = refl }
  session_asks Begin least spent (Open locks changes None) = record { opened = refl; owes = refl; finds_none = refl }
  session_asks (Insert e) least spent (Open locks changes None) = write_asks (Insert e) e least spent locks changes
  session_asks (Delete e) least spent (Open locks changes None) = write_asks (Delete e) e least spent locks changes
  session_asks (Search q) least spent (Open locks changes None) = search_asks q least spent locks changes
  session_asks Commit least spent (Open locks changes None) = commit_asks least locks changes
  session_asks Abort least spent (Open locks changes None) = record { opened = refl; owes = refl; finds_none = refl }
  session_asks call least spent (Open locks changes (Some pending)) = record { opened = refl; owes = refl; finds_none = refl }
  session_asks call least spent (Aborting locks) = record { opened = refl; owes = refl; finds_none = refl }
  session_asks call least spent (Committing number) = record { opened = refl; owes = refl; finds_none = refl }

  there_asks : (s : ℕ) (call : Call B) (m : Machine B) (there : Bool) → is_session s ≡ there → length m.sessions ≡ 8
      → (length (asked_there k s call m there).1.sessions ≡ 8)
      × (open_calls (asked_there k s call m there).1.sessions ≡ open_calls m.sessions + opens (asked_there k s call m there).0)
      × (owed (asked_there k s call m there).1.sessions ≡ owed m.sessions + 2 * opens (asked_there k s call m there).0)
      × (finds (asked_there k s call m there).0 ≡ false)
      × ((asked_there k s call m there).1.failed ≡ m.failed)
  there_asks s call m true is eight =
      let x = session_at s m.sessions in
      let r : Given B × Session B = ask_session k call (least_conflicting k call s 1 m.sessions) (claims_held m.sessions) x in
      let a = session_asks call (least_conflicting k call s 1 m.sessions) (claims_held m.sessions) x in
      let c = changed open_of s m.sessions r.1 is eight in
      let d = changed owed_of s m.sessions r.1 is eight in
      let a1 : open_of r.1 ≡ open_of x + opens r.0 = a.opened in
      let a2 : owed_of r.1 ≡ owed_of x + 2 * opens r.0 = a.owes in (
        length-set m.sessions (s - 1) r.1 ∙ eight,
        omega (arith, c, a1),
        omega (arith, d, a2),
        a.finds_none,
        refl,
      )
  there_asks s call m false is eight = (eight, omega arith, omega arith, refl, refl)

  pub ask_counts : (s : ℕ) (call : Call B) (m n : Machine B) (g : Given B) → ask k s call m ≡ (g, n) → length m.sessions ≡ 8
      → (length n.sessions ≡ 8) × (open_calls n.sessions ≡ open_calls m.sessions + opens g) × (owed n.sessions ≡ owed m.sessions + 2 * opens g)
      × (finds g ≡ false) × (n.failed ≡ m.failed)
  ask_counts s call m n g h eight =
      subst (λ (z : Given B × Machine B). (length z.1.sessions ≡ 8) × (open_calls z.1.sessions ≡ open_calls m.sessions + opens z.0)
      × (owed z.1.sessions ≡ owed m.sessions + 2 * opens z.0) × (finds z.0 ≡ false) × (z.1.failed ≡ m.failed)) h
      (there_asks s call m (is_session s) refl eight)

  same_sums : (m n : Machine B) (added allowed : ℕ) → added ≤ allowed → n ≡ m → length m.sessions ≡ 8 → Sums m n 0 0 added allowed
  same_sums m n added allowed few is eight = record {
    eight = ap (λ (z : Machine B). length z.sessions) is ∙ eight;
    calls = ap (λ (z : Machine B). open_calls z.sessions + 0) is;
    owes = λ f. let same : owed n.sessions ≡ owed m.sessions = ap (λ (z : Machine B). owed z.sessions) is in omega (arith, same, few);
    works = λ f. ap (λ (z : Machine B). z.failed) (sym is) ∙ f;
  }

  refused_sums : (s : ℕ) (call : Call B) (r : Reply B) (m n : Machine B) → AskRefused k s call r m n → length m.sessions ≡ 8 → Sums m n 0 0 2 3
  refused_sums s call (reply.Refused refusal.Failed) m n h eight = same_sums m n 2 3 (omega arith) h.1 eight
  refused_sums s call (reply.Refused refusal.HistoryFull) m n h eight = same_sums m n 2 3 (omega arith) h.1.2 eight
  refused_sums s call other m n h eight = absurd h

  pub ask_sums : (s : ℕ) (call : Call B) (o : Outcome B) (m n : Machine B) (x y : ℕ) → AskHappens k s call m o n → length m.sessions ≡ 8
      → Sums m n (asked_more o) 0 (length (items_of x y (Ask s call) o)) 3
  ask_sums s call (outcome.Replied r) m n x y h eight = elim h [
    | inl p ↦ (let c = ask_counts s call m n (asked.Now r) p.1 eight in
        record { eight = c.0; calls = omega (arith, c.1); owes = λ f. omega (arith, c.2); works = λ f. sym c.4 ∙ f })
    | inr p ↦ refused_sums s call r m n p eight
  ]
  ask_sums s call outcome.More m n x y h eight =
      let c = ask_counts s call m n asked.Open h.1 eight in
      record { eight = c.0; calls = omega (arith, c.1); owes = λ f. omega (arith, c.2); works = λ f. sym c.4 ∙ f }
  ask_sums s call other m n x y h eight = absurd h

  refused_finds_none : (s : ℕ) (call : Call B) (r : Reply B) (m n : Machine B) → AskRefused k s call r m n → is_found r ≡ false
  refused_finds_none s call (reply.Refused refusal.Failed) m n h = refl
  refused_finds_none s call (reply.Refused refusal.HistoryFull) m n h = refl
  refused_finds_none s call other m n h = absurd h

  -- an ask is never given what a search finds at once
  pub ask_finds_none : (s : ℕ) (call : Call B) (r : Reply B) (m n : Machine B) → AskHappens k s call m (outcome.Replied r) n → length m.sessions ≡ 8 → is_found r ≡ false
  ask_finds_none s call r m n h eight = elim h [
    | inl p ↦ (ask_counts s call m n (asked.Now r) p.1 eight).3
    | inr p ↦ refused_finds_none s call r m n p
  ]

-- Moves.

pub record IsEnded {B : Type 0} (x y : Session B) : Type 0 where
  pub opened : open_of x ≡ 1
  pub closed : open_of y ≡ 0
  pub owes : owed_of y ≡ 0

module _ {B : Type 0} (k : Keys B) where
  committed_ends : (number : ℕ) (p : Reply B × Session B) (lasting : Bool) → (if lasting then Some (reply.Committed number, Idle) else None) ≡ Some p
      → IsEnded (Committing number) p.1
  committed_ends number p true h = record {
    opened = refl;
    closed = ap (λ (z : Reply B × Session B). open_of z.1) (sym (value_of h));
    owes = ap (λ (z : Reply B × Session B). owed_of z.1) (sym (value_of h));
  }
  committed_ends number p false h = let no : ⊥ = cc in absurd no

  session_answers : (latest : List (Entry B)) (oldest : ℕ) (x : Session B) (p : Reply B × Session B) → answer_session k latest oldest x ≡ Some p → IsEnded x p.1
  session_answers latest oldest Idle p h = let no : ⊥ = cc in absurd no
  session_answers latest oldest (Open locks changes None) p h = let no : ⊥ = cc in absurd no
  session_answers latest oldest (Open locks changes (Some call)) p h =
      let f = mapped (λ (q : Reply B × Changes B). (q.0, Open locks q.1 None)) (answer_call k call latest changes) p h in
      record {
        opened = refl;
        closed = ap (λ (z : Reply B × Session B). open_of z.1) (sym f.2);
        owes = ap (λ (z : Reply B × Session B). owed_of z.1) (sym f.2);
      }
  session_answers latest oldest (Aborting locks) p h = record {
    opened = refl;
    closed = ap (λ (z : Reply B × Session B). open_of z.1) (sym (value_of h));
    owes = ap (λ (z : Reply B × Session B). owed_of z.1) (sym (value_of h));
  }
  session_answers latest oldest (Committing number) p h = committed_ends number p (nat_le number oldest) h

  session_closes : (x y : Session B) → closed_session x ≡ Some y → IsEnded x y
  session_closes Idle y h = let no : ⊥ = cc in absurd no
  session_closes (Open locks changes None) y h = let no : ⊥ = cc in absurd no
  session_closes (Open locks changes (Some call)) y h = record {
    opened = refl;
    closed = ap (λ (z : Session B). open_of z) (sym (value_of h));
    owes = ap (λ (z : Session B). owed_of z) (sym (value_of h));
  }
  session_closes (Aborting locks) y h = let no : ⊥ = cc in absurd no
  session_closes (Committing number) y h = let no : ⊥ = cc in absurd no

  module _ (s : ℕ) (m n : Machine B) (eight : length m.sessions ≡ 8) where
    ended_sums : (y : Session B) → with_session s y m ≡ n → IsEnded (session_at s m.sessions) y → Sums m n 0 1 1 0 × (1 ≤ owed m.sessions)
    ended_sums y is e =
        let there = is_there s m.sessions e.opened in
        let c = changed open_of s m.sessions y there eight in
        let d = changed owed_of s m.sessions y there eight in
        let one = owes_one (session_at s m.sessions) e.opened in
        let e1 = e.opened in let e2 = e.closed in let e3 = e.owes in (
          subst (λ (z : Machine B). Sums m z 0 1 1 0) is record {
            eight = length-set m.sessions (s - 1) y ∙ eight;
            calls = omega (arith, c, e1, e2);
            owes = λ f. omega (arith, d, one, e3);
            works = λ f. f;
          },
          omega (arith, d, one, e3),
        )

    answered_sums : (r : Reply B) → IsStep k m (Answers s r) n → Sums m n 0 1 1 0 × (1 ≤ owed m.sessions)
    answered_sums r h =
        let f = mapped (λ (p : Reply B × Session B). (p.0, with_session s p.1 m)) (answer_session k m.latest m.oldest (session_at s m.sessions)) (r, n) h.1 in
        ended_sums f.0.1 (ap (λ (p : Reply B × Machine B). p.1) f.2) (session_answers m.latest m.oldest (session_at s m.sessions) f.0 f.1)

    closed_sums : (why : Refusal) → IsStep k m (Closes s why) n → Sums m n 0 1 1 0 × (1 ≤ owed m.sessions)
    closed_sums why h =
        let f = mapped (λ (x : Session B). with_session s x m) (closed_session (session_at s m.sessions)) n h.2 in
        ended_sums f.0 f.2 (session_closes (session_at s m.sessions) f.0 f.1)

    fault_sums : (why : Refusal) → is_unanswered (session_at s m.sessions) ≡ true → MeetsFault why m n → Sums m n 0 0 1 0 × (1 ≤ owed m.sessions)
    fault_sums refusal.Device open_call h = (
      record {
        eight = ap (λ (z : Machine B). length z.sessions) h.1 ∙ eight;
        calls = ap (λ (z : Machine B). open_calls z.sessions + 0) h.1;
        owes = λ f. let t : n.failed ≡ true = ap (λ (z : Machine B). z.failed) h.1 in let no : ⊥ = cc in absurd no;
        works = λ f. h.0;
      },
      owed_in_all s m.sessions eight (unanswered_open (session_at s m.sessions) open_call),
    )
    fault_sums refusal.Failed open_call h = (
      record {
        eight = ap (λ (z : Machine B). length z.sessions) h.1 ∙ eight;
        calls = ap (λ (z : Machine B). open_calls z.sessions + 0) h.1;
        owes = λ f. let t : n.failed ≡ true = ap (λ (z : Machine B). z.failed) h.1 ∙ h.0 in let no : ⊥ = cc in absurd no;
        works = λ f. ap (λ (z : Machine B). z.failed) (sym h.1) ∙ f;
      },
      owed_in_all s m.sessions eight (unanswered_open (session_at s m.sessions) open_call),
    )
    fault_sums other open_call h = absurd h

    pub ends_sums : (r : Reply B) → Ends k s r m n → Sums m n 0 (closes_of (is_fault r)) 1 0 × (1 ≤ owed m.sessions)
    ends_sums (reply.Refused refusal.Present) h = answered_sums (reply.Refused refusal.Present) h
    ends_sums (reply.Refused refusal.Absent) h = answered_sums (reply.Refused refusal.Absent) h
    ends_sums (reply.Refused refusal.PagesFull) h = closed_sums refusal.PagesFull h.1
    ends_sums (reply.Refused refusal.Memory) h = closed_sums refusal.Memory h.1
    ends_sums (reply.Refused refusal.Device) h = fault_sums refusal.Device h.0 h.1
    ends_sums (reply.Refused refusal.Failed) h = fault_sums refusal.Failed h.0 h.1
    ends_sums (reply.Refused other) h = absurd h.1
    ends_sums reply.Ok h = answered_sums reply.Ok h
    ends_sums reply.Inserted h = answered_sums reply.Inserted h
    ends_sums reply.Deleted h = answered_sums reply.Deleted h
    ends_sums (reply.Found entries) h = answered_sums (reply.Found entries) h
    ends_sums (reply.Committed number) h = answered_sums (reply.Committed number) h
    ends_sums reply.Aborted h = answered_sums reply.Aborted h

    no_answer : {X : Type 0} → m.failed ≡ true → m.failed ≡ false → X
    no_answer t f = let no : ⊥ = cc in absurd no

    -- an engine that a fault has ended refuses an open call for it, and does nothing else
    pub ends_failed : (r : Reply B) → Ends k s r m n → m.failed ≡ true → (r ≡ reply.Refused refusal.Failed) × (n ≡ m)
    ends_failed (reply.Refused refusal.Present) h t = no_answer t h.0
    ends_failed (reply.Refused refusal.Absent) h t = no_answer t h.0
    ends_failed (reply.Refused refusal.PagesFull) h t = no_answer t h.1.0
    ends_failed (reply.Refused refusal.Memory) h t = no_answer t h.1.0
    ends_failed (reply.Refused refusal.Device) h t = no_answer t h.1.0
    ends_failed (reply.Refused refusal.Failed) h t = (refl, h.1.1)
    ends_failed (reply.Refused other) h t = absurd h.1
    ends_failed reply.Ok h t = no_answer t h.0
    ends_failed reply.Inserted h t = no_answer t h.0
    ends_failed reply.Deleted h t = no_answer t h.0
    ends_failed (reply.Found entries) h t = no_answer t h.0
    ends_failed (reply.Committed number) h t = no_answer t h.0
    ends_failed reply.Aborted h t = no_answer t h.0

    pub seal_works : IsStep k m (Seals s (newest n)) n → n.failed ≡ false
    seal_works h =
        let f = mapped (λ (set : List (Entry B)). record m { older = kept_sets m; latest = set; sessions = slice_set m.sessions (s - 1) (Committing (newest m + 1)) })
        (sealed_set k m.latest (session_at s m.sessions)) n h.2 in
        sym (ap (λ (z : Machine B). z.failed) f.2) ∙ h.0

    pub sealed_sums : IsStep k m (Seals s (newest n)) n → Sums m n 0 0 1 0
    sealed_sums h =
        let f = mapped (λ (set : List (Entry B)). record m { older = kept_sets m; latest = set; sessions = slice_set m.sessions (s - 1) (Committing (newest m + 1)) })
        (sealed_set k m.latest (session_at s m.sessions)) n h.2 in
        let v = sealed_view k m.latest f.0 (session_at s m.sessions) f.1 in
        let one : open_of (session_at s m.sessions) ≡ 1 = ap (λ (x : Session B). open_of x) v.2 in
        let two : owed_of (session_at s m.sessions) ≡ 2 = ap (λ (x : Session B). owed_of x) v.2 in
        let there = is_there s m.sessions one in
        let c = changed open_of s m.sessions (Committing (newest m + 1)) there eight in
        let d = changed owed_of s m.sessions (Committing (newest m + 1)) there eight in
        subst (λ (z : Machine B). Sums m z 0 0 1 0) f.2 record {
          eight = length-set m.sessions (s - 1) (Committing (newest m + 1)) ∙ eight;
          calls = omega (arith, c, one);
          owes = λ g. omega (arith, d, two);
          works = λ g. g;
        }

    quiet_sums : n ≡ m → Sums m n 0 0 (length (items_sealed {B = B} s (newest m) (newest n))) 0
    quiet_sums is =
        subst (λ (b : Bool). Sums m n 0 0 (length {A = Item B} (if b then Sealed s (newest n) ∷ [] else [])) 0) (sym (not_less (newest m) (newest n) (ap newest is)))
        (same_sums k m n 0 0 (omega arith) is eight)

    pub move_sums : (o : Outcome B) → MoveHappens k s m o n → Sums m n 0 (ended o) (length (items_moved s (newest m) (newest n) o)) 0
    move_sums (outcome.Replied r) h = (ends_sums r h).0
    move_sums outcome.More h = elim h [
      | inl p ↦ quiet_sums p.1
      | inr p ↦ subst (λ (b : Bool). Sums m n 0 0 (length {A = Item B} (if b then Sealed s (newest n) ∷ [] else [])) 0) (sym (is_less (newest m) (newest n) p.1)) (sealed_sums p)
    ]
    move_sums (outcome.Help need) h = quiet_sums h.1
    move_sums outcome.Nothing h = absurd h
    move_sums (outcome.Refused why) h = quiet_sums h.1

-- What is left if an outcome ends no call.

module _ {B : Type 0} (k : Keys B) where
  pub asked_stays_open : (s : ℕ) (call : Call B) (o : Outcome B) (m n : Machine B) (x y : ℕ) → AskHappens k s call m o n → replied o ≡ 0
      → (asked_more o ≡ 1) × (items_of x y (Ask s call) o ≡ Asked s call ∷ [])
  asked_stays_open s call (outcome.Replied r) m n x y h none = let no : ⊥ = omega (arith, none) in absurd no
  asked_stays_open s call outcome.More m n x y h none = (refl, refl)
  asked_stays_open s call other m n x y h none = absurd h

  pub moved_items : (s x y : ℕ) (o : Outcome B) → replied o ≡ 0 → (items_of x y (Move s) o ≡ items_sealed s x y) × (ended o ≡ 0)
  moved_items s x y (outcome.Replied r) none = let no : ⊥ = omega (arith, none) in absurd no
  moved_items s x y outcome.More none = (refl, refl)
  moved_items s x y (outcome.Help need) none = (refl, refl)
  moved_items s x y outcome.Nothing none = (refl, refl)
  moved_items s x y (outcome.Refused why) none = (refl, refl)

  -- a reply that isn't a search's is returned unchanged
  pub handed_same : (r handed : Reply B) → IsHanded r handed → is_found r ≡ false → handed ≡ r
  handed_same (reply.Found entries) handed h none = let no : ⊥ = cc in absurd no
  handed_same reply.Ok handed h none = h
  handed_same reply.Inserted handed h none = h
  handed_same reply.Deleted handed h none = h
  handed_same (reply.Committed number) handed h none = h
  handed_same reply.Aborted handed h none = h
  handed_same (reply.Refused why) handed h none = h

  -- the reply that is returned ends the call as the engine's reply does
  pub handed_ends : (s : ℕ) (r handed : Reply B) (m n : Machine B) → IsHanded r handed → Ends k s r m n → Ends k s handed m n × (is_fault handed ≡ is_fault r)
  handed_ends s (reply.Found entries) handed m n h e = elim h [
    | inl p ↦ (subst (λ (x : Reply B). Ends k s x m n) (sym p) e, ap (λ (x : Reply B). is_fault x) p)
    | inr p ↦ (subst (λ (x : Reply B). Ends k s x m n) (sym p) (given_up k m n s entries e), ap (λ (x : Reply B). is_fault x) p)
  ]
  handed_ends s reply.Ok handed m n h e = (subst (λ (x : Reply B). Ends k s x m n) (sym h) e, ap (λ (x : Reply B). is_fault x) h)
  handed_ends s reply.Inserted handed m n h e = (subst (λ (x : Reply B). Ends k s x m n) (sym h) e, ap (λ (x : Reply B). is_fault x) h)
  handed_ends s reply.Deleted handed m n h e = (subst (λ (x : Reply B). Ends k s x m n) (sym h) e, ap (λ (x : Reply B). is_fault x) h)
  handed_ends s (reply.Committed number) handed m n h e = (subst (λ (x : Reply B). Ends k s x m n) (sym h) e, ap (λ (x : Reply B). is_fault x) h)
  handed_ends s reply.Aborted handed m n h e = (subst (λ (x : Reply B). Ends k s x m n) (sym h) e, ap (λ (x : Reply B). is_fault x) h)
  handed_ends s (reply.Refused why) handed m n h e = (subst (λ (x : Reply B). Ends k s x m n) (sym h) e, ap (λ (x : Reply B). is_fault x) h)
