-- Asking and answering at a place of the list are asking and answering of the machine, and keep what is kept.
use Rattle.std.proofs.Common.{◌≡◌, ◌⊎◌, inl, inr, ◌^◌, ℕ, zero, suc, ◌+◌, ◌-◌, ◌<◌, ◌≤◌, Bool, true, false, cond, ◌&&◌, ◌||◌, List, [], ◌∷◌, length, slice_set, refl, ap, sym, ◌∙◌, subst, arith, nat_le, add-zero}
use Rattle.std.specs.Prelude.{Option, None, Some, sum_by, replicate}
use Rattle.std.specs.List.{slice_index_or}
use Rattle.std.proofs.lemmas.List.{length-set}
use Rattle.std.proofs.lemmas.List.Sums.{sum_by-set, sum_by-cons}
use Rattle.std.specs.Int.{from_bool}
use Rattle.std.proofs.lemmas.Bool.{leb-false}
use Rattle.gx_geom.specs.declared.refusal.Refusal.TheVariants.{BadSession, HistoryFull}
use Rattle.gx_machine.specs.declared.limits.TheConstants.{SESSIONS}
use Rattle.gx_machine.specs.declared.entry.Entry.{Entry}
use Rattle.gx_machine.specs.declared.call.Call.{Call}
use Rattle.gx_machine.specs.declared.call.Call.TheVariants.{Begin, Insert, Delete, Search, Commit, Abort}
use Rattle.gx_machine.specs.declared.reply.Reply.TheVariants.{Refused}
use Rattle.gx_machine.specs.declared.reply.Asked.{Asked}
use Rattle.gx_machine.specs.declared.reply.Asked.TheVariants as asked
use Rattle.gx_machine.specs.Keys.{Keys}
use Rattle.gx_machine.specs.Sets.{InOrder}
use Rattle.gx_machine.specs.Sessions.{Session, Idle, Open, Aborting, Committing, claims_of, ask_session}
use Rattle.gx_machine.specs.Machine.{Machine, is_session, with_session, least_conflicting, claims_held, ask}
use Rattle.gx_plain.specs.Index.{Index, has_begun, is_used_up, ask_index}
use Rattle.gx_plain.specs.Slots.{CanAnswer, added_by, opened_by, begins}
use Rattle.gx_plain.specs.Kept.{IsKept}
use Rattle.gx_plain.proofs.SlotLaws.{claims_ask, added_ask, opened_ask, can_answer_ask, begun_ask}

module _ {B : Type 0} (k : Keys B) where
  -- asking the session at a place, if these are the least that conflicts and the claims held in all
  abbrev pub asked_at : ℕ → Call B → Option ℕ → ℕ → Bool → Index B → Asked B × Index B
  asked_at place call least spent begun index =
      let r = ask_session k call least spent (slice_index_or index.machine.sessions place Idle) in
      (r.0, record { machine = record (index.machine) { sessions = slice_set index.machine.sessions place r.1 }; next = index.next + cond begun 1 0 })

  abbrev asked_if : Bool → ℕ → Call B → Machine B → Asked B × Machine B
  asked_if t s call m =
      cond t
      (let r = ask_session k call (least_conflicting k call s 1 m.sessions) (claims_held m.sessions) (cond t (slice_index_or m.sessions (s - 1) Idle) Idle) in
      (r.0, with_session s r.1 m))
      (asked.Now (Refused BadSession), m)

  ask_is : (s : ℕ) (call : Call B) (m : Machine B) → is_session s ≡ true → ask k s call m ≡ asked_if true s call m
  ask_is s call m e = ap (λ (t : Bool). asked_if t s call m) e

  abbrev index_of : Bool → Asked B × Machine B → Index B → Asked B × Index B
  index_of u r index =
      cond (has_begun r.0 && u) (asked.Now (Refused HistoryFull), index)
      (r.0, record { machine = r.1; next = index.next + cond (has_begun r.0) 1 0 })

  abbrev index_by : Bool → Bool → Asked B × Machine B → Index B → Asked B × Index B
  index_by b u r index =
      cond (b && u) (asked.Now (Refused HistoryFull), index)
      (r.0, record { machine = r.1; next = index.next + cond b 1 0 })

  abbrev at_place : ℕ → Call B → Index B → Asked B × Machine B
  at_place s call index = asked_if true s call index.machine

  -- asking, by whether a transaction would begin
  ask_by : (s : ℕ) (call : Call B) (index : Index B) (b u : Bool) → is_session s ≡ true → begins call (slice_index_or index.machine.sessions (s - 1) Idle) ≡ b → is_used_up index ≡ u
      → ask_index k s call index ≡ index_by b u (at_place s call index) index
  ask_by s call index b u e eb eu =
      ap (λ (r : Asked B × Machine B). index_of (is_used_up index) r index) (ask_is s call index.machine e)
      ∙ ap (λ (t : Bool). index_of t (at_place s call index) index) eu
      ∙ ap (λ (t : Bool). index_by t u (at_place s call index) index)
      (begun_ask k call (least_conflicting k call s 1 index.machine.sessions) (claims_held index.machine.sessions) (slice_index_or index.machine.sessions (s - 1) Idle) ∙ eb)

  -- asking if the numbers last
  pub asks : (s : ℕ) (call : Call B) (index : Index B) (place : ℕ) (least : Option ℕ) (spent : ℕ) (b u : Bool) → is_session s ≡ true → place ≡ s - 1
      → least ≡ least_conflicting k call s 1 index.machine.sessions → spent ≡ claims_held index.machine.sessions
      → begins call (slice_index_or index.machine.sessions place Idle) ≡ b → is_used_up index ≡ u → (b && u) ≡ false
      → ask_index k s call index ≡ asked_at place call least spent b index
  asks s call index place least spent b u e ep eb es ebegins eu lasts =
      ask_by s call index b u e (ap (λ (p : ℕ). begins call (slice_index_or index.machine.sessions p Idle)) (sym ep) ∙ ebegins) eu
      ∙ ap (λ (t : Bool). cond t (asked.Now (Refused HistoryFull), index) (asked_at (s - 1) call (least_conflicting k call s 1 index.machine.sessions) (claims_held index.machine.sessions) b index)) lasts
      ∙ (λ i. asked_at (sym ep i) call (sym eb i) (sym es i) b index)

  -- asking if they don't
  pub asks_too_late : (s : ℕ) (call : Call B) (index : Index B) (place : ℕ) (b u : Bool) → is_session s ≡ true → place ≡ s - 1
      → begins call (slice_index_or index.machine.sessions place Idle) ≡ b → is_used_up index ≡ u → (b && u) ≡ true
      → ask_index k s call index ≡ (asked.Now (Refused HistoryFull), index)
  asks_too_late s call index place b u e ep ebegins eu late =
      ask_by s call index b u e (ap (λ (p : ℕ). begins call (slice_index_or index.machine.sessions p Idle)) (sym ep) ∙ ebegins) eu
      ∙ ap (λ (t : Bool). cond t (asked.Now (Refused HistoryFull), index) (asked_at (s - 1) call (least_conflicting k call s 1 index.machine.sessions) (claims_held index.machine.sessions) b index)) late

  -- the index with these parts
  abbrev pub index_with : List (Entry B) → ℕ → ℕ → List (Session B) → Index B
  index_with latest commits next sessions =
      record { machine = record { older = []; latest = latest; oldest = commits; sessions = sessions; failed = false }; next = next }

  used_up : (latest : List (Entry B)) (commits next : ℕ) (sessions : List (Session B))
      → is_used_up (index_with latest commits next sessions) ≡ (nat_le 18446744073709551607 commits || nat_le 18446744073709551607 next)
  used_up latest commits next sessions = ap (λ (n : ℕ). nat_le 18446744073709551607 n || nat_le 18446744073709551607 next) (add-zero commits)

  module _ (s : ℕ) (call : Call B) (latest : List (Entry B)) (commits next : ℕ) (sessions : List (Session B)) (old : Index B)
      (was : index_with latest commits next sessions ≡ old) (place : ℕ) (session : is_session s ≡ true) (at : place ≡ s - 1)
      (begun : Bool) (lent : List (Session B)) (lent_is : lent ≡ sessions) (begun_is : begun ≡ begins call (slice_index_or lent place Idle)) where
    begins_is : begins call (slice_index_or sessions place Idle) ≡ begun
    begins_is = sym (begun_is ∙ ap (λ (xs : List (Session B)). begins call (slice_index_or xs place Idle)) lent_is)

    pub late_is : (begun && (nat_le 18446744073709551607 commits || nat_le 18446744073709551607 next)) ≡ true
        → ask_index k s call old ≡ (asked.Now (Refused HistoryFull), old)
    late_is late =
        subst (λ (index : Index B). ask_index k s call index ≡ (asked.Now (Refused HistoryFull), index)) was
        (asks_too_late s call (index_with latest commits next sessions) place begun _ session at begins_is (used_up latest commits next sessions) late)

    pub asked_is : (least : Option ℕ) (spent : ℕ) (second third : List (Session B)) → second ≡ sessions → third ≡ sessions
        → least ≡ least_conflicting k call s 1 second → spent ≡ claims_held third
        → (begun && (nat_le 18446744073709551607 commits || nat_le 18446744073709551607 next)) ≡ false
        → ask_index k s call old ≡ asked_at place call least spent begun (index_with latest commits next sessions)
    asked_is least spent second third second_is third_is least_is spent_is lasts =
        ap (ask_index k s call) (sym was)
        ∙ asks s call (index_with latest commits next sessions) place least spent begun _ session at
        (least_is ∙ ap (least_conflicting k call s 1) second_is) (spent_is ∙ ap claims_held third_is) begins_is (used_up latest commits next sessions) lasts

  -- what is kept stays kept by asking

  opened_most : (x : Session B) → opened_by x ≤ 1
  opened_most Idle = omega arith
  opened_most (Open locks changes call) = omega arith
  opened_most (Aborting locks) = omega arith
  opened_most (Committing number) = omega arith

  opened_in_all : (sessions : List (Session B)) → sum_by opened_by sessions ≤ length sessions
  opened_in_all [] = omega arith
  opened_in_all (x ∷ xs) = omega (arith, sum_by-cons opened_by x xs, opened_in_all xs, opened_most x)

  below_by : (n a b : ℕ) (t : Bool) → nat_le n a ≡ t → (t || nat_le n b) ≡ false → (a < n) × (b < n)
  below_by n a b true e h = cc
  below_by n a b false e h = (leb-false n a e, leb-false n b h)

  both_below : (n a b : ℕ) → (nat_le n a || nat_le n b) ≡ false → (a < n) × (b < n)
  both_below n a b h = below_by n a b (nat_le n a) refl h

  -- if a transaction begins, the numbers aren't used up
  numbers_left : (begun : Bool) (n a b : ℕ) → (begun && (nat_le n a || nat_le n b)) ≡ false → (begun ≡ false) ⊎ ((begun ≡ true) × (a < n) × (b < n))
  numbers_left true n a b h = inr (refl, (both_below n a b h).0, (both_below n a b h).1)
  numbers_left false n a b h = inl refl

  answerable_set : (commits : ℕ) (place : ℕ) (y : Session B) (sessions : List (Session B)) → CanAnswer commits y → ((p : ℕ) → CanAnswer commits (slice_index_or sessions p Idle))
      → (p : ℕ) → CanAnswer commits (slice_index_or (slice_set sessions place y) p Idle)
  answerable_set commits place y [] can each p = each p
  answerable_set commits zero y (x ∷ xs) can each zero = can
  answerable_set commits zero y (x ∷ xs) can each (suc p) = each (suc p)
  answerable_set commits (suc place) y (x ∷ xs) can each zero = each zero
  answerable_set commits (suc place) y (x ∷ xs) can each (suc p) = answerable_set commits place y xs can (λ q. each (suc q)) p

  -- a session stays one that is answered as more commits come
  pub still_answerable : (commits commits' : ℕ) (x : Session B) → commits ≤ commits' → CanAnswer commits x → CanAnswer commits' x
  still_answerable commits commits' Idle rises can = tt
  still_answerable commits commits' (Open locks changes None) rises can = tt
  still_answerable commits commits' (Open locks changes (Some Begin)) rises can = can
  still_answerable commits commits' (Open locks changes (Some (Insert e))) rises can = tt
  still_answerable commits commits' (Open locks changes (Some (Delete e))) rises can = tt
  still_answerable commits commits' (Open locks changes (Some (Search q))) rises can = tt
  still_answerable commits commits' (Open locks changes (Some Commit)) rises can = tt
  still_answerable commits commits' (Open locks changes (Some Abort)) rises can = can
  still_answerable commits commits' (Aborting locks) rises can = tt
  still_answerable commits commits' (Committing number) rises can = omega arith

  more_opened : (begun : Bool) (commits next new old length_new : ℕ) → (begun ≡ false) ⊎ ((begun ≡ true) × (commits < 18446744073709551607) × (next < 18446744073709551607))
      → commits + old < 18446744073709551615 → new ≤ 8 → new ≤ old + cond begun 1 0 → commits + new < 18446744073709551615
  more_opened true commits next new old length_new (inl no_more) all few grown = cc
  more_opened false commits next new old length_new (inl no_more) all few grown = omega arith
  more_opened true commits next new old length_new (inr more) all few grown = omega (arith, more.1)
  more_opened false commits next new old length_new (inr more) all few grown = omega arith

  next_number : (begun : Bool) (commits next : ℕ) → (begun ≡ false) ⊎ ((begun ≡ true) × (commits < 18446744073709551607) × (next < 18446744073709551607))
      → next ≤ 18446744073709551607 → next + from_bool begun ≤ 18446744073709551607
  next_number true commits next (inl no_more) all = cc
  next_number false commits next (inl no_more) all = omega arith
  next_number true commits next (inr more) all = omega (arith, more.2)
  next_number false commits next (inr more) all = omega arith

  module _ (call : Call B) (latest : List (Entry B)) (capacity commits next : ℕ) (sessions : List (Session B)) (kept : IsKept k latest capacity commits next sessions)
      (place : ℕ) (within : place < 8) (least : Option ℕ) (spent : ℕ) (spent_is : spent ≡ claims_held sessions)
      (begun : Bool) (begun_is : begun ≡ begins call (slice_index_or sessions place Idle))
      (lasts : (begun && (nat_le 18446744073709551607 commits || nat_le 18446744073709551607 next)) ≡ false) where
    abbrev x : Session B
    x = slice_index_or sessions place Idle

    abbrev y : Session B
    y = (ask_session k call least spent x).1

    changed : (f : Session B → ℕ) → sum_by f (slice_set sessions place y) + f x ≡ sum_by f sessions + f y
    changed f = sum_by-set f sessions place y Idle (omega (arith, kept.eight))

    pub kept_ask : IsKept k latest capacity commits (next + from_bool begun) (slice_set sessions place y)
    kept_ask = record {
      eight = length-set sessions place y ∙ kept.eight;
      answerable = answerable_set commits place y sessions (can_answer_ask k commits call least spent x (kept.answerable place)) kept.answerable;
      claims = omega (arith, changed claims_of, claims_ask k call least spent x (omega (arith, kept.claims, spent_is)), kept.claims, spent_is);
      room = omega (arith, changed added_by, added_ask k call least spent x, kept.room);
      commits_left = more_opened begun commits next _ (sum_by opened_by sessions) 8 (numbers_left begun _ commits next lasts) kept.commits_left
          (omega (arith, opened_in_all (slice_set sessions place y), length-set sessions place y, kept.eight))
          (rw begun_is (omega (arith, changed opened_by, opened_ask k call least spent x)));
      next_left = next_number begun commits next (numbers_left begun _ commits next lasts) kept.next_left;
      in_order = kept.in_order;
    }

    pub next_fits : next + from_bool begun < 2 ^ 64
    next_fits = omega (arith, next_number begun commits next (numbers_left begun _ commits next lasts) kept.next_left)

  pub from_bool_is : (b : Bool) → from_bool b ≡ cond b 1 0
  from_bool_is true = refl
  from_bool_is false = refl

  -- what is kept stays kept by answering
  pub kept_answer : (latest : List (Entry B)) (capacity commits next : ℕ) (sessions : List (Session B)) → IsKept k latest capacity commits next sessions
      → (place : ℕ) → place < 8 → (x' : Session B) (latest' : List (Entry B)) (capacity' commits' added : ℕ) (sessions' lent : List (Session B))
      → sessions' ≡ slice_set sessions place x' → added ≡ sum_by added_by lent → lent ≡ sessions
      → length latest' + added + added_by x' ≤ capacity' + added_by (slice_index_or sessions place Idle)
      → commits' + opened_by x' ≤ commits + opened_by (slice_index_or sessions place Idle)
      → claims_of x' ≤ claims_of (slice_index_or sessions place Idle)
      → CanAnswer commits' x' → commits ≤ commits' → InOrder k latest' → IsKept k latest' capacity' commits' next sessions'
  kept_answer latest capacity commits next sessions kept place within x' latest' capacity' commits' added sessions' lent set_is added_is lent_is room opened claims can rises in_order =
      let all_added : added ≡ sum_by added_by sessions = added_is ∙ ap (sum_by added_by) lent_is in
      let inside : place < length sessions = omega (arith, kept.eight) in
      let less_added : sum_by added_by (slice_set sessions place x') + added_by (slice_index_or sessions place Idle) ≡ sum_by added_by sessions + added_by x' =
      sum_by-set added_by sessions place x' Idle inside in
      let less_opened : sum_by opened_by (slice_set sessions place x') + opened_by (slice_index_or sessions place Idle) ≡ sum_by opened_by sessions + opened_by x' =
      sum_by-set opened_by sessions place x' Idle inside in
      let less_claims : sum_by claims_of (slice_set sessions place x') + claims_of (slice_index_or sessions place Idle) ≡ sum_by claims_of sessions + claims_of x' =
      sum_by-set claims_of sessions place x' Idle inside in
      let new : IsKept k latest' capacity' commits' next (slice_set sessions place x') = record {
        eight = length-set sessions place x' ∙ kept.eight;
        answerable = answerable_set commits' place x' sessions can (λ p. still_answerable commits commits' (slice_index_or sessions p Idle) rises (kept.answerable p));
        claims = omega (arith, less_claims, kept.claims, claims);
        room = omega (arith, less_added, kept.room, room, all_added);
        commits_left = omega (arith, less_opened, kept.commits_left, opened);
        next_left = kept.next_left;
        in_order = in_order;
      } in
      subst (λ (xs : List (Session B)). IsKept k latest' capacity' commits' next xs) (sym set_is) new

  abbrev idle : (C : Type 0) → Session C
  idle C = Idle

  replicate_reads : (n p : ℕ) → slice_index_or (replicate n (idle B)) p Idle ≡ Idle
  replicate_reads zero p = refl
  replicate_reads (suc n) zero = refl
  replicate_reads (suc n) (suc p) = replicate_reads n p

  idle_each : (n p : ℕ) → CanAnswer 0 (slice_index_or (replicate n (idle B)) p Idle)
  idle_each n p = subst (λ (x : Session B). CanAnswer 0 x) (sym (replicate_reads n p)) tt

  -- a fresh index keeps what is kept
  pub kept_fresh : (latest : List (Entry B)) (capacity : ℕ) (sessions : List (Session B)) → latest ≡ [] → sessions ≡ replicate SESSIONS Idle → IsKept k latest capacity 0 1 sessions
  kept_fresh latest capacity sessions none idle =
      subst (λ (xs : List (Entry B)). IsKept k xs capacity 0 1 sessions) (sym none)
      (subst (λ (xs : List (Session B)). IsKept k [] capacity 0 1 xs) (sym idle) (record {
        eight = refl;
        answerable = idle_each 8;
        claims = omega arith;
        room = omega arith;
        commits_left = omega arith;
        next_left = omega arith;
        in_order = tt;
      }))
