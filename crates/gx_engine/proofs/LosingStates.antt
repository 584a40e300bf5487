-- Transactions that a crash cut off, each held with a session: what the sessions then have.
use Rattle.std.proofs.Common.{◌≡◌, ℕ, zero, suc, ◌+◌, ◌-◌, ◌<◌, ◌≤◌, Bool, true, false, not, ◌&&◌, ◌||◌, inl, inr, cond, Option, Some, None, Result, Ok, Err, List, [], ◌∷◌, ◌++◌, length, map, replicate, refl, ap, sym, ◌∙◌, subst, arith}
use Rattle.std.specs.Prelude.{◌==◌, if◌then◌else◌, nat_lt, slice_set, sum_by, IsOk}
use Rattle.std.specs.List.{slice_index_or, AllByRecursion}
use Rattle.std.specs.Ordering.{match_ordering, is_eq}
use Rattle.std.specs.declared.cmp.Ordering.TheVariants.{Less, Greater}
use Rattle.std.proofs.lemmas.Bool.{eqb-true, eq-eqb, lt-ltb, ne_eqb, or_from}
use Rattle.std.proofs.lemmas.List.{length-append, length-map, map_push}
use Rattle.std.proofs.lemmas.List.Sums.{sum_by-cons}
use Rattle.gx_geom.specs.declared.refusal.Refusal.{Refusal}
use Rattle.gx_geom.specs.declared.refusal.Refusal.TheVariants.{ClaimsFull}
use Rattle.gx_machine.specs.declared.call.Call.TheVariants.{Insert}
use Rattle.gx_machine.specs.declared.entry.Entry.{Entry}
use Rattle.gx_machine.specs.Keys.{Keys, IsLawful, entry_cmp, same_entry}
use Rattle.gx_machine.specs.Sets.{has, including}
use Rattle.gx_machine.specs.Sessions.{Locks, conflicts, unless_busy, with_claim}
use Rattle.gx_machine.specs.Least.{least_barring}
use Rattle.gx_machine.proofs.Searched.{turned}
use Rattle.gx_node.specs.Lists.{sum_over}
use Rattle.gx_recovery.specs.Records.{Touch}
use Rattle.gx_recovery.proofs.Tests.{true_or_false, clash}
use Rattle.gx_index_laws.specs.Openings.{numbers_of, listed_for}
use Rattle.gx_index_laws.proofs.Numbered.{touches, numbers_distinct, listed_sum, touched_by_each}
use Rattle.gx_txn.specs.declared.note.Note as txn
use Rattle.gx_txn.specs.Notes.{noting}
use Rattle.gx_txn.specs.Tables.{Held, held_by, claims_in, locks_for, with_locks, with_notes}
use Rattle.gx_phases.specs.declared.phase.Phase.{Phase}
use Rattle.gx_phases.specs.declared.phase.Phase.TheVariants as phase
use Rattle.gx_phases.specs.Moves.{TakesUp, may_lose}
use Rattle.gx_phases.specs.States.{State, fresh_state, phase_at}
use Rattle.gx_engine.specs.declared.work.Work.{Work}
use Rattle.gx_engine.specs.declared.work.Work.TheVariants.{Rests}
use Rattle.gx_engine.specs.Losing.{AllRest, IsAtRest, ComesBefore, ComeInOrder, OnlyHeld, note_in, session_after}
use Rattle.gx_engine.specs.Noted.{touched_by}
use Rattle.gx_engine.proofs.Losing.{last_of, numbers_again, numbers_more, IsEnd, last_number, groups_of, IsPlaced, placed_again, placed_new}

pub index_map : {X Y : Type 0} (f : X → Y) (xs : List X) (i : ℕ) (d : X) → slice_index_or (map f xs) i (f d) ≡ f (slice_index_or xs i d)
index_map f [] i d = refl
index_map f (x ∷ xs) zero d = refl
index_map f (x ∷ xs) (suc i) d = index_map f xs i d

map_set : {X Y : Type 0} (f : X → Y) (xs : List X) (i : ℕ) (y : X) → map f (slice_set xs i y) ≡ slice_set (map f xs) i (f y)
map_set f [] i y = refl
map_set f (x ∷ xs) zero y = refl
map_set {X} {Y} f (x ∷ xs) (suc i) y = ap (λ (ys : List Y). f x ∷ ys) (map_set f xs i y)

passed : (a b : Bool) (m : ℕ) (rest : Option ℕ) → b ≡ false → rest ≡ None → (if a && b then Some m else rest) ≡ None
passed true b m rest clear none = ap (λ c. if c then Some m else rest) clear ∙ none
passed false b m rest clear none = none

module _ {B : Type 0} where
  -- what a session has of the touches of its transaction
  abbrev pub entry_in : Touch (Entry B) → Entry B
  entry_in x = x.entry

  abbrev pub held_for : List (Touch (Entry B)) → Held B
  held_for g = record { locks = record { claims = map entry_in g; predicates = [] }; notes = map note_in g }

  abbrev pub phase_for : List (Touch (Entry B)) → Phase B (Work B)
  phase_for [] = phase.Free
  phase_for (x ∷ g) = phase.Undoing 0 Rests

  abbrev pub number_for : List (Touch (Entry B)) → ℕ
  number_for [] = 0
  number_for (x ∷ g) = x.transaction

  -- the sessions once these touches are taken up
  abbrev pub taken_up : State B (Work B) → List (Touch (Entry B)) → State B (Work B)
  taken_up old xs =
      record old { phases = map phase_for (groups_of xs); table = map held_for (groups_of xs); transactions = map number_for (groups_of xs) }

  pub taken_none : (old : State B (Work B)) → old ≡ fresh_state (Work B) old.latest old.durable old.next → old ≡ taken_up old []
  taken_none old fresh = fresh ∙ sym (ap (λ (s : State B (Work B)). taken_up s []) fresh)

  phase_last : (g : List (Touch (Entry B))) (x : Touch (Entry B)) → phase_for (g ++ x ∷ []) ≡ phase.Undoing 0 Rests
  phase_last [] x = refl
  phase_last (y ∷ g) x = refl

  number_last : (t : ℕ) (x : Touch (Entry B)) (ys : List (Touch (Entry B))) → x.transaction ≡ t → number_for (touched_by t ys ++ x ∷ []) ≡ t
  number_last t x [] is = is
  number_last t x (y ∷ ys) is = by (y.transaction == t) refl (number_last t x ys is)
    where
      by : (b : Bool) → (y.transaction == t) ≡ b → number_for (touched_by t ys ++ x ∷ []) ≡ t → number_for (cond b (y ∷ touched_by t ys) (touched_by t ys) ++ x ∷ []) ≡ t
      by true own rest = eqb-true y.transaction t own
      by false other rest = rest

  claims_are : (gs : List (List (Touch (Entry B)))) → claims_in (map held_for gs) ≡ sum_by length gs
  claims_are [] = refl
  claims_are (g ∷ gs) =
      let first : claims_in (map held_for (g ∷ gs)) ≡ length (map entry_in g) + claims_in (map held_for gs) =
      sum_by-cons (λ (h : Held B). length h.locks.claims) (held_for g) (map held_for gs) in
      let second : sum_by length (g ∷ gs) ≡ length g + sum_by length gs = sum_by-cons length g gs in
      let size : length (map entry_in g) ≡ length g = length-map g entry_in in
      let rest = claims_are gs in
      omega (arith, first, second, size, rest)

  claims_few : (ys : List (Touch (Entry B))) → claims_in (map held_for (groups_of ys)) ≤ length ys
  claims_few ys =
      let all = claims_are (groups_of ys) in
      let sizes : sum_by length (groups_of ys) ≤ sum_over (λ t. length (touched_by t ys)) (numbers_of ys) = listed_sum (λ t. touched_by t ys) 8 (numbers_of ys) in
      let each : sum_over (λ t. length (touched_by t ys)) (numbers_of ys) ≤ length ys = touched_by_each ys (numbers_of ys) (numbers_distinct ys) in
      omega (arith, all, sizes, each)

pub low_number : {B : Type 0} (k : Keys B) (y z : Touch (Entry B)) → ComesBefore k y z → y.transaction ≤ z.transaction
low_number k y z before =
    elim before [
      | inl lower ↦ (let less = lower.0 in omega (arith, less))
      | inr its ↦ (let same = its.0 in omega (arith, same))
    ]

module _ {B : Type 0} (k : Keys B) (l : IsLawful k) (x : Touch (Entry B)) where
  abbrev e : Entry B
  e = x.entry

  abbrev own : List (Touch (Entry B)) → List (Touch (Entry B))
  own ys = touched_by x.transaction ys

  not_same : (y : Touch (Entry B)) → ComesBefore k y x → same_entry k e y.entry ≡ false
  not_same y before =
      elim before [
        | inl lower ↦ lower.1
        | inr its ↦ ap is_eq (turned k l y.entry e Less its.1)
      ]

  greater : (y : Touch (Entry B)) → (y.transaction == x.transaction) ≡ true → ComesBefore k y x → entry_cmp k e y.entry ≡ Greater
  greater y same before =
      elim before [
        | inl lower ↦ (let less = lower.0 in let one = eqb-true y.transaction x.transaction same in absurd (omega (arith, less, one)))
        | inr its ↦ turned k l y.entry e Less its.1
      ]

  -- no session claims the entry
  lacks : (u : ℕ) (ys : List (Touch (Entry B))) → AllByRecursion (λ y. ComesBefore k y x) ys → has k e (map entry_in (touched_by u ys)) ≡ false
  lacks u [] before = refl
  lacks u (y ∷ ys) before =
      elim (y.transaction == u) as (λ b. has k e (map entry_in (cond b (y ∷ touched_by u ys) (touched_by u ys))) ≡ false) [
        | true ↦ or_from (same_entry k e y.entry) (has k e (map entry_in (touched_by u ys))) (not_same y before.0) (lacks u ys before.1)
        | false ↦ lacks u ys before.1
      ]

  least_none : (f : ℕ → List (Touch (Entry B))) (n s m : ℕ) (ts : List ℕ) → ((u : ℕ) → has k e (map entry_in (f u)) ≡ false)
      → least_barring (λ (h : Held B). conflicts k (Insert e) h.locks) s m (map held_for (listed_for n f ts)) ≡ None
  least_none f zero s m ts none = refl
  least_none f (suc n) s m [] none = passed (not (m == s)) false m _ refl (least_none f n s (m + 1) [] none)
  least_none f (suc n) s m (t ∷ ts) none =
      passed (not (m == s)) (conflicts k (Insert e) (held_for (f t)).locks) m _ (or_from (has k e (map entry_in (f t))) false (none t) refl) (least_none f n s (m + 1) ts none)

  -- its own session's claims and notes get it at their end
  claims_more : (ys : List (Touch (Entry B))) → AllByRecursion (λ y. ComesBefore k y x) ys → including k e (map entry_in (own ys)) ≡ map entry_in (own ys) ++ e ∷ []
  claims_more [] before = refl
  claims_more (y ∷ ys) before = by (y.transaction == x.transaction) refl (claims_more ys before.1)
    where
      by : (b : Bool) → (y.transaction == x.transaction) ≡ b → including k e (map entry_in (own ys)) ≡ map entry_in (own ys) ++ e ∷ []
          → including k e (map entry_in (cond b (y ∷ own ys) (own ys))) ≡ map entry_in (cond b (y ∷ own ys) (own ys)) ++ e ∷ []
      by true same rest =
          ap (λ o. match_ordering o (e ∷ y.entry ∷ map entry_in (own ys)) (y.entry ∷ map entry_in (own ys)) (y.entry ∷ including k e (map entry_in (own ys)))) (greater y same before.0)
          ∙ ap (λ (es : List (Entry B)). y.entry ∷ es) rest
      by false other rest = rest

  notes_more : (ys : List (Touch (Entry B))) → AllByRecursion (λ y. ComesBefore k y x) ys → noting k (note_in x) (map note_in (own ys)) ≡ map note_in (own ys) ++ note_in x ∷ []
  notes_more [] before = refl
  notes_more (y ∷ ys) before = by (y.transaction == x.transaction) refl (notes_more ys before.1)
    where
      by : (b : Bool) → (y.transaction == x.transaction) ≡ b → noting k (note_in x) (map note_in (own ys)) ≡ map note_in (own ys) ++ note_in x ∷ []
          → noting k (note_in x) (map note_in (cond b (y ∷ own ys) (own ys))) ≡ map note_in (cond b (y ∷ own ys) (own ys)) ++ note_in x ∷ []
      by true same rest =
          ap (λ o. match_ordering o (note_in x ∷ note_in y ∷ map note_in (own ys)) (record (note_in y) { leaf = x.leaf } ∷ map note_in (own ys)) (note_in y ∷ noting k (note_in x) (map note_in (own ys)))) (greater y same before.0)
          ∙ ap (λ (ns : List (txn.Note B)). note_in y ∷ ns) rest
      by false other rest = rest

  abbrev locks : List (Touch (Entry B)) → Locks B
  locks g = record { claims = map entry_in g; predicates = [] }

  abbrev chosen : Locks B → List (Entry B) → Bool → Bool → Result (Locks B) Refusal
  chosen old more claimed room = if claimed then Ok old else if room then Ok (record { claims = more; predicates = [] }) else Err ClaimsFull

  -- one touch more is taken up, by the session at the place of its transaction
  module _ (ys : List (Touch (Entry B))) (before : AllByRecursion (λ y. ComesBefore k y x) ys) (few : length ys < 512) (s : ℕ) (p : IsPlaced x ys (s - 1)) where
    abbrev table : List (Held B)
    table = map held_for (groups_of ys)

    here : held_by s table ≡ held_for (own ys)
    here = index_map held_for (groups_of ys) (s - 1) [] ∙ ap held_for p.before

    lock_given : locks_for k (Insert e) s table ≡ Ok (locks (own ys ++ x ∷ []))
    lock_given =
        let spent : ℕ = claims_in table in
        let low : spent < 512 = (let all = claims_few ys in omega (arith, all, few)) in
        ap (λ o. unless_busy o (with_claim k e spent (held_by s table).locks)) (least_none (λ t. touched_by t ys) 8 s 1 (numbers_of ys) (λ u. lacks u ys before))
        ∙ ap (λ (h : Held B). with_claim k e spent h.locks) here
        ∙ ap (λ b. chosen (locks (own ys)) (including k e (map entry_in (own ys))) b (nat_lt spent 512)) (lacks x.transaction ys before)
        ∙ ap (chosen (locks (own ys)) (including k e (map entry_in (own ys))) false) (lt-ltb spent 512 low)
        ∙ ap (λ (es : List (Entry B)). Ok (record { claims = es; predicates = [] })) (claims_more ys before ∙ sym (map_push entry_in (own ys) x))

    pub took : (old : State B (Work B)) (result : Result (Unit {0}) Refusal) (new : State B (Work B))
        → TakesUp k (locks_for k (Insert e) s table) s x.transaction (note_in x) Rests (taken_up old ys) result new
        → IsOk result × (new ≡ taken_up old (ys ++ x ∷ []))
    took old result new takes =
        let given = subst (λ (r : Result (Locks B) Refusal). TakesUp k r s x.transaction (note_in x) Rests (taken_up old ys) result new) lock_given takes in
        let gs : List (List (Touch (Entry B))) = groups_of ys in
        let phases : slice_set (map phase_for gs) (s - 1) (phase.Undoing 0 Rests) ≡ map phase_for (groups_of (ys ++ x ∷ [])) =
        ap (slice_set (map phase_for gs) (s - 1)) (sym (phase_last (own ys) x)) ∙ sym (map_set phase_for gs (s - 1) (own ys ++ x ∷ [])) ∙ ap (map phase_for) (sym p.after) in
        let notes : noting k (note_in x) (held_by s table).notes ≡ map note_in (own ys ++ x ∷ []) =
        ap (λ (h : Held B). noting k (note_in x) h.notes) here ∙ notes_more ys before ∙ sym (map_push note_in (own ys) x) in
        let held : with_notes (noting k (note_in x) (held_by s table).notes) (with_locks (locks (own ys ++ x ∷ [])) (held_by s table)) ≡ held_for (own ys ++ x ∷ []) =
        ap (λ (ns : List (txn.Note B)). record { locks = locks (own ys ++ x ∷ []); notes = ns }) notes in
        let all : slice_set table (s - 1) (with_notes (noting k (note_in x) (held_by s table).notes) (with_locks (locks (own ys ++ x ∷ [])) (held_by s table))) ≡ map held_for (groups_of (ys ++ x ∷ [])) =
        ap (slice_set table (s - 1)) held ∙ sym (map_set held_for gs (s - 1) (own ys ++ x ∷ [])) ∙ ap (map held_for) (sym p.after) in
        let numbers : slice_set (map number_for gs) (s - 1) x.transaction ≡ map number_for (groups_of (ys ++ x ∷ [])) =
        ap (slice_set (map number_for gs) (s - 1)) (sym (number_last x.transaction x ys refl)) ∙ sym (map_set number_for gs (s - 1) (own ys ++ x ∷ [])) ∙ ap (map number_for) (sym p.after) in
        (given.0, given.1 ∙ (λ i. record old { phases = phases i; table = all i; transactions = numbers i }))

  -- if the last touch is of another transaction, so are all
  unnamed : (ys : List (Touch (Entry B))) → ComeInOrder k ys → AllByRecursion (λ y. ComesBefore k y x) ys → (last_of ys ≡ Some x.transaction → ⊥) → touches x.transaction ys ≡ false
  unnamed [] order before other = refl
  unnamed (y ∷ []) order before other =
      or_from (y.transaction == x.transaction) false (ne_eqb y.transaction x.transaction (λ same. other (ap (λ n. Some n) same))) refl
  unnamed (y ∷ z ∷ zs) order before other =
      let rest : touches x.transaction (z ∷ zs) ≡ false = unnamed (z ∷ zs) order.1 before.1 other in
      or_from (y.transaction == x.transaction) (touches x.transaction (z ∷ zs))
      (ne_eqb y.transaction x.transaction (λ same.
      let first = low_number k y z order.0.0 in
      let second = low_number k z x before.1.0 in
      let one : z.transaction ≡ x.transaction = omega (arith, same, first, second) in
      clash (touches x.transaction (z ∷ zs)) (ap (λ b. b || touches x.transaction zs) (eq-eqb z.transaction x.transaction one)) rest))
      rest

  -- the session of the transaction, after the touches before
  pub record IsNext (ys : List (Touch (Entry B))) (s : ℕ) : Type 0 where
    pub is : (0 < s) × (s < 9)
    pub placed : IsPlaced x ys (s - 1)
    pub count : s ≡ length (numbers_of (ys ++ x ∷ []))

  module _ (ys : List (Touch (Entry B))) (order : ComeInOrder k ys) (before : AllByRecursion (λ y. ComesBefore k y x) ys) (eight : length (numbers_of (ys ++ x ∷ [])) ≤ 8) where
    next_new : (last_of ys ≡ Some x.transaction → ⊥) → IsNext ys (length (numbers_of ys) + 1)
    next_new other =
        let none : touches x.transaction ys ≡ false = unnamed ys order before other in
        let size : length (numbers_of (ys ++ x ∷ [])) ≡ length (numbers_of ys) + 1 = ap length (numbers_more x ys none) ∙ length-append (numbers_of ys) (x.transaction ∷ []) in
        let place : ℕ = (length (numbers_of ys) + 1) - 1 in
        let is : length (numbers_of ys) ≡ place = omega arith in
        record {
          is = (omega arith, omega (arith, size, eight));
          placed = placed_new x ys none place is (omega (arith, size, eight));
          count = sym size;
        }

    next_again : last_of ys ≡ Some x.transaction → IsNext ys (length (numbers_of ys))
    next_again last =
        let end : IsEnd x.transaction (numbers_of ys) = last_number x.transaction ys last in
        let long : length (numbers_of ys) ≡ length end.before + 1 = ap length end.is ∙ length-append end.before (x.transaction ∷ []) in
        let same : length (numbers_of (ys ++ x ∷ [])) ≡ length (numbers_of ys) = ap length (numbers_again x ys last) in
        record {
          is = (omega (arith, long), omega (arith, same, eight));
          placed = placed_again x ys last (omega (arith, same, eight)) (length (numbers_of ys) - 1) (omega (arith, long));
          count = sym same;
        }

    pub next_session : (last : Option ℕ) → last ≡ last_of ys → (s : ℕ) → s ≡ length (numbers_of ys) → IsNext ys (session_after s last x.transaction)
    next_session None last s size =
        subst (λ n. IsNext ys (n + 1)) (sym size) (next_new (λ same. let no : None ≡ Some x.transaction = last ∙ same in let never : ⊥ = cc in absurd never))
    next_session (Some t) last s size =
        elim (true_or_false (t == x.transaction)) [
          | inl is ↦
              subst (λ b. IsNext ys (if b then s else s + 1)) (sym is)
              (subst (λ n. IsNext ys n) (sym size) (next_again (sym last ∙ ap (λ n. Some n) (eqb-true t x.transaction is))))
          | inr other ↦
              subst (λ b. IsNext ys (if b then s else s + 1)) (sym other)
              (subst (λ n. IsNext ys (n + 1)) (sym size)
              (next_new (λ same. clash (t == x.transaction) (eq-eqb t x.transaction (one t x.transaction (last ∙ same))) other)))
        ]
      where
        one : (a b : ℕ) → Some a ≡ Some b → a ≡ b
        one a b h = cc

-- what holds of every step, whatever the notes are
module _ {B : Type 0} (k : Keys B) (s t : ℕ) (n : txn.Note B) (old : State B (Work B)) (result : Result (Unit {0}) Refusal) (new : State B (Work B)) where
  pub took_only : (r : Result (Locks B) Refusal) (first : State B (Work B)) → OnlyHeld first old → TakesUp k r s t n Rests old result new → OnlyHeld first new
  took_only (Ok ls) first only takes =
      takes.1 ∙ ap (λ (o : State B (Work B)). record o { phases = new'.phases; table = new'.table; transactions = new'.transactions }) only
      ∙ (λ i. record first { phases = (sym takes.1 i).phases; table = (sym takes.1 i).table; transactions = (sym takes.1 i).transactions })
    where
      new' : State B (Work B)
      new' = record old {
        phases = slice_set old.phases (s - 1) (phase.Undoing 0 Rests);
        table = slice_set old.table (s - 1) (with_notes (noting k n (held_by s old.table).notes) (with_locks ls (held_by s old.table)));
        transactions = slice_set old.transactions (s - 1) t;
      }
  took_only (Err why) first only takes = subst (λ (o : State B (Work B)). OnlyHeld first o) (sym takes.1) only

  rest_set : (ps : List (Phase B (Work B))) (i : ℕ) → AllRest ps → AllRest (slice_set ps i (phase.Undoing 0 Rests))
  rest_set [] i all = tt
  rest_set (p ∷ ps) zero all = ((refl, tt), all.1)
  rest_set (p ∷ ps) (suc i) all = (all.0, rest_set ps i all.1)

  pub took_rest : (r : Result (Locks B) Refusal) → AllRest old.phases → TakesUp k r s t n Rests old result new → AllRest new.phases
  took_rest (Ok ls) all takes = subst (λ (o : State B (Work B)). AllRest o.phases) (sym takes.1) (rest_set old.phases (s - 1) all)
  took_rest (Err why) all takes = subst (λ (o : State B (Work B)). AllRest o.phases) (sym takes.1) all

all_free : (B : Type 0) (n : ℕ) → AllRest {B = B} (replicate n phase.Free)
all_free B zero = tt
all_free B (suc n) = (tt, all_free B n)

pub fresh_rest : {B : Type 0} (old : State B (Work B)) → old ≡ fresh_state (Work B) old.latest old.durable old.next → AllRest old.phases
fresh_rest {B} old fresh = subst (λ (o : State B (Work B)). AllRest o.phases) (sym fresh) (all_free B 8)

may_by : {B : Type 0} (p : Phase B (Work B)) → IsAtRest p → may_lose p ≡ true
may_by phase.Free rest = refl
may_by phase.Working rest = absurd rest
may_by (phase.Open call work) rest = absurd rest
may_by (phase.Undoing restored work) rest = refl
may_by (phase.Waiting number) rest = absurd rest

pub rest_may_lose : {B : Type 0} (ps : List (Phase B (Work B))) (i : ℕ) → AllRest ps → may_lose (phase_at i ps) ≡ true
rest_may_lose [] i all = refl
rest_may_lose (p ∷ ps) zero all = may_by p all.0
rest_may_lose (p ∷ ps) (suc i) all = rest_may_lose ps i all.1

-- how far the sessions are once these touches are taken up
pub record IsSoFar {B : Type 0} (old : State B (Work B)) (ys : List (Touch (Entry B))) (session : ℕ) (last : Option ℕ) (now : State B (Work B)) : Type 0 where
  pub ends : last ≡ last_of ys
  pub count : session ≡ length (numbers_of ys)
  pub state : now ≡ taken_up old ys
