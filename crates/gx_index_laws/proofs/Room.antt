-- There is room in the log for what sessions claim: each entry that an open transaction has touched is claimed by its
-- session, so that there are at most as many as claims, by at most eight transactions.
use Rattle.std.proofs.Common.{◌≡◌, ◌≢◌, ℕ, zero, suc, ◌+◌, ◌-◌, ◌<◌, ◌≤◌, Bool, true, false, not, cond, ◌&&◌, ◌||◌, inl, inr, List, [], ◌∷◌, ◌++◌, filter, map, length, refl, ap, sym, ◌∙◌, subst, arith}
use Rattle.std.specs.Prelude.{◌==◌, if◌then◌else◌}
use Rattle.std.specs.List.{list_any, slice_index_or}
use Rattle.std.proofs.lemmas.Bool.{eqb-true, eq-eqb}
use Rattle.std.proofs.lemmas.List.Sums.{sum_by-cons}
use Rattle.std.proofs.Math.Decide.{ℕ_discrete}
use Rattle.gx_machine.specs.declared.entry.Entry.{Entry}
use Rattle.gx_machine.specs.Machine.{is_session}
use Rattle.gx_machine.proofs.Places.{session_bounds}
use Rattle.gx_events.specs.Slots.{Slot, Free, locks_held, slot_at}
use Rattle.gx_events.specs.Asking.{claims_held}
use Rattle.gx_recovery.specs.Known.{Known, IsLawful, same}
use Rattle.gx_recovery.specs.Records.{Touch}
use Rattle.gx_recovery.specs.Damage.{transactions}
use Rattle.gx_recovery.specs.Coming.{HasRoom}
use Rattle.gx_recovery.proofs.Tests.{true_or_false, and_first, and_second, either_of, or_second, or_none_first, or_none_second}
use Rattle.gx_recovery.proofs.Logs.{and_all}
use Rattle.gx_recovery.proofs.Touches.{Before, InOrder, same_is, apart_if_less}
use Rattle.gx_node.specs.Lists.{Each}
use Rattle.gx_index_laws.proofs.Tools.{not_true}

or_first : (a b : Bool) → a ≡ true → (a || b) ≡ true
or_first true b h = refl
or_first false b h = let no : ⊥ = cc in absurd no

-- If each of a list is paired with one of another, and no two with the same one, the second is no shorter.
module _ {X Y : Type 0} (pairs : X → Y → Bool) where
  abbrev Apart : List X → Type 0
  Apart [] = Unit {0}
  Apart (x ∷ xs) = Each (λ z. (y : Y) → pairs x y ≡ true → pairs z y ≡ false) xs × Apart xs

  no_longer : (p : Y → Bool) (ys : List Y) → length (filter p ys) ≤ length ys
  no_longer p [] = omega arith
  no_longer p (y ∷ ys) =
      let rest = no_longer p ys in
      elim (p y) as (λ t. length (cond t (y ∷ filter p ys) (filter p ys)) ≤ length (y ∷ ys)) [ true ↦ omega (arith, rest) | false ↦ omega (arith, rest) ]

  without_by : (x : X) (y : Y) (ys : List Y) (s : Bool) → (s || list_any (pairs x) ys) ≡ true
      → (list_any (pairs x) ys ≡ true → length (filter (λ z. not (pairs x z)) ys) < length ys)
      → length (cond (not s) (y ∷ filter (λ z. not (pairs x z)) ys) (filter (λ z. not (pairs x z)) ys)) < length (y ∷ ys)
  without_by x y ys true there rest = (let less = no_longer (λ z. not (pairs x z)) ys in omega (arith, less))
  without_by x y ys false there rest = (let less = rest there in omega (arith, less))

  shorter_without : (x : X) (ys : List Y) → list_any (pairs x) ys ≡ true → length (filter (λ z. not (pairs x z)) ys) < length ys
  shorter_without x [] there = let no : ⊥ = cc in absurd no
  shorter_without x (y ∷ ys) there = without_by x y ys (pairs x y) there (shorter_without x ys)

  still_by : (x z : X) (y : Y) (ys : List Y) (s : Bool) → pairs x y ≡ s → (s ≡ true → pairs z y ≡ false) → (pairs z y || list_any (pairs z) ys) ≡ true
      → (list_any (pairs z) ys ≡ true → list_any (pairs z) (filter (λ w. not (pairs x w)) ys) ≡ true)
      → list_any (pairs z) (cond (not s) (y ∷ filter (λ w. not (pairs x w)) ys) (filter (λ w. not (pairs x w)) ys)) ≡ true
  still_by x z y ys true is other there rest =
      elim (either_of (pairs z y) (list_any (pairs z) ys) there) [
        | inl here ↦ not_true (pairs z y) here (other refl)
        | inr later ↦ rest later
      ]
  still_by x z y ys false is other there rest =
      elim (either_of (pairs z y) (list_any (pairs z) ys) there) [
        | inl here ↦ or_first (pairs z y) (list_any (pairs z) (filter (λ w. not (pairs x w)) ys)) here
        | inr later ↦ or_second (pairs z y) (list_any (pairs z) (filter (λ w. not (pairs x w)) ys)) (rest later)
      ]

  still_there : (x z : X) (ys : List Y) → ((y : Y) → pairs x y ≡ true → pairs z y ≡ false) → list_any (pairs z) ys ≡ true
      → list_any (pairs z) (filter (λ w. not (pairs x w)) ys) ≡ true
  still_there x z [] other there = there
  still_there x z (y ∷ ys) other there = still_by x z y ys (pairs x y) refl (other y) there (still_there x z ys other)

  all_still : (x : X) (zs : List X) (ys : List Y) → Each (λ z. (y : Y) → pairs x y ≡ true → pairs z y ≡ false) zs → Each (λ z. list_any (pairs z) ys ≡ true) zs
      → Each (λ z. list_any (pairs z) (filter (λ w. not (pairs x w)) ys) ≡ true) zs
  all_still x [] ys others there = tt
  all_still x (z ∷ zs) ys others there = (still_there x z ys others.0 there.0, all_still x zs ys others.1 there.1)

  pub no_shorter : (xs : List X) (ys : List Y) → Apart xs → Each (λ x. list_any (pairs x) ys ≡ true) xs → length xs ≤ length ys
  no_shorter [] ys apart there = omega arith
  no_shorter (x ∷ xs) ys apart there =
      let rest = no_shorter xs (filter (λ w. not (pairs x w)) ys) apart.1 (all_still x xs ys apart.0 there.1) in
      let less = shorter_without x ys there.0 in
      omega (arith, rest, less)

-- Transactions.

abbrev is_number : ℕ → ℕ → Bool
is_number x y = y == x

without_equal : (x : ℕ) (y : ℕ) → is_number x y ≡ true → (z : ℕ) → z ≢ x → is_number z y ≡ false
without_equal x y is z ne =
    elim (true_or_false (y == z)) [
      | inl same ↦ absurd (ne (sym (eqb-true y z same) ∙ eqb-true y x is))
      | inr other ↦ other
    ]

module _ {E : Type 0} where
  drop_number : (t : ℕ) (numbers : List ℕ) (xs : List (Touch E)) → list_any (λ y. y.transaction == t) xs ≡ false
      → Each (λ x. list_any (is_number x.transaction) numbers ≡ true) xs
      → Each (λ x. list_any (is_number x.transaction) (filter (λ w. not (is_number t w)) numbers) ≡ true) xs
  drop_number t numbers [] none there = tt
  drop_number t numbers (x ∷ xs) none there =
      let here : (x.transaction == t) ≡ false = or_none_first (x.transaction == t) (list_any (λ y. y.transaction == t) xs) none in
      let ne : x.transaction ≢ t = λ e. not_true (x.transaction == t) (eq-eqb x.transaction t e) here in (
        still_there is_number t x.transaction numbers (λ y is. without_equal t y is x.transaction ne) there.0,
        drop_number t numbers xs (or_none_second (x.transaction == t) (list_any (λ y. y.transaction == t) xs) none) there.1,
      )

  few_by : (x : Touch E) (xs : List (Touch E)) (numbers : List ℕ) (s : Bool) → list_any (λ y. y.transaction == x.transaction) xs ≡ s
      → list_any (is_number x.transaction) numbers ≡ true → Each (λ z. list_any (is_number z.transaction) numbers ≡ true) xs
      → ((more : List ℕ) → Each (λ z. list_any (is_number z.transaction) more ≡ true) xs → transactions xs ≤ length more)
      → (if s then transactions xs else transactions xs + 1) ≤ length numbers
  few_by x xs numbers true is here there rest = rest numbers there
  few_by x xs numbers false is here there rest =
      let less = shorter_without is_number x.transaction numbers here in
      let fewer = rest (filter (λ w. not (is_number x.transaction w)) numbers) (drop_number x.transaction numbers xs is there) in
      omega (arith, less, fewer)

  pub few_transactions : (xs : List (Touch E)) (numbers : List ℕ) → Each (λ x. list_any (is_number x.transaction) numbers ≡ true) xs
      → transactions xs ≤ length numbers
  few_transactions [] numbers there = omega arith
  few_transactions (x ∷ xs) numbers there =
      few_by x xs numbers (list_any (λ y. y.transaction == x.transaction) xs) refl there.0 there.1 (λ more all. few_transactions xs more all)

-- the transactions of sessions up to n
abbrev numbers_to : (ℕ → ℕ) → ℕ → List ℕ
numbers_to f zero = []
numbers_to f (suc n) = f (suc n) ∷ numbers_to f n

length_numbers : (f : ℕ → ℕ) (n : ℕ) → length (numbers_to f n) ≡ n
length_numbers f zero = refl
length_numbers f (suc n) = let rest = length_numbers f n in omega (arith, rest)

among_numbers : (f : ℕ → ℕ) (a n : ℕ) → 0 < a → a ≤ n → list_any (is_number (f a)) (numbers_to f n) ≡ true
among_numbers f a zero low high = absurd (omega arith)
among_numbers f a (suc n) low high =
    elim (ℕ_discrete (suc n) a) [
      | yes e ↦ or_first (f (suc n) == f a) (list_any (is_number (f a)) (numbers_to f n)) (eq-eqb (f (suc n)) (f a) (ap f e))
      | no ne ↦ or_second (f (suc n) == f a) (list_any (is_number (f a)) (numbers_to f n)) (among_numbers f a n low (omega arith))
    ]

-- Claims, each with its session's transaction.

module _ {B P : Type 0} (k : Known (Entry B) P) (l : IsLawful k) where
  abbrev claims : Touch (Entry B) → ℕ × Entry B → Bool
  claims x y = (y.0 == x.transaction) && same k x.entry y.1

  abbrev with_number : ℕ → List (Entry B) → List (ℕ × Entry B)
  with_number t es = map (λ e. (t, e)) es

  abbrev all_claims : (ℕ → ℕ) → ℕ → List (Slot B) → List (ℕ × Entry B)
  all_claims f n [] = []
  all_claims f n (slot ∷ slots) = with_number (f n) (locks_held slot).claims ++ all_claims f (suc n) slots

  length_with : (t : ℕ) (es : List (Entry B)) (ys : List (ℕ × Entry B)) → length (with_number t es ++ ys) ≡ length es + length ys
  length_with t [] ys = omega arith
  length_with t (e ∷ es) ys = let rest = length_with t es ys in omega (arith, rest)

  pub length_claims : (f : ℕ → ℕ) (n : ℕ) (slots : List (Slot B)) → length (all_claims f n slots) ≡ claims_held slots
  length_claims f n [] = refl
  length_claims f n (slot ∷ slots) =
      length_with (f n) (locks_held slot).claims (all_claims f (suc n) slots) ∙ ap (λ m. length (locks_held slot).claims + m) (length_claims f (suc n) slots)
      ∙ sym (sum_by-cons (λ x. length (locks_held x).claims) slot slots)

  apart_rest : (x : Touch (Entry B)) (xs : List (Touch (Entry B))) → Before k x xs → Each (λ z. (y : ℕ × Entry B) → claims x y ≡ true → claims z y ≡ false) xs
  apart_rest x [] before = tt
  apart_rest x (z ∷ zs) before = (
    (λ y is.
        elim (true_or_false (claims z y)) [
          | inl both ↦ apart_if_less k l x z before.0
              (sym (eqb-true y.0 x.transaction (and_first (y.0 == x.transaction) (same k x.entry y.1) is)) ∙ eqb-true y.0 z.transaction (and_first (y.0 == z.transaction) (same k z.entry y.1) both))
              (same_is k l x.entry y.1 (and_second (y.0 == x.transaction) (same k x.entry y.1) is) ∙ sym (same_is k l z.entry y.1 (and_second (y.0 == z.transaction) (same k z.entry y.1) both)))
          | inr other ↦ other
        ]),
    apart_rest x zs before.1,
  )

  apart_claims : (xs : List (Touch (Entry B))) → InOrder k xs → Apart claims xs
  apart_claims [] o = tt
  apart_claims (x ∷ xs) o = (apart_rest x xs o.0, apart_claims xs o.1)

  among_with : (x : Touch (Entry B)) (t : ℕ) (es : List (Entry B)) (ys : List (ℕ × Entry B)) → t ≡ x.transaction → list_any (same k x.entry) es ≡ true
      → list_any (claims x) (with_number t es ++ ys) ≡ true
  among_with x t [] ys is there = let no : ⊥ = cc in absurd no
  among_with x t (e ∷ es) ys is there =
      elim (either_of (same k x.entry e) (list_any (same k x.entry) es) there) [
        | inl here ↦ or_first (claims x (t, e)) (list_any (claims x) (with_number t es ++ ys)) (and_all (t == x.transaction) (same k x.entry e) (eq-eqb t x.transaction is) here)
        | inr later ↦ or_second (claims x (t, e)) (list_any (claims x) (with_number t es ++ ys)) (among_with x t es ys is later)
      ]

  among_later : (x : Touch (Entry B)) (t : ℕ) (es : List (Entry B)) (ys : List (ℕ × Entry B)) → list_any (claims x) ys ≡ true
      → list_any (claims x) (with_number t es ++ ys) ≡ true
  among_later x t [] ys there = there
  among_later x t (e ∷ es) ys there = or_second (claims x (t, e)) (list_any (claims x) (with_number t es ++ ys)) (among_later x t es ys there)

  among_place : (x : Touch (Entry B)) (f : ℕ → ℕ) (n i : ℕ) (slots : List (Slot B)) → f (n + i) ≡ x.transaction
      → list_any (same k x.entry) (locks_held (slice_index_or slots i Free)).claims ≡ true → list_any (claims x) (all_claims f n slots) ≡ true
  among_place x f n i [] is there = let no : ⊥ = cc in absurd no
  among_place x f n zero (slot ∷ slots) is there =
      let at : n + zero ≡ n = omega arith in
      among_with x (f n) (locks_held slot).claims (all_claims f (suc n) slots) (sym (ap f at) ∙ is) there
  among_place x f n (suc i) (slot ∷ slots) is there =
      let at : n + suc i ≡ suc n + i = omega arith in
      among_later x (f n) (locks_held slot).claims (all_claims f (suc n) slots) (among_place x f (suc n) i slots (sym (ap f at) ∙ is) there)

  -- a touch is claimed by the session of its transaction
  pub record IsClaimed (f : ℕ → ℕ) (slots : List (Slot B)) (x : Touch (Entry B)) : Type 0 where
    pub session : ℕ
    pub there : is_session session ≡ true
    pub number : f session ≡ x.transaction
    pub claimed : list_any (same k x.entry) (locks_held (slot_at session slots)).claims ≡ true

  among_claims : (f : ℕ → ℕ) (slots : List (Slot B)) (x : Touch (Entry B)) → IsClaimed f slots x → list_any (claims x) (all_claims f 1 slots) ≡ true
  among_claims f slots x is =
      let bounds : (0 < is.session) × (is.session < 9) = session_bounds is.session is.there in
      let at : slot_at is.session slots ≡ slice_index_or slots (is.session - 1) Free = ap (λ b. if b then slice_index_or slots (is.session - 1) Free else Free) is.there in
      let back : 1 + (is.session - 1) ≡ is.session = omega (arith, bounds) in
      among_place x f 1 (is.session - 1) slots (ap f back ∙ is.number)
      (ap (λ (y : Slot B). list_any (same k x.entry) (locks_held y).claims) (sym at) ∙ is.claimed)

  each_among : (f : ℕ → ℕ) (slots : List (Slot B)) (xs : List (Touch (Entry B))) → Each (IsClaimed f slots) xs → Each (λ x. list_any (claims x) (all_claims f 1 slots) ≡ true) xs
  each_among f slots [] all = tt
  each_among f slots (x ∷ xs) all = (among_claims f slots x all.0, each_among f slots xs all.1)

  each_numbered : (f : ℕ → ℕ) (slots : List (Slot B)) (xs : List (Touch (Entry B))) → Each (IsClaimed f slots) xs
      → Each (λ x. list_any (is_number x.transaction) (numbers_to f 8) ≡ true) xs
  each_numbered f slots [] all = tt
  each_numbered f slots (x ∷ xs) all =
      let is : IsClaimed f slots x = all.0 in
      let bounds : (0 < is.session) × (is.session < 9) = session_bounds is.session is.there in (
        subst (λ t. list_any (is_number t) (numbers_to f 8) ≡ true) is.number (among_numbers f is.session 8 bounds.0 (omega (arith, bounds))),
        each_numbered f slots xs all.1,
      )

  -- touches that sessions claim have room
  pub claimed_has_room : (f : ℕ → ℕ) (slots : List (Slot B)) (xs : List (Touch (Entry B))) → InOrder k xs → Each (IsClaimed f slots) xs → claims_held slots ≤ 512
      → HasRoom xs
  claimed_has_room f slots xs o all few = record {
    few = (let eight = length_numbers f 8 in let most = few_transactions xs (numbers_to f 8) (each_numbered f slots xs all) in omega (arith, eight, most));
    short =
        (let long = length_claims f 1 slots in
        let most = no_shorter claims xs (all_claims f 1 slots) (apart_claims xs o) (each_among f slots xs all) in
        omega (arith, long, most, few));
  }
