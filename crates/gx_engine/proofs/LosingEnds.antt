-- Transactions that a crash cut off, each held with a session: what the sessions have in the end, and which touches an
-- undamaged log has.
use Rattle.std.proofs.Common.{◌≡◌, ℕ, zero, suc, ◌-◌, ◌<◌, ◌≤◌, Bool, true, false, not, ◌&&◌, ◌||◌, inl, inr, cond, List, [], ◌∷◌, length, map, refl, ap, sym, ◌∙◌, arith}
use Rattle.std.specs.Prelude.{◌==◌, nat_le}
use Rattle.std.specs.List.{slice_index_or, list_all, AllByRecursion}
use Rattle.std.specs.Ordering.{nat_cmp, ordering_then}
use Rattle.std.specs.Cmp.{nat_cmp_is}
use Rattle.std.specs.declared.cmp.Ordering.TheVariants.{Less, Equal, Greater}
use Rattle.std.proofs.lemmas.Bool.{cases_order, eqb-true, leb-true}
use Rattle.gx_machine.specs.declared.entry.Entry.{Entry}
use Rattle.gx_machine.specs.Keys.{Keys}
use Rattle.gx_events.specs.Slots as slots
use Rattle.gx_events.specs.Losers.{loser_slot}
use Rattle.gx_events.proofs.Places.{is_numbered}
use Rattle.gx_events.proofs.Sees.{same_turned}
use Rattle.gx_recovery.specs.Known.{Known, same}
use Rattle.gx_recovery.specs.Records.{Record, Touch}
use Rattle.gx_recovery.specs.Analysis.{analysis, touch_cmp}
use Rattle.gx_recovery.specs.Damage.{apart, fits, touch_fits, transactions, IsLog}
use Rattle.gx_recovery.proofs.Logs.{told_log, untrue}
use Rattle.gx_recovery.proofs.Renewals.{log_fits}
use Rattle.gx_recovery.proofs.Tests.{and_first, and_second, either_of, or_second, itself}
use Rattle.gx_recovery.proofs.Told.{Told}
use Rattle.gx_recovery.proofs.Touches.{Before, InOrder}
use Rattle.gx_index_laws.specs.Classes.{Class, IsLawful, Page, known_of}
use Rattle.gx_index_laws.specs.Openings as openings
use Rattle.gx_index_laws.specs.Openings.{listed_for, notes_for, numbers_of}
use Rattle.gx_index_laws.proofs.Numbered.{or_first, is_in, touches, in_touching, touching_in, IsAt, placed_in, in_placed, listed_at, listed_there, numbers_counted}
use Rattle.gx_index_laws.proofs.Standing.{known_lawful}
use Rattle.gx_txn.specs.Tables.{Held}
use Rattle.gx_phases.specs.Moves.{transaction_of}
use Rattle.gx_phases.specs.States as phases
use Rattle.gx_phases.specs.States.{State, held_at, phase_at, slot_of, slots_of}
use Rattle.gx_engine.specs.declared.work.Work.{Work}
use Rattle.gx_engine.specs.Losing.{AreCutOff, AreHeld, ComesBefore, ComeInOrder, note_in}
use Rattle.gx_engine.specs.Noted.{AreFrom, AreInTurn, AreTold, HasIt, has_transaction, touch_by, touched_by}
use Rattle.gx_engine.proofs.Losing.{groups_of}
use Rattle.gx_engine.proofs.LosingStates.{entry_in, held_for, index_map, low_number, number_for, phase_for, taken_up}

module _ {B : Type 0} where
  notes_both : (g : List (Touch (Entry B))) → map phases.note_of (map note_in g) ≡ map openings.note_of g
  notes_both [] = refl
  notes_both (x ∷ g) = ap (λ (ns : List (slots.Note B)). openings.note_of x ∷ ns) (notes_both g)

  entries_both : (g : List (Touch (Entry B))) → map entry_in g ≡ slots.entries_of (map openings.note_of g)
  entries_both [] = refl
  entries_both (x ∷ g) = ap (λ (es : List (Entry B)). x.entry ∷ es) (entries_both g)

  slot_for : (g : List (Touch (Entry B))) → slot_of (phase_for g) (held_for g) ≡ loser_slot (map openings.note_of g)
  slot_for [] = refl
  slot_for (x ∷ g) = λ i. slots.Undoing (record { claims = x.entry ∷ entries_both g i; predicates = [] }) (openings.note_of x ∷ notes_both g i)

  slots_for : (gs : List (List (Touch (Entry B)))) → slots_of (map phase_for gs) (map held_for gs) ≡ map loser_slot (map (map openings.note_of) gs)
  slots_for [] = refl
  slots_for (g ∷ gs) = let first = slot_for g in let rest = slots_for gs in λ i. first i ∷ rest i

  -- a transaction's touches are of its number, and some if it touched something
  number_own : (t : ℕ) (ys : List (Touch (Entry B))) → touches t ys ≡ true → number_for (touched_by t ys) ≡ t
  number_own t [] h = let no : ⊥ = cc in absurd no
  number_own t (y ∷ ys) h = by (y.transaction == t) refl h (number_own t ys)
    where
      by : (b : Bool) → (y.transaction == t) ≡ b → (b || touches t ys) ≡ true → (touches t ys ≡ true → number_for (touched_by t ys) ≡ t)
          → number_for (cond b (y ∷ touched_by t ys) (touched_by t ys)) ≡ t
      by true own some rest = eqb-true y.transaction t own
      by false other some rest = rest some

  busy_own : (t : ℕ) (ys : List (Touch (Entry B))) → touches t ys ≡ true → has_transaction (phase_for (touched_by t ys)) ≡ true
  busy_own t [] h = let no : ⊥ = cc in absurd no
  busy_own t (y ∷ ys) h = by (y.transaction == t) h (busy_own t ys)
    where
      by : (b : Bool) → (b || touches t ys) ≡ true → (touches t ys ≡ true → has_transaction (phase_for (touched_by t ys)) ≡ true)
          → has_transaction (phase_for (cond b (y ∷ touched_by t ys) (touched_by t ys))) ≡ true
      by true some rest = refl
      by false some rest = rest some

  touch_back : (t : ℕ) (ys : List (Touch (Entry B))) → map (touch_by t) (map note_in (touched_by t ys)) ≡ touched_by t ys
  touch_back t [] = refl
  touch_back t (y ∷ ys) = by (y.transaction == t) refl (touch_back t ys)
    where
      by : (b : Bool) → (y.transaction == t) ≡ b → map (touch_by t) (map note_in (touched_by t ys)) ≡ touched_by t ys
          → map (touch_by t) (map note_in (cond b (y ∷ touched_by t ys) (touched_by t ys))) ≡ cond b (y ∷ touched_by t ys) (touched_by t ys)
      by true own rest =
          let same : t ≡ y.transaction = sym (eqb-true y.transaction t own) in
          λ i. (record { transaction = same i; entry = y.entry; before = y.before; leaf = y.leaf }) ∷ rest i
      by false other rest = rest

  number_at : (f : ℕ → List (Touch (Entry B))) (n i : ℕ) (ts : List ℕ) → length ts ≤ n → ((t : ℕ) → is_in t ts ≡ true → number_for (f t) ≡ t)
      → slice_index_or (map number_for (listed_for n f ts)) i 0 ≡ slice_index_or ts i 0
  number_at f zero i [] few own = refl
  number_at f zero i (t ∷ ts) few own = absurd (omega (arith, few))
  number_at f (suc n) zero [] few own = refl
  number_at f (suc n) (suc i) [] few own = number_at f n i [] (omega arith) own
  number_at f (suc n) zero (t ∷ ts) few own = own t (or_first (t == t) (is_in t ts) (itself t))
  number_at f (suc n) (suc i) (t ∷ ts) few own = number_at f n i ts (omega (arith, few)) (λ u there. own u (or_second (t == u) (is_in u ts) there))

  of_each : (Q : ℕ → Type 0) (xs : List (Touch (Entry B))) → ((t : ℕ) → touches t xs ≡ true → Q t) → AllByRecursion (λ x. Q x.transaction) xs
  of_each Q [] each = tt
  of_each Q (x ∷ xs) each = (
    each x.transaction (or_first (x.transaction == x.transaction) (touches x.transaction xs) (itself x.transaction)),
    of_each Q xs (λ t there. each t (or_second (x.transaction == t) (touches t xs) there)),
  )

  all_from : (k : Keys B) (n : ℕ) (x : Touch (Entry B)) (ys : List (Touch (Entry B))) → n ≤ x.transaction → AllByRecursion (ComesBefore k x) ys → AreFrom n ys
  all_from k n x [] low before = tt
  all_from k n x (y ∷ ys) low before = ((let next = low_number k x y before.0 in omega (arith, low, next)), all_from k n x ys low before.1)

  in_turn : (k : Keys B) (xs : List (Touch (Entry B))) → ComeInOrder k xs → AreInTurn xs
  in_turn k [] order = tt
  in_turn k (x ∷ xs) order = (all_from k x.transaction x xs (omega arith) order.0, in_turn k xs order.1)

module _ {B : Type 0} (k : Keys B) (xs : List (Touch (Entry B))) (cut : AreCutOff k xs) (old : State B (Work B)) where
  abbrev f : ℕ → List (Touch (Entry B))
  f t = touched_by t xs

  abbrev ts : List ℕ
  ts = numbers_of xs

  abbrev gs : List (List (Touch (Entry B)))
  gs = groups_of xs

  abbrev held : State B (Work B)
  held = taken_up old xs

  losers_for : (n : ℕ) (us : List ℕ) → map (map openings.note_of) (listed_for n f us) ≡ listed_for n (notes_for xs) us
  losers_for zero us = refl
  losers_for (suc n) [] = ap (λ (ls : List (List (slots.Note B))). [] ∷ ls) (losers_for n [])
  losers_for (suc n) (u ∷ us) = ap (λ (ls : List (List (slots.Note B))). notes_for xs u ∷ ls) (losers_for n us)

  own : (t : ℕ) → is_in t ts ≡ true → number_for (f t) ≡ t
  own t there = number_own t xs (in_touching t xs there)

  told : AreTold held xs
  told a there busy =
      let i : ℕ = a - 1 in
      let g : List (Touch (Entry B)) = slice_index_or gs i [] in
      let is_phase : phase_at i held.phases ≡ phase_for g = index_map phase_for gs i [] in
      let is_held : held_at i held.table ≡ held_for g = index_map held_for gs i [] in
      let is_number : transaction_of a held ≡ number_for g = index_map number_for gs i [] in
      elim (listed_at f 8 i ts) [
        | inl none ↦
            (let free : has_transaction (phase_at i held.phases) ≡ false = ap has_transaction is_phase ∙ ap (λ (h : List (Touch (Entry B))). has_transaction (phase_for h)) none in
            let no : true ≡ false = sym busy ∙ free in
            let never : ⊥ = cc in absurd never)
        | inr some ↦
            (let t : ℕ = slice_index_or ts i 0 in
            let is : transaction_of a held ≡ t = is_number ∙ ap number_for some.1 ∙ own t (in_placed ts i some.0) in
            ap f is ∙ sym (touch_back t xs) ∙ sym (ap (λ (h : Held B). map (touch_by t) h.notes) (is_held ∙ ap held_for some.1))
            ∙ sym (ap (λ n. map (touch_by n) (held_at i held.table).notes) is))
      ]

  has_it : (t : ℕ) → touches t xs ≡ true → (session : ℕ) × HasIt held t session
  has_it t h =
      let at : IsAt t ts = placed_in t ts (touching_in t xs h) in
      let p : ℕ = at.place in
      let low : p < 8 = (let lower = at.low in let few = cut.eight in omega (arith, lower, few)) in
      let back : suc p - 1 ≡ p = omega arith in
      let its : slice_index_or gs p [] ≡ f t = listed_there f 8 p ts low at.low ∙ ap f at.at in (
        suc p,
        record {
          is = is_numbered p low;
          busy =
              ap (λ n. has_transaction (phase_at n held.phases)) back ∙ ap has_transaction (index_map phase_for gs p [])
              ∙ ap (λ (g : List (Touch (Entry B))). has_transaction (phase_for g)) its ∙ busy_own t xs h;
          its =
              ap (λ n. slice_index_or held.transactions n 0) back ∙ index_map number_for gs p []
              ∙ ap number_for its ∙ number_own t xs h;
        },
      )

  -- once all are taken up, each transaction has its session
  pub all_held : AreHeld xs held
  all_held = record {
    slots = slots_for gs ∙ ap (map loser_slot) (losers_for 8 ts);
    transactions = λ a there. number_at f 8 (a - 1) ts cut.eight own;
    noted = record {
      in_turn = in_turn k xs cut.in_order;
      had = of_each (λ t. (session : ℕ) × HasIt held t session) xs has_it;
      notes = told;
      few = cut.few;
    };
  }

-- what the analysis of an undamaged log returns
module _ {B : Type 0} (c : Class B) (l : IsLawful c) where
  abbrev k : Known (Entry B) (Page B)
  k = known_of c

  comes : (x y : Touch (Entry B)) → touch_cmp k x y ≡ Less → (x.transaction == y.transaction || not (same k x.entry y.entry)) ≡ true → ComesBefore c.keys x y
  comes x y less other =
      elim (cases_order x.transaction y.transaction) [
        | inl one ↦
            (let equal : Equal ≡ nat_cmp x.transaction y.transaction = nat_cmp_is x.transaction y.transaction Equal one in
            inr (one, ap (λ o. ordering_then o (k.cmp x.entry y.entry)) equal ∙ less))
        | inr (inl lower) ↦
            elim (either_of (x.transaction == y.transaction) (not (same k x.entry y.entry)) other) [
              | inl one ↦ (let same_number = eqb-true x.transaction y.transaction one in absurd (omega (arith, lower, same_number)))
              | inr differs ↦ inl (lower, same_turned c.keys l.keys y.entry x.entry ∙ untrue (same k x.entry y.entry) differs)
            ]
        | inr (inr higher) ↦
            (let greater : Greater ≡ nat_cmp x.transaction y.transaction = nat_cmp_is x.transaction y.transaction Greater higher in
            let both : Greater ≡ Less = ap (λ o. ordering_then o (k.cmp x.entry y.entry)) greater ∙ less in
            absurd cc)
      ]

  comes_each : (x : Touch (Entry B)) (ys : List (Touch (Entry B))) → Before k x ys → list_all (λ y. x.transaction == y.transaction || not (same k x.entry y.entry)) ys ≡ true
      → AllByRecursion (ComesBefore c.keys x) ys
  comes_each x [] before all = tt
  comes_each x (y ∷ ys) before all =
      let here : Bool = x.transaction == y.transaction || not (same k x.entry y.entry) in
      let rest : Bool = list_all (λ z. x.transaction == z.transaction || not (same k x.entry z.entry)) ys in
      (comes x y before.0 (and_first here rest all), comes_each x ys before.1 (and_second here rest all))

  come : (xs : List (Touch (Entry B))) → InOrder k xs → apart k xs ≡ true → ComeInOrder c.keys xs
  come [] order all = tt
  come (x ∷ xs) order all =
      let here : Bool = list_all (λ y. x.transaction == y.transaction || not (same k x.entry y.entry)) xs in
      (comes_each x xs order.0 (and_first here (apart k xs) all), come xs order.1 (and_second here (apart k xs) all))

  pub cut_off : (log : List (Record (Entry B) (Page B))) → IsLog k log → AreCutOff c.keys (analysis k log).touched
  cut_off log is =
      let xs : List (Touch (Entry B)) = (analysis k log).touched in
      let told : Told k log = told_log k (known_lawful c l) log is in
      let fit : fits k (analysis k log) ≡ true = log_fits k (known_lawful c l) log is in
      let room : Bool = nat_le (transactions xs) 8 in
      let short : Bool = nat_le (length xs) 512 in
      let each : Bool = list_all (touch_fits k (analysis k log).used) xs in
      let all : (apart k xs && (room && short)) ≡ true = and_second each (apart k xs && (room && short)) (and_second (nat_le (analysis k log).used k.pages) (each && (apart k xs && (room && short))) fit) in
      let both : (room && short) ≡ true = and_second (apart k xs) (room && short) all in
      record {
        in_order = come xs told.in_order (and_first (apart k xs) (room && short) all);
        eight = (let counted = numbers_counted xs in let below = leb-true (transactions xs) 8 (and_first room short both) in omega (arith, counted, below));
        few = leb-true (length xs) 512 (and_second room short both);
      }
