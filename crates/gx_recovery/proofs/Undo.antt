-- Undo: one pair restored keeps the others restored, and where all are, an end may come.
use Rattle.std.proofs.Common.{◌≡◌, ℕ, ◌+◌, ◌≤◌, Bool, true, false, not, cond, ◌&&◌, ◌||◌, inl, inr, List, [], ◌∷◌, ◌++◌, Option, Some, refl, ap, sym, ◌∙◌, subst, arith}
use Rattle.std.specs.Prelude.{nat_le, max, length, filter, ◌==◌, if◌then◌else◌}
use Rattle.std.specs.List.{list_any, list_all}
use Rattle.std.specs.Option.{option_or}
use Rattle.std.proofs.Math.Bool.{and-false}
use Rattle.std.proofs.lemmas.Bool.{eqb-true, le-leb, leb-true}
use Rattle.gx_recovery.specs.Known.{Known, IsLawful, Tree, same}
use Rattle.gx_recovery.specs.Records.{Said, Record, Write, Commit, End, Touch}
use Rattle.gx_recovery.specs.Analysis.{Analysis, analysis, without, number_of}
use Rattle.gx_recovery.specs.Redo.{tree_of}
use Rattle.gx_recovery.specs.Standing.{own_before}
use Rattle.gx_recovery.specs.Damage.{touch_fits, apart, transactions, fits, is_open, IsLog}
use Rattle.gx_recovery.specs.declared.TheConstants.{TRANSACTIONS, TOUCHED}
use Rattle.gx_recovery.specs.Coming.{WritesOne, Restored, Placed, IsGood, MayCome}
use Rattle.gx_recovery.proofs.Tests.{and_first, and_second, true_or_false, clash, itself}
use Rattle.gx_recovery.proofs.Folds.{or-none, analysis-snoc, first-snoc, tree-snoc}
use Rattle.gx_recovery.proofs.Touches.{same_is}
use Rattle.gx_recovery.proofs.Lookups.{marked}
use Rattle.gx_recovery.proofs.Logs.{and_all}
use Rattle.gx_recovery.proofs.Renewals.{log_fits}

le_keeps : (a b n : ℕ) → a ≤ b → nat_le b n ≡ true → nat_le a n ≡ true
le_keeps a b n h t = le-leb a n (let g : b ≤ n = leb-true b n t in omega arith)

kept_first : (o : Option Bool) (m x y : Bool) → o ≡ Some x → option_or o (marked m y) ≡ Some x
kept_first o m x y h = ap (λ p. option_or p (marked m y)) h

module _ {E P : Type 0} (k : Known E P) (l : IsLawful k) where
  all_filter : (p q : Touch E → Bool) (xs : List (Touch E)) → list_all p xs ≡ true → list_all p (filter q xs) ≡ true
  all_filter p q [] h = refl
  all_filter p q (x ∷ xs) h =
      elim (q x) as (λ t. list_all p (cond t (x ∷ filter q xs) (filter q xs)) ≡ true) [
        | true ↦ and_all (p x) (list_all p (filter q xs)) (and_first (p x) (list_all p xs) h) (all_filter p q xs (and_second (p x) (list_all p xs) h))
        | false ↦ all_filter p q xs (and_second (p x) (list_all p xs) h)
      ]

  apart_filter : (q : Touch E → Bool) (xs : List (Touch E)) → apart k xs ≡ true → apart k (filter q xs) ≡ true
  apart_filter q [] h = refl
  apart_filter q (x ∷ xs) h =
      let beside : Touch E → Bool = λ y. x.transaction == y.transaction || not (same k x.entry y.entry) in
      elim (q x) as (λ t. apart k (cond t (x ∷ filter q xs) (filter q xs)) ≡ true) [
        | true ↦ and_all (list_all beside (filter q xs)) (apart k (filter q xs)) (all_filter beside q xs (and_first (list_all beside xs) (apart k xs) h)) (apart_filter q xs (and_second (list_all beside xs) (apart k xs) h))
        | false ↦ apart_filter q xs (and_second (list_all beside xs) (apart k xs) h)
      ]

  length_filter : (q : Touch E → Bool) (xs : List (Touch E)) → length (filter q xs) ≤ length xs
  length_filter q [] = omega arith
  length_filter q (x ∷ xs) =
      let rest : length (filter q xs) ≤ length xs = length_filter q xs in
      elim (q x) as (λ t. length (cond t (x ∷ filter q xs) (filter q xs)) ≤ length (x ∷ xs))
      [ true ↦ omega arith | false ↦ omega arith ]

  any_without : (t u : ℕ) (xs : List (Touch E)) → (u == t) ≡ false → list_any (λ (y : Touch E). y.transaction == u) (without t xs) ≡ list_any (λ (y : Touch E). y.transaction == u) xs
  any_without t u [] h = refl
  any_without t u (x ∷ xs) h =
      elim (true_or_false (x.transaction == t)) [
        | inl is ↦
            let other : (x.transaction == u) ≡ false =
            elim (true_or_false (x.transaction == u)) [
              | inl one ↦ clash (u == t) (ap (λ m. m == t) (sym (eqb-true x.transaction u one)) ∙ is) h
              | inr two ↦ two
            ] in
            ap (λ b. list_any (λ (y : Touch E). y.transaction == u) (cond (not b) (x ∷ without t xs) (without t xs))) is
            ∙ any_without t u xs h ∙ sym (ap (λ b. b || list_any (λ (y : Touch E). y.transaction == u) xs) other)
        | inr differs ↦
            ap (λ b. list_any (λ (y : Touch E). y.transaction == u) (cond (not b) (x ∷ without t xs) (without t xs))) differs
            ∙ ap (λ b. x.transaction == u || b) (any_without t u xs h)
      ]

  if_le : (b : Bool) (m n : ℕ) → m ≤ n → (if b then m else m + 1) ≤ (if b then n else n + 1)
  if_le true m n h = h
  if_le false m n h = omega arith

  if_more : (b : Bool) (m n : ℕ) → m ≤ n → m ≤ (if b then n else n + 1)
  if_more true m n h = h
  if_more false m n h = omega arith

  transactions_without : (t : ℕ) (xs : List (Touch E)) → transactions (without t xs) ≤ transactions xs
  transactions_without t [] = omega arith
  transactions_without t (x ∷ xs) =
      elim (true_or_false (x.transaction == t)) [
        | inl is ↦
            subst (λ b. transactions (cond (not b) (x ∷ without t xs) (without t xs)) ≤ transactions (x ∷ xs)) (sym is)
            (if_more (list_any (λ (y : Touch E). y.transaction == x.transaction) xs) (transactions (without t xs)) (transactions xs) (transactions_without t xs))
        | inr differs ↦
            subst (λ b. transactions (cond (not b) (x ∷ without t xs) (without t xs)) ≤ transactions (x ∷ xs)) (sym differs)
            (subst (λ b. (if b then transactions (without t xs) else transactions (without t xs) + 1) ≤ transactions (x ∷ xs)) (sym (any_without t x.transaction xs differs))
            (if_le (list_any (λ (y : Touch E). y.transaction == x.transaction) xs) (transactions (without t xs)) (transactions xs) (transactions_without t xs)))
      ]

  -- what fits, fits without a transaction's touches
  pub fits_without : (t : ℕ) (used : ℕ) (xs : List (Touch E)) (a b : Analysis E) → a.used ≡ used → a.touched ≡ xs → b.used ≡ used → b.touched ≡ without t xs
      → fits k a ≡ true → fits k b ≡ true
  fits_without t used xs a b au ax bu bx h =
      let told_of : ℕ → List (Touch E) → Analysis E = λ u ys. record { number = 0; counter = 0; used = u; next = 0; touched = ys } in
      let old : fits k (told_of used xs) ≡ true =
      ap (λ u. fits k (told_of u xs)) (sym au) ∙ ap (λ ys. fits k (told_of a.used ys)) (sym ax) ∙ h in
      let few : Bool = nat_le (transactions xs) TRANSACTIONS && nat_le (length xs) TOUCHED in
      let rest : Bool = apart k xs && few in
      let all : Bool = list_all (touch_fits k used) xs in
      let tail : (all && rest) ≡ true = and_second (nat_le used k.pages) (all && rest) old in
      let few_is : few ≡ true = and_second (apart k xs) few (and_second all rest tail) in
      let q : Touch E → Bool = λ x. not (x.transaction == t) in
      let new : fits k (told_of used (without t xs)) ≡ true =
      and_all (nat_le used k.pages) (list_all (touch_fits k used) (without t xs) && (apart k (without t xs) && (nat_le (transactions (without t xs)) TRANSACTIONS && nat_le (length (without t xs)) TOUCHED)))
      (and_first (nat_le used k.pages) (all && rest) old)
      (and_all (list_all (touch_fits k used) (without t xs)) (apart k (without t xs) && (nat_le (transactions (without t xs)) TRANSACTIONS && nat_le (length (without t xs)) TOUCHED))
      (all_filter (touch_fits k used) q xs (and_first all rest tail))
      (and_all (apart k (without t xs)) (nat_le (transactions (without t xs)) TRANSACTIONS && nat_le (length (without t xs)) TOUCHED)
      (apart_filter q xs (and_first (apart k xs) few (and_second all rest tail)))
      (and_all (nat_le (transactions (without t xs)) TRANSACTIONS) (nat_le (length (without t xs)) TOUCHED)
      (le_keeps (transactions (without t xs)) (transactions xs) TRANSACTIONS (transactions_without t xs) (and_first (nat_le (transactions xs) TRANSACTIONS) (nat_le (length xs) TOUCHED) few_is))
      (le_keeps (length (without t xs)) (length xs) TOUCHED (length_filter q xs) (and_second (nat_le (transactions xs) TRANSACTIONS) (nat_le (length xs) TOUCHED) few_is))))) in
      ap (λ u. fits k (told_of u b.touched)) bu ∙ ap (λ ys. fits k (told_of used ys)) bx ∙ new

  placed_filter : (q : Touch E → Bool) (tree : Tree P) (xs : List (Touch E)) → Placed k tree xs → Placed k tree (filter q xs)
  placed_filter q tree [] p = tt
  placed_filter q tree (x ∷ xs) p =
      elim (q x) as (λ t. Placed k tree (cond t (x ∷ filter q xs) (filter q xs)))
      [ true ↦ (p.0, placed_filter q tree xs p.1) | false ↦ placed_filter q tree xs p.1 ]

  module _ (area : ℕ → P) (log : List (Record E P)) where
    closed_good : (t : ℕ) (r : Record E P) → tree_of k area (log ++ r ∷ []) ≡ tree_of k area log → (analysis k (log ++ r ∷ [])).touched ≡ without t (analysis k log).touched
        → IsGood k (tree_of k area log) log → IsGood k (tree_of k area (log ++ r ∷ [])) (log ++ r ∷ [])
    closed_good t r tree touched good =
        subst (λ (x : Tree P). IsGood k x (log ++ r ∷ [])) (sym tree)
        (record {
          sound = good.sound;
          placed = subst (λ (xs : List (Touch E)). Placed k (tree_of k area log) xs) (sym touched) (placed_filter (λ x. not (x.transaction == t)) (tree_of k area log) (analysis k log).touched good.placed);
        })

    -- where all that an open transaction touched is as it was before, its end may come
    pub end_may_come : IsLog k log → IsGood k (tree_of k area log) log → (t : ℕ) → is_open t log ≡ true
        → ((e : E) → Restored k t (tree_of k area log) log e) → MayCome k area log (End t)
    end_may_come is good t open_yet restored =
        let r : Record E P = End t in
        let told : analysis k (log ++ r ∷ []) ≡ record (analysis k log) { next = max (analysis k log).next (t + 1); touched = without t (analysis k log).touched } = analysis-snoc k log r in
        record {
          follows = and_all (is_open t log) (fits k (analysis k (log ++ r ∷ []))) open_yet
              (fits_without t (analysis k log).used (analysis k log).touched (analysis k log) (analysis k (log ++ r ∷ [])) refl refl
              (ap (λ (a : Analysis E). a.used) told) (ap (λ (a : Analysis E). a.touched) told) (log_fits k l log is));
          exact = restored;
          good = closed_good t r (tree-snoc k area log r) (ap (λ (a : Analysis E). a.touched) told) good;
        }

    -- and a commit of an open transaction may come at once, with the next number
    pub commit_may_come : IsLog k log → IsGood k (tree_of k area log) log → (t : ℕ) → is_open t log ≡ true → MayCome k area log (Commit t (number_of k log + 1))
    commit_may_come is good t open_yet =
        let r : Record E P = Commit t (number_of k log + 1) in
        let told : analysis k (log ++ r ∷ []) ≡ record (analysis k log) { number = number_of k log + 1; next = max (analysis k log).next (t + 1); touched = without t (analysis k log).touched } = analysis-snoc k log r in
        record {
          follows = and_all (is_open t log && (number_of k log + 1 == number_of k log + 1)) (fits k (analysis k (log ++ r ∷ [])))
              (and_all (is_open t log) (number_of k log + 1 == number_of k log + 1) open_yet (itself (number_of k log + 1)))
              (fits_without t (analysis k log).used (analysis k log).touched (analysis k log) (analysis k (log ++ r ∷ [])) refl refl
              (ap (λ (a : Analysis E). a.used) told) (ap (λ (a : Analysis E). a.touched) told) (log_fits k l log is));
          exact = tt;
          good = closed_good t r (tree-snoc k area log r) (ap (λ (a : Analysis E). a.touched) told) good;
        }

  module _ (log : List (Record E P)) (t : ℕ) (entry : E) (mark first : Bool) (leaf : ℕ) (said : Said P) (old new : Tree P) (own : own_before k t entry log ≡ Some first) (exact : WritesOne k entry mark first old new) where
    own_same : (e : E) → own_before k t e (log ++ Write t entry mark first leaf said ∷ []) ≡ option_or (own_before k t e log) (marked (t == t && same k e entry) mark)
    own_same e = first-snoc k (λ u. u == t) e log (Write t entry mark first leaf said)

    -- a write that gives an entry its first mark before restores it
    pub restores : Restored k t new (log ++ Write t entry mark first leaf said ∷ []) entry
    restores before h =
        let known : Some first ≡ Some before = sym (kept_first (own_before k t entry log) (t == t && same k entry entry) first mark own) ∙ sym (own_same entry) ∙ h in
        let one : first ≡ before = cc in
        exact.left ∙ ap not one

    -- and leaves restored what was so
    pub leaves_restored : (e : E) → Restored k t old log e → Restored k t new (log ++ Write t entry mark first leaf said ∷ []) e
    leaves_restored e restored before h =
        elim (true_or_false (same k e entry)) [
          | inl is ↦
              let at : e ≡ entry = same_is k l e entry is in
              ap (λ x. k.live new x) at ∙ restores before (ap (λ x. own_before k t x (log ++ Write t entry mark first leaf said ∷ [])) (sym at) ∙ h)
          | inr other ↦
              exact.others e other
              ∙ restored before (sym (or-none (own_before k t e log)) ∙ ap (λ b. option_or (own_before k t e log) (marked b mark)) (sym (ap (λ b. t == t && b) other ∙ and-false (t == t))) ∙ sym (own_same e) ∙ h)
        ]
