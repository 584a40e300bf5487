-- A write, or pages, that are exact and sound may come: what the log then says fits.
use Rattle.std.proofs.Common.{◌≡◌, ℕ, ◌≤◌, Bool, true, false, not, cond, ◌&&◌, ◌||◌, inl, inr, List, [], ◌∷◌, ◌++◌, refl, ap, sym, ◌∙◌, subst, arith}
use Rattle.std.specs.Prelude.{nat_le, nat_lt, length, ◌==◌}
use Rattle.std.specs.List.{list_all}
use Rattle.std.specs.declared.cmp.Ordering.{Ordering}
use Rattle.std.specs.declared.cmp.Ordering.TheVariants.{Less, Equal, Greater}
use Rattle.std.specs.Ordering.{match_ordering, ordering_reverse}
use Rattle.std.proofs.lemmas.Bool.{eqb-true, eq-eqb, le-leb, leb-true}
use Rattle.gx_recovery.specs.Known.{Known, IsLawful, Tree, same}
use Rattle.gx_recovery.specs.Records.{Image, Change, Said, Whole, Small, Record, Pages, Adjust, Write, Touch, settled, any_number}
use Rattle.gx_recovery.specs.Analysis.{Analysis, analysis, read, touch_cmp, touching, lists}
use Rattle.gx_recovery.specs.Redo.{tree_of}
use Rattle.gx_recovery.specs.Damage.{is_transaction, is_page, touch_fits, apart, transactions, fits, image_fits, said_fits, may_follow, IsLog}
use Rattle.gx_recovery.specs.declared.TheConstants.{TRANSACTIONS, TOUCHED}
use Rattle.gx_recovery.specs.Coming.{Placed, MayCome, IsAlone, beside, IsSaid, IsSoundWrite, AreSoundPages, IsSoundChange}
use Rattle.gx_recovery.proofs.Tests.{and_first, and_second, either_of, or_second, true_or_false, clash, itself}
use Rattle.gx_recovery.proofs.Folds.{analysis-snoc}
use Rattle.gx_recovery.proofs.Touches.{Before, InOrder, touch_total, touch_exact, same_is, same_itself, apart_if_less, before_through}
use Rattle.gx_recovery.proofs.Told.{Told}
use Rattle.gx_recovery.proofs.Logs.{and_all, told_log}
use Rattle.gx_recovery.proofs.Renewals.{log_fits}

within : (p a b : ℕ) → a ≤ b → nat_le p a ≡ true → nat_le p b ≡ true
within p a b h t = le-leb p b (let g : p ≤ a = leb-true p a t in omega arith)

module _ {E P : Type 0} (k : Known E P) (l : IsLawful k) where
  -- whether a touch lies apart from another: it is of the same transaction, or of another entry
  abbrev beside_test : Touch E → Touch E → Bool
  beside_test x y = x.transaction == y.transaction || not (same k x.entry y.entry)

  -- parts of what fits
  pub record FitsBy (a : Analysis E) : Type 0 where
    pub device : nat_le a.used k.pages ≡ true
    pub each : list_all (touch_fits k a.used) a.touched ≡ true
    pub lie_apart : apart k a.touched ≡ true
    pub few : nat_le (transactions a.touched) TRANSACTIONS ≡ true
    pub short : nat_le (length a.touched) TOUCHED ≡ true

  pub parts_of : (a : Analysis E) → fits k a ≡ true → FitsBy a
  parts_of a h =
      let few : Bool = nat_le (transactions a.touched) TRANSACTIONS in
      let short : Bool = nat_le (length a.touched) TOUCHED in
      let all : Bool = list_all (touch_fits k a.used) a.touched in
      let tail = and_second (nat_le a.used k.pages) (all && (apart k a.touched && (few && short))) h in
      let last = and_second all (apart k a.touched && (few && short)) tail in
      let room = and_second (apart k a.touched) (few && short) last in
      record {
        device = and_first (nat_le a.used k.pages) (all && (apart k a.touched && (few && short))) h;
        each = and_first all (apart k a.touched && (few && short)) tail;
        lie_apart = and_first (apart k a.touched) (few && short) last;
        few = and_first few short room;
        short = and_second few short room;
      }

  pub whole_of : (a : Analysis E) → FitsBy a → fits k a ≡ true
  whole_of a p =
      let few : Bool = nat_le (transactions a.touched) TRANSACTIONS in
      let short : Bool = nat_le (length a.touched) TOUCHED in
      let all : Bool = list_all (touch_fits k a.used) a.touched in
      and_all (nat_le a.used k.pages) (all && (apart k a.touched && (few && short))) p.device
      (and_all all (apart k a.touched && (few && short)) p.each
      (and_all (apart k a.touched) (few && short) p.lie_apart (and_all few short p.few p.short)))

  -- a touch that comes behind another is of another transaction or entry
  apart_if_greater : {A : Type 0} (a b : Touch E) → touch_cmp k a b ≡ Greater → a.transaction ≡ b.transaction → a.entry ≡ b.entry → A
  apart_if_greater a b more t e =
      let turned : touch_cmp k b a ≡ Less = (touch_total k l).antisymm b a ∙ ap ordering_reverse more in
      apart_if_less k l b a turned (sym t) (sym e)

  all_by : (p : Touch E → Bool) (n x : Touch E) (xs : List (Touch E)) (o : Ordering) → touch_cmp k n x ≡ o → p n ≡ true
      → (n.transaction ≡ x.transaction → n.entry ≡ x.entry → p (record x { leaf = n.leaf }) ≡ true)
      → p x ≡ true → list_all p xs ≡ true → list_all p (touching k n xs) ≡ true
      → list_all p (match_ordering o (n ∷ x ∷ xs) (record x { leaf = n.leaf } ∷ xs) (x ∷ touching k n xs)) ≡ true
  all_by p n x xs Less h here leaf first all rest = and_all (p n) (p x && list_all p xs) here (and_all (p x) (list_all p xs) first all)
  all_by p n x xs Equal h here leaf first all rest =
      let both = touch_exact k l n x h in and_all (p (record x { leaf = n.leaf })) (list_all p xs) (leaf both.0 both.1) all
  all_by p n x xs Greater h here leaf first all rest = and_all (p x) (list_all p (touching k n xs)) first rest

  -- what holds of a touch and of all others holds of all with it
  all_touching : (p : Touch E → Bool) (n : Touch E) (xs : List (Touch E)) → p n ≡ true
      → ((x : Touch E) → p x ≡ true → n.transaction ≡ x.transaction → n.entry ≡ x.entry → p (record x { leaf = n.leaf }) ≡ true)
      → list_all p xs ≡ true → list_all p (touching k n xs) ≡ true
  all_touching p n [] here leaf all = and_all (p n) true here refl
  all_touching p n (x ∷ xs) here leaf all =
      let first = and_first (p x) (list_all p xs) all in
      let later = and_second (p x) (list_all p xs) all in
      all_by p n x xs (touch_cmp k n x) refl here (leaf x first) first later (all_touching p n xs here leaf later)

  -- where a transaction alone has touched an entry, a touch of it lies apart from all others
  test_alone : (n : Touch E) (xs : List (Touch E)) → IsAlone k n.transaction n.entry xs → list_all (beside_test n) xs ≡ true
  test_alone n [] alone = refl
  test_alone n (x ∷ xs) alone =
      and_all (beside_test n x) (list_all (beside_test n) xs)
      (elim (true_or_false (same k n.entry x.entry)) [
        | inl is ↦
            let listed : lists k x.transaction n.entry (x ∷ xs) ≡ true =
            ap (λ b. (b && same k n.entry x.entry) || lists k x.transaction n.entry xs) (itself x.transaction)
            ∙ ap (λ b. b || lists k x.transaction n.entry xs) is in
            let one : (n.transaction == x.transaction) ≡ true = eq-eqb n.transaction x.transaction (sym (alone x.transaction listed)) in
            ap (λ b. b || not (same k n.entry x.entry)) one
        | inr other ↦ or_second (n.transaction == x.transaction) (not (same k n.entry x.entry)) (ap not other)
      ])
      (test_alone n xs (λ u h. alone u (or_second (x.transaction == u && same k n.entry x.entry) (lists k u n.entry xs) h)))

  test_turned : (x n : Touch E) → beside_test n x ≡ true → beside_test x n ≡ true
  test_turned x n h =
      elim (true_or_false (same k x.entry n.entry)) [
        | inl is ↦
            let at : x.entry ≡ n.entry = same_is k l x.entry n.entry is in
            let tied : same k n.entry x.entry ≡ true = ap (λ e. same k n.entry e) at ∙ same_itself k l n.entry in
            elim (either_of (n.transaction == x.transaction) (not (same k n.entry x.entry)) h) [
              | inl one ↦ ap (λ b. b || not (same k x.entry n.entry)) (eq-eqb x.transaction n.transaction (sym (eqb-true n.transaction x.transaction one)))
              | inr two ↦ clash (not (same k n.entry x.entry)) two (ap not tied)
            ]
        | inr other ↦ or_second (x.transaction == n.transaction) (not (same k x.entry n.entry)) (ap not other)
      ]

  apart_by : (n x : Touch E) (xs : List (Touch E)) (o : Ordering) → touch_cmp k n x ≡ o → beside_test n x ≡ true → list_all (beside_test n) xs ≡ true
      → list_all (beside_test x) xs ≡ true → apart k xs ≡ true → apart k (touching k n xs) ≡ true
      → apart k (match_ordering o (n ∷ x ∷ xs) (record x { leaf = n.leaf } ∷ xs) (x ∷ touching k n xs)) ≡ true
  apart_by n x xs Less h first all own rest more =
      and_all (beside_test n x && list_all (beside_test n) xs) (list_all (beside_test x) xs && apart k xs)
      (and_all (beside_test n x) (list_all (beside_test n) xs) first all) (and_all (list_all (beside_test x) xs) (apart k xs) own rest)
  apart_by n x xs Equal h first all own rest more = and_all (list_all (beside_test x) xs) (apart k xs) own rest
  apart_by n x xs Greater h first all own rest more =
      and_all (list_all (beside_test x) (touching k n xs)) (apart k (touching k n xs))
      (all_touching (beside_test x) n xs (test_turned x n first) (λ y h t e. h) own) more

  apart_touching : (n : Touch E) (xs : List (Touch E)) → list_all (beside_test n) xs ≡ true → apart k xs ≡ true → apart k (touching k n xs) ≡ true
  apart_touching n [] all rest = refl
  apart_touching n (x ∷ xs) all rest =
      let first = and_first (beside_test n x) (list_all (beside_test n) xs) all in
      let later = and_second (beside_test n x) (list_all (beside_test n) xs) all in
      let own = and_first (list_all (beside_test x) xs) (apart k xs) rest in
      let tail = and_second (list_all (beside_test x) xs) (apart k xs) rest in
      apart_by n x xs (touch_cmp k n x) refl first later own tail (apart_touching n xs later tail)

  -- what is placed beside an entry, with that entry in its place
  placed_other : (tree : Tree P) (n x : Touch E) (xs : List (Touch E)) → same k x.entry n.entry ≡ false → Placed k tree (beside k n.entry (x ∷ xs))
      → k.placed tree x.entry x.leaf × Placed k tree (beside k n.entry xs)
  placed_other tree n x xs other placed =
      subst (λ b. Placed k tree (cond (not b) (x ∷ beside k n.entry xs) (beside k n.entry xs))) other placed

  differs : (n x : Touch E) (xs : List (Touch E)) → IsAlone k n.transaction n.entry (x ∷ xs)
      → (n.transaction ≡ x.transaction → n.entry ≡ x.entry → ⊥) → same k x.entry n.entry ≡ false
  differs n x xs alone clashes =
      elim (true_or_false (same k x.entry n.entry)) [
        | inl is ↦
            let at : x.entry ≡ n.entry = same_is k l x.entry n.entry is in
            let tied : same k n.entry x.entry ≡ true = ap (λ e. same k n.entry e) at ∙ same_itself k l n.entry in
            let listed : lists k x.transaction n.entry (x ∷ xs) ≡ true =
            ap (λ b. (b && same k n.entry x.entry) || lists k x.transaction n.entry xs) (itself x.transaction)
            ∙ ap (λ b. b || lists k x.transaction n.entry xs) tied in
            absurd (clashes (sym (alone x.transaction listed)) (sym at))
        | inr other ↦ other
      ]

  -- where all of an entry's touches are of another transaction or entry, there is none of it
  placed_all : (tree : Tree P) (n : Touch E) (xs : List (Touch E)) → Before k n xs → IsAlone k n.transaction n.entry xs
      → Placed k tree (beside k n.entry xs) → Placed k tree xs
  placed_all tree n [] before alone placed = tt
  placed_all tree n (x ∷ xs) before alone placed =
      let other : same k x.entry n.entry ≡ false = differs n x xs alone (λ t e. apart_if_less k l n x before.0 t e) in
      let both = placed_other tree n x xs other placed in
      (both.0, placed_all tree n xs before.1 (λ u h. alone u (or_second (x.transaction == u && same k n.entry x.entry) (lists k u n.entry xs) h)) both.1)

  alone_as : (x n : Touch E) (xs : List (Touch E)) → n.transaction ≡ x.transaction → n.entry ≡ x.entry → IsAlone k n.transaction n.entry (x ∷ xs)
      → IsAlone k x.transaction x.entry xs
  alone_as x n xs t e alone u h =
      let listed : lists k u n.entry xs ≡ true = ap (λ y. lists k u y xs) e ∙ h in
      alone u (or_second (x.transaction == u && same k n.entry x.entry) (lists k u n.entry xs) listed) ∙ t

  placed_by : (tree : Tree P) (n x : Touch E) (xs : List (Touch E)) (o : Ordering) → touch_cmp k n x ≡ o → InOrder k (x ∷ xs)
      → IsAlone k n.transaction n.entry (x ∷ xs) → k.placed tree n.entry n.leaf → Placed k tree (beside k n.entry (x ∷ xs))
      → (Placed k tree (beside k n.entry xs) → Placed k tree (touching k n xs))
      → Placed k tree (match_ordering o (n ∷ x ∷ xs) (record x { leaf = n.leaf } ∷ xs) (x ∷ touching k n xs))
  placed_by tree n x xs Less h o alone here placed go = (here, placed_all tree n (x ∷ xs) (h, before_through k l n x xs h o.0) alone placed)
  placed_by tree n x xs Equal h o alone here placed go =
      let both = touch_exact k l n x h in
      let is : same k x.entry n.entry ≡ true = ap (λ e. same k x.entry e) both.1 ∙ same_itself k l x.entry in
      let rest : Placed k tree (beside k n.entry xs) =
      subst (λ b. Placed k tree (cond (not b) (x ∷ beside k n.entry xs) (beside k n.entry xs))) is placed in (
        subst (λ e. k.placed tree e n.leaf) both.1 here,
        placed_all tree x xs o.0 (λ u g. alone_as x n xs both.0 both.1 alone u g) (subst (λ e. Placed k tree (beside k e xs)) both.1 rest),
      )
  placed_by tree n x xs Greater h o alone here placed go =
      let other : same k x.entry n.entry ≡ false = differs n x xs alone (λ t e. apart_if_greater n x h t e) in
      let both = placed_other tree n x xs other placed in
      (both.0, go both.1)

  placed_touching : (tree : Tree P) (n : Touch E) (xs : List (Touch E)) → InOrder k xs → IsAlone k n.transaction n.entry xs
      → k.placed tree n.entry n.leaf → Placed k tree (beside k n.entry xs) → Placed k tree (touching k n xs)
  placed_touching tree n [] o alone here placed = (here, tt)
  placed_touching tree n (x ∷ xs) o alone here placed =
      placed_by tree n x xs (touch_cmp k n x) refl o alone here placed
      (λ rest. placed_touching tree n xs o.1 (λ u h. alone u (or_second (x.transaction == u && same k n.entry x.entry) (lists k u n.entry xs) h)) here rest)

  still_fits : (used more : ℕ) (x : Touch E) → used ≤ more → touch_fits k used x ≡ true → touch_fits k more x ≡ true
  still_fits used more x up h =
      let rest = and_second (is_transaction x.transaction) (k.is_entry x.entry && is_page used x.leaf) h in
      let page = and_second (k.is_entry x.entry) (is_page used x.leaf) rest in
      and_all (is_transaction x.transaction) (k.is_entry x.entry && is_page more x.leaf) (and_first (is_transaction x.transaction) (k.is_entry x.entry && is_page used x.leaf) h)
      (and_all (k.is_entry x.entry) (is_page more x.leaf) (and_first (k.is_entry x.entry) (is_page used x.leaf) rest)
      (and_all (nat_lt 0 x.leaf) (nat_le x.leaf more) (and_first (nat_lt 0 x.leaf) (nat_le x.leaf used) page)
      (within x.leaf used more up (and_second (nat_lt 0 x.leaf) (nat_le x.leaf used) page))))

  pub all_fit : (used more : ℕ) (xs : List (Touch E)) → used ≤ more → list_all (touch_fits k used) xs ≡ true → list_all (touch_fits k more) xs ≡ true
  all_fit used more [] up h = refl
  all_fit used more (x ∷ xs) up h =
      and_all (touch_fits k more x) (list_all (touch_fits k more) xs) (still_fits used more x up (and_first (touch_fits k used x) (list_all (touch_fits k used) xs) h))
      (all_fit used more xs up (and_second (touch_fits k used x) (list_all (touch_fits k used) xs) h))

  fits_as_said : (leaf : ℕ) (said : Said P) (log : List (Record E P)) → IsSaid k leaf said log → said_fits k leaf said log ≡ true
  fits_as_said leaf (Whole content) log is = eq-eqb (k.own content) leaf is
  fits_as_said leaf (Small change) log is = is

  module _ (area : ℕ → P) (log : List (Record E P)) (is : IsLog k log) where
    told : Told k log
    told = told_log k l log is

    -- a sound write may come
    pub write_may_come : (t : ℕ) (entry : E) (before after : Bool) (leaf : ℕ) (said : Said P) → IsSoundWrite k area log t entry before after leaf said
        → MayCome k area log (Write t entry before after leaf said)
    write_may_come t entry before after leaf said w =
        let r : Record E P = Write t entry before after leaf said in
        let n : Touch E = record { transaction = t; entry = entry; before = before; leaf = leaf } in
        let a : Analysis E = analysis k log in
        let next : Analysis E = read k a r in
        let read_is : analysis k (log ++ r ∷ []) ≡ next = analysis-snoc k log r in
        let old : FitsBy a = parts_of a (log_fits k l log is) in
        let one : is_transaction t ≡ true = and_first (is_transaction t) (not (settled any_number t log)) w.open_yet in
        let fit : touch_fits k a.used n ≡ true =
        and_all (is_transaction t) (k.is_entry entry && is_page a.used leaf) one (and_all (k.is_entry entry) (is_page a.used leaf) w.of_class w.in_use) in
        let parts : FitsBy next = record {
          device = old.device;
          each = all_touching (touch_fits k a.used) n a.touched fit (λ x h u e.
              (let rest = and_second (is_transaction x.transaction) (k.is_entry x.entry && is_page a.used x.leaf) h in
              and_all (is_transaction x.transaction) (k.is_entry x.entry && is_page a.used leaf) (and_first (is_transaction x.transaction) (k.is_entry x.entry && is_page a.used x.leaf) h)
              (and_all (k.is_entry x.entry) (is_page a.used leaf) (and_first (k.is_entry x.entry) (is_page a.used x.leaf) rest) w.in_use))) old.each;
          lie_apart = apart_touching n a.touched (test_alone n a.touched w.alone) old.lie_apart;
          few = le-leb (transactions next.touched) TRANSACTIONS w.room.few;
          short = le-leb (length next.touched) TOUCHED w.room.short;
        } in
        record {
          follows = and_all (may_follow k log a r) (fits k (analysis k (log ++ r ∷ [])))
              (and_all (not (settled any_number t log)) (said_fits k leaf said log) (and_second (is_transaction t) (not (settled any_number t log)) w.open_yet) (fits_as_said leaf said log w.own))
              (ap (fits k) read_is ∙ whole_of next parts);
          exact = w.exact;
          good = record {
            sound = w.sound;
            placed = subst (λ (x : Analysis E). Placed k (tree_of k area (log ++ r ∷ [])) x.touched) (sym read_is)
                (placed_touching (tree_of k area (log ++ r ∷ [])) n a.touched told.in_order w.alone w.placed w.others);
          };
        }

    -- and so may sound pages
    pub pages_may_come : (images : List (Image P)) (counter used : ℕ) → AreSoundPages k area log images counter used → MayCome k area log (Pages images counter used)
    pages_may_come images counter used p =
        let r : Record E P = Pages images counter used in
        let a : Analysis E = analysis k log in
        let next : Analysis E = read k a r in
        let read_is : analysis k (log ++ r ∷ []) ≡ next = analysis-snoc k log r in
        let old : FitsBy a = parts_of a (log_fits k l log is) in
        let parts : FitsBy next = record {
          device = le-leb used k.pages p.on_device;
          each = all_fit a.used used a.touched p.used_stays old.each;
          lie_apart = old.lie_apart;
          few = old.few;
          short = old.short;
        } in
        record {
          follows = and_all (may_follow k log a r) (fits k (analysis k (log ++ r ∷ [])))
              (and_all (nat_le a.counter counter) (nat_le a.used used && list_all (image_fits k used) images) (le-leb a.counter counter p.counter_stays)
              (and_all (nat_le a.used used) (list_all (image_fits k used) images) (le-leb a.used used p.used_stays) p.fitting))
              (ap (fits k) read_is ∙ whole_of next parts);
          exact = p.exact;
          good = record {
            sound = p.sound;
            placed = subst (λ (x : Analysis E). Placed k (tree_of k area (log ++ r ∷ [])) x.touched) (sym read_is) p.placed;
          };
        }

    -- and a sound small change
    pub change_may_come : (page : ℕ) (change : Change P) → IsSoundChange k area log page change → MayCome k area log (Adjust page change)
    change_may_come page change c =
        let r : Record E P = Adjust page change in
        let read_is : analysis k (log ++ r ∷ []) ≡ analysis k log = analysis-snoc k log r in
        record {
          follows = and_all (may_follow k log (analysis k log) r) (fits k (analysis k (log ++ r ∷ []))) c.fitting (ap (fits k) read_is ∙ log_fits k l log is);
          exact = c.exact;
          good = record {
            sound = c.sound;
            placed = subst (λ (x : Analysis E). Placed k (tree_of k area (log ++ r ∷ [])) x.touched) (sym read_is) c.placed;
          };
        }
