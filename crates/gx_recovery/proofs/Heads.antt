-- What begins a head is a head: of what fits with one touch more, the touches without it fit, where their leaves are in use.
use Rattle.std.proofs.Common.{◌≡◌, ℕ, ◌+◌, ◌≤◌, max, Bool, true, false, not, ◌&&◌, ◌||◌, List, [], ◌∷◌, ◌++◌, length, refl, ap, sym, ◌∙◌, arith}
use Rattle.std.specs.Prelude.{nat_le, ◌==◌, if◌then◌else◌}
use Rattle.std.specs.List.{list_all}
use Rattle.std.specs.declared.cmp.Ordering.{Ordering}
use Rattle.std.specs.declared.cmp.Ordering.TheVariants.{Less, Equal, Greater}
use Rattle.std.specs.Ordering.{match_ordering}
use Rattle.std.proofs.Math.Bool.{and-false}
use Rattle.std.proofs.lemmas.Bool.{leb-true, le-leb}
use Rattle.std.proofs.lemmas.List.Folds.{list_all-append}
use Rattle.gx_recovery.specs.Known.{Known, IsLawful, same}
use Rattle.gx_recovery.specs.Records.{Record, Pages, Adjust, Write, Commit, End, Counters, Note, Touch}
use Rattle.gx_recovery.specs.Analysis.{Analysis, analysis, unread, read, read_on, touch_cmp, touching}
use Rattle.gx_recovery.specs.Damage.{is_transaction, is_page, touch_fits, apart, transactions, fits, is_note, note_fits, is_head}
use Rattle.gx_recovery.proofs.Tests.{and_first, and_second}
use Rattle.gx_recovery.proofs.Folds.{analysis-snoc}
use Rattle.gx_recovery.proofs.Logs.{and_all}
use Rattle.gx_recovery.proofs.SoundRecords.{FitsBy, parts_of, whole_of}
use Rattle.gx_recovery.specs.declared.TheConstants.{TRANSACTIONS, TOUCHED}
use Rattle.gx_recovery.specs.Kept.{has_touched}
use Rattle.gx_recovery.specs.Telling.{NoEntryIsNoNote, HeadsBegin}
use Rattle.gx_recovery.proofs.Fitting.{all_with, counted_with, unfits_with}

fewer : (b : Bool) (n most : ℕ) → nat_le (if b then n else n + 1) most ≡ true → nat_le n most ≡ true
fewer true n most h = h
fewer false n most h = le-leb n most (let more : n + 1 ≤ most = leb-true (n + 1) most h in omega (arith, more))

shorter : (n more most : ℕ) → n ≤ more → nat_le more most ≡ true → nat_le n most ≡ true
shorter n more most less h = le-leb n most (let at_most : more ≤ most = leb-true more most h in omega (arith, less, at_most))

module _ {E P : Type 0} (k : Known E P) (l : IsLawful k) where
  abbrev beside : Touch E → Touch E → Bool
  beside t x = t.transaction == x.transaction || not (same k t.entry x.entry)

  abbrev in_use : ℕ → Touch E → Bool
  in_use used x = is_page used x.leaf

  all_less_by : (p q : Touch E → Bool) (t x : Touch E) (xs : List (Touch E)) (o : Ordering)
      → ((y : Touch E) → q y ≡ true → p (record y { leaf = t.leaf }) ≡ true → p y ≡ true) → list_all q (x ∷ xs) ≡ true
      → (list_all p (touching k t xs) ≡ true → list_all p xs ≡ true)
      → list_all p (match_ordering o (t ∷ x ∷ xs) (record x { leaf = t.leaf } ∷ xs) (x ∷ touching k t xs)) ≡ true → list_all p (x ∷ xs) ≡ true
  all_less_by p q t x xs Less back own rest h = and_second (p t) (p x && list_all p xs) h
  all_less_by p q t x xs Equal back own rest h =
      let moved : Touch E = record x { leaf = t.leaf } in
      and_all (p x) (list_all p xs) (back x (and_first (q x) (list_all q xs) own) (and_first (p moved) (list_all p xs) h)) (and_second (p moved) (list_all p xs) h)
  all_less_by p q t x xs Greater back own rest h =
      and_all (p x) (list_all p xs) (and_first (p x) (list_all p (touching k t xs)) h) (rest (and_second (p x) (list_all p (touching k t xs)) h))

  -- what all pass with one touch more, all pass without it, where each passes that one's leaf or its own
  all_less : (p q : Touch E → Bool) (t : Touch E) (xs : List (Touch E)) → ((y : Touch E) → q y ≡ true → p (record y { leaf = t.leaf }) ≡ true → p y ≡ true)
      → list_all q xs ≡ true → list_all p (touching k t xs) ≡ true → list_all p xs ≡ true
  all_less p q t [] back own h = refl
  all_less p q t (x ∷ xs) back own h =
      all_less_by p q t x xs (touch_cmp k t x) back own (λ more. all_less p q t xs back (and_second (q x) (list_all q xs) own) more) h

  apart_less_by : (t x : Touch E) (xs : List (Touch E)) (o : Ordering) → (list_all (beside x) (touching k t xs) ≡ true → list_all (beside x) xs ≡ true)
      → (apart k (touching k t xs) ≡ true → apart k xs ≡ true)
      → apart k (match_ordering o (t ∷ x ∷ xs) (record x { leaf = t.leaf } ∷ xs) (x ∷ touching k t xs)) ≡ true → apart k (x ∷ xs) ≡ true
  apart_less_by t x xs Less first rest h = and_second (list_all (beside t) (x ∷ xs)) (apart k (x ∷ xs)) h
  apart_less_by t x xs Equal first rest h = h
  apart_less_by t x xs Greater first rest h =
      and_all (list_all (beside x) xs) (apart k xs) (first (and_first (list_all (beside x) (touching k t xs)) (apart k (touching k t xs)) h))
      (rest (and_second (list_all (beside x) (touching k t xs)) (apart k (touching k t xs)) h))

  apart_less : (used : ℕ) (t : Touch E) (xs : List (Touch E)) → list_all (in_use used) xs ≡ true → apart k (touching k t xs) ≡ true → apart k xs ≡ true
  apart_less used t [] leaves h = refl
  apart_less used t (x ∷ xs) leaves h =
      let others = and_second (in_use used x) (list_all (in_use used) xs) leaves in
      apart_less_by t x xs (touch_cmp k t x) (λ more. all_less (beside x) (in_use used) t xs (λ y own is. is) others more) (λ more. apart_less used t xs others more) h

  longer_by : (t x : Touch E) (xs : List (Touch E)) (o : Ordering) → length xs ≤ length (touching k t xs)
      → length (x ∷ xs) ≤ length (match_ordering o (t ∷ x ∷ xs) (record x { leaf = t.leaf } ∷ xs) (x ∷ touching k t xs))
  longer_by t x xs Less rest = omega arith
  longer_by t x xs Equal rest = omega arith
  longer_by t x xs Greater rest = omega (arith, rest)

  longer : (t : Touch E) (xs : List (Touch E)) → length xs ≤ length (touching k t xs)
  longer t [] = omega arith
  longer t (x ∷ xs) = longer_by t x xs (touch_cmp k t x) (longer t xs)

  own_leaf : (used : ℕ) (t y : Touch E) → in_use used y ≡ true → touch_fits k used (record y { leaf = t.leaf }) ≡ true → touch_fits k used y ≡ true
  own_leaf used t y own h =
      let rest = and_second (is_transaction y.transaction) (k.is_entry y.entry && is_page used t.leaf) h in
      and_all (is_transaction y.transaction) (k.is_entry y.entry && is_page used y.leaf) (and_first (is_transaction y.transaction) (k.is_entry y.entry && is_page used t.leaf) h)
      (and_all (k.is_entry y.entry) (is_page used y.leaf) (and_first (k.is_entry y.entry) (is_page used t.leaf) rest) own)

  fits_less : (a : Analysis E) (next : ℕ) (t : Touch E) → list_all (in_use a.used) a.touched ≡ true → fits k (record a { next = next; touched = touching k t a.touched }) ≡ true
      → fits k a ≡ true
  fits_less a next t leaves h =
      let more : FitsBy k l (record a { next = next; touched = touching k t a.touched }) = parts_of k l (record a { next = next; touched = touching k t a.touched }) h in
      whole_of k l a (record {
        device = more.device;
        each = all_less (touch_fits k a.used) (in_use a.used) t a.touched (own_leaf a.used t) leaves more.each;
        lie_apart = apart_less a.used t a.touched leaves more.lie_apart;
        few = fewer (has_touched t.transaction a.touched) (transactions a.touched) TRANSACTIONS (ap (λ n. nat_le n TRANSACTIONS) (sym (counted_with k l t a.touched)) ∙ more.few);
        short = shorter (length a.touched) (length (touching k t a.touched)) TOUCHED (longer t a.touched) more.short;
      })

  -- what fits with notes behind it fits without them
  begins_by : (a : Analysis E) (notes : List (Record E P)) → list_all is_note notes ≡ true → list_all (note_fits a.used) notes ≡ true
      → list_all (in_use a.used) a.touched ≡ true → fits k (read_on k a notes) ≡ true → fits k a ≡ true
  begins_by a [] all each leaves h = h
  begins_by a (Note transaction entry before leaf ∷ notes) all each leaves h =
      let t : Touch E = record { transaction = transaction; entry = entry; before = before; leaf = leaf } in
      fits_less a (max a.next (transaction + 1)) t leaves
      (begins_by (read k a (Note transaction entry before leaf)) notes all (and_second (is_page a.used leaf) (list_all (note_fits a.used) notes) each)
      (all_with k l (in_use a.used) t a.touched (λ y same_touch. refl) leaves ∙ and_first (is_page a.used leaf) (list_all (note_fits a.used) notes) each) h)
  begins_by a (Pages images counter used ∷ notes) all each leaves h = cc
  begins_by a (Adjust page change ∷ notes) all each leaves h = cc
  begins_by a (Write transaction entry before after leaf said ∷ notes) all each leaves h = cc
  begins_by a (Commit transaction number ∷ notes) all each leaves h = cc
  begins_by a (End transaction ∷ notes) all each leaves h = cc
  begins_by a (Counters number counter used next ∷ notes) all each leaves h = cc

  begins_on : (a : Analysis E) (notes more : List (Record E P)) → list_all is_note (notes ++ more) ≡ true → list_all (note_fits a.used) (notes ++ more) ≡ true
      → list_all (in_use a.used) a.touched ≡ true → fits k (read_on k a (notes ++ more)) ≡ true → fits k (read_on k a notes) ≡ true
  begins_on a [] more all each leaves h = begins_by a more all each leaves h
  begins_on a (Note transaction entry before leaf ∷ notes) more all each leaves h =
      let t : Touch E = record { transaction = transaction; entry = entry; before = before; leaf = leaf } in
      begins_on (read k a (Note transaction entry before leaf)) notes more all (and_second (is_page a.used leaf) (list_all (note_fits a.used) (notes ++ more)) each)
      (all_with k l (in_use a.used) t a.touched (λ y same_touch. refl) leaves ∙ and_first (is_page a.used leaf) (list_all (note_fits a.used) (notes ++ more)) each) h
  begins_on a (Pages images counter used ∷ notes) more all each leaves h = cc
  begins_on a (Adjust page change ∷ notes) more all each leaves h = cc
  begins_on a (Write transaction entry before after leaf said ∷ notes) more all each leaves h = cc
  begins_on a (Commit transaction number ∷ notes) more all each leaves h = cc
  begins_on a (End transaction ∷ notes) more all each leaves h = cc
  begins_on a (Counters number counter used next ∷ notes) more all each leaves h = cc

  head_begins : (number counter used next : ℕ) (notes more : List (Record E P)) → is_head k (Counters number counter used next ∷ (notes ++ more)) ≡ true
      → is_head k (Counters number counter used next ∷ notes) ≡ true
  head_begins number counter used next notes more h =
      let begun : Analysis E = read k unread (Counters number counter used next) in
      let all : Bool = list_all is_note (notes ++ more) in
      let each : Bool = list_all (note_fits used) (notes ++ more) in
      let fit : Bool = fits k (read_on k begun (notes ++ more)) in
      let rest : (each && fit) ≡ true = and_second all (each && fit) h in
      and_all (list_all is_note notes) (list_all (note_fits used) notes && fits k (read_on k begun notes))
      (and_first (list_all is_note notes) (list_all is_note more) (sym (list_all-append is_note notes more) ∙ and_first all (each && fit) h))
      (and_all (list_all (note_fits used) notes) (fits k (read_on k begun notes))
      (and_first (list_all (note_fits used) notes) (list_all (note_fits used) more) (sym (list_all-append (note_fits used) notes more) ∙ and_first each fit rest))
      (begins_on begun notes more (and_first all (each && fit) h) (and_first each fit rest) refl (and_second each fit rest)))

  no_note : (head : List (Record E P)) → is_head k head ≡ true → (t : Touch E) → k.is_entry t.entry ≡ false
      → is_head k (head ++ Note t.transaction t.entry t.before t.leaf ∷ []) ≡ false
  no_note [] h t of_none = cc
  no_note (Counters number counter used next ∷ notes) h t of_none =
      let head : List (Record E P) = Counters number counter used next ∷ notes in
      let n : Record E P = Note t.transaction t.entry t.before t.leaf in
      let each : Bool = list_all (note_fits used) notes in
      let fit : fits k (analysis k head) ≡ true = and_second each (fits k (analysis k head)) (and_second (list_all is_note notes) (each && fits k (analysis k head)) h) in
      let unfit : fits k (analysis k (head ++ n ∷ [])) ≡ false =
      ap (fits k) (analysis-snoc k head n) ∙ unfits_with k l (analysis k head) (max (analysis k head).next (t.transaction + 1)) t fit of_none in
      ap (λ b. list_all is_note (notes ++ n ∷ []) && (list_all (note_fits used) (notes ++ n ∷ []) && b)) unfit
      ∙ ap (λ b. list_all is_note (notes ++ n ∷ []) && b) (and-false (list_all (note_fits used) (notes ++ n ∷ []))) ∙ and-false (list_all is_note (notes ++ n ∷ []))
  no_note (Pages images counter used ∷ notes) h t of_none = cc
  no_note (Adjust page change ∷ notes) h t of_none = cc
  no_note (Write u e b after leaf said ∷ notes) h t of_none = cc
  no_note (Commit u number ∷ notes) h t of_none = cc
  no_note (End u ∷ notes) h t of_none = cc
  no_note (Note u e b leaf ∷ notes) h t of_none = cc

module _ {E P : Type 0} (k : Known E P) where
  pub no_entry_is_no_note : NoEntryIsNoNote k
  no_entry_is_no_note l head h t of_none = no_note k l head h t of_none

  pub heads_begin : HeadsBegin k
  heads_begin l number counter used next notes more h = head_begins k l number counter used next notes more h
