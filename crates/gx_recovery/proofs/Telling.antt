-- What is kept of a log decides what may follow it.
use Rattle.std.proofs.Common.{◌≡◌, ℕ, ◌+◌, max, Bool, true, false, not, ◌&&◌, ◌||◌, List, [], ◌∷◌, ◌++◌, map, length, refl, ap, sym, ◌∙◌}
use Rattle.std.specs.Prelude.{nat_le, ◌==◌}
use Rattle.std.specs.List.{list_all}
use Rattle.std.proofs.Math.Bool.{and-true, and-false}
use Rattle.std.proofs.lemmas.Bool.{eq-eqb, leb-true}
use Rattle.std.proofs.lemmas.List.{append-nil}
use Rattle.std.proofs.lemmas.List.Folds.{list_all-append}
use Rattle.gx_recovery.specs.Known.{Known, IsLawful}
use Rattle.gx_recovery.specs.Records.{Image, Change, Said, Whole, Record, Pages, Adjust, Write, Commit, End, Counters, Note, Touch, settled, any_number}
use Rattle.gx_recovery.specs.Analysis.{Analysis, analysis, unread, read, read_on, touching, without}
use Rattle.gx_recovery.specs.Given.{given, change_fits}
use Rattle.gx_recovery.specs.Damage.{is_transaction, is_page, touch_fits, apart, transactions, fits, image_fits, said_fits, is_open, may_follow, is_note, note_fits, is_head, IsLog}
use Rattle.gx_recovery.proofs.Tests.{and_first, and_second}
use Rattle.gx_recovery.proofs.Folds.{analysis-snoc, settled-snoc}
use Rattle.gx_recovery.proofs.Told.{settled_shut}
use Rattle.gx_recovery.proofs.Logs.{and_all}
use Rattle.gx_recovery.proofs.Renewals.{log_fits}
use Rattle.gx_recovery.proofs.SoundRecords.{FitsBy, parts_of, all_fit}
use Rattle.gx_recovery.proofs.Undo.{fits_without}
use Rattle.gx_recovery.specs.declared.TheConstants.{TRANSACTIONS, TOUCHED}
use Rattle.gx_recovery.specs.Kept.{Kept, by_order, is_closed, lies_apart, may_be_open, has_place, may_touch, may_write, may_give, may_end, may_commit, with_touch, with_pages, with_end, with_commit, ClosedBy}
use Rattle.gx_recovery.specs.Telling.{IsKept, Tells, TellsClosing, AreOwn, WritesTell, NoEntryIsRefused, ChangesTell, PagesTell, CommitsTell, EndsTell, CountersTell, NotesTell}
use Rattle.gx_recovery.proofs.Bridging.{same_touching}
use Rattle.gx_recovery.proofs.Fitting.{yes_and, and_yes, fits_with, unfits_with}

pages_in_row : (a b c d : Bool) → (b ≡ true → d ≡ true) → ((a && (b && c)) && d) ≡ (a && (b && c))
pages_in_row false b c d h = refl
pages_in_row true false c d h = refl
pages_in_row true true c d h = and_yes c d (h refl)

given_in_row : (a b c d e : Bool) → (b ≡ true → d ≡ e) → ((a && (b && c)) && d) ≡ (a && (b && (c && e)))
given_in_row false b c d e h = refl
given_in_row true false c d e h = refl
given_in_row true true false d e h = refl
given_in_row true true true d e h = h refl

page_again : (a b c : Bool) → (b && (a && (b && c))) ≡ (a && (b && c))
page_again true true c = refl
page_again true false c = refl
page_again false true c = refl
page_again false false c = refl

last_first : (a b c : Bool) → ((a && b) && c) ≡ ((a && c) && b)
last_first false b c = refl
last_first true true true = refl
last_first true true false = refl
last_first true false true = refl
last_first true false false = refl

module _ {E P : Type 0} (k : Known E P) where
  -- the state with another analysis
  abbrev telling : Kept E → Analysis E → Kept E
  telling s a = record s { told = a }

  may_touch_by : (t : Touch E) (s : Kept E) (a : Analysis E) → s.told ≡ a → may_touch k.cmp t s ≡ may_touch k.cmp t (telling s a)
  may_touch_by t s a is = ap (λ (x : Analysis E). may_touch k.cmp t (telling s x)) is

  -- what a log says with one touch more
  touched_told : (t : Touch E) (s : Kept E) (a : Analysis E) → s.told ≡ a
      → (with_touch k.cmp t s).told ≡ (record a { next = max a.next (t.transaction + 1); touched = touching k t a.touched })
  touched_told t s a is =
      ap (λ (x : Analysis E). record x { next = max x.next (t.transaction + 1); touched = touching (by_order k.cmp) t x.touched }) is
      ∙ ap (λ (ys : List (Touch E)). record a { next = max a.next (t.transaction + 1); touched = ys }) (same_touching k t a.touched)

  -- what stays closed with a record that closes nothing
  same_closed : (log : List (Record E P)) (r : Record E P) (closed : List ℕ) → ((u : ℕ) → is_closed u closed ≡ settled any_number u log)
      → ((u : ℕ) → settled any_number u (log ++ r ∷ []) ≡ settled any_number u log) → (u : ℕ) → is_closed u closed ≡ settled any_number u (log ++ r ∷ [])
  same_closed log r closed is stays u = is u ∙ sym (stays u)

  images_fit : (used : ℕ) (images : List (Image P)) → AreOwn k images → list_all (image_fits k used) images ≡ list_all (is_page used) (map (λ i. i.page) images)
  images_fit used [] own = refl
  images_fit used (i ∷ images) own =
      ap (λ b. b && list_all (image_fits k used) images) (and_yes (is_page used i.page) (k.own i.content == i.page) (eq-eqb (k.own i.content) i.page own.0))
      ∙ ap (λ b. is_page used i.page && b) (images_fit used images own.1)

  used_by : (a : Analysis E) (notes : List (Record E P)) → list_all is_note notes ≡ true → (read_on k a notes).used ≡ a.used
  used_by a [] h = refl
  used_by a (Note t e b leaf ∷ notes) h = used_by (read k a (Note t e b leaf)) notes h
  used_by a (Pages images counter used ∷ notes) h = cc
  used_by a (Adjust page change ∷ notes) h = cc
  used_by a (Write t e b after leaf said ∷ notes) h = cc
  used_by a (Commit t number ∷ notes) h = cc
  used_by a (End t ∷ notes) h = cc
  used_by a (Counters number counter used next ∷ notes) h = cc

  counters_tell : CountersTell k
  counters_tell s kept number counter used next =
      let begun : Analysis E = record { number = number; counter = counter; used = used; next = next; touched = [] } in
      record {
        exact = and_yes (nat_le used k.pages) (list_all (touch_fits k used) [] && (apart k [] && (nat_le (transactions {E = E} []) TRANSACTIONS && nat_le (length {A = Touch E} []) TOUCHED))) refl
            ∙ ap (λ n. nat_le used n) (sym kept.pages);
        kept = record {
          told = ap (λ (a : Analysis E). record a { number = number; counter = counter; used = used; next = next }) kept.told;
          closed = λ u. kept.closed u;
          pages = kept.pages;
        };
      }

  module _ (l : IsLawful k) (log : List (Record E P)) (s : Kept E) (is : IsLog k log) (kept : IsKept k log s) where
    fit : fits k (analysis k log) ≡ true
    fit = log_fits k l log is

    -- one more touch, of an entry of the class
    touch_fits_by : (t : Touch E) → k.is_entry t.entry ≡ true
        → fits k (record (analysis k log) { next = max (analysis k log).next (t.transaction + 1); touched = touching k t (analysis k log).touched }) ≡ may_touch k.cmp t s
    touch_fits_by t of_class =
        fits_with k l (analysis k log) (max (analysis k log).next (t.transaction + 1)) t fit of_class ∙ sym (may_touch_by t s (analysis k log) kept.told)

    touch_kept : (t : Touch E) (r : Record E P) → read k (analysis k log) r ≡ (record (analysis k log) { next = max (analysis k log).next (t.transaction + 1); touched = touching k t (analysis k log).touched })
        → ((u : ℕ) → settled any_number u (log ++ r ∷ []) ≡ settled any_number u log) → IsKept k (log ++ r ∷ []) (with_touch k.cmp t s)
    touch_kept t r reads stays = record {
      told = touched_told t s (analysis k log) kept.told ∙ sym reads ∙ sym (analysis-snoc k log r);
      closed = same_closed log r s.closed kept.closed stays;
      pages = kept.pages;
    }

    write_tells : (t : Touch E) (after : Bool) (said : Said P) → k.is_entry t.entry ≡ true
        → Tells k log (Write t.transaction t.entry t.before after t.leaf said) (may_write k.cmp t s && said_fits k t.leaf said log) (with_touch k.cmp t s)
    write_tells t after said of_class =
        let r : Record E P = Write t.transaction t.entry t.before after t.leaf said in
        let as_said : Bool = said_fits k t.leaf said log in
        record {
          exact = ap (λ b. (not b && as_said) && fits k (analysis k (log ++ r ∷ []))) (sym (kept.closed t.transaction))
              ∙ ap (λ b. (not (is_closed t.transaction s.closed) && as_said) && b) (ap (fits k) (analysis-snoc k log r) ∙ touch_fits_by t of_class)
              ∙ last_first (not (is_closed t.transaction s.closed)) as_said (may_touch k.cmp t s);
          kept = touch_kept t r refl (λ u. settled_shut k l any_number u log r refl);
        }

    change_tells : (page : ℕ) (change : Change P) → Tells k log (Adjust page change) (change_fits k change (given page log)) s
    change_tells page change =
        let r : Record E P = Adjust page change in
        record {
          exact = and_yes (change_fits k change (given page log)) (fits k (analysis k (log ++ r ∷ []))) (ap (fits k) (analysis-snoc k log r) ∙ fit);
          kept = record {
            told = kept.told ∙ sym (analysis-snoc k log r);
            closed = same_closed log r s.closed kept.closed (λ u. settled_shut k l any_number u log r refl);
            pages = kept.pages;
          };
        }

    pages_fit : (counter used : ℕ) → nat_le (analysis k log).used used ≡ true → fits k (record (analysis k log) { counter = counter; used = used }) ≡ nat_le used k.pages
    pages_fit counter used up =
        let old : FitsBy k l (analysis k log) = parts_of k l (analysis k log) fit in
        and_yes (nat_le used k.pages)
        (list_all (touch_fits k used) (analysis k log).touched && (apart k (analysis k log).touched && (nat_le (transactions (analysis k log).touched) TRANSACTIONS && nat_le (length (analysis k log).touched) TOUCHED)))
        (and_all (list_all (touch_fits k used) (analysis k log).touched) (apart k (analysis k log).touched && (nat_le (transactions (analysis k log).touched) TRANSACTIONS && nat_le (length (analysis k log).touched) TOUCHED))
        (all_fit k l (analysis k log).used used (analysis k log).touched (leb-true (analysis k log).used used up) old.each)
        (and_all (apart k (analysis k log).touched) (nat_le (transactions (analysis k log).touched) TRANSACTIONS && nat_le (length (analysis k log).touched) TOUCHED) old.lie_apart
        (and_all (nat_le (transactions (analysis k log).touched) TRANSACTIONS) (nat_le (length (analysis k log).touched) TOUCHED) old.few old.short)))

    pages_tell : (images : List (Image P)) (counter used : ℕ) → AreOwn k images
        → Tells k log (Pages images counter used) (may_give counter used (map (λ i. i.page) images) s) (with_pages counter used s)
    pages_tell images counter used own =
        let r : Record E P = Pages images counter used in
        let numbers : List ℕ = map (λ i. i.page) images in
        record {
          exact = given_in_row (nat_le (analysis k log).counter counter) (nat_le (analysis k log).used used) (list_all (image_fits k used) images) (fits k (analysis k (log ++ r ∷ []))) (nat_le used k.pages)
              (λ up. ap (fits k) (analysis-snoc k log r) ∙ pages_fit counter used up)
              ∙ ap (λ b. nat_le (analysis k log).counter counter && (nat_le (analysis k log).used used && (b && nat_le used k.pages))) (images_fit used images own)
              ∙ ap (λ n. nat_le (analysis k log).counter counter && (nat_le (analysis k log).used used && (list_all (is_page used) numbers && nat_le used n))) (sym kept.pages)
              ∙ ap (λ (x : Analysis E). nat_le x.counter counter && (nat_le x.used used && (list_all (is_page used) numbers && nat_le used s.pages))) (sym kept.told);
          kept = record {
            told = ap (λ (x : Analysis E). record x { counter = counter; used = used }) kept.told ∙ sym (analysis-snoc k log r);
            closed = same_closed log r s.closed kept.closed (λ u. settled_shut k l any_number u log r refl);
            pages = kept.pages;
          };
        }

    end_open : (t : ℕ) → is_open t log ≡ may_end t s
    end_open t = ap (λ b. is_transaction t && not b) (sym (kept.closed t))

    -- what fits, fits once a transaction is closed
    closed_fits : (t : ℕ) (r : Record E P) → (read k (analysis k log) r).used ≡ (analysis k log).used → (read k (analysis k log) r).touched ≡ without t (analysis k log).touched
        → fits k (analysis k (log ++ r ∷ [])) ≡ true
    closed_fits t r used touched =
        ap (fits k) (analysis-snoc k log r)
        ∙ fits_without k l t (analysis k log).used (analysis k log).touched (analysis k log) (read k (analysis k log) r) refl refl used touched fit

    closed_kept : (t : ℕ) (r : Record E P) (new : Kept E) → ClosedBy t (read k (analysis k log) r) s new
        → ((u : ℕ) → settled any_number u (log ++ r ∷ []) ≡ (settled any_number u log || t == u)) → IsKept k (log ++ r ∷ []) new
    closed_kept t r new by shuts = record {
      told = by.told_is ∙ sym (analysis-snoc k log r);
      closed = λ u. by.closed.has u ∙ ap (λ b. b || t == u) (kept.closed u) ∙ sym (shuts u);
      pages = by.pages ∙ kept.pages;
    }

    end_tells : (t : ℕ) → TellsClosing k log (End t) (may_end t s) t (with_end t s.told) s
    end_tells t =
        let r : Record E P = End t in
        record {
          exact = and_yes (is_open t log) (fits k (analysis k (log ++ r ∷ []))) (closed_fits t r refl refl) ∙ end_open t;
          kept = λ new by. closed_kept t r new
              (record { told_is = by.told_is ∙ ap (with_end t) kept.told; closed = by.closed; pages = by.pages })
              (λ u. settled-snoc k any_number u log r);
        }

    commit_tells : (t number : ℕ) → TellsClosing k log (Commit t number) (may_commit t number s) t (with_commit t number s.told) s
    commit_tells t number =
        let r : Record E P = Commit t number in
        record {
          exact = and_yes (is_open t log && (number == (analysis k log).number + 1)) (fits k (analysis k (log ++ r ∷ []))) (closed_fits t r refl refl)
              ∙ ap (λ b. b && (number == (analysis k log).number + 1)) (end_open t) ∙ ap (λ (x : Analysis E). may_end t s && (number == x.number + 1)) (sym kept.told);
          kept = λ new by. closed_kept t r new
              (record { told_is = by.told_is ∙ ap (with_commit t number) kept.told; closed = by.closed; pages = by.pages })
              (λ u. settled-snoc k any_number u log r ∙ ap (λ b. settled any_number u log || b) (and-true (t == u)));
        }

  -- a head by itself is a log
  head_log : (head : List (Record E P)) → is_head k head ≡ true → IsLog k head
  head_log head h = record { head = head; later = []; parts = sym (append-nil head); begins = h; goes_on = refl }

  note_exact : IsLawful k → (head : List (Record E P)) (s : Kept E) → is_head k head ≡ true → IsKept k head s → (t : Touch E) → k.is_entry t.entry ≡ true
      → is_head k (head ++ Note t.transaction t.entry t.before t.leaf ∷ []) ≡ may_touch k.cmp t s
  note_exact l [] s h kept t of_class = cc
  note_exact l (Counters number counter used next ∷ notes) s h kept t of_class =
      let head : List (Record E P) = Counters number counter used next ∷ notes in
      let n : Record E P = Note t.transaction t.entry t.before t.leaf in
      let test : Bool = list_all (note_fits used) notes in
      let all : list_all is_note notes ≡ true = and_first (list_all is_note notes) (test && fits k (analysis k head)) h in
      let each : test ≡ true = and_first test (fits k (analysis k head)) (and_second (list_all is_note notes) (test && fits k (analysis k head)) h) in
      let begun : Analysis E = read k unread (Counters number counter used next) in
      let used_is : used ≡ s.told.used = sym (ap (λ (x : Analysis E). x.used) kept.told ∙ used_by begun notes all) in
      let rest : Bool = lies_apart k.cmp t s.told.touched && (may_be_open t.transaction s.told.touched && has_place k.cmp t s.told.touched) in
      ap (λ b. b && (list_all (note_fits used) (notes ++ n ∷ []) && fits k (analysis k (head ++ n ∷ []))))
      (list_all-append is_note notes (n ∷ []) ∙ and-true (list_all is_note notes) ∙ all)
      ∙ ap (λ b. b && fits k (analysis k (head ++ n ∷ [])))
      (list_all-append (note_fits used) notes (n ∷ []) ∙ yes_and test (is_page used t.leaf && true) each ∙ and-true (is_page used t.leaf))
      ∙ ap (λ b. is_page used t.leaf && b) (ap (fits k) (analysis-snoc k head n) ∙ touch_fits_by l head s (head_log head h) kept t of_class)
      ∙ ap (λ u. is_page u t.leaf && may_touch k.cmp t s) used_is
      ∙ page_again (is_transaction t.transaction) (is_page s.told.used t.leaf) rest
  note_exact l (Pages images counter used ∷ notes) s h kept t of_class = cc
  note_exact l (Adjust page change ∷ notes) s h kept t of_class = cc
  note_exact l (Write u e b after leaf said ∷ notes) s h kept t of_class = cc
  note_exact l (Commit u number ∷ notes) s h kept t of_class = cc
  note_exact l (End u ∷ notes) s h kept t of_class = cc
  note_exact l (Note u e b leaf ∷ notes) s h kept t of_class = cc

  pub no_entry_refused : NoEntryIsRefused k
  no_entry_refused l log is t after said of_none =
      let r : Record E P = Write t.transaction t.entry t.before after t.leaf said in
      ap (λ b. may_follow k log (analysis k log) r && b)
      (ap (fits k) (analysis-snoc k log r) ∙ unfits_with k l (analysis k log) (max (analysis k log).next (t.transaction + 1)) t (log_fits k l log is) of_none)
      ∙ and-false (may_follow k log (analysis k log) r)

  pub writes_tell : WritesTell k
  writes_tell l log s is kept t after said of_class = write_tells l log s is kept t after said of_class

  -- a write with an image of its own leaf says what fits
  pub whole_writes_tell : IsLawful k → (log : List (Record E P)) (s : Kept E) → IsLog k log → IsKept k log s → (t : Touch E) (after : Bool) (content : P)
      → k.is_entry t.entry ≡ true → k.own content ≡ t.leaf
      → Tells k log (Write t.transaction t.entry t.before after t.leaf (Whole content)) (may_write k.cmp t s) (with_touch k.cmp t s)
  whole_writes_tell l log s is kept t after content of_class own =
      let tells = write_tells l log s is kept t after (Whole content) of_class in
      record { exact = tells.exact ∙ and_yes (may_write k.cmp t s) (k.own content == t.leaf) (eq-eqb (k.own content) t.leaf own); kept = tells.kept }

  pub changes_tell : ChangesTell k
  changes_tell l log s is kept page change = change_tells l log s is kept page change

  pub all_pages_tell : PagesTell k
  all_pages_tell l log s is kept images counter used own = pages_tell l log s is kept images counter used own

  pub commits_tell : CommitsTell k
  commits_tell l log s is kept t number = commit_tells l log s is kept t number

  pub ends_tell : EndsTell k
  ends_tell l log s is kept t = end_tells l log s is kept t

  pub all_counters_tell : CountersTell k
  all_counters_tell = counters_tell

  pub notes_tell : NotesTell k
  notes_tell l head s h kept t of_class =
      let n : Record E P = Note t.transaction t.entry t.before t.leaf in
      record {
        exact = note_exact l head s h kept t of_class;
        kept = touch_kept l head s (head_log head h) kept t n refl (λ u. settled_shut k l any_number u head n refl);
      }
