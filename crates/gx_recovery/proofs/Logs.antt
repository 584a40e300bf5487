-- What is tested of a log, used: each of its records is fair, so all that holds of fair records holds of it.
use Rattle.std.proofs.Common.{◌≡◌, ℕ, ◌+◌, Bool, true, false, not, ◌&&◌, ◌||◌, List, [], ◌∷◌, ◌++◌, refl, ap, sym, ◌∙◌, subst, append_assoc}
use Rattle.std.specs.Prelude.{◌==◌, nat_le, length}
use Rattle.std.specs.List.{list_all}
use Rattle.std.proofs.lemmas.Bool.{eqb-true}
use Rattle.std.proofs.lemmas.List.{append-nil}
use Rattle.gx_recovery.specs.Known.{Known, IsLawful}
use Rattle.gx_recovery.specs.Records.{Record, Pages, Adjust, Write, Commit, End, Counters, Note, Touch, settled, any_number}
use Rattle.gx_recovery.specs.Analysis.{Analysis, analysis, read, read_on, touching, lists}
use Rattle.gx_recovery.specs.Damage.{touch_fits, apart, transactions, fits, is_transaction, said_fits, is_open, may_follow, follows, follow, is_note, note_fits, is_head, IsLog}
use Rattle.gx_recovery.specs.declared.TheConstants.{TRANSACTIONS, TOUCHED}
use Rattle.gx_recovery.proofs.Tests.{and_first, and_second}
use Rattle.gx_recovery.proofs.Folds.{analysis-snoc, settled-snoc}
use Rattle.gx_recovery.proofs.Touches.{Apart, apart_tells, apart_fewer, lists_more}
use Rattle.gx_recovery.proofs.Fair.{IsFair, AreFair, kept_by_fair, fair-append}
use Rattle.gx_recovery.proofs.Told.{Told, told_step, told_nothing}

pub untrue : (b : Bool) → not b ≡ true → b ≡ false
untrue true h = cc
untrue false h = refl

pub and_all : (a b : Bool) → a ≡ true → b ≡ true → (a && b) ≡ true
and_all true b p q = q
and_all false b p q = p

module _ {E P : Type 0} (k : Known E P) (l : IsLawful k) where
  -- what fits lies apart
  pub fits_apart : (a : Analysis E) → fits k a ≡ true → Apart k a.touched
  fits_apart a h =
      let few : Bool = nat_le (transactions a.touched) TRANSACTIONS && nat_le (length a.touched) TOUCHED in
      let all : Bool = list_all (touch_fits k a.used) a.touched in
      apart_tells k l a.touched (and_first (apart k a.touched) few (and_second all (apart k a.touched && few) (and_second (nat_le a.used k.pages) (all && (apart k a.touched && few)) h)))

  pub open_tells : (t : ℕ) (log : List (Record E P)) → is_open t log ≡ true → settled any_number t log ≡ false
  open_tells t log h = untrue (settled any_number t log) (and_second (is_transaction t) (not (settled any_number t log)) h)

  fair_by : (log : List (Record E P)) (r : Record E P) → may_follow k log (analysis k log) r ≡ true → Apart k (read k (analysis k log) r).touched → IsFair k log r
  fair_by log (Pages images counter used) may apart = tt
  fair_by log (Adjust page change) may apart = tt
  fair_by log (Write transaction entry mark after leaf said) may apart =
      record { open_yet = untrue (settled any_number transaction log) (and_first (not (settled any_number transaction log)) (said_fits k leaf said log) may); apart = apart }
  fair_by log (Commit transaction number) may apart = (
    open_tells transaction log (and_first (is_open transaction log) (number == (analysis k log).number + 1) may),
    eqb-true number ((analysis k log).number + 1) (and_second (is_open transaction log) (number == (analysis k log).number + 1) may),
  )
  fair_by log (End transaction) may apart = open_tells transaction log may
  fair_by log (Counters number counter used next) may apart = cc
  fair_by log (Note transaction entry mark leaf) may apart = cc

  -- a record that may follow is fair
  pub fair_follows : (log : List (Record E P)) (r : Record E P) → follows k log r ≡ true → IsFair k log r
  fair_follows log r h =
      fair_by log r (and_first (may_follow k log (analysis k log) r) (fits k (analysis k (log ++ r ∷ []))) h)
      (subst (λ (a : Analysis E). Apart k a.touched) (analysis-snoc k log r)
      (fits_apart (analysis k (log ++ r ∷ [])) (and_second (may_follow k log (analysis k log) r) (fits k (analysis k (log ++ r ∷ []))) h)))

  fair_follow : (log rs : List (Record E P)) → follow k log rs ≡ true → AreFair k log rs
  fair_follow log [] h = tt
  fair_follow log (r ∷ rs) h =
      (fair_follows log r (and_first (follows k log r) (follow k (log ++ r ∷ []) rs) h), fair_follow (log ++ r ∷ []) rs (and_second (follows k log r) (follow k (log ++ r ∷ []) rs) h))

  more_noted : (a : Analysis E) (notes : List (Record E P)) → list_all is_note notes ≡ true → (t : ℕ) (e : E) → lists k t e a.touched ≡ true
      → lists k t e (read_on k a notes).touched ≡ true
  more_noted a [] h t e p = p
  more_noted a (Note transaction entry mark leaf ∷ ns) h t e p =
      more_noted (read k a (Note transaction entry mark leaf)) ns h t e
      (lists_more k l (record { transaction = transaction; entry = entry; before = mark; leaf = leaf }) a.touched t e p)
  more_noted a (Pages images counter used ∷ ns) h t e p = cc
  more_noted a (Adjust page change ∷ ns) h t e p = cc
  more_noted a (Write transaction entry mark after leaf said ∷ ns) h t e p = cc
  more_noted a (Commit transaction number ∷ ns) h t e p = cc
  more_noted a (End transaction ∷ ns) h t e p = cc
  more_noted a (Counters number counter used next ∷ ns) h t e p = cc

  fair_notes : (before notes : List (Record E P)) → ((t : ℕ) → settled any_number t before ≡ false) → list_all is_note notes ≡ true
      → Apart k (read_on k (analysis k before) notes).touched → AreFair k before notes
  fair_notes before [] none h apart = tt
  fair_notes before (Note transaction entry mark leaf ∷ ns) none h apart =
      let n : Touch E = record { transaction = transaction; entry = entry; before = mark; leaf = leaf } in
      let r : Record E P = Note transaction entry mark leaf in (
        record {
          open_yet = none transaction;
          apart = apart_fewer k l (touching k n (analysis k before).touched) (read_on k (read k (analysis k before) r) ns).touched
              (λ t e p. more_noted (read k (analysis k before) r) ns h t e p) apart;
        },
        fair_notes (before ++ r ∷ []) ns (λ t. settled-snoc k any_number t before r ∙ ap (λ b. b || false) (none t)) h
            (subst (λ (a : Analysis E). Apart k (read_on k a ns).touched) (sym (analysis-snoc k before r)) apart),
      )
  fair_notes before (Pages images counter used ∷ ns) none h apart = cc
  fair_notes before (Adjust page change ∷ ns) none h apart = cc
  fair_notes before (Write transaction entry mark after leaf said ∷ ns) none h apart = cc
  fair_notes before (Commit transaction number ∷ ns) none h apart = cc
  fair_notes before (End transaction ∷ ns) none h apart = cc
  fair_notes before (Counters number counter used next ∷ ns) none h apart = cc

  fair_head : (head : List (Record E P)) → is_head k head ≡ true → AreFair k [] head
  fair_head [] h = cc
  fair_head (Counters number counter used next ∷ notes) h =
      let r : Record E P = Counters number counter used next in
      let leaves : Bool = list_all (note_fits used) notes in
      let fit : fits k (analysis k (r ∷ notes)) ≡ true =
      and_second leaves (fits k (analysis k (r ∷ notes))) (and_second (list_all is_note notes) (leaves && fits k (analysis k (r ∷ notes))) h) in
      (refl, fair_notes (r ∷ []) notes (λ t. refl) (and_first (list_all is_note notes) (leaves && fits k (analysis k (r ∷ notes))) h) (fits_apart (analysis k (r ∷ notes)) fit))
  fair_head (Pages images counter used ∷ rs) h = cc
  fair_head (Adjust page change ∷ rs) h = cc
  fair_head (Write transaction entry mark after leaf said ∷ rs) h = cc
  fair_head (Commit transaction number ∷ rs) h = cc
  fair_head (End transaction ∷ rs) h = cc
  fair_head (Note transaction entry mark leaf ∷ rs) h = cc

  -- each record of a log is fair
  pub fair_log : (log : List (Record E P)) → (is : IsLog k log) → AreFair k [] (is.head ++ is.later)
  fair_log log is = fair-append k [] is.head is.later (fair_head is.head is.begins) (fair_follow is.head is.later is.goes_on)

  -- what holds of every log
  pub told_log : (log : List (Record E P)) → IsLog k log → Told k log
  told_log log is =
      subst (Told k) (sym is.parts) (kept_by_fair k (Told k) (told_step k l) [] (is.head ++ is.later) (told_nothing k l) (fair_log log is))

  pub follow-append : (log xs ys : List (Record E P)) → follow k log xs ≡ true → follow k (log ++ xs) ys ≡ true → follow k log (xs ++ ys) ≡ true
  follow-append log [] ys p q = ap (λ b. follow k b ys) (sym (append-nil log)) ∙ q
  follow-append log (x ∷ xs) ys p q =
      and_all (follows k log x) (follow k (log ++ x ∷ []) (xs ++ ys)) (and_first (follows k log x) (follow k (log ++ x ∷ []) xs) p)
      (follow-append (log ++ x ∷ []) xs ys (and_second (follows k log x) (follow k (log ++ x ∷ []) xs) p) (ap (λ b. follow k b ys) (append_assoc log (x ∷ []) xs) ∙ q))

  -- a log with a record that may follow is one
  pub log_goes_on : (log : List (Record E P)) (r : Record E P) → IsLog k log → follows k log r ≡ true → IsLog k (log ++ r ∷ [])
  log_goes_on log r is h = record {
    head = is.head;
    later = is.later ++ r ∷ [];
    parts = ap (λ (x : List (Record E P)). x ++ r ∷ []) is.parts ∙ append_assoc is.head is.later (r ∷ []);
    begins = is.begins;
    goes_on = follow-append is.head is.later (r ∷ []) is.goes_on (and_all (follows k (is.head ++ is.later) r) true (ap (λ x. follows k x r) (sym is.parts) ∙ h) refl);
  }
