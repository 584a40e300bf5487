-- Which bits are set with a record more, and that the log gives those pages.
use Rattle.std.proofs.Common.{◌≡◌, ◌≢◌, ◌⊎◌, ◌∙◌, sym, ap, refl, inl, inr, ℕ, zero, suc, Bool, true, false, ◌||◌, ◌==◌, List, [], ◌∷◌, ◌++◌}
use Rattle.std.specs.Prelude.{replicate, slice_index_or}
use Rattle.std.specs.List.{list_any}
use Rattle.std.proofs.lemmas.Bool.{eq-eqb}
use Rattle.std.proofs.lemmas.List.{get_or-set_other}
use Rattle.std.proofs.lemmas.List.Folds.{list_any-append}
use Rattle.gx_record.specs.Rec.{Rec}
use Rattle.gx_record.specs.Rec as rec
use Rattle.gx_recovery.specs.Records.{Record, gives}
use Rattle.gx_recovery.specs.Logged.{Logged, all_records, appended}
use Rattle.gx_recovery.proofs.Tests.{clash, true_or_false}
use Rattle.gx_durable.specs.Area.{is_given}
use Rattle.gx_durable.specs.Spelled.{Reading, images_read, record_read}
use Rattle.gx_durable.proofs.Moving.{given_more}
use Rattle.gx_durable.proofs.Reading.{one_more}
use Rattle.gx_storage.specs.Imaged.{AllImaged, all_imaged, imaged_with, is_imaged, with_imaged}

-- a page that a record more gives is given
or_last : (a b : Bool) → b ≡ true → (a || (b || false)) ≡ true
or_last true b is = refl
or_last false b is = rw is refl

pub given_last : {E P : Type 0} (xs : List (Record E P)) (x : Record E P) (q : ℕ) → gives q x ≡ true → is_given (xs ++ x ∷ []) q ≡ true
given_last xs x q is = list_any-append (gives q) xs (x ∷ []) ∙ or_last (is_given xs q) (gives q x) is

-- a bit that is set beside this page's was so before
other_imaged : (q p : ℕ) (imaged : List Bool) → q ≢ p → is_imaged (with_imaged q imaged) p ≡ is_imaged imaged p
other_imaged zero p imaged other = refl
other_imaged (suc q) zero imaged other = refl
other_imaged (suc q) (suc p) imaged other = get_or-set_other imaged q p true false (λ same. other (ap suc (sym same)))

one_imaged : (q p : ℕ) (imaged : List Bool) → is_imaged (with_imaged q imaged) p ≡ true → ((q == p) ≡ true) ⊎ (is_imaged imaged p ≡ true)
one_imaged q p imaged is = elim (true_or_false (q == p)) [
  | inl this ↦ inl this
  | inr other ↦ inr (sym (other_imaged q p imaged (λ same. clash (q == p) (eq-eqb q p same) other)) ∙ is)
]

or_left : (a b : Bool) → a ≡ true → (a || b) ≡ true
or_left a b is = rw is refl

or_right : (a b : Bool) → b ≡ true → (a || b) ≡ true
or_right true b is = refl
or_right false b is = is

module _ {E P : Type 0} (r : Reading E P) where
  these_imaged : (pages : List (ℕ × List ℕ)) (p : ℕ) (imaged : List Bool) → is_imaged (all_imaged pages imaged) p ≡ true
      → (list_any (λ i. i.page == p) (images_read r pages) ≡ true) ⊎ (is_imaged imaged p ≡ true)
  these_imaged [] p imaged is = inr is
  these_imaged (x ∷ pages) p imaged is = elim (these_imaged pages p (with_imaged x.0 imaged) is) [
    | inl later ↦ inl (or_right (x.0 == p) (list_any (λ i. i.page == p) (images_read r pages)) later)
    | inr before ↦ elim (one_imaged x.0 p imaged before) [
      | inl this ↦ inl (or_left (x.0 == p) (list_any (λ i. i.page == p) (images_read r pages)) this)
      | inr was ↦ inr was
    ]
  ]

  -- a bit that is set with a record more is of a page that it gives, or was so before
  imaged_or_given : (x : Rec) (p : ℕ) (imaged : List Bool) → is_imaged (imaged_with x imaged) p ≡ true → (gives p (record_read r x) ≡ true) ⊎ (is_imaged imaged p ≡ true)
  imaged_or_given (rec.Pages counter used pages) p imaged is = these_imaged pages p imaged is
  imaged_or_given (rec.Write tx row key before after leaf image) p imaged is = one_imaged leaf p imaged is
  imaged_or_given (rec.Commit tx n) p imaged is = inr is
  imaged_or_given (rec.End tx) p imaged is = inr is
  imaged_or_given (rec.Counters n counter used next) p imaged is = inr is
  imaged_or_given (rec.Note tx row key before leaf) p imaged is = inr is
  imaged_or_given (rec.Bit tx row key before after leaf) p imaged is = inr is
  imaged_or_given (rec.Add tx row key leaf) p imaged is = inr is
  imaged_or_given (rec.Widen page slot key) p imaged is = inr is
  imaged_or_given (rec.Sweep page slots) p imaged is = inr is

  -- so with the record the log gives each such page
  pub imaged_more : (x : Rec) (old new : List Bool) (s : Logged E P) → new ≡ imaged_with x old → AllImaged old s → AllImaged new (appended (record_read r x) s)
  imaged_more x old new s same given p is =
      ap (λ (log : List (Record E P)). is_given log p) (one_more s (record_read r x))
      ∙ elim (imaged_or_given x p old (ap (λ (i : List Bool). is_imaged i p) (sym same) ∙ is)) [
        | inl this ↦ given_last (all_records s) (record_read r x) p this
        | inr was ↦ given_more (all_records s) (record_read r x ∷ []) p (given p was)
      ]

-- the same records give the same pages
pub same_imaged : {E P : Type 0} (old new : List Bool) (s t : Logged E P) → new ≡ old → all_records t ≡ all_records s → AllImaged old s → AllImaged new t
same_imaged {E} {P} old new s t bits records given p is =
    ap (λ (log : List (Record E P)). is_given log p) records ∙ given p (ap (λ (i : List Bool). is_imaged i p) (sym bits) ∙ is)

-- no bit is set among none
none_set : (n p : ℕ) → slice_index_or (replicate n false) p false ≡ false
none_set zero p = refl
none_set (suc n) zero = refl
none_set (suc n) (suc p) = none_set n p

pub none_imaged : (n p : ℕ) → is_imaged (replicate n false) p ≡ false
none_imaged n zero = refl
none_imaged n (suc p) = none_set n p

pub nothing_imaged : {E P : Type 0} (n : ℕ) (s : Logged E P) → AllImaged (replicate n false) s
nothing_imaged n s p is = absurd (clash (is_imaged (replicate n false) p) is (none_imaged n p))
