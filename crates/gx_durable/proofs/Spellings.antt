-- Bytes are records in one way; parts join.
use Rattle.std.proofs.Common.{◌≡◌, ℕ, List, [], ◌∷◌, ◌++◌, refl, sym, ap, ◌∙◌}
use Rattle.std.specs.List.{AllByRecursion}
use Rattle.std.proofs.lemmas.List.{append-nil}
use Rattle.gx_record.specs.Rec.{Rec}
use Rattle.gx_record.specs.Format.{spelling, spellings, IsRecord}
use Rattle.gx_record.proofs.Whole.{spellings_join, spellings_tell}
use Rattle.gx_recovery.specs.Records.{Record}
use Rattle.gx_durable.specs.Spelled.{Reading, record_read, records_read, AreRecords}
use Rattle.gx_durable.specs.Laws.{OneWay, PartsJoin, SpellingAdds, NoneAreNone, OnlyNoneAreNone}

all-append : {A : Type 0} (P : A → Type 0) (xs ys : List A) → AllByRecursion P xs → AllByRecursion P ys → AllByRecursion P (xs ++ ys)
all-append P [] ys p q = q
all-append P (x ∷ xs) ys p q = (p.0, all-append P xs ys p.1 q)

module _ {E P : Type 0} (r : Reading E P) where
  read-append : (xs ys : List Rec) → records_read r (xs ++ ys) ≡ records_read r xs ++ records_read r ys
  read-append [] ys = refl
  read-append (x ∷ xs) ys = ap (λ (l : List (Record E P)). record_read r x ∷ l) (read-append xs ys)

  pub one_way : OneWay r
  one_way bytes xs ys a b =
      let same : a.spelled ≡ b.spelled = spellings_tell r.key a.spelled b.spelled a.in_range b.in_range (a.bytes_are ∙ sym b.bytes_are) in
      sym a.read ∙ ap (λ (l : List Rec). records_read r l) same ∙ b.read

  pub parts_join : PartsJoin r
  parts_join first next xs ys a b = record {
    spelled = a.spelled ++ b.spelled;
    in_range = all-append (IsRecord r.key) a.spelled b.spelled a.in_range b.in_range;
    bytes_are =
        spellings_join a.spelled b.spelled ∙ ap (λ (l : List ℕ). l ++ spellings b.spelled) a.bytes_are ∙ ap (λ (l : List ℕ). first ++ l) b.bytes_are;
    read =
        read-append a.spelled b.spelled ∙ ap (λ (l : List (Record E P)). l ++ records_read r b.spelled) a.read ∙ ap (λ (l : List (Record E P)). xs ++ l) b.read;
  }

  pub one_is : (x : Rec) → IsRecord r.key x → AreRecords r (spelling x) (record_read r x ∷ [])
  one_is x is = record { spelled = x ∷ []; in_range = (is, tt); bytes_are = append-nil (spelling x); read = refl }

  pub spelling_adds : SpellingAdds r
  spelling_adds bytes xs x a is = parts_join bytes (spelling x) xs (record_read r x ∷ []) a (one_is x is)

  pub none_are : NoneAreNone r
  none_are = record { spelled = []; in_range = tt; bytes_are = refl; read = refl }

  none_read : (xs : List Rec) → records_read r xs ≡ [] → spellings xs ≡ []
  none_read [] h = refl
  none_read (x ∷ xs) h = cc

  pub only_none : OnlyNoneAreNone r
  only_none bytes a = sym a.bytes_are ∙ none_read a.spelled a.read
