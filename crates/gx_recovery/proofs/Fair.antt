-- What each record of a log may rely on, so that facts on logs go by one record more.
use Rattle.std.proofs.Common.{◌≡◌, ◌+◌, false, List, [], ◌∷◌, ◌++◌, sym, subst, append_assoc}
use Rattle.std.proofs.lemmas.List.{append-nil}
use Rattle.gx_recovery.specs.Known.{Known}
use Rattle.gx_recovery.specs.Records.{Record, Pages, Adjust, Write, Commit, End, Counters, Note, Touch, settled, any_number}
use Rattle.gx_recovery.specs.Analysis.{analysis, number_of, touching}
use Rattle.gx_recovery.proofs.Touches.{Apart}

-- a touch by a transaction that isn't closed, after which what is touched lies apart
pub record IsFairTouch {E P : Type 0} (k : Known E P) (before : List (Record E P)) (t : Touch E) : Type 0 where
  pub open_yet : settled any_number t.transaction before ≡ false
  pub apart : Apart k (touching k t (analysis k before).touched)

-- what holds of a record where it comes after these
abbrev pub IsFair : {E P : Type 0} → Known E P → List (Record E P) → Record E P → Type 0
IsFair k before (Pages images counter used) = Unit {0}
IsFair k before (Adjust page change) = Unit {0}
IsFair k before (Write transaction entry mark after leaf said) = IsFairTouch k before (record { transaction = transaction; entry = entry; before = mark; leaf = leaf })
IsFair k before (Commit transaction number) = (settled any_number transaction before ≡ false) × (number ≡ number_of k before + 1)
IsFair k before (End transaction) = settled any_number transaction before ≡ false
IsFair k before (Counters number counter used next) = before ≡ []
IsFair k before (Note transaction entry mark leaf) = IsFairTouch k before (record { transaction = transaction; entry = entry; before = mark; leaf = leaf })

-- each of the records, after those before it
abbrev pub AreFair : {E P : Type 0} → Known E P → List (Record E P) → List (Record E P) → Type 0
AreFair k before [] = Unit {0}
AreFair k before (r ∷ rs) = IsFair k before r × AreFair k (before ++ r ∷ []) rs

module _ {E P : Type 0} (k : Known E P) where
  -- what each fair record keeps, a list of them keeps
  pub kept_by_fair : (I : List (Record E P) → Type 0) → ((before : List (Record E P)) (r : Record E P) → I before → IsFair k before r → I (before ++ r ∷ []))
      → (before rs : List (Record E P)) → I before → AreFair k before rs → I (before ++ rs)
  kept_by_fair I keeps before [] i fair = subst I (sym (append-nil before)) i
  kept_by_fair I keeps before (r ∷ rs) i fair =
      subst I (append_assoc before (r ∷ []) rs) (kept_by_fair I keeps (before ++ r ∷ []) rs (keeps before r i fair.0) fair.1)

  pub fair-append : (before xs ys : List (Record E P)) → AreFair k before xs → AreFair k (before ++ xs) ys → AreFair k before (xs ++ ys)
  fair-append before [] ys p q = subst (λ b. AreFair k b ys) (append-nil before) q
  fair-append before (x ∷ xs) ys p q =
      (p.0, fair-append (before ++ x ∷ []) xs ys p.1 (subst (λ b. AreFair k b ys) (sym (append_assoc before (x ∷ []) xs)) q))
