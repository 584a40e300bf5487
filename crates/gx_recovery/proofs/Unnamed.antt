-- What a log doesn't name is open and untouched; and a renewed log keeps first marks.
use Rattle.std.proofs.Common.{◌≡◌, ℕ, Bool, true, false, not, ◌&&◌, ◌||◌, List, [], ◌∷◌, None, Some, refl, ap, sym, ◌∙◌}
use Rattle.std.specs.Prelude.{◌==◌, if◌then◌else◌}
use Rattle.std.specs.List.{list_any}
use Rattle.std.specs.Option.{option_or}
use Rattle.std.proofs.Math.Path.{fun_ext}
use Rattle.std.proofs.lemmas.Bool.{eqb-true}
use Rattle.gx_recovery.specs.Known.{Known, IsLawful, same}
use Rattle.gx_recovery.specs.Records.{Record, Pages, Adjust, Write, Commit, End, Counters, Note, Touch, touch_of, closes, settled, any_number, names}
use Rattle.gx_recovery.specs.Analysis.{analysis}
use Rattle.gx_recovery.specs.Standing.{first_before, mark_before, own_before}
use Rattle.gx_recovery.specs.Damage.{IsLog}
use Rattle.gx_recovery.specs.Renewal.{notes_of, renewed}
use Rattle.gx_recovery.proofs.Tests.{or_none_first, or_none_second}
use Rattle.gx_recovery.proofs.Touches.{lookup}
use Rattle.gx_recovery.proofs.Told.{Told}
use Rattle.gx_recovery.proofs.Logs.{told_log}
use Rattle.gx_recovery.proofs.Renewals.{renewed_is_log, same_touched}

counted : (is settled : Bool) → (is ≡ true → settled ≡ false) → is ≡ (not settled && is)
counted true true h = let no : true ≡ false = h refl in cc
counted true false h = refl
counted false true h = refl
counted false false h = refl

module _ {E P : Type 0} (k : Known E P) where
  unclosed : (t : ℕ) (r : Record E P) → names t r ≡ false → closes any_number t r ≡ false
  unclosed t (Pages images counter used) h = refl
  unclosed t (Adjust page change) h = refl
  unclosed t (Write transaction entry before after leaf said) h = refl
  unclosed t (Commit transaction number) h = ap (λ b. b && true) h
  unclosed t (End transaction) h = h
  unclosed t (Counters number counter used next) h = refl
  unclosed t (Note transaction entry before leaf) h = refl

  unmarked : (t : ℕ) (e : E) (r : Record E P) → names t r ≡ false → mark_before k (λ u. u == t) e (touch_of r) ≡ None
  unmarked t e (Pages images counter used) h = refl
  unmarked t e (Adjust page change) h = refl
  unmarked t e (Write transaction entry before after leaf said) h = ap (λ b. if b && same k e entry then Some before else None) h
  unmarked t e (Commit transaction number) h = refl
  unmarked t e (End transaction) h = refl
  unmarked t e (Counters number counter used next) h = refl
  unmarked t e (Note transaction entry before leaf) h = ap (λ b. if b && same k e entry then Some before else None) h

  -- a transaction that a log doesn't name isn't closed in it
  pub unnamed_open : (t : ℕ) (log : List (Record E P)) → list_any (names t) log ≡ false → settled any_number t log ≡ false
  unnamed_open t [] h = refl
  unnamed_open t (r ∷ rs) h =
      ap (λ b. b || settled any_number t rs) (unclosed t r (or_none_first (names t r) (list_any (names t) rs) h))
      ∙ unnamed_open t rs (or_none_second (names t r) (list_any (names t) rs) h)

  -- and has touched nothing
  pub unnamed_untouched : (t : ℕ) (e : E) (log : List (Record E P)) → list_any (names t) log ≡ false → own_before k t e log ≡ None
  unnamed_untouched t e [] h = refl
  unnamed_untouched t e (r ∷ rs) h =
      ap (λ o. option_or o (own_before k t e rs)) (unmarked t e r (or_none_first (names t r) (list_any (names t) rs) h))
      ∙ unnamed_untouched t e rs (or_none_second (names t r) (list_any (names t) rs) h)

  notes_close_nothing : (t : ℕ) (ns : List (Touch E)) → settled {E = E} {P = P} any_number t (notes_of ns) ≡ false
  notes_close_nothing t [] = refl
  notes_close_nothing t (n ∷ ns) = notes_close_nothing t ns

  -- a renewed log closes no transaction
  pub renewed_open : (next t : ℕ) (log : List (Record E P)) → settled any_number t (renewed k next log) ≡ false
  renewed_open next t log = notes_close_nothing t (analysis k log).touched

  module _ (l : IsLawful k) (next : ℕ) (area : ℕ → P) where
    own_counts : (log : List (Record E P)) (t : ℕ) → settled any_number t log ≡ false → (u : ℕ) → (u == t) ≡ (not (settled any_number u log) && (u == t))
    own_counts log t open_yet u = counted (u == t) (settled any_number u log) (λ is. ap (λ m. settled any_number m log) (eqb-true u t is) ∙ open_yet)

    own_looked : (log : List (Record E P)) → Told k log → (t : ℕ) (e : E) → settled any_number t log ≡ false
        → own_before k t e log ≡ lookup k (λ u. u == t) e (analysis k log).touched
    own_looked log told t e open_yet =
        ap (λ (c : ℕ → Bool). first_before k c e log) (fun_ext (λ u. own_counts log t open_yet u)) ∙ told.looked (λ u. u == t) e

    -- an open transaction's first marks are the same in the renewed log
    pub renewed_marks : (log : List (Record E P)) → IsLog k log → (t : ℕ) (e : E) → settled any_number t log ≡ false
        → own_before k t e (renewed k next log) ≡ own_before k t e log
    renewed_marks log is t e open_yet =
        own_looked (renewed k next log) (told_log k l (renewed k next log) (renewed_is_log k l next area log is)) t e (renewed_open next t log)
        ∙ ap (lookup k (λ u. u == t) e) (same_touched k l next area log is) ∙ sym (own_looked log (told_log k l log is) t e open_yet)
