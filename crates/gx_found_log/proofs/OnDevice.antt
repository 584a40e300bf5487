-- The pages that an undamaged log gives are the device's.
use Rattle.std.proofs.Common.{◌≡◌, ◌∙◌, ap, refl, sym, ℕ, ◌==◌, Bool, true, false, List, [], ◌∷◌, Option, None, Some}
use Rattle.std.specs.Prelude.{if◌then◌else◌, is_some}
use Rattle.std.specs.Option.{option_map}
use Rattle.std.proofs.lemmas.Bool.{eq-eqb}
use Rattle.gx_recovery.specs.Known.{Known, IsLawful}
use Rattle.gx_recovery.specs.Records.{Record}
use Rattle.gx_recovery.specs.Analysis.{analysis}
use Rattle.gx_recovery.specs.Given.{given}
use Rattle.gx_recovery.specs.Damage.{is_page, IsLog}
use Rattle.gx_recovery.proofs.InUse.{still_page, given_in_use}
use Rattle.gx_recovery.proofs.Logs.{and_all}
use Rattle.gx_recovery.proofs.Renewals.{log_fits}
use Rattle.gx_recovery.proofs.SoundRecords.{FitsBy, parts_of}
use Rattle.gx_recovery.proofs.Tests.{clash}
use Rattle.gx_durable.specs.Spelled.{Reading}
use Rattle.gx_found_log.specs.Given.{Imaged, image_in, are_on_device, IsGiven}

none_by : {P : Type 0} (o : Option P) (on : Bool) → (is_some o ≡ true → on ≡ true) → on ≡ false → o ≡ None
none_by None on some out = refl
none_by (Some content) on some out = clash on (some refl) out

some_first : {A : Type 0} (test : Bool) (image : A) (rest : Option A) → test ≡ true → is_some (if test then Some image else rest) ≡ true
some_first true image rest is = refl
some_first false image rest is = cc

some_later : {A : Type 0} (test : Bool) (image : A) (rest : Option A) → is_some rest ≡ true → is_some (if test then Some image else rest) ≡ true
some_later true image rest some = refl
some_later false image rest some = some

some_mapped : {A B : Type 0} (f : A → B) (o : Option A) → is_some (option_map f o) ≡ is_some o
some_mapped f None = refl
some_mapped f (Some x) = refl

module _ {E P : Type 0} (k : Known E P) (l : IsLawful k) (log : List (Record E P)) (is : IsLog k log) where
  given_on_device : (p : ℕ) → is_some (given p log) ≡ true → is_page k.pages p ≡ true
  given_on_device p some =
      let fits : FitsBy k l (analysis k log) = parts_of k l (analysis k log) (log_fits k l log is) in
      still_page (analysis k log).used k.pages p fits.device (given_in_use k p log is some)

  -- of a page that the device doesn't have a log gives nothing
  pub beyond_ungiven : (p : ℕ) → is_page k.pages p ≡ false → given p log ≡ None
  beyond_ungiven p out = none_by (given p log) (is_page k.pages p) (given_on_device p) out

  module _ (r : Reading E P) (kept : List Imaged) (gives : IsGiven r kept log) where
    kept_on_device : (p : ℕ) → is_some (image_in p kept) ≡ true → is_page k.pages p ≡ true
    kept_on_device p some = given_on_device p (sym (ap is_some (gives p)) ∙ some_mapped r.content (image_in p kept) ∙ some)

    each_on_device : (xs : List Imaged) → ((p : ℕ) → is_some (image_in p xs) ≡ true → is_page k.pages p ≡ true) → are_on_device k.pages xs ≡ true
    each_on_device [] each = refl
    each_on_device (x ∷ xs) each =
        and_all (is_page k.pages x.0) (are_on_device k.pages xs)
        (each x.0 (some_first (x.0 == x.0) x.1 (image_in x.0 xs) (eq-eqb x.0 x.0 refl)))
        (each_on_device xs (λ p some. each p (some_later (x.0 == p) x.1 (image_in p xs) some)))

    -- and what is kept of its pages the device has
    pub all_on_device : are_on_device k.pages kept ≡ true
    all_on_device = each_on_device kept kept_on_device
