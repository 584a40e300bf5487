-- A record that an analysis reads, and whose pages are kept, is gathered.
use Rattle.std.proofs.Common.{◌≡◌, ℕ, ◌==◌, true, false, refl, sym, ap, ◌∙◌, subst, List, [], ◌∷◌, ◌++◌, Option, None, Some}
use Rattle.std.specs.Prelude.{Result, Ok, Err, if◌then◌else◌}
use Rattle.std.specs.Option.{option_map}
use Rattle.gx_geom.specs.declared.refusal.Refusal.{Refusal}
use Rattle.gx_record.specs.Rec as rec
use Rattle.gx_recovery.specs.Known.{Known}
use Rattle.gx_recovery.specs.Records.{Record, Change}
use Rattle.gx_recovery.specs.Given.{given, given_with, change_given, change_fits}
use Rattle.gx_recovery.proofs.InUse.{given-snoc}
use Rattle.gx_durable.specs.Small.{PageChange}
use Rattle.gx_durable.specs.Spelled.{Reading, record_read}
use Rattle.gx_recovery.specs.Kept.{Kept}
use Rattle.gx_recovery.specs.Broken.{refused}
use Rattle.gx_recovery.specs.declared.rule.LogRule.{LogRule}
use Rattle.gx_found_log.specs.declared.gathered.Gathered.{Gathered}
use Rattle.gx_found_log.specs.declared.part.Part.{Part}
use Rattle.gx_found_log.specs.Given.{Imaged, image_in, IsGiven}
use Rattle.gx_found_log.specs.Small.{small_of, page_fits, Changes}
use Rattle.gx_found_log.specs.Told.{RecordTold, IsGathered, KeepsSaid, RecordGathered}
use Rattle.gx_found_log.proofs.Giving.{gives_more, changed_kept}

module _ {E P : Type 0} (k : Known E P) (r : Reading E P) where
  -- what a record says of its page, by the small change that it has
  abbrev Says : List (Record E P) → rec.Rec → Option (ℕ × PageChange) → Type 0
  Says log x None = page_fits k log (record_read r x) ≡ true
  Says log x (Some small) =
      (page_fits k log (record_read r x) ≡ change_fits k (r.change small.1) (given small.0 log))
      × ((p : ℕ) (before : Option P) → given_with p (record_read r x) before ≡ (if small.0 == p then change_given (r.change small.1) before else before))

  says : (log : List (Record E P)) (x : rec.Rec) → Says log x (small_of x)
  says log (rec.Pages counter used pages) = refl
  says log (rec.Write tx row key before after leaf image) = refl
  says log (rec.Commit tx n) = refl
  says log (rec.End tx) = refl
  says log (rec.Counters n counter used next) = refl
  says log (rec.Note tx row key before leaf) = refl
  says log (rec.Bit tx row key before after leaf) = (refl, λ p o. refl)
  says log (rec.Add tx row key leaf) = (refl, λ p o. refl)
  says log (rec.Widen page slot key) = (refl, λ p o. refl)
  says log (rec.Sweep page slots) = (refl, λ p o. refl)

  -- whether the change fits what the log gives, by the image that is kept
  fits_by : (log : List (Record E P)) (old : Gathered E) → IsGathered k r log old → (page : ℕ) (change : Change P) (o : Option (List ℕ)) → image_in page old.given ≡ o
      → change_fits k change (given page log) ≡ change_fits k change (option_map r.content o)
  fits_by log old gathered page change o there = ap (λ (z : Option P). change_fits k change z) (sym (gathered.given page) ∙ ap (option_map r.content) there)

  module _ (log : List (Record E P)) (x : rec.Rec) (old new : Gathered E) (gathered : IsGathered k r log old) where
    Comes : Type 0
    Comes = (page_fits k log (record_read r x) ≡ true) × IsGiven r new.given (log ++ record_read r x ∷ [])

    changed : (small : ℕ × PageChange) → Says log x (Some small) → (o : Option (List ℕ)) → image_in small.0 old.given ≡ o
        → Changes r old.scratch.0 (r.change small.1) small.0 o old.given (Ok tt) new.given → Comes
    unfolding Comes
    changed small said None there changes = absurd changes
    changed small said (Some image) there changes =
        let change = r.change small.1 in
        let made = changes.1.0 in
        let is = changes.1.1.0 in
        let put = changes.1.1.1 in (
          said.0 ∙ fits_by log old gathered small.0 change (Some image) there ∙ ap (λ m. change.fits m (r.content image)) (sym gathered.most) ∙ changes.0,
          λ p. ap (λ (xs : List Imaged). option_map r.content (image_in p xs)) put
              ∙ changed_kept r p small.0 change image made old.given there is
              ∙ sym (said.1 p (option_map r.content (image_in p old.given)))
              ∙ ap (λ (o : Option P). given_with p (record_read r x) o) (gathered.given p)
              ∙ sym (given-snoc p log (record_read r x)),
        )

    comes : (o : Option (ℕ × PageChange)) → small_of x ≡ o → Says log x o → KeepsSaid r x o old.scratch.0 old.given (Ok tt) new.given → Comes
    unfolding Comes
    comes None same said keeps = (said, subst (λ (xs : List Imaged). IsGiven r xs (log ++ record_read r x ∷ [])) (sym keeps) (gives_more r log x old.given same gathered.given))
    comes (Some small) same said keeps = changed small said (image_in small.0 old.given) refl keeps

    unfit : (rule : LogRule) (small : ℕ × PageChange) → Says log x (Some small) → (o : Option (List ℕ)) → image_in small.0 old.given ≡ o
        → Changes r old.scratch.0 (r.change small.1) small.0 o old.given (Err rule) new.given → page_fits k log (record_read r x) ≡ false
    unfit rule small said None there changes = said.0 ∙ fits_by log old gathered small.0 (r.change small.1) None there
    unfit rule small said (Some image) there changes =
        let change = r.change small.1 in
        said.0 ∙ fits_by log old gathered small.0 change (Some image) there ∙ ap (λ m. change.fits m (r.content image)) (sym gathered.most) ∙ changes.0

    stays_out : (rule : LogRule) (o : Option (ℕ × PageChange)) → Says log x o → KeepsSaid r x o old.scratch.0 old.given (Err rule) new.given → page_fits k log (record_read r x) ≡ false
    stays_out rule None said keeps = absurd keeps
    stays_out rule (Some small) said keeps = unfit rule small said (image_in small.0 old.given) refl keeps

    pub comes_so : KeepsSaid r x (small_of x) old.scratch.0 old.given (Ok tt) new.given → (page_fits k log (record_read r x) ≡ true) × IsGiven r new.given (log ++ record_read r x ∷ [])
    unfolding Comes
    comes_so keeps = comes (small_of x) refl (says log x) keeps

    pub refused_so : (rule : LogRule) → KeepsSaid r x (small_of x) old.scratch.0 old.given (Err rule) new.given → page_fits k log (record_read r x) ≡ false
    refused_so rule keeps = stays_out rule (small_of x) (says log x) keeps

  -- what is kept of pages is what the record says of them, or the record is damage
  pub record_gathered : (part : Part) (x : rec.Rec) (old new : Gathered E) → RecordTold part k r x old.analysis (Ok tt) new.analysis → new.scratch.0 ≡ old.scratch.0
      → (result : Result (Unit {0}) LogRule) → KeepsSaid r x (small_of x) old.scratch.0 old.given result new.given → RecordGathered part k r x old (refused result) new
  record_gathered part x old new told most (Ok done) keeps log is gathered =
      let one = told log is gathered.kept in
      let so = comes_so log x old new gathered keeps in
      (one.0 ∙ so.0, record { kept = one.1; given = so.1; most = most ∙ gathered.most })
  record_gathered part x old new told most (Err rule) keeps log is gathered =
      let one = told log is gathered.kept in
      (one.0 ∙ refused_so log x old new gathered rule keeps, refl)

  pub record_refused : (part : Part) (x : rec.Rec) (old new : Gathered E) (kept : Kept E) (refusal : Refusal) → RecordTold part k r x old.analysis (Err refusal) kept
      → RecordGathered part k r x old (Err refusal) new
  record_refused part x old new kept refusal told log is gathered = told log is gathered.kept
