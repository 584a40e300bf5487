-- Why what can be brought stays so.
use Rattle.std.proofs.Common.{◌≡◌, ◌∙◌, sym, ap, subst, refl, ⊎_elim, ℕ, List, Bool, true, Option, Some, None, Ok, Err, Result}
use Rattle.std.proofs.Math.Decide.{ℕ_discrete}
use Rattle.std.proofs.lemmas.Option.{none-some}
use Rattle.gx_disk.specs.declared.layout.TheConstants.{PAGE_SECTORS}
use Rattle.gx_disk.specs.Device.{Device}
use Rattle.gx_disk.proofs.Spans.{touched_span}
use Rattle.gx_page.specs.Contents.{Contents}
use Rattle.gx_pool.specs.declared.fault.PoolFault.{PoolFault}
use Rattle.gx_pool.specs.declared.fault.PoolFault.TheVariants.{Damaged}
use Rattle.gx_pool.specs.Area.{IsPage, IsPassing, bytes_of, first_of}
use Rattle.gx_pool.specs.Bringing.{Answers, AnswersAll, HasImage, Refuted}
use Rattle.gx_pool.specs.Edits.{changed}
use Rattle.gx_pool.specs.Laws.{IsBacked, IsPassed}
use Rattle.gx_pool.specs.Readable.{IsReadable, OneIsNotDamaged, SomeAreNotDamaged, BringingKeepsReadable, CreatingKeepsReadable, ChangingKeepsReadable}
use Rattle.gx_pool.specs.State.{State, Kept, IsSound, holding, kept, stamp_of}
use Rattle.gx_pool.specs.Writing.{WritesPage}
use Rattle.gx_pool.proofs.Bringing.{same_held_kept}
use Rattle.gx_pool.proofs.Gated.{pages_apart}
use Rattle.gx_pool.proofs.Places.{changed_kept, changed_other}

-- the device has a clean page that passes
clean_passing : (passes : Contents → Bool) (seen : List ℕ) (s : State) (page : ℕ) (o : Option Kept) → kept s page ≡ o → stamp_of o ≡ None → IsBacked s seen → IsPassed passes s
    → (kept s page ≡ None → IsPassing passes page (bytes_of seen page)) → IsPassing passes page (bytes_of seen page)
clean_passing passes seen s page None is clean backed passed absent = absent is
clean_passing passes seen s page (Some k) is clean backed passed absent =
    let has : HasImage (bytes_of seen page) k.page = backed page k is clean in
    let was = passed page k is in
    record { image = has.image; number = ap (λ (c : Contents). c.number) has.read ∙ was.0; passing = ap passes has.read ∙ was.1 }

pub bringing_readable : BringingKeepsReadable
bringing_readable passes used seen s t brings backed passed readable = λ page from is gone. ⊎_elim
    (λ same. readable page from is (sym same ∙ gone))
    (λ rest. ⊎_elim
    (λ left. clean_passing passes seen s page (kept s page) refl left.was.clean backed passed (readable page from is))
    (λ came. absurd (none-some _ (sym gone ∙ came.is)))
    rest)
    (brings.fates page)

pub creating_readable : CreatingKeepsReadable
creating_readable passes used more seen s t page batch contents made within backed passed readable = λ q from is gone. elim (ℕ_discrete q page) [
  | yes e ↦ absurd (none-some _ (sym gone ∙ ap (kept t) e ∙ made.made))
  | no ne ↦ ⊎_elim
      (λ same. readable q from (within q ne is) (sym same ∙ gone))
      (λ left. clean_passing passes seen s q (kept s q) refl left.was.clean backed passed (readable q from (within q ne is)))
      (made.others q ne)
]

-- a page that isn't kept after a change wasn't before
changed_absent : (s : State) (page stamp : ℕ) (contents : Contents) (o : Option Kept) → IsSound s → kept s page ≡ o → kept (changed s page stamp contents) page ≡ None → kept s page ≡ None
changed_absent s page stamp contents None sound is gone = is
changed_absent s page stamp contents (Some k) sound is gone = absurd (none-some _ (sym gone ∙ changed_kept s page stamp contents k sound is))

pub changing_readable : ChangingKeepsReadable
changing_readable passes used seen s page stamp contents sound readable = λ q from is gone. elim (ℕ_discrete q page) [
  | yes e ↦ readable q from is (ap (kept s) e ∙ changed_absent s page stamp contents (kept s page) sound refl (ap (kept (changed s page stamp contents)) (sym e) ∙ gone))
  | no ne ↦ readable q from is (sym (changed_other s page q stamp contents sound ne) ∙ gone)
]

pub one_not_damaged : (d e : Device) → OneIsNotDamaged d e
one_not_damaged d e passes used old new page result honest from is readable brought = λ damaged.
    let refuted : Refuted passes d old new page = subst {A = Result (Unit {0}) PoolFault} (λ r. Answers passes d old new page r) damaged brought.answer in
    refuted.damaged honest (readable page from is refuted.missing)

pub some_not_damaged : (d e : Device) → SomeAreNotDamaged d e
some_not_damaged d e passes used old new pages result honest from is readable brought = λ damaged.
    let refuted : AnswersAll {A = Unit {0}} passes d (holding old pages) new pages (Err Damaged) = subst {A = Result (Unit {0}) PoolFault} (λ r. AnswersAll passes d (holding old pages) new pages r) damaged brought.answer in
    let k = refuted.0 in
    let inside = refuted.1.inside in
    refuted.2.2 honest (readable _ (from k inside) (is k inside) (sym (same_held_kept old pages _) ∙ refuted.2.1))

-- a page that was written is kept
still_there : {A E : Type 0} → (d e : Device) (old new : State) (page : ℕ) (k : Kept) (result : Result A E) → kept old page ≡ Some k → WritesPage d e old new page k result → kept new page ≡ None → ⊥
still_there d e old new page k (Ok a) is wrote gone = none-some _ (sym gone ∙ wrote.clean)
still_there d e old new page k (Err why) is wrote gone = none-some k (sym gone ∙ ap (λ s. kept s page) wrote.failed ∙ is)

pub write_keeps_readable : {A E : Type 0} → (passes : Contents → Bool) (used : ℕ → Bool) (d e : Device) (old new : State) (page : ℕ) (k : Kept) (result : Result A E) → d.honest ≡ true → IsPage d.sectors page
    → kept old page ≡ Some k → WritesPage d e old new page k result → IsReadable passes used old d.seen → IsReadable passes used new e.seen
write_keeps_readable passes used d e old new page k result honest there is wrote readable = λ q from used_is gone. elim (ℕ_discrete q page) [
  | yes e_is ↦ absurd (still_there d e old new page k result is wrote (ap (kept new) (sym e_is) ∙ gone))
  | no ne ↦
      subst {A = List ℕ} (λ bytes. IsPassing passes q bytes) (sym (touched_span (first_of page) PAGE_SECTORS (first_of q) PAGE_SECTORS d e (wrote.writes honest).touches (pages_apart page q there.from from (λ same. ne (sym same)))))
      (readable q from used_is (sym (wrote.others q ne) ∙ gone))
]
