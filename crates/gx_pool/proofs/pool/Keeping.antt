-- What is shown of each page while one is written.
use Rattle.std.proofs.Common.{◌≡◌, ◌≢◌, ◌∙◌, sym, ap, subst, refl, ℕ, ◌+◌, ◌*◌, ◌≤◌, List, length, Bool, true, Option, Some, None, Result, Ok, Err, zero, suc, arith}
use Rattle.std.proofs.Math.Decide.{ℕ_discrete}
use Rattle.std.proofs.lemmas.Option.{none-some}
use Rattle.gx_disk.specs.declared.layout.TheConstants.{PAGE_SECTORS}
use Rattle.gx_disk.specs.Device.{Device}
use Rattle.gx_disk.specs.Sectors.{span_of, put}
use Rattle.gx_disk.proofs.Spans.{put_back, touched_span}
use Rattle.gx_page.specs.declared.block.TheConstants.{PAGE_SIZE}
use Rattle.gx_page.specs.Contents.{Contents}
use Rattle.gx_page.specs.Format.{image_of}
use Rattle.gx_page.specs.Reading.{read_of}
use Rattle.gx_page.proofs.Parts.{image_size}
use Rattle.gx_pool.specs.Area.{IsPage, bytes_of, first_of}
use Rattle.gx_pool.specs.Bringing.{HasImage}
use Rattle.gx_pool.specs.Laws.{shown, shown_of, IsBacked, IsPassed}
use Rattle.gx_pool.specs.Marks.{is_gated}
use Rattle.gx_pool.specs.State.{State, Kept, kept}
use Rattle.gx_pool.specs.Writing.{WritesPage, KeepsShown}
use Rattle.gx_pool.proofs.Gated.{pages_apart}
use Rattle.gx_pool.proofs.Shown.{one_kept}

-- a page's bytes, once they were written
back_there : (page : ℕ) (bytes seen : List ℕ) → length bytes ≡ PAGE_SIZE → 512 * first_of page + PAGE_SIZE ≤ length seen → bytes_of (put (512 * first_of page) bytes seen) page ≡ bytes
unfolding span_of
back_there page bytes seen size fits = rw (← size) (put_back (512 * first_of page) bytes seen (omega (arith, fits, size)))

-- A page after its write: it is kept with the same contents, and if it is clean the device has it.
record Written (e : Device) (new : State) (page : ℕ) (k : Kept) : Type 0 where
  after : Kept
  is : kept new page ≡ Some after
  same : after.page ≡ k.page
  backed : after.stamp ≡ None → HasImage (bytes_of e.seen page) k.page

gated_dirty : (gated : ℕ) (stamp : Option ℕ) → is_gated gated stamp ≡ true → stamp ≡ None → ⊥
gated_dirty gated None is none = absurd (grind arith)
gated_dirty gated (Some n) is none = none-some n (sym none)

written : {A E : Type 0} → (d e : Device) (old new : State) (page : ℕ) (k : Kept) (result : Result A E) → d.honest ≡ true → length d.seen ≡ 512 * d.sectors → IsPage d.sectors page
    → kept old page ≡ Some k → is_gated old.gated k.stamp ≡ true → WritesPage d e old new page k result → Written e new page k
written d e old new page k (Ok a) honest whole there is gated wrote =
    let w = wrote.writes honest in
    let reads : bytes_of e.seen page ≡ image_of k.page =
    ap (λ seen. bytes_of seen page) w.written.seen ∙ back_there page (image_of k.page) d.seen (image_size (image_of k.page) wrote.image.image) (omega (arith, whole, there.from, there.inside)) in
    record {
      after = record { page = k.page; stamp = None };
      is = wrote.clean;
      same = refl;
      backed = λ clean. subst {A = List ℕ} (λ bytes. HasImage bytes k.page) (sym reads) wrote.image;
    }
written d e old new page k (Err why) honest whole there is gated wrote = record {
  after = k;
  is = ap (λ s. kept s page) wrote.failed ∙ is;
  same = refl;
  backed = λ clean. absurd (gated_dirty old.gated k.stamp gated clean);
}

-- a page that is kept has no number 0
positive : (s : State) (page : ℕ) (k : Kept) → kept s 0 ≡ None → kept s page ≡ Some k → 1 ≤ page
positive s zero k none is = absurd (none-some k (sym none ∙ is))
positive s (suc n) k none is = omega arith

-- the written page is clean then only as the device has it
page_backed : (e : Device) (new : State) (page q : ℕ) (k l : Kept) → Written e new page k → q ≡ page → kept new q ≡ Some l → l.stamp ≡ None → HasImage (bytes_of e.seen q) l.page
page_backed e new page q k l now here at clean =
    let one : now.after ≡ l = one_kept (kept new page) now.after l now.is (ap (kept new) (sym here) ∙ at) in
    let same : k.page ≡ l.page = sym now.same ∙ ap (λ m. m.page) one in
    let has : HasImage (bytes_of e.seen page) l.page = subst {A = Contents} (λ c. HasImage (bytes_of e.seen page) c) same (now.backed (ap (λ m. m.stamp) one ∙ clean)) in
    subst {A = ℕ} (λ n. HasImage (bytes_of e.seen n) l.page) (sym here) has

-- and it is shown as before
page_shown : (d e : Device) (old new : State) (page : ℕ) (k : Kept) → kept old page ≡ Some k → Written e new page k → shown new e.seen page ≡ shown old d.seen page
page_shown d e old new page k is now =
    let after : shown new e.seen page ≡ now.after.page = ap (λ o. shown_of o (read_of (bytes_of e.seen page))) now.is in
    let before : shown old d.seen page ≡ k.page = ap (λ o. shown_of o (read_of (bytes_of d.seen page))) is in
    after ∙ now.same ∙ sym before

-- a page that is kept unchanged, and whose bytes are, is shown as before
other_shown : (d e : Device) (old new : State) (q : ℕ) → kept new q ≡ kept old q → bytes_of e.seen q ≡ bytes_of d.seen q → shown new e.seen q ≡ shown old d.seen q
other_shown d e old new q same bytes =
    let first : shown new e.seen q ≡ shown old e.seen q = ap (λ o. shown_of o (read_of (bytes_of e.seen q))) same in
    first ∙ ap {A = List ℕ} (λ b. shown_of (kept old q) (read_of b)) bytes

pub write_keeps_shown : {A E : Type 0} → (d e : Device) (old new : State) (page : ℕ) (k : Kept) (result : Result A E) → d.honest ≡ true → length d.seen ≡ 512 * d.sectors → IsPage d.sectors page
    → kept old 0 ≡ None → kept old page ≡ Some k → is_gated old.gated k.stamp ≡ true → WritesPage d e old new page k result → IsBacked old d.seen → KeepsShown d e old new
write_keeps_shown d e old new page k result honest whole there none is gated wrote backed =
    let now : Written e new page k = written d e old new page k result honest whole there is gated wrote in
    let others : (q : ℕ) → 1 ≤ q → q ≢ page → bytes_of e.seen q ≡ bytes_of d.seen q =
    λ q from ne. touched_span (first_of page) PAGE_SECTORS (first_of q) PAGE_SECTORS d e (wrote.writes honest).touches (pages_apart page q there.from from (λ same. ne (sym same))) in
    record {
      backed = λ q l at clean. elim (ℕ_discrete q page) [
        | yes here ↦ page_backed e new page q k l now here at clean
        | no ne ↦
            let was : kept old q ≡ Some l = sym (wrote.others q ne) ∙ at in
            subst {A = List ℕ} (λ bytes. HasImage bytes l.page) (sym (others q (positive old q l none was) ne)) (backed q l was clean)
      ];
      shown = λ q from. elim (ℕ_discrete q page) [
        | yes here ↦ subst {A = ℕ} (λ n. shown new e.seen n ≡ shown old d.seen n) (sym here) (page_shown d e old new page k is now)
        | no ne ↦ other_shown d e old new q (wrote.others q ne) (others q from ne)
      ];
    }

pub rest_keeps_shown : (d : Device) (s : State) → IsBacked s d.seen → KeepsShown d d s s
rest_keeps_shown d s backed = record { backed = backed; shown = λ q from. refl }

-- a page passes after its write, and the others do
pub write_keeps_passing : {A E : Type 0} → (passes : Contents → Bool) (d e : Device) (old new : State) (page : ℕ) (k : Kept) (result : Result A E) → kept old page ≡ Some k → WritesPage d e old new page k result
    → IsPassed passes old → IsPassed passes new
write_keeps_passing passes d e old new page k (Ok a) is wrote passed = λ q l at. elim (ℕ_discrete q page) [
  | yes e ↦
      let one = one_kept (kept new page) (record { page = k.page; stamp = None }) l wrote.clean (ap (kept new) (sym e) ∙ at) in
      let was = passed page k is in
      (ap (λ m. m.page.number) (sym one) ∙ was.0 ∙ sym e, ap (λ m. passes m.page) (sym one) ∙ was.1)
  | no ne ↦ passed q l (sym (wrote.others q ne) ∙ at)
]
write_keeps_passing passes d e old new page k (Err why) is wrote passed = rw wrote.failed passed
