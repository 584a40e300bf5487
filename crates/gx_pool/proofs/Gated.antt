-- Why a write of one page leaves the others' sectors unchanged.
use Rattle.std.proofs.Common.{◌≡◌, ◌≢◌, ◌∙◌, sym, ap, subst, refl, inl, inr, ℕ, ◌≤◌, Bool, true, false, Result, arith}
use Rattle.std.proofs.lemmas.Bool.{cases_lt}
use Rattle.gx_disk.specs.declared.layout.TheConstants.{PAGE_SECTORS}
use Rattle.gx_disk.specs.Device.{Device}
use Rattle.gx_disk.proofs.Leaving.{call_leaves, nothing_leaves}
use Rattle.gx_disk.proofs.Spans.{AreApart, apart_outside, image_span, touched_span}
use Rattle.gx_pool.specs.Area.{IsPage, first_of}
use Rattle.gx_pool.specs.Gated.{AgreesOutside, ImagesAgree, IsAreaSettled, KeepsArea}
use Rattle.gx_pool.specs.State.{State, Kept}
use Rattle.gx_pool.specs.Writing.{WritesPage}

true_false : (b : Bool) → b ≡ true → b ≡ false → ⊥
true_false b is not_so = grind arith

-- two pages have no sector in common
pub pages_apart : (page other : ℕ) → 1 ≤ page → 1 ≤ other → page ≢ other → AreApart (first_of page) PAGE_SECTORS (first_of other) PAGE_SECTORS
pages_apart page other one two ne = elim (cases_lt page other) [
  | inl below ↦ inl (omega (arith, below, one))
  | inr above ↦ elim (cases_lt other page) [
    | inl below ↦ inr (omega (arith, below, two))
    | inr same ↦ absurd (ne (omega (arith, above, same)))
  ]
]

-- what is named isn't what isn't
named_apart : (named : ℕ → Bool) (page other : ℕ) → named page ≡ true → named other ≡ false → page ≢ other
named_apart named page other is isnt = λ e. true_false (named other) (ap named (sym e) ∙ is) isnt

pub images_agree : (d : Device) → ImagesAgree d
images_agree d named image settled may page there unnamed = image_span 8 (first_of page) d.seen d.pending image may (λ s within. settled page s there unnamed within)

pub write_keeps_area : {A E : Type 0} → (named : ℕ → Bool) (d e : Device) (old new : State) (page : ℕ) (k : Kept) (result : Result A E) → d.honest ≡ true → IsPage d.sectors page → named page ≡ true
    → IsAreaSettled named d → WritesPage d e old new page k result → KeepsArea named d e
write_keeps_area named d e old new page k result honest there is settled wrote =
    let w = wrote.writes honest in
    let apart : (q : ℕ) → IsPage d.sectors q → named q ≡ false → AreApart (first_of page) PAGE_SECTORS (first_of q) PAGE_SECTORS =
    λ q other unnamed. pages_apart page q there.from other.from (named_apart named page q is unnamed) in
    let still : IsAreaSettled named e = λ q s other unnamed within.
    let was : IsPage d.sectors q = subst {A = ℕ} (λ n. IsPage n q) wrote.counts.sectors other in
    w.touches.settled s (apart_outside (first_of page) PAGE_SECTORS (first_of q) PAGE_SECTORS s (apart q was unnamed) within) (settled q s was unnamed within) in
    let reads : AgreesOutside named d.sectors d.seen e.seen = λ q other unnamed. touched_span (first_of page) PAGE_SECTORS (first_of q) PAGE_SECTORS d e w.touches (apart q other unnamed) in
    record {
      seen = reads;
      settled = still;
      leaves = call_leaves (AgreesOutside named d.sectors d.seen) d e w.time
          (λ image may q other unnamed. images_agree e named image still may q (subst {A = ℕ} (λ n. IsPage n q) (sym wrote.counts.sectors) other) unnamed ∙ reads q other unnamed);
    }

pub rest_keeps_area : (named : ℕ → Bool) (d : Device) → IsAreaSettled named d → KeepsArea named d d
rest_keeps_area named d settled = record { seen = λ q other unnamed. refl; settled = settled; leaves = nothing_leaves (AgreesOutside named d.sectors d.seen) d }
