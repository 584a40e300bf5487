-- A crash of a device in memory leaves one of its images.
use Rattle.std.proofs.Common.{◌≡◌, ◌∙◌, sym, ap, refl, inl, inr, ℕ, zero, suc, ◌*◌, ◌≤◌, List, [], ◌∷◌, length, take, drop, true, false, Bool, arith}
use Rattle.std.proofs.lemmas.Bool.{cases_lt}
use Rattle.std.proofs.lemmas.List.{drop_all, length-drop, take-append-drop}
use Rattle.gx_disk.specs.declared.memory.PastCall.{PastCall}
use Rattle.gx_disk.specs.declared.memory.PastCall.TheVariants.{Write, Sync}
use Rattle.gx_disk.specs.declared.memory.Torn.{Torn}
use Rattle.gx_disk.specs.Sectors.{sector_of}
use Rattle.gx_disk.specs.Device.{IsImage}
use Rattle.gx_disk.specs.Memory.{pending_after, total_kept, bytes_before, bytes_at, fit_all, IsKept}
use Rattle.gx_disk.specs.Crash.{pending_below, crashed, IsCrash}
use Rattle.gx_disk.proofs.Calls.{second_of_both}
use Rattle.gx_disk.proofs.Record.{total_kept-append}

-- the later calls fit if all do
fit_drop : (sectors n : ℕ) (calls : List PastCall) → fit_all sectors calls ≡ true → fit_all sectors (drop n calls) ≡ true
unfolding fit_all
fit_drop sectors zero calls fit = fit
fit_drop sectors (suc n) [] fit = refl
fit_drop sectors (suc n) (Sync ∷ calls) fit = fit_drop sectors n calls fit
fit_drop sectors (suc n) (Write first k m ∷ calls) fit = fit_drop sectors n calls (second_of_both _ (fit_all sectors calls) fit)

-- the calls since the last sync, and what they kept
pub record IsSince (sectors : ℕ) (calls : List PastCall) (kept : List ℕ) : Type 0 where
  pub fits : fit_all sectors calls ≡ true
  pub sized : total_kept calls ≡ length kept

pub since_sync : (sectors : ℕ) (calls : List PastCall) (kept : List ℕ) (synced synced_size : ℕ) → IsKept sectors calls kept synced synced_size → IsSince sectors (drop synced calls) (drop synced_size kept)
since_sync sectors calls kept synced synced_size k =
    let parts = total_kept-append (take synced calls) (drop synced calls) in
    let whole = ap total_kept (take-append-drop synced calls) in
    record { fits = fit_drop sectors synced calls k.fits; sized = omega (arith, k.sized, k.since_size, parts, whole, length-drop synced_size kept) }

pub since_room : (sectors : ℕ) (calls : List PastCall) (kept : List ℕ) (synced synced_size : ℕ) → IsKept sectors calls kept synced synced_size → synced_size ≤ length kept
since_room sectors calls kept synced synced_size k = omega (arith, k.sized, k.since_size, total_kept-append (take synced calls) (drop synced calls), ap total_kept (take-append-drop synced calls))

-- devices of which the same sectors are pending
pub pending_below_same : (p q : ℕ → Bool) (s : ℕ) → ((r : ℕ) → p r ≡ q r) → pending_below p s ≡ pending_below q s
unfolding pending_below
pending_below_same p q zero same = refl
pending_below_same p q (suc s) same = rw (pending_below_same p q s same, same s) refl

-- a crash computed from the calls since the last sync is a crash of the device
pub crash_of_device : (sectors : ℕ) (calls : List PastCall) (kept now left : List ℕ) (torn : List Torn) (synced synced_size : ℕ) → IsKept sectors calls kept synced synced_size
    → IsCrash sectors (pending_after (drop synced calls) false) torn (bytes_before (drop synced calls) (drop synced_size kept) now) now left
    → IsCrash sectors (pending_after calls false) torn (bytes_at synced calls kept now) now left
unfolding crashed bytes_at
crash_of_device sectors calls kept now left torn synced synced_size k crash = record {
  size = crash.size;
  each = λ s lt.
      let same = k.since_pending in
      rw (same s, pending_below_same (pending_after calls false) (pending_after (drop synced calls) false) s same, ← k.since_size) (crash.each s lt);
}

past_end : (xs : List ℕ) (s : ℕ) → length xs ≤ 512 * s → sector_of xs s ≡ []
unfolding sector_of
past_end xs s le = ap (take 512) (drop_all (512 * s) xs le)

-- what a crash leaves is an image
pub crash_image : (sectors : ℕ) (pending : ℕ → Bool) (torn : List Torn) (synced now left : List ℕ) → IsCrash sectors pending torn synced now left → length now ≡ 512 * sectors → IsImage now pending left
unfolding crashed
crash_image sectors pending torn synced now left crash whole = record {
  size = crash.size;
  settled = λ s is. elim (cases_lt s sectors) [
    | inl inside ↦ crash.each s inside ∙ rw is refl
    | inr behind ↦ past_end left s (omega (arith, crash.size)) ∙ sym (past_end now s (omega arith))
  ];
}
