-- What one call more says of a device in memory that keeps no record: its past fits it, and the trait's clauses.
use Rattle.std.proofs.Common.{◌≡◌, ◌∙◌, sym, refl, ℕ, ◌*◌, List, [], ◌∷◌, ◌++◌, length, take, drop, true, Ok, arith}
use Rattle.std.proofs.lemmas.List.{drop_all, length-take-le, length-drop}
use Rattle.gx_disk.specs.declared.memory.PastCall.{PastCall}
use Rattle.gx_disk.specs.declared.memory.PastCall.TheVariants.{Write, Sync}
use Rattle.gx_disk.specs.Sectors.{put, IsSpan}
use Rattle.gx_disk.specs.Device.{Syncs, Writes}
use Rattle.gx_disk.specs.Memory.{kept_of, total_kept, device_of, fit_all, IsKept}
use Rattle.gx_disk.proofs.Calls.{sync_kept, sync_syncs, write_size, write_kept, write_writes}

-- a past that fits is a record of which no part is settled
whole_past : (sectors : ℕ) (calls : List PastCall) (kept : List ℕ) → fit_all sectors calls ≡ true → total_kept calls ≡ length kept → IsKept sectors calls kept 0 0
unfolding total_kept
whole_past sectors calls kept fits sized = record { fits = fits; sized = sized; since = omega arith; since_size = refl; since_pending = λ s. refl }

-- a sync
module _ (sectors : ℕ) (calls calls' : List PastCall) (kept kept' bytes : List ℕ) (made made' : ℕ) (fits : fit_all sectors calls ≡ true) (sized : total_kept calls ≡ length kept)
    (recorded : calls' ≡ calls ++ Sync ∷ []) (keeps : kept' ≡ kept ++ kept_of Sync bytes) where
  keeps_none : kept' ≡ kept ++ []
  unfolding kept_of
  keeps_none = keeps

  pub synced_past : IsKept sectors calls' kept' (length calls') (length kept')
  synced_past = sync_kept sectors calls calls' kept kept' bytes 0 made made' 0 0 (whole_past sectors calls kept fits sized) recorded keeps_none

  pub sync_settles : {T E : Type 0} (x : T) → Syncs {T = T} {E = E} (device_of sectors calls kept bytes 0 made) (device_of sectors calls' kept' bytes 0 made') (Ok x)
  sync_settles x = sync_syncs sectors calls calls' kept kept' bytes 0 made made' 0 0 (whole_past sectors calls kept fits sized) recorded keeps_none x

-- a write
module _ (sectors : ℕ) (calls calls' : List PastCall) (kept kept' bytes bytes' new : List ℕ) (first n made made' : ℕ) (fits : fit_all sectors calls ≡ true) (sized : total_kept calls ≡ length kept)
    (size : length bytes ≡ 512 * sectors) (span : IsSpan sectors first (length new)) (count : length new ≡ 512 * n)
    (recorded : calls' ≡ calls ++ Write first n n ∷ []) (keeps : kept' ≡ kept ++ kept_of (Write first n n) bytes) (put_there : bytes' ≡ put (512 * first) new bytes) where
  keeps_all : kept' ≡ kept ++ take (512 * n) (drop (512 * first) bytes)
  unfolding kept_of
  keeps_all = keeps

  none_left : drop (512 * n) (take (length new) (drop (512 * first) bytes)) ≡ drop (512 * n) new
  none_left =
      let whole : length (take (length new) (drop (512 * first) bytes)) ≡ length new = length-take-le (length new) (drop (512 * first) bytes) (omega (arith, length-drop (512 * first) bytes, span.inside, size)) in
      drop_all (512 * n) (take (length new) (drop (512 * first) bytes)) (omega (arith, whole, count)) ∙ sym (drop_all (512 * n) new (omega (arith, count)))

  pub written_size : length bytes' ≡ 512 * sectors
  written_size = write_size sectors calls calls' kept kept' bytes bytes' new first n n 0 made made' 0 0 (whole_past sectors calls kept fits sized) size span count (omega (arith, count)) none_left recorded keeps_all put_there

  pub written_past : IsKept sectors calls' kept' 0 0
  written_past = write_kept sectors calls calls' kept kept' bytes bytes' new first n n 0 made made' 0 0 (whole_past sectors calls kept fits sized) size span count (omega (arith, count)) none_left recorded keeps_all put_there

  pub write_pends : {T E : Type 0} (x : T) → Writes {T = T} {E = E} first n new (device_of sectors calls kept bytes 0 made) (device_of sectors calls' kept' bytes' 0 made') (Ok x)
  write_pends x = write_writes sectors calls calls' kept kept' bytes bytes' new first n n 0 made made' 0 0 (whole_past sectors calls kept fits sized) size span count (omega (arith, count)) none_left recorded keeps_all put_there x
