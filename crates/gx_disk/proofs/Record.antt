-- The record of a device in memory: what one call more says of each earlier moment.
use Rattle.std.proofs.Common.{◌≡◌, ◌∙◌, sym, ap, refl, inl, inr, ℕ, ◌+◌, ◌*◌, ◌≤◌, List, [], ◌∷◌, ◌++◌, length, take, drop, false, Bool, arith}
use Rattle.std.proofs.lemmas.List.{take-append-le, drop-append-le, take-append-drop, length-drop, length-append}
use Rattle.std.proofs.lemmas.Bool.{cases_lt}
use Rattle.gx_disk.specs.declared.memory.PastCall.{PastCall}
use Rattle.gx_disk.specs.declared.memory.PastCall.TheVariants.{Write, Sync}
use Rattle.gx_disk.specs.Sectors.{put}
use Rattle.gx_disk.specs.Device.{IsImage, Elapses}
use Rattle.gx_disk.specs.Past.{last_image}
use Rattle.gx_disk.specs.Memory.{pending_next, pending_after, size_kept, total_kept, bytes_back, bytes_before, bytes_at, device_of}

-- one call more decides last
pub pending_after-append : (calls : List PastCall) (call : PastCall) (was : Bool) (s : ℕ) → pending_after (calls ++ call ∷ []) was s ≡ pending_next call (pending_after calls was s) s
unfolding pending_after
pending_after-append [] call was s = refl
pending_after-append (c ∷ calls) call was s = pending_after-append calls call (pending_next c was s) s

-- what is kept of two lists of calls
pub total_kept-append : (calls more : List PastCall) → total_kept (calls ++ more) ≡ total_kept calls + total_kept more
unfolding total_kept
total_kept-append [] more = omega arith
total_kept-append (c ∷ calls) more = omega (arith, total_kept-append calls more)

no_bytes : (xs : List ℕ) → 0 ≡ length xs → xs ≡ []
no_bytes [] h = refl
no_bytes (x ∷ xs) h = absurd (omega arith)

-- a call is undone by its own bytes alone
bytes_back-append : (call : PastCall) (kept more now : List ℕ) → size_kept call ≤ length kept → bytes_back call (kept ++ more) now ≡ bytes_back call kept now
unfolding bytes_back size_kept
bytes_back-append Sync kept more now le = refl
bytes_back-append (Write first n m) kept more now le = ap (λ (bytes : List ℕ). put (512 * first) bytes now) (take-append-le (512 * m) kept more le)

-- one call more, undone first
pub bytes_before-append : (calls : List PastCall) (call : PastCall) (kept more now : List ℕ) → total_kept calls ≡ length kept
    → bytes_before (calls ++ call ∷ []) (kept ++ more) now ≡ bytes_before calls kept (bytes_back call more now)
unfolding bytes_before total_kept
bytes_before-append [] call kept more now size = rw (no_bytes kept size) refl
bytes_before-append (c ∷ calls) call kept more now size =
    let le : size_kept c ≤ length kept = omega arith in
    let rest = bytes_before-append calls call (drop (size_kept c) kept) more now (omega (arith, length-drop (size_kept c) kept)) in
    rw (drop-append-le (size_kept c) kept more le, rest) (bytes_back-append c kept more (bytes_before calls (drop (size_kept c) kept) (bytes_back call more now)) le)

-- what is kept of the first k calls and of the others
total_parts : (k : ℕ) (calls : List PastCall) → total_kept (take k calls) + total_kept (drop k calls) ≡ total_kept calls
total_parts k calls = sym (total_kept-append (take k calls) (drop k calls)) ∙ ap total_kept (take-append-drop k calls)

-- an earlier moment's bytes, if one call more is recorded that is undone to the bytes before it
pub bytes_at-append : (k : ℕ) (calls : List PastCall) (call : PastCall) (kept more was now : List ℕ) → k ≤ length calls → total_kept calls ≡ length kept → bytes_back call more now ≡ was
    → bytes_at k (calls ++ call ∷ []) (kept ++ more) now ≡ bytes_at k calls kept was
unfolding bytes_at
bytes_at-append k calls call kept more was now le size back =
    let parts = total_parts k calls in
    let front : take k (calls ++ call ∷ []) ≡ take k calls = take-append-le k calls (call ∷ []) le in
    let behind : drop k (calls ++ call ∷ []) ≡ drop k calls ++ call ∷ [] = drop-append-le k calls (call ∷ []) le in
    let bytes : drop (total_kept (take k calls)) (kept ++ more) ≡ drop (total_kept (take k calls)) kept ++ more = drop-append-le (total_kept (take k calls)) kept more (omega arith) in
    rw (front, behind, bytes) (bytes_before-append (drop k calls) call (drop (total_kept (take k calls)) kept) more now (omega (arith, length-drop (total_kept (take k calls)) kept))
    ∙ ap (bytes_before (drop k calls) (drop (total_kept (take k calls)) kept)) back)

-- time goes on over one call more, which is undone to the bytes before it
pub record_elapses : (sectors : ℕ) (calls : List PastCall) (call : PastCall) (kept more was now : List ℕ) (faults faults' made made' : ℕ) → total_kept calls ≡ length kept → bytes_back call more now ≡ was
    → Elapses (device_of sectors calls kept was faults made) (device_of sectors (calls ++ call ∷ []) (kept ++ more) now faults' made')
record_elapses sectors calls call kept more was now faults faults' made made' size back =
    let front : (k : ℕ) → k ≤ length calls → take k (calls ++ call ∷ []) ≡ take k calls = λ k le. take-append-le k calls (call ∷ []) le in
    let bytes : (k : ℕ) → k ≤ length calls → bytes_at k (calls ++ call ∷ []) (kept ++ more) now ≡ bytes_at k calls kept was = λ k le. bytes_at-append k calls call kept more was now le size back in
    let longer : length (calls ++ call ∷ []) ≡ length calls + 1 = length-append calls (call ∷ []) in
    record {
      later = omega arith;
      only = λ t image le left.
          let is : IsImage (bytes_at left.0 (calls ++ call ∷ []) (kept ++ more) now) (pending_after (take left.0 (calls ++ call ∷ [])) false) image = left.1.1.1 in
          elim (cases_lt (length calls) left.0) [
            | inl more_calls ↦ inr (last_image left.0 (calls ++ call ∷ []) (kept ++ more) now image (omega (arith, left.1.1.0)) is)
            | inr before ↦ inl (left.0, (left.1.0, (before, rw (bytes left.0 before, front left.0 before) at is)))
          ];
      keeps = λ t image le left.
          let is : IsImage (bytes_at left.0 calls kept was) (pending_after (take left.0 calls) false) image = left.1.1.1 in
          (left.0, (left.1.0, (omega (arith, left.1.1.0), rw (bytes left.0 left.1.1.0, front left.0 left.1.1.0) is)));
    }
