-- What one call more says of a device in memory: its invariant, and the trait's clauses. And what is the same of it once
-- its queue was drained.
use Rattle.std.proofs.Common.{◌≡◌, ◌∙◌, sym, ap, refl, inl, inr, ℕ, ◌+◌, ◌*◌, ◌/◌, ◌≤◌, List, [], ◌∷◌, ◌++◌, length, take, true, false, Bool, ◌||◌, Ok, arith}
use Rattle.std.proofs.lemmas.Bool.{cases_lt}
use Rattle.std.proofs.lemmas.List.{append_assoc, append-nil, take-append-le, length-append}
use Rattle.gx_disk.specs.Sectors.{put, IsSpan, IsWithin, IsOutside}
use Rattle.gx_disk.specs.Device.{Device, IsImage, Elapses, Syncs, Writes}
use Rattle.gx_disk.specs.Memory.{is_within}
use Rattle.gx_disk.proofs.Calls.{within_true, within_false}
use Rattle.gx_disk.proofs.Spans.{length-put, put_outside}
use Rattle.gx_queue_disk.specs.Calls.{Call, Write, Sync, bytes_next, bytes_after, pending_next, pending_after}
use Rattle.gx_queue_disk.specs.Devices.{device_of, last_image}
use Rattle.gx_queue_disk.specs.Drains.{IsSame}

-- one call more decides last
bytes_after-append : (calls : List Call) (call : Call) (was : List ℕ) → bytes_after (calls ++ call ∷ []) was ≡ bytes_next call (bytes_after calls was)
unfolding bytes_after
bytes_after-append [] call was = refl
bytes_after-append (c ∷ calls) call was = bytes_after-append calls call (bytes_next c was)

pending_after-append : (calls : List Call) (call : Call) (was : Bool) (s : ℕ) → pending_after (calls ++ call ∷ []) was s ≡ pending_next call (pending_after calls was s) s
unfolding pending_after
pending_after-append [] call was s = refl
pending_after-append (c ∷ calls) call was s = pending_after-append calls call (pending_next c was s) s

-- time goes on over one call more
call_elapses : (sectors : ℕ) (start : List ℕ) (calls : List Call) (call : Call) (was now : List ℕ) (faults faults' made made' : ℕ) → bytes_after (calls ++ call ∷ []) start ≡ now
    → Elapses (device_of sectors start calls was faults made) (device_of sectors start (calls ++ call ∷ []) now faults' made')
call_elapses sectors start calls call was now faults faults' made made' led =
    let front : (k : ℕ) → k ≤ length calls → take k (calls ++ call ∷ []) ≡ take k calls = λ k le. take-append-le k calls (call ∷ []) le in
    let longer : length (calls ++ call ∷ []) ≡ length calls + 1 = length-append calls (call ∷ []) in
    record {
      later = omega arith;
      only = λ t image le left.
          let is : IsImage (bytes_after (take left.0 (calls ++ call ∷ [])) start) (pending_after (take left.0 (calls ++ call ∷ [])) false) image = left.1.1.1 in
          elim (cases_lt (length calls) left.0) [
            | inl more_calls ↦ inr (last_image left.0 start (calls ++ call ∷ []) now image led (omega (arith, left.1.1.0)) is)
            | inr before ↦ inl (left.0, (left.1.0, (before, rw (front left.0 before) at is)))
          ];
      keeps = λ t image le left.
          let is : IsImage (bytes_after (take left.0 calls) start) (pending_after (take left.0 calls) false) image = left.1.1.1 in
          (left.0, (left.1.0, (omega (arith, left.1.1.0), rw (front left.0 left.1.1.0) is)));
    }

-- a call behind the others in the queue is the last of all
pub all_longer : (drained queue queue' : List Call) (call : Call) → queue' ≡ queue ++ call ∷ [] → drained ++ queue' ≡ (drained ++ queue) ++ call ∷ []
all_longer drained queue queue' call longer = ap (λ calls. drained ++ calls) longer ∙ sym (append_assoc drained queue (call ∷ []))

or_true : (b : Bool) → (b || true) ≡ true
or_true true = refl
or_true false = refl

or_false : (b : Bool) → (b || false) ≡ b
or_false true = refl
or_false false = refl

-- a sync more
module _ (sectors : ℕ) (start : List ℕ) (calls calls' : List Call) (bytes : List ℕ) (faults faults' made made' : ℕ) (led : bytes_after calls start ≡ bytes) (longer : calls' ≡ calls ++ Sync ∷ []) where
  pub sync_led : bytes_after calls' start ≡ bytes
  unfolding bytes_next
  sync_led = ap (λ cs. bytes_after cs start) longer ∙ bytes_after-append calls Sync start ∙ led

  sync_settles : (s : ℕ) → pending_after calls' false s ≡ false
  unfolding pending_next
  sync_settles s = ap (λ cs. pending_after cs false s) longer ∙ pending_after-append calls Sync false s

  pub sync_syncs : {T E : Type 0} (x : T) → Syncs {T = T} {E = E} (device_of sectors start calls bytes faults made) (device_of sectors start calls' bytes faults' made') (Ok x)
  sync_syncs x = record {
    settled = sync_settles;
    pending = tt;
    rests = record { seen = refl; settled = λ s gone. sync_settles s };
    time = rw longer (call_elapses sectors start calls Sync bytes bytes faults faults' made made' (rw longer at sync_led));
  }

-- a write more
module _ (sectors : ℕ) (start : List ℕ) (calls calls' : List Call) (bytes bytes' new : List ℕ) (first faults faults' made made' : ℕ) (led : bytes_after calls start ≡ bytes)
    (size : length bytes ≡ 512 * sectors) (span : IsSpan sectors first (length new)) (longer : calls' ≡ calls ++ Write first new ∷ []) (put_there : bytes' ≡ put (512 * first) new bytes) where
  fits : 512 * first + length new ≤ length bytes
  fits = omega (arith, span.inside, size)

  count : length new ≡ 512 * (length new / 512)
  count = omega (arith, span.whole)

  pub write_size : length bytes' ≡ 512 * sectors
  write_size = rw put_there (length-put (512 * first) new bytes fits ∙ size)

  pub write_led : bytes_after calls' start ≡ bytes'
  unfolding bytes_next
  write_led = ap (λ cs. bytes_after cs start) longer ∙ bytes_after-append calls (Write first new) start ∙ ap (put (512 * first) new) led ∙ sym put_there

  write_pending : (s : ℕ) → pending_after calls' false s ≡ (pending_after calls false s || is_within first (length new / 512) s)
  unfolding pending_next
  write_pending s = ap (λ cs. pending_after cs false s) longer ∙ pending_after-append calls (Write first new) false s

  write_inside : (s : ℕ) → IsWithin first (length new / 512) s → pending_after calls' false s ≡ true
  write_inside s within = write_pending s ∙ ap (λ b. pending_after calls false s || b) (within_true first (length new / 512) s within) ∙ or_true (pending_after calls false s)

  write_outside : (s : ℕ) → IsOutside first (length new / 512) s → pending_after calls' false s ≡ pending_after calls false s
  write_outside s out = write_pending s ∙ ap (λ b. pending_after calls false s || b) (within_false first (length new / 512) s out) ∙ or_false (pending_after calls false s)

  pub write_writes : {T E : Type 0} (x : T) → Writes {T = T} {E = E} first (length new / 512) new (device_of sectors start calls bytes faults made) (device_of sectors start calls' bytes' faults' made') (Ok x)
  write_writes x = record {
    touches = record {
      size = rw put_there (length-put (512 * first) new bytes fits);
      bytes = λ s out. rw put_there (put_outside first (length new / 512) s new bytes count fits out);
      settled = λ s out gone. write_outside s out ∙ gone;
    };
    written = record { seen = put_there; pending = write_inside };
    torn = λ s within. inl (write_inside s within);
    pending = write_outside;
    time = rw longer (call_elapses sectors start calls (Write first new) bytes bytes' faults faults' made made' (rw longer at write_led));
  }

-- a device of which nothing changes
same_device : (d : Device) → IsSame d d
same_device d = record {
  sectors = refl;
  honest = refl;
  faults = refl;
  calls = refl;
  moment = refl;
  rests = λ honest. record { seen = refl; settled = λ s was. was };
  pending = λ honest s. refl;
  time = λ honest. record { later = omega arith; only = λ t image le left. inl left; keeps = λ t image le left. left };
}

-- a device whose queue was drained: the calls that were made are the same, and have led to the same bytes
module _ (sectors : ℕ) (start : List ℕ) (drained queue left : List Call) (bytes : List ℕ) (faults made : ℕ) (none : left ≡ []) where
  all_drained : (drained ++ queue) ++ left ≡ drained ++ queue
  all_drained = rw none (append-nil (drained ++ queue))

  pub drained_led : bytes_after (drained ++ queue) start ≡ bytes → bytes_after ((drained ++ queue) ++ left) start ≡ bytes
  drained_led led = rw all_drained led

  pub drained_device : IsSame (device_of sectors start (drained ++ queue) bytes faults made) (device_of sectors start ((drained ++ queue) ++ left) bytes faults made)
  drained_device = rw all_drained (same_device (device_of sectors start (drained ++ queue) bytes faults made))
