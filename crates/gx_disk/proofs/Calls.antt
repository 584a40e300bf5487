-- What one call more in the record says of the device in memory: its invariant, and the trait's clauses.
use Rattle.std.proofs.Common.{◌≡◌, ◌∙◌, sym, ap, refl, inl, inr, ℕ, suc, ◌+◌, ◌*◌, ◌≤◌, List, [], ◌∷◌, ◌++◌, length, take, drop, true, false, Bool, ◌||◌, ◌&&◌, arith, IsTrue, nat_le, Ok}
use Rattle.std.proofs.lemmas.Bool.{false≢true, le-leb}
use Rattle.std.proofs.lemmas.Bool.Decides.{nat_tests}
use Rattle.std.proofs.lemmas.List.{take_all, drop_all, take-append-le, drop-append-le, length-take-le, length-drop, length-append}
use Rattle.gx_disk.specs.declared.memory.PastCall.{PastCall}
use Rattle.gx_disk.specs.declared.memory.PastCall.TheVariants.{Write, Sync}
use Rattle.gx_disk.specs.Sectors.{put, IsSpan, IsWithin, IsOutside}
use Rattle.gx_disk.specs.Device.{Syncs, Writes}
use Rattle.gx_disk.specs.Memory.{is_within, pending_next, pending_after, size_kept, total_kept, bytes_back, device_of, fit_all, IsKept}
use Rattle.gx_disk.proofs.Record.{pending_after-append, total_kept-append, record_elapses}
use Rattle.gx_disk.proofs.Spans.{length-put, put_outside, put_trimmed}

-- `&&` of tests that are true
pub both : (a b : Bool) → IsTrue a → IsTrue b → IsTrue (a && b)
both a b p q = rw (p, q) refl

pub first_of_both : (a b : Bool) → IsTrue (a && b) → IsTrue a
first_of_both true b p = refl
first_of_both false b p = p

pub second_of_both : (a b : Bool) → IsTrue (a && b) → IsTrue b
second_of_both true b p = p
second_of_both false b p = absurd (false≢true p)

-- two lists of calls fit if each does
pub fit_all-append : (sectors : ℕ) (calls more : List PastCall) → IsTrue (fit_all sectors calls) → IsTrue (fit_all sectors more) → IsTrue (fit_all sectors (calls ++ more))
unfolding fit_all
fit_all-append sectors [] more fit fits = fits
fit_all-append sectors (Sync ∷ calls) more fit fits = fit_all-append sectors calls more fit fits
fit_all-append sectors (Write first n kept ∷ calls) more fit fits =
    let here = nat_le (first + n) sectors && nat_le kept n in
    both here (fit_all sectors (calls ++ more)) (first_of_both here (fit_all sectors calls) fit) (fit_all-append sectors calls more (second_of_both here (fit_all sectors calls) fit) fits)

-- a sector of the span is within it by the test, and one outside isn't
pub within_true : (first n s : ℕ) → IsWithin first n s → is_within first n s ≡ true
within_true first n s within = rw (le-leb first s within.from, le-leb (suc s) (first + n) within.below) refl

pub within_false : (first n s : ℕ) → IsOutside first n s → is_within first n s ≡ false
within_false first n s (inl below) = grind (arith, nat_tests)
within_false first n s (inr above) = grind (arith, nat_tests)

or_true : (b : Bool) → (b || true) ≡ true
or_true true = refl
or_true false = refl

or_false : (b : Bool) → (b || false) ≡ b
or_false true = refl
or_false false = refl

-- a sync recorded
module _ (sectors : ℕ) (calls calls' : List PastCall) (kept kept' bytes : List ℕ) (faults made made' synced synced_size : ℕ) (was : IsKept sectors calls kept synced synced_size)
    (recorded : calls' ≡ calls ++ Sync ∷ []) (same : kept' ≡ kept ++ []) where
  sync_total : total_kept calls' ≡ length kept'
  unfolding total_kept size_kept
  sync_total = ap total_kept recorded ∙ total_kept-append calls (Sync ∷ []) ∙ omega (arith, was.sized, ap length same, length-append kept [])

  sync_settles : (s : ℕ) → pending_after calls' false s ≡ false
  unfolding pending_next
  sync_settles s = ap (λ cs. pending_after cs false s) recorded ∙ pending_after-append calls Sync false s

  pub sync_kept : IsKept sectors calls' kept' (length calls') (length kept')
  unfolding fit_all pending_after
  sync_kept = record {
    fits = rw recorded (fit_all-append sectors calls (Sync ∷ []) was.fits refl);
    sized = sync_total;
    since = omega arith;
    since_size = rw (take_all (length calls') calls' (omega arith)) (sym sync_total);
    since_pending = λ s. sync_settles s ∙ sym (ap (λ cs. pending_after cs false s) (drop_all (length calls') calls' (omega arith)));
  }

  pub sync_syncs : {T E : Type 0} (x : T) → Syncs {T = T} {E = E} (device_of sectors calls kept bytes faults made) (device_of sectors calls' kept' bytes faults made') (Ok x)
  unfolding bytes_back
  sync_syncs x = record {
    settled = sync_settles;
    pending = tt;
    rests = record { seen = refl; settled = λ s gone. sync_settles s };
    time = rw (recorded, same) (record_elapses sectors calls Sync kept [] bytes bytes faults faults made made' was.sized refl);
  }

-- a write recorded
module _ (sectors : ℕ) (calls calls' : List PastCall) (kept kept' bytes bytes' new : List ℕ) (first n m faults made made' synced synced_size : ℕ) (was : IsKept sectors calls kept synced synced_size)
    (size : length bytes ≡ 512 * sectors) (span : IsSpan sectors first (length new)) (count : length new ≡ 512 * n) (few : 512 * m ≤ length new)
    (same : drop (512 * m) (take (length new) (drop (512 * first) bytes)) ≡ drop (512 * m) new)
    (recorded : calls' ≡ calls ++ Write first n m ∷ []) (keeps : kept' ≡ kept ++ take (512 * m) (drop (512 * first) bytes)) (put_there : bytes' ≡ put (512 * first) new bytes) where
  fits : 512 * first + length new ≤ length bytes
  fits = omega (arith, span.inside)

  kept_size : length (take (512 * m) (drop (512 * first) bytes)) ≡ 512 * m
  kept_size = length-take-le (512 * m) (drop (512 * first) bytes) (omega (arith, fits, length-drop (512 * first) bytes))

  write_pending : (s : ℕ) → pending_after calls' false s ≡ (pending_after calls false s || is_within first n s)
  unfolding pending_next
  write_pending s = ap (λ cs. pending_after cs false s) recorded ∙ pending_after-append calls (Write first n m) false s

  write_inside : (s : ℕ) → IsWithin first n s → pending_after calls' false s ≡ true
  write_inside s within = write_pending s ∙ ap (λ b. pending_after calls false s || b) (within_true first n s within) ∙ or_true (pending_after calls false s)

  write_outside : (s : ℕ) → IsOutside first n s → pending_after calls' false s ≡ pending_after calls false s
  write_outside s out = write_pending s ∙ ap (λ b. pending_after calls false s || b) (within_false first n s out) ∙ or_false (pending_after calls false s)

  pub write_size : length bytes' ≡ 512 * sectors
  write_size = rw put_there (length-put (512 * first) new bytes fits ∙ size)

  pub write_kept : IsKept sectors calls' kept' synced synced_size
  unfolding fit_all total_kept size_kept pending_after
  write_kept = record {
    fits = rw recorded (fit_all-append sectors calls (Write first n m ∷ []) was.fits (rw (le-leb (first + n) sectors (omega (arith, span.inside)), le-leb m n (omega arith)) refl));
    sized = ap total_kept recorded ∙ total_kept-append calls (Write first n m ∷ []) ∙ omega (arith, was.sized, ap length keeps, length-append kept (take (512 * m) (drop (512 * first) bytes)), kept_size);
    since = omega (arith, was.since, ap length recorded, length-append calls (Write first n m ∷ []));
    since_size = was.since_size ∙ ap total_kept (sym (take-append-le synced calls (Write first n m ∷ []) was.since)) ∙ sym (ap (λ cs. total_kept (take synced cs)) recorded);
    since_pending = λ s.
        let behind : drop synced calls' ≡ drop synced calls ++ Write first n m ∷ [] = ap (drop synced) recorded ∙ drop-append-le synced calls (Write first n m ∷ []) was.since in
        ap (λ cs. pending_after cs false s) recorded ∙ pending_after-append calls (Write first n m) false s ∙ ap (λ b. pending_next (Write first n m) b s) (was.since_pending s)
        ∙ sym (pending_after-append (drop synced calls) (Write first n m) false s) ∙ sym (ap (λ cs. pending_after cs false s) behind);
  }

  back : bytes_back (Write first n m) (take (512 * m) (drop (512 * first) bytes)) bytes' ≡ bytes
  unfolding bytes_back
  back = rw (put_there, take_all (512 * m) (take (512 * m) (drop (512 * first) bytes)) (omega (arith, kept_size))) (put_trimmed (512 * first) (512 * m) new bytes fits few same)

  pub write_writes : {T E : Type 0} (x : T) → Writes {T = T} {E = E} first n new (device_of sectors calls kept bytes faults made) (device_of sectors calls' kept' bytes' faults made') (Ok x)
  write_writes x = record {
    touches = record {
      size = rw put_there (length-put (512 * first) new bytes fits);
      bytes = λ s out. rw put_there (put_outside first n s new bytes count fits out);
      settled = λ s out gone. write_outside s out ∙ gone;
    };
    written = record { seen = put_there; pending = write_inside };
    torn = λ s within. inl (write_inside s within);
    pending = write_outside;
    time = rw (recorded, keeps) (record_elapses sectors calls (Write first n m) kept (take (512 * m) (drop (512 * first) bytes)) bytes bytes' faults faults made made' was.sized back);
  }
