-- Bytes read as an interval: its own spelling, and nothing else.
use Rattle.std.proofs.Common.{◌≡◌, ℕ, ◌+◌, ◌^◌, ◌<◌, ℤ, FitsSigned, true, ◌&&◌, ◌==◌, refl, ap, sym, ◌∙◌, subst, arith, List, length, ◌++◌, take, drop, Some}
use Rattle.std.specs.Prelude.{slice_index, int_le}
use Rattle.std.specs.Int.{w64, from_be_bytes, to_be_bytes}
use Rattle.std.proofs.lemmas.Int.{of_z-to_z}
use Rattle.std.proofs.lemmas.Nat.{be_bytes_8}
use Rattle.std.proofs.lemmas.Bool.{and_parts, and_from, eqb-true, eq-eqb}
use Rattle.std.proofs.lemmas.List.{drop_at, take-append-drop, take_at, length-take, length-drop, get_or-drop}
use mir.ValLaws.{to_z-Fits}
use Rattle.gx_geom.specs.Spans.{Span, IsInterval, span_of}
use Rattle.gx_geom.specs.BoxLaws.{at_most, tests_at_most}
use Rattle.gx_class.specs.BoxReadings.{small_front, chosen, told}
use Rattle.gx_class.specs.Intervals.{long_bytes, spelling, long_of, ends_of, reading}
use Rattle.gx_class.specs.IntervalKeyLaws.{length-long_bytes, length-spelling, read_back}

-- ---- an interval's bytes

long_back : (z : ℤ) → FitsSigned w64 z → long_of (long_bytes z) ≡ z
unfolding long_of
long_back z fits = read_back z fits

ends_back : (a : Span) → IsInterval a → ends_of (spelling a) ≡ a
unfolding ends_of
ends_back a is =
    let lo = long_bytes a.lo in let hi = long_bytes a.hi in
    ap (λ z. span_of z (long_of (drop 8 (lo ++ hi)))) (ap long_of (take_at lo hi 8 (length-long_bytes a.lo)) ∙ long_back a.lo is.lo_fits)
    ∙ ap (λ z. span_of a.lo z) (ap long_of (drop_at lo hi 8 (length-long_bytes a.lo)) ∙ long_back a.hi is.hi_fits)

orders : (a b : Span) → a ≡ b → IsInterval b → int_le a.lo a.hi ≡ true
orders a b e is = ap (λ (c : Span). int_le c.lo c.hi) e ∙ tests_at_most b.lo b.hi is.in_order

pub reading_back : (a : Span) → IsInterval a → reading (spelling a) ≡ Some a
unfolding reading
reading_back a is =
    let same = ends_back a is in
    let ends = ends_of (spelling a) in
    chosen ((length (spelling a) == 16) && int_le ends.lo ends.hi) ends a
    (and_from (length (spelling a) == 16) (int_le ends.lo ends.hi) (eq-eqb (length (spelling a)) 16 (length-spelling a)) (orders ends a same is)) same

-- ---- bytes that spell an interval

long_small : (bytes : List ℕ) → ((i : ℕ) → slice_index bytes i < 256) → from_be_bytes w64 bytes < 2 ^ 64
long_small bytes small = omega (arith, small 0, small 1, small 2, small 3, small 4, small 5, small 6, small 7)

long_written : (bytes : List ℕ) → length bytes ≡ 8 → ((i : ℕ) → slice_index bytes i < 256) → long_bytes (long_of bytes) ≡ bytes
unfolding long_bytes long_of
long_written bytes long small =
    let n = from_be_bytes w64 bytes in
    ap (to_be_bytes w64) (of_z-to_z w64 n (long_small bytes small)) ∙ be_bytes_8 bytes n long small refl

long_fits : (bytes : List ℕ) → ((i : ℕ) → slice_index bytes i < 256) → FitsSigned w64 (long_of bytes)
unfolding long_of
long_fits bytes small = to_z-Fits w64 (from_be_bytes w64 bytes) (record { fits = long_small bytes small })

-- the last bytes of others
small_back : (bytes : List ℕ) → ((i : ℕ) → slice_index bytes i < 256) → (i : ℕ) → slice_index (drop 8 bytes) i < 256
small_back bytes small i = subst (λ b. b < 256) (sym (get_or-drop 8 bytes i 0)) (small (8 + i))

is_interval : (bytes : List ℕ) → ((i : ℕ) → slice_index bytes i < 256) → int_le (ends_of bytes).lo (ends_of bytes).hi ≡ true → IsInterval (ends_of bytes)
unfolding ends_of
is_interval bytes small e = record {
  in_order = at_most (ends_of bytes).lo (ends_of bytes).hi e;
  lo_fits = long_fits (take 8 bytes) (small_front 8 bytes small);
  hi_fits = long_fits (drop 8 bytes) (small_back bytes small);
}

ends_written : (bytes : List ℕ) → length bytes ≡ 16 → ((i : ℕ) → slice_index bytes i < 256) → bytes ≡ spelling (ends_of bytes)
unfolding ends_of
ends_written bytes long small =
    sym (take-append-drop 8 bytes)
    ∙ ap (λ l. l ++ drop 8 bytes) (sym (long_written (take 8 bytes) (omega (arith, length-take 8 bytes)) (small_front 8 bytes small)))
    ∙ ap (λ l. long_bytes (long_of (take 8 bytes)) ++ l) (sym (long_written (drop 8 bytes) (omega (arith, length-drop 8 bytes)) (small_back bytes small)))

pub reading_only : (bytes : List ℕ) (a : Span) → ((i : ℕ) → slice_index bytes i < 256) → reading bytes ≡ Some a → IsInterval a × (bytes ≡ spelling a)
unfolding reading
reading_only bytes a small e =
    let ends = ends_of bytes in
    let two = told ((length bytes == 16) && int_le ends.lo ends.hi) ends a e in
    let tests = and_parts (length bytes == 16) (int_le ends.lo ends.hi) two.0 in
    let long : length bytes ≡ 16 = eqb-true (length bytes) 16 tests.0 in
    (subst (λ z. IsInterval z) two.1 (is_interval bytes small tests.1), ends_written bytes long small ∙ ap spelling two.1)
