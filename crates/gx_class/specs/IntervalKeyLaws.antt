-- Laws of intervals as keys.
use Rattle.std.proofs.Common.{◌≡◌, ℕ, ◌*◌, ◌≤◌, ℤ, pos, FitsSigned, true, refl, ap, ◌∙◌, subst, arith, List, length}
use Rattle.std.specs.Prelude.{◌≤ℤ◌, ◌-ℤ◌, unsigned_abs}
use Rattle.std.specs.Int.{w64, int_min, int_max, cast_signed, from_be_bytes}
use Rattle.std.proofs.lemmas.Int.{ints}
use Rattle.std.proofs.lemmas.Nat.{from_be_bytes-to_be_bytes_8}
use Rattle.std.proofs.lemmas.Cmp.{on_total, then_total, int_cmp_total}
use Rattle.std.proofs.lemmas.List.{length-append}
use Rattle.std.specs.Cmp.{IsTotalOrder}
use Rattle.gx_geom.specs.Spans.{Span, IsInterval, meets, lies_in, span_cmp, span_of, hull, size}
use Rattle.gx_geom.specs.SpanLaws.{lies_in_through, ends_in, ends_meet, meet_by_ends, same_ends}
use Rattle.gx_geom.specs.BoxLaws.{at_most_through, lesser_at_most, at_most_greater}
use Rattle.gx_machine.specs.declared.query.Query.{Query}
use Rattle.gx_machine.specs.declared.query.Query.TheVariants.{Overlap, Within, Equal, Covers}
use Rattle.gx_machine.specs.Keys.{keys, key_matches}
use Rattle.gx_class.specs.BoxKeyLaws.{same_order, same_halves}
use Rattle.gx_class.specs.Halving.{halves_by_order}
use Rattle.gx_class.specs.HalvingLaws.{halved_in_order}
use Rattle.gx_class.specs.Intervals.{may_match, long_bytes, spelling}
use Rattle.gx_class.specs.Numbers.{read_back as number_read_back, same_number as number_same}
use Rattle.gx_class.specs.Sides.{LeavesEach}

pub start_is_interval : IsInterval (span_of (pos 0) (pos 0))
start_is_interval = record { in_order = omega (arith, ints); lo_fits = omega (arith, ints); hi_fits = omega (arith, ints) }

-- the order of intervals is total
pub spans_in_order : IsTotalOrder span_cmp
spans_in_order = then_total (on_total (λ (a : Span). a.lo) int_cmp_total) (on_total (λ (a : Span). a.hi) int_cmp_total)

-- what meets an interval meets whatever covers it
pub meets_covered : (k b q : Span) → meets k q ≡ true → lies_in k b ≡ true → meets b q ≡ true
meets_covered k b q p inside =
    let both = ends_meet k q p in
    let lies = ends_in k b inside in
    meet_by_ends b q (record {
      left = at_most_through b.lo k.lo q.hi lies.from both.left;
      right = at_most_through q.lo k.hi b.hi both.right lies.to;
    })

-- what covers an interval that lies in another meets that one
pub inside_covered : (k b q : Span) → k.lo ≤ℤ k.hi → lies_in k q ≡ true → lies_in k b ≡ true → meets b q ≡ true
inside_covered k b q in_order p inside =
    let lies = ends_in k q p in
    let lies' = ends_in k b inside in
    meet_by_ends b q (record {
      left = at_most_through b.lo k.lo q.hi lies'.from (at_most_through k.lo k.hi q.hi in_order lies.to);
      right = at_most_through q.lo k.lo b.hi lies.from (at_most_through k.lo k.hi b.hi in_order lies'.to);
    })

pub match_is_consistent : (q : Query Span) (k b : Span) → IsInterval k → key_matches (keys span_cmp meets lies_in) q k ≡ true → lies_in k b ≡ true
    → may_match q b ≡ true
match_is_consistent (Overlap q) k b is matched inside = meets_covered k b q matched inside
match_is_consistent (Within q) k b is matched inside = inside_covered k b q is.in_order matched inside
match_is_consistent (Equal q) k b is matched inside =
    let same : k ≡ q = same_ends k q (same_order (span_cmp k q) matched) in
    subst (λ z. lies_in z b ≡ true) same inside
match_is_consistent (Covers q) k b is matched inside = lies_in_through q k b matched inside

wider : (lo hi less more : ℤ) → lo ≤ℤ hi → less ≤ℤ lo → hi ≤ℤ more → unsigned_abs (hi -ℤ lo) ≤ unsigned_abs (more -ℤ less)
wider lo hi less more in_order low high = omega (arith, ints)

-- a bound is no larger than what it is widened to
pub size_grows : (a b : Span) → IsInterval a → size a ≤ size (hull a b)
size_grows a b is = wider a.lo a.hi (int_min a.lo b.lo) (int_max a.hi b.hi) is.in_order (lesser_at_most a.lo b.lo).0 (at_most_greater a.hi b.hi).0

pub length-long_bytes : (z : ℤ) → length (long_bytes z) ≡ 8
unfolding long_bytes
length-long_bytes z = refl

pub length-spelling : (a : Span) → length (spelling a) ≡ 16
length-spelling a =
    let lo = length-long_bytes a.lo in
    let hi = length-long_bytes a.hi in
    simp length-append (omega arith)

-- a number's bytes read as the number
pub read_back : (z : ℤ) → FitsSigned w64 z → cast_signed w64 (from_be_bytes w64 (long_bytes z)) ≡ z
unfolding long_bytes
read_back = number_read_back w64 from_be_bytes-to_be_bytes_8

same_number : (y z : ℤ) → FitsSigned w64 y → FitsSigned w64 z → long_bytes y ≡ long_bytes z → y ≡ z
unfolding long_bytes
same_number = number_same w64 from_be_bytes-to_be_bytes_8

-- ends whose numbers fit are those of their bytes
pub same_spelling : (a b : Span) → FitsSigned w64 a.lo → FitsSigned w64 a.hi → IsInterval b → spelling a ≡ spelling b → a ≡ b
same_spelling a b lo hi is e =
    let la = length-long_bytes a.lo in
    let lb = length-long_bytes b.lo in
    let halves = same_halves (long_bytes a.lo) (long_bytes a.hi) (long_bytes b.lo) (long_bytes b.hi) (omega arith) e in
    ap (λ z. span_of z a.hi) (same_number a.lo b.lo lo is.lo_fits halves.0) ∙ ap (λ z. span_of b.lo z) (same_number a.hi b.hi hi is.hi_fits halves.1)

-- a split in halves by order leaves each side its least number
pub halves_leave_each : (xs : List Span) (least : ℕ) → 1 ≤ least → 2 * least ≤ length xs → LeavesEach (length xs) least (halves_by_order span_cmp xs)
halves_leave_each xs least one enough =
    let halved = halved_in_order span_cmp spans_in_order xs in
    record {
      each_has_one = halved.each_has_one;
      first_has = omega (arith, halved.first_has);
      second_has = omega (arith, halved.second_has);
    }
