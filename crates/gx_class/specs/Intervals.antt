-- Intervals as keys: which bounds may hold a match, what a choice costs, and how an interval is written.
use Rattle.std.specs.Prelude.{ℕ, ◌-◌, ◌==◌, ℤ, int_le, Bool, true, false, ◌&&◌, if◌then◌else◌, List, ◌++◌, length, take, drop, Option, Some, None}
use Rattle.std.specs.Int.{w64, cast_unsigned, cast_signed, to_be_bytes, from_be_bytes}
use Rattle.gx_geom.specs.Spans.{Span, span_of, span_cmp, meets, lies_in, hull, size}
use Rattle.gx_machine.specs.Keys.{keys, key_matches}
use Rattle.gx_machine.specs.declared.query.Query.{Query}
use Rattle.gx_machine.specs.declared.query.Query.TheVariants.{Overlap, Within, Equal, Covers}

-- whether an interval below the bound may match the query
abbrev pub may_match : Query Span → Span → Bool
may_match (Overlap q) bound = meets bound q
may_match (Within q) bound = meets bound q
may_match (Equal q) bound = lies_in q bound
may_match (Covers q) bound = lies_in q bound

-- whether an interval passes, as a bound or as an entry's key
abbrev pub interval_passes : (of_bounds : Bool) → Query Span → Span → Bool
interval_passes true query bound = may_match query bound
interval_passes false query key = key_matches (keys span_cmp meets lies_in) query key

-- by how much the bound's size grows, and the bound's size
abbrev pub cost : Span → Span → ℕ × ℕ
cost bound key = (size (hull bound key) - size bound, size bound)

-- the eight bytes of a number in two's complement, high byte first
unfoldable pub long_bytes : ℤ → List ℕ
long_bytes z = to_be_bytes w64 (cast_unsigned w64 z)

-- the bytes of an interval
abbrev pub spelling : Span → List ℕ
spelling a = long_bytes a.lo ++ long_bytes a.hi

-- the number of which these are the eight bytes
unfoldable pub long_of : List ℕ → ℤ
long_of bytes = cast_signed w64 (from_be_bytes w64 bytes)

-- the ends of which these are the sixteen bytes
unfoldable pub ends_of : List ℕ → Span
ends_of bytes = span_of (long_of (take 8 bytes)) (long_of (drop 8 bytes))

-- the interval that bytes spell, if they spell one
unfoldable pub reading : List ℕ → Option Span
reading bytes = if (length bytes == 16) && int_le (ends_of bytes).lo (ends_of bytes).hi then Some (ends_of bytes) else None
