-- Boxes as keys: which bounds may hold a match, what a choice costs, and how a box is written.
use Rattle.std.specs.Prelude.{ℕ, ◌-◌, ◌==◌, ℤ, int_le, Bool, ◌&&◌, if◌then◌else◌, List, ◌++◌, length, slice_range, Option, Some, None}
use Rattle.std.specs.Int.{w32, cast_unsigned, cast_signed, to_be_bytes, from_be_bytes}
use Rattle.gx_geom.specs.Rectangles.{Rectangle, rectangle_of, overlaps, within, union, area}
use Rattle.gx_machine.specs.declared.query.Query.{Query}
use Rattle.gx_machine.specs.declared.query.Query.TheVariants.{Overlap, Within, Equal, Covers}

-- whether a box below the bound may match the query
abbrev pub may_match : Query Rectangle → Rectangle → Bool
may_match (Overlap q) bound = overlaps bound q
may_match (Within q) bound = overlaps bound q
may_match (Equal q) bound = within q bound
may_match (Covers q) bound = within q bound

-- by how much the bound's area grows, and the bound's area
abbrev pub cost : Rectangle → Rectangle → ℕ × ℕ
cost bound key = (area (union bound key) - area bound, area bound)

-- the four bytes of a number in two's complement, high byte first
unfoldable pub number_bytes : ℤ → List ℕ
number_bytes z = to_be_bytes w32 (cast_unsigned w32 z)

-- the bytes of a box
abbrev pub spelling : Rectangle → List ℕ
spelling b = (number_bytes b.x1 ++ number_bytes b.y1) ++ (number_bytes b.x2 ++ number_bytes b.y2)

-- the number of which these are the four bytes
unfoldable pub number_of : List ℕ → ℤ
number_of bytes = cast_signed w32 (from_be_bytes w32 bytes)

-- the corners of which these are the sixteen bytes
unfoldable pub corners_of : List ℕ → Rectangle
corners_of bytes =
    rectangle_of (number_of (slice_range bytes 0 4)) (number_of (slice_range bytes 4 8)) (number_of (slice_range bytes 8 12)) (number_of (slice_range bytes 12 16))

-- no corner is reversed
abbrev pub in_order : Rectangle → Bool
in_order b = int_le b.x1 b.x2 && int_le b.y1 b.y2

-- the box that bytes spell, if they spell one
unfoldable pub reading : List ℕ → Option Rectangle
reading bytes = if (length bytes == 16) && in_order (corners_of bytes) then Some (corners_of bytes) else None
