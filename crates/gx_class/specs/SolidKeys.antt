-- Boxes of space as keys: which bounds may hold a match, what a choice costs, and how a box is written.
use Rattle.std.specs.Prelude.{ℕ, ◌+◌, ◌-◌, ◌==◌, ℤ, int_le, Bool, ◌&&◌, if◌then◌else◌, List, ◌++◌, length, slice_range, Option, Some, None}
use Rattle.gx_geom.specs.Solids.{Solid, solid_of, overlaps, within, union, volume}
use Rattle.gx_machine.specs.declared.query.Query.{Query}
use Rattle.gx_machine.specs.declared.query.Query.TheVariants.{Overlap, Within, Equal, Covers}
use Rattle.gx_class.specs.Boxes.{number_bytes, number_of}

-- whether a box below the bound may match the query
abbrev pub may_match : Query Solid → Solid → Bool
may_match (Overlap q) bound = overlaps bound q
may_match (Within q) bound = overlaps bound q
may_match (Equal q) bound = within q bound
may_match (Covers q) bound = within q bound

-- by how much the bound's volume grows, and the bound's volume
abbrev pub cost : Solid → Solid → ℕ × ℕ
cost bound key = (volume (union bound key) - volume bound, volume bound)

-- the bytes of three numbers
abbrev pub three_bytes : ℤ → ℤ → ℤ → List ℕ
three_bytes x y z = number_bytes x ++ (number_bytes y ++ number_bytes z)

-- the bytes of a box
abbrev pub spelling : Solid → List ℕ
spelling b = three_bytes b.x1 b.y1 b.z1 ++ three_bytes b.x2 b.y2 b.z2

-- the number of which these bytes have the four from n on
abbrev pub number_at : List ℕ → ℕ → ℤ
number_at bytes n = number_of (slice_range bytes n (n + 4))

-- the corners of which these are the twenty-four bytes
unfoldable pub corners_of : List ℕ → Solid
corners_of bytes =
    solid_of (number_at bytes 0) (number_at bytes 4) (number_at bytes 8) (number_at bytes 12) (number_at bytes 16) (number_at bytes 20)

-- no corner is reversed
abbrev pub in_order : Solid → Bool
in_order b = int_le b.x1 b.x2 && (int_le b.y1 b.y2 && int_le b.z1 b.z2)

-- the box that bytes spell, if they spell one
unfoldable pub reading : List ℕ → Option Solid
reading bytes = if (length bytes == 24) && in_order (corners_of bytes) then Some (corners_of bytes) else None
