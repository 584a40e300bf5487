-- Queries of boxes as bounds of the four corners.
use Rattle.std.specs.Prelude.{ℤ, pos, negsuc, int_le, FitsSigned, Bool, true, ◌&&◌, List, [], ◌∷◌, slice_index_or}
use Rattle.std.specs.Int.{w32}
use Rattle.gx_geom.specs.Rectangles.{Rectangle}
use Rattle.gx_machine.specs.declared.query.Query.{Query}
use Rattle.gx_machine.specs.declared.query.Query.TheVariants.{Overlap, Within, Equal, Covers}

-- x1, y1, x2 and y2
abbrev pub corners : Rectangle → List ℤ
corners b = b.x1 ∷ b.y1 ∷ b.x2 ∷ b.y2 ∷ []

-- the ends of what a corner may be
abbrev pub least : ℤ
least = negsuc 2147483647

abbrev pub greatest : ℤ
greatest = pos 2147483647

-- each of four numbers fits in 32 bits
pub record FourFit (zs : List ℤ) : Type 0 where
  pub first : FitsSigned w32 (slice_index_or zs 0 (pos 0))
  pub second : FitsSigned w32 (slice_index_or zs 1 (pos 0))
  pub third : FitsSigned w32 (slice_index_or zs 2 (pos 0))
  pub fourth : FitsSigned w32 (slice_index_or zs 3 (pos 0))

-- the least and the greatest of each corner
pub record Limits : Type 0 where
  pub low : List ℤ
  pub high : List ℤ

abbrev pub limits : List ℤ → List ℤ → Limits
limits low high = record { low = low; high = high }

-- each number lies between its two limits
abbrev pub are_between : List ℤ → List ℤ → List ℤ → Bool
are_between [] high xs = true
are_between (l ∷ low) [] xs = true
are_between (l ∷ low) (h ∷ high) [] = true
are_between (l ∷ low) (h ∷ high) (x ∷ xs) = (int_le l x && int_le x h) && are_between low high xs

-- no side lies beyond the other box's
abbrev pub meeting : Rectangle → Limits
meeting q = limits (least ∷ least ∷ q.x1 ∷ q.y1 ∷ []) (q.x2 ∷ q.y2 ∷ greatest ∷ greatest ∷ [])

abbrev pub lying_in : Rectangle → Limits
lying_in q = limits (q.x1 ∷ q.y1 ∷ least ∷ least ∷ []) (greatest ∷ greatest ∷ q.x2 ∷ q.y2 ∷ [])

abbrev pub covering : Rectangle → Limits
covering q = limits (least ∷ least ∷ q.x2 ∷ q.y2 ∷ []) (q.x1 ∷ q.y1 ∷ greatest ∷ greatest ∷ [])

-- of the keys that match a query
abbrev pub key_limits : Query Rectangle → Limits
key_limits (Overlap q) = meeting q
key_limits (Within q) = lying_in q
key_limits (Equal q) = limits (corners q) (corners q)
key_limits (Covers q) = covering q

-- of the bounds below which a key may match it
abbrev pub bound_limits : Query Rectangle → Limits
bound_limits (Overlap q) = meeting q
bound_limits (Within q) = meeting q
bound_limits (Equal q) = covering q
bound_limits (Covers q) = covering q
