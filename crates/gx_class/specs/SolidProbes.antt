-- Queries of boxes of space as bounds of the six corners, four at a time.
use Rattle.std.specs.Prelude.{ℤ, Bool, ◌&&◌, List, [], ◌∷◌}
use Rattle.gx_geom.specs.Solids.{Solid}
use Rattle.gx_machine.specs.declared.query.Query.{Query}
use Rattle.gx_machine.specs.declared.query.Query.TheVariants.{Overlap, Within, Equal, Covers}
use Rattle.gx_class.specs.Probes.{Limits, limits, least, greatest, are_between}

-- the first four corners in the order in which they are written, and the last four
abbrev pub front_corners : Solid → List ℤ
front_corners b = b.x1 ∷ b.y1 ∷ b.z1 ∷ b.x2 ∷ []

abbrev pub back_corners : Solid → List ℤ
back_corners b = b.z1 ∷ b.x2 ∷ b.y2 ∷ b.z2 ∷ []

-- the least and the greatest that each of them may be
pub record SolidLimits : Type 0 where
  pub front : Limits
  pub back : Limits

abbrev pub solid_limits : Limits → Limits → SolidLimits
solid_limits front back = record { front = front; back = back }

-- each corner lies between its two limits
abbrev pub lie_between : SolidLimits → Solid → Bool
lie_between l b = are_between l.front.low l.front.high (front_corners b) && are_between l.back.low l.back.high (back_corners b)

-- no side lies beyond the other box's
abbrev pub meeting : Solid → SolidLimits
meeting q =
    solid_limits (limits (least ∷ least ∷ least ∷ q.x1 ∷ []) (q.x2 ∷ q.y2 ∷ q.z2 ∷ greatest ∷ []))
    (limits (least ∷ least ∷ q.y1 ∷ q.z1 ∷ []) (greatest ∷ greatest ∷ greatest ∷ greatest ∷ []))

abbrev pub lying_in : Solid → SolidLimits
lying_in q =
    solid_limits (limits (q.x1 ∷ q.y1 ∷ q.z1 ∷ least ∷ []) (greatest ∷ greatest ∷ greatest ∷ q.x2 ∷ []))
    (limits (least ∷ least ∷ least ∷ least ∷ []) (greatest ∷ greatest ∷ q.y2 ∷ q.z2 ∷ []))

abbrev pub covering : Solid → SolidLimits
covering q =
    solid_limits (limits (least ∷ least ∷ least ∷ q.x2 ∷ []) (q.x1 ∷ q.y1 ∷ q.z1 ∷ greatest ∷ []))
    (limits (least ∷ least ∷ q.y2 ∷ q.z2 ∷ []) (greatest ∷ greatest ∷ greatest ∷ greatest ∷ []))

abbrev pub the_same : Solid → SolidLimits
the_same q = solid_limits (limits (front_corners q) (front_corners q)) (limits (back_corners q) (back_corners q))

-- of the keys that match a query
abbrev pub key_limits : Query Solid → SolidLimits
key_limits (Overlap q) = meeting q
key_limits (Within q) = lying_in q
key_limits (Equal q) = the_same q
key_limits (Covers q) = covering q

-- of the bounds below which a key may match it
abbrev pub bound_limits : Query Solid → SolidLimits
bound_limits (Overlap q) = meeting q
bound_limits (Within q) = meeting q
bound_limits (Equal q) = covering q
bound_limits (Covers q) = covering q
