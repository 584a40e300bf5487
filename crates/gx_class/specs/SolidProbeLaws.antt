-- What the limits of a query of boxes of space have to do with the query.
use Rattle.std.proofs.Common.{◌≡◌, ℤ, Bool, true, ◌&&◌, refl, ap, sym, ◌∙◌, subst, arith}
use Rattle.std.specs.Prelude.{int_le, [], ◌∷◌}
use Rattle.std.specs.Ordering.{is_eq, int_cmp, ordering_then}
use Rattle.std.specs.Int.Signed.{≤ℤ_refl}
use Rattle.std.specs.declared.cmp.Ordering.{Ordering}
use Rattle.std.proofs.lemmas.Bool.{and_parts, and_from}
use Rattle.std.proofs.lemmas.Grind.{common_steps}
use Rattle.gx_geom.specs.Solids.{Solid, IsSolid, overlaps, within, solid_cmp}
use Rattle.gx_geom.specs.BoxLaws.{tests_at_most}
use Rattle.gx_geom.specs.SolidLaws.{same_corners}
use Rattle.gx_machine.specs.declared.query.Query.{Query}
use Rattle.gx_machine.specs.declared.query.Query.TheVariants.{Overlap, Within, Equal, Covers}
use Rattle.gx_machine.specs.Keys.{keys, key_matches}
use Rattle.gx_class.specs.BoxKeyLaws.{same_order}
use Rattle.gx_class.specs.BoxProbeLaws.{above_least, below_greatest, both_ways, squeezed, self_equal}
use Rattle.gx_class.specs.Probes.{are_between}
use Rattle.gx_class.specs.SolidKeys.{may_match}
use Rattle.gx_class.specs.SolidKeyLaws.{same_by_corners}
use Rattle.gx_class.specs.SolidProbes.{front_corners, back_corners, lie_between, meeting, lying_in, covering, the_same, key_limits, bound_limits}

-- ---- tests that hold in any case are left out

meeting_left : (a b c d e f s t u v w x y z g h : Bool) → s ≡ true → t ≡ true → u ≡ true → v ≡ true → w ≡ true → x ≡ true → y ≡ true → z ≡ true → g ≡ true → h ≡ true
    → (((s && a) && ((t && b) && ((u && c) && ((d && v) && true)))) && ((w && x) && ((y && z) && ((e && g) && ((f && h) && true)))))
    ≡ ((a && d) && ((b && e) && (c && f)))
meeting_left a b c d e f s t u v w x y z g h p1 p2 p3 p4 p5 p6 p7 p8 p9 p10 = grind (arith, common_steps)

pub meeting_tells : (q k : Solid) → IsSolid k → lie_between (meeting q) k ≡ overlaps k q
meeting_tells q k is =
    meeting_left _ _ _ _ _ _ _ _ _ _ _ _ _ _ _ _
    (above_least k.x1 is.x1_fits) (above_least k.y1 is.y1_fits) (above_least k.z1 is.z1_fits) (below_greatest k.x2 is.x2_fits)
    (above_least k.z1 is.z1_fits) (below_greatest k.z1 is.z1_fits) (above_least k.x2 is.x2_fits) (below_greatest k.x2 is.x2_fits)
    (below_greatest k.y2 is.y2_fits) (below_greatest k.z2 is.z2_fits)

lying_left : (a b c d e f s t u v w x y z g h : Bool) → s ≡ true → t ≡ true → u ≡ true → v ≡ true → w ≡ true → x ≡ true → y ≡ true → z ≡ true → g ≡ true → h ≡ true
    → (((a && s) && ((b && t) && ((c && u) && ((v && d) && true)))) && ((w && x) && ((y && z) && ((g && e) && ((h && f) && true)))))
    ≡ ((a && d) && ((b && e) && (c && f)))
lying_left a b c d e f s t u v w x y z g h p1 p2 p3 p4 p5 p6 p7 p8 p9 p10 = grind (arith, common_steps)

pub lying_in_tells : (q k : Solid) → IsSolid k → lie_between (lying_in q) k ≡ within k q
lying_in_tells q k is =
    lying_left _ _ _ _ _ _ _ _ _ _ _ _ _ _ _ _
    (below_greatest k.x1 is.x1_fits) (below_greatest k.y1 is.y1_fits) (below_greatest k.z1 is.z1_fits) (above_least k.x2 is.x2_fits)
    (above_least k.z1 is.z1_fits) (below_greatest k.z1 is.z1_fits) (above_least k.x2 is.x2_fits) (below_greatest k.x2 is.x2_fits)
    (above_least k.y2 is.y2_fits) (above_least k.z2 is.z2_fits)

pub covering_tells : (q k : Solid) → IsSolid k → lie_between (covering q) k ≡ within q k
covering_tells q k is =
    meeting_left _ _ _ _ _ _ _ _ _ _ _ _ _ _ _ _
    (above_least k.x1 is.x1_fits) (above_least k.y1 is.y1_fits) (above_least k.z1 is.z1_fits) (below_greatest k.x2 is.x2_fits)
    (above_least k.z1 is.z1_fits) (below_greatest k.z1 is.z1_fits) (above_least k.x2 is.x2_fits) (below_greatest k.x2 is.x2_fits)
    (below_greatest k.y2 is.y2_fits) (below_greatest k.z2 is.z2_fits)

-- ---- the same box

same_lanes : (a b c d x y z w : ℤ) → are_between (a ∷ b ∷ c ∷ d ∷ []) (a ∷ b ∷ c ∷ d ∷ []) (x ∷ y ∷ z ∷ w ∷ []) ≡ true
    → (x ≡ a) × (y ≡ b) × (z ≡ c) × (w ≡ d)
same_lanes a b c d x y z w e =
    let one = and_parts (int_le a x && int_le x a) (are_between (b ∷ c ∷ d ∷ []) (b ∷ c ∷ d ∷ []) (y ∷ z ∷ w ∷ [])) e in
    let two = and_parts (int_le b y && int_le y b) (are_between (c ∷ d ∷ []) (c ∷ d ∷ []) (z ∷ w ∷ [])) one.1 in
    let three = and_parts (int_le c z && int_le z c) (are_between (d ∷ []) (d ∷ []) (w ∷ [])) two.1 in
    let four = and_parts (int_le d w && int_le w d) true three.1 in
    (squeezed a x one.0, squeezed b y two.0, squeezed c z three.0, squeezed d w four.0)

lanes_themselves : (a b c d : ℤ) → are_between (a ∷ b ∷ c ∷ d ∷ []) (a ∷ b ∷ c ∷ d ∷ []) (a ∷ b ∷ c ∷ d ∷ []) ≡ true
lanes_themselves a b c d =
    let at : (z : ℤ) → (int_le z z && int_le z z) ≡ true = λ z. let e = tests_at_most z z (≤ℤ_refl z) in and_from (int_le z z) (int_le z z) e e in
    and_from (int_le a a && int_le a a) _ (at a)
    (and_from (int_le b b && int_le b b) _ (at b)
    (and_from (int_le c c && int_le c c) _ (at c) (and_from (int_le d d && int_le d d) true (at d) refl)))

same_six : (q k : Solid) → lie_between (the_same q) k ≡ true → k ≡ q
same_six q k e =
    let halves = and_parts (are_between (front_corners q) (front_corners q) (front_corners k)) (are_between (back_corners q) (back_corners q) (back_corners k)) e in
    let front = same_lanes q.x1 q.y1 q.z1 q.x2 k.x1 k.y1 k.z1 k.x2 halves.0 in
    let back = same_lanes q.z1 q.x2 q.y2 q.z2 k.z1 k.x2 k.y2 k.z2 halves.1 in
    same_by_corners k q front.0 front.1 front.2 front.3 back.2 back.3

equals_itself : (q : Solid) → is_eq (solid_cmp q q) ≡ true
equals_itself q =
    ap (λ (o : Ordering). is_eq (ordering_then o (ordering_then (int_cmp q.y1 q.y1) (ordering_then (int_cmp q.z1 q.z1)
    (ordering_then (int_cmp q.x2 q.x2) (ordering_then (int_cmp q.y2 q.y2) (int_cmp q.z2 q.z2))))))) (self_equal q.x1)
    ∙ ap (λ (o : Ordering). is_eq (ordering_then o (ordering_then (int_cmp q.z1 q.z1)
    (ordering_then (int_cmp q.x2 q.x2) (ordering_then (int_cmp q.y2 q.y2) (int_cmp q.z2 q.z2)))))) (self_equal q.y1)
    ∙ ap (λ (o : Ordering). is_eq (ordering_then o (ordering_then (int_cmp q.x2 q.x2) (ordering_then (int_cmp q.y2 q.y2) (int_cmp q.z2 q.z2))))) (self_equal q.z1)
    ∙ ap (λ (o : Ordering). is_eq (ordering_then o (ordering_then (int_cmp q.y2 q.y2) (int_cmp q.z2 q.z2)))) (self_equal q.x2)
    ∙ ap (λ (o : Ordering). is_eq (ordering_then o (int_cmp q.z2 q.z2))) (self_equal q.y2)
    ∙ ap is_eq (self_equal q.z2)

itself_between : (q : Solid) → lie_between (the_same q) q ≡ true
itself_between q =
    and_from (are_between (front_corners q) (front_corners q) (front_corners q)) (are_between (back_corners q) (back_corners q) (back_corners q))
    (lanes_themselves q.x1 q.y1 q.z1 q.x2) (lanes_themselves q.z1 q.x2 q.y2 q.z2)

pub same_tells : (q k : Solid) → lie_between (the_same q) k ≡ is_eq (solid_cmp k q)
same_tells q k =
    both_ways (lie_between (the_same q) k) (is_eq (solid_cmp k q))
    (λ e. subst (λ z. is_eq (solid_cmp z q) ≡ true) (sym (same_six q k e)) (equals_itself q))
    (λ e. subst (λ z. lie_between (the_same q) z ≡ true) (sym (same_corners k q (same_order (solid_cmp k q) e))) (itself_between q))

-- ---- the queries

pub key_limits_tell : (q : Query Solid) (k : Solid) → IsSolid k → lie_between (key_limits q) k ≡ key_matches (keys solid_cmp overlaps within) q k
key_limits_tell (Overlap q) k is = meeting_tells q k is
key_limits_tell (Within q) k is = lying_in_tells q k is
key_limits_tell (Equal q) k is = same_tells q k
key_limits_tell (Covers q) k is = covering_tells q k is

pub bound_limits_tell : (q : Query Solid) (b : Solid) → IsSolid b → lie_between (bound_limits q) b ≡ may_match q b
bound_limits_tell (Overlap q) b is = meeting_tells q b is
bound_limits_tell (Within q) b is = meeting_tells q b is
bound_limits_tell (Equal q) b is = covering_tells q b is
bound_limits_tell (Covers q) b is = covering_tells q b is
