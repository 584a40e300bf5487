-- What a query's limits have to do with the query.
use Rattle.std.proofs.Common.{◌≡◌, ℤ, ◌≤ℤ◌, FitsSigned, Bool, true, false, ◌&&◌, refl, ap, sym, ◌∙◌, subst, arith}
use Rattle.std.specs.Prelude.{int_le, List, [], ◌∷◌}
use Rattle.std.specs.Int.{w32}
use Rattle.std.specs.Ordering.{is_eq, int_cmp, ordering_then}
use Rattle.std.specs.declared.cmp.Ordering.{Ordering}
use Rattle.std.specs.declared.cmp.Ordering.TheVariants.{Equal as Same}
use Rattle.std.specs.Cmp.{int_cmp_is}
use Rattle.std.specs.Int.Signed.{≤ℤ_refl}
use Rattle.std.proofs.lemmas.Int.{ints}
use Rattle.std.proofs.lemmas.Bool.{and_parts, and_from}
use Rattle.gx_geom.specs.Rectangles.{Rectangle, IsBox, overlaps, within, rectangle_cmp, rectangle_of}
use Rattle.gx_geom.specs.BoxLaws.{at_most, tests_at_most, same_corners}
use Rattle.gx_machine.specs.declared.query.Query.{Query}
use Rattle.gx_machine.specs.declared.query.Query.TheVariants.{Overlap, Within, Equal, Covers}
use Rattle.gx_machine.specs.Keys.{keys, key_matches}
use Rattle.gx_class.specs.Boxes.{may_match}
use Rattle.gx_class.specs.BoxKeyLaws.{same_order}
use Rattle.gx_class.specs.Probes.{corners, least, greatest, Limits, limits, are_between, meeting, lying_in, covering, key_limits, bound_limits}

pub above_least : (z : ℤ) → FitsSigned w32 z → int_le least z ≡ true
above_least z fits = tests_at_most least z (omega (arith, ints))

pub below_greatest : (z : ℤ) → FitsSigned w32 z → int_le z greatest ≡ true
below_greatest z fits = tests_at_most z greatest (omega (arith, ints))

-- ---- tests that hold in any case are left out

outer_left : (a b c d : Bool) → ((true && a) && ((true && b) && ((c && true) && ((d && true) && true)))) ≡ ((a && c) && (b && d))
outer_left false b c d = refl
outer_left true false false d = refl
outer_left true false true d = refl
outer_left true true false d = refl
outer_left true true true false = refl
outer_left true true true true = refl

outer : (a b c d e f g h : Bool) → e ≡ true → f ≡ true → g ≡ true → h ≡ true
    → ((e && a) && ((f && b) && ((c && g) && ((d && h) && true)))) ≡ ((a && c) && (b && d))
outer a b c d e f g h p q r s =
    ap (λ (t : Bool). (t && a) && ((f && b) && ((c && g) && ((d && h) && true)))) p
    ∙ ap (λ (t : Bool). (true && a) && ((t && b) && ((c && g) && ((d && h) && true)))) q
    ∙ ap (λ (t : Bool). (true && a) && ((true && b) && ((c && t) && ((d && h) && true)))) r
    ∙ ap (λ (t : Bool). (true && a) && ((true && b) && ((c && true) && ((d && t) && true)))) s
    ∙ outer_left a b c d

inner_left : (a b c d : Bool) → ((a && true) && ((b && true) && ((true && c) && ((true && d) && true)))) ≡ ((a && c) && (b && d))
inner_left false b c d = refl
inner_left true false false d = refl
inner_left true false true d = refl
inner_left true true false d = refl
inner_left true true true false = refl
inner_left true true true true = refl

inner : (a b c d e f g h : Bool) → e ≡ true → f ≡ true → g ≡ true → h ≡ true
    → ((a && e) && ((b && f) && ((g && c) && ((h && d) && true)))) ≡ ((a && c) && (b && d))
inner a b c d e f g h p q r s =
    ap (λ (t : Bool). (a && t) && ((b && f) && ((g && c) && ((h && d) && true)))) p
    ∙ ap (λ (t : Bool). (a && true) && ((b && t) && ((g && c) && ((h && d) && true)))) q
    ∙ ap (λ (t : Bool). (a && true) && ((b && true) && ((t && c) && ((h && d) && true)))) r
    ∙ ap (λ (t : Bool). (a && true) && ((b && true) && ((true && c) && ((t && d) && true)))) s
    ∙ inner_left a b c d

-- ---- the queries

pub meeting_tells : (q k : Rectangle) → IsBox k → are_between (meeting q).low (meeting q).high (corners k) ≡ overlaps k q
meeting_tells q k is =
    outer (int_le k.x1 q.x2) (int_le k.y1 q.y2) (int_le q.x1 k.x2) (int_le q.y1 k.y2)
    (int_le least k.x1) (int_le least k.y1) (int_le k.x2 greatest) (int_le k.y2 greatest)
    (above_least k.x1 is.x1_fits) (above_least k.y1 is.y1_fits) (below_greatest k.x2 is.x2_fits) (below_greatest k.y2 is.y2_fits)

pub lying_in_tells : (q k : Rectangle) → IsBox k → are_between (lying_in q).low (lying_in q).high (corners k) ≡ within k q
lying_in_tells q k is =
    inner (int_le q.x1 k.x1) (int_le q.y1 k.y1) (int_le k.x2 q.x2) (int_le k.y2 q.y2)
    (int_le k.x1 greatest) (int_le k.y1 greatest) (int_le least k.x2) (int_le least k.y2)
    (below_greatest k.x1 is.x1_fits) (below_greatest k.y1 is.y1_fits) (above_least k.x2 is.x2_fits) (above_least k.y2 is.y2_fits)

pub covering_tells : (q k : Rectangle) → IsBox k → are_between (covering q).low (covering q).high (corners k) ≡ within q k
covering_tells q k is =
    outer (int_le k.x1 q.x1) (int_le k.y1 q.y1) (int_le q.x2 k.x2) (int_le q.y2 k.y2)
    (int_le least k.x1) (int_le least k.y1) (int_le k.x2 greatest) (int_le k.y2 greatest)
    (above_least k.x1 is.x1_fits) (above_least k.y1 is.y1_fits) (below_greatest k.x2 is.x2_fits) (below_greatest k.y2 is.y2_fits)

pub both_ways : (s t : Bool) → (s ≡ true → t ≡ true) → (t ≡ true → s ≡ true) → s ≡ t
both_ways true t f g = sym (f refl)
both_ways false true f g = g refl
both_ways false false f g = refl

pub squeezed : (a b : ℤ) → (int_le a b && int_le b a) ≡ true → b ≡ a
squeezed a b e =
    let tests = and_parts (int_le a b) (int_le b a) e in
    let up : a ≤ℤ b = at_most a b tests.0 in
    let down : b ≤ℤ a = at_most b a tests.1 in
    omega (arith, ints)

same_four : (q k : Rectangle) → are_between (corners q) (corners q) (corners k) ≡ true → k ≡ q
same_four q k e =
    let one = and_parts (int_le q.x1 k.x1 && int_le k.x1 q.x1) (are_between (q.y1 ∷ q.x2 ∷ q.y2 ∷ []) (q.y1 ∷ q.x2 ∷ q.y2 ∷ []) (k.y1 ∷ k.x2 ∷ k.y2 ∷ [])) e in
    let two = and_parts (int_le q.y1 k.y1 && int_le k.y1 q.y1) (are_between (q.x2 ∷ q.y2 ∷ []) (q.x2 ∷ q.y2 ∷ []) (k.x2 ∷ k.y2 ∷ [])) one.1 in
    let three = and_parts (int_le q.x2 k.x2 && int_le k.x2 q.x2) (are_between (q.y2 ∷ []) (q.y2 ∷ []) (k.y2 ∷ [])) two.1 in
    let four = and_parts (int_le q.y2 k.y2 && int_le k.y2 q.y2) true three.1 in
    ap (λ z. rectangle_of z k.y1 k.x2 k.y2) (squeezed q.x1 k.x1 one.0) ∙ ap (λ z. rectangle_of q.x1 z k.x2 k.y2) (squeezed q.y1 k.y1 two.0)
    ∙ ap (λ z. rectangle_of q.x1 q.y1 z k.y2) (squeezed q.x2 k.x2 three.0) ∙ ap (rectangle_of q.x1 q.y1 q.x2) (squeezed q.y2 k.y2 four.0)

pub self_equal : (z : ℤ) → int_cmp z z ≡ Same
self_equal z = sym (int_cmp_is z z Same refl)

equals_itself : (q : Rectangle) → is_eq (rectangle_cmp q q) ≡ true
equals_itself q =
    ap (λ (o : Ordering). is_eq (ordering_then o (ordering_then (int_cmp q.y1 q.y1) (ordering_then (int_cmp q.x2 q.x2) (int_cmp q.y2 q.y2))))) (self_equal q.x1)
    ∙ ap (λ (o : Ordering). is_eq (ordering_then o (ordering_then (int_cmp q.x2 q.x2) (int_cmp q.y2 q.y2)))) (self_equal q.y1)
    ∙ ap (λ (o : Ordering). is_eq (ordering_then o (int_cmp q.y2 q.y2))) (self_equal q.x2)
    ∙ ap is_eq (self_equal q.y2)

itself_between : (q : Rectangle) → are_between (corners q) (corners q) (corners q) ≡ true
itself_between q =
    let at : (z : ℤ) → (int_le z z && int_le z z) ≡ true = λ z. let e = tests_at_most z z (≤ℤ_refl z) in and_from (int_le z z) (int_le z z) e e in
    and_from (int_le q.x1 q.x1 && int_le q.x1 q.x1) _ (at q.x1)
    (and_from (int_le q.y1 q.y1 && int_le q.y1 q.y1) _ (at q.y1)
    (and_from (int_le q.x2 q.x2 && int_le q.x2 q.x2) _ (at q.x2) (and_from (int_le q.y2 q.y2 && int_le q.y2 q.y2) true (at q.y2) refl)))

pub same_tells : (q k : Rectangle) → are_between (corners q) (corners q) (corners k) ≡ is_eq (rectangle_cmp k q)
same_tells q k =
    both_ways (are_between (corners q) (corners q) (corners k)) (is_eq (rectangle_cmp k q))
    (λ e. subst (λ z. is_eq (rectangle_cmp z q) ≡ true) (sym (same_four q k e)) (equals_itself q))
    (λ e. subst (λ z. are_between (corners q) (corners q) (corners z) ≡ true) (sym (same_corners k q (same_order (rectangle_cmp k q) e))) (itself_between q))

pub key_limits_tell : (q : Query Rectangle) (k : Rectangle) → IsBox k
    → are_between (key_limits q).low (key_limits q).high (corners k) ≡ key_matches (keys rectangle_cmp overlaps within) q k
key_limits_tell (Overlap q) k is = meeting_tells q k is
key_limits_tell (Within q) k is = lying_in_tells q k is
key_limits_tell (Equal q) k is = same_tells q k
key_limits_tell (Covers q) k is = covering_tells q k is

pub bound_limits_tell : (q : Query Rectangle) (b : Rectangle) → IsBox b
    → are_between (bound_limits q).low (bound_limits q).high (corners b) ≡ may_match q b
bound_limits_tell (Overlap q) b is = meeting_tells q b is
bound_limits_tell (Within q) b is = meeting_tells q b is
bound_limits_tell (Equal q) b is = covering_tells q b is
bound_limits_tell (Covers q) b is = covering_tells q b is

pub by_limits : (low high xs : List ℤ) (l : Limits) → limits low high ≡ l → are_between low high xs ≡ are_between l.low l.high xs
by_limits low high xs l e = ap (λ m. are_between m.low m.high xs) e
