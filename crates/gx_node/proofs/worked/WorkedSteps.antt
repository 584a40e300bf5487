-- The steps worked out by hand are steps, and the trees that aren't legal aren't.
use Rattle.std.proofs.Common.{◌≡◌, ◌≢◌, ℕ, zero, suc, ◌≤◌, true, false, ◌&&◌, List, [], ◌∷◌, ◌++◌, refl, arith}
use Rattle.std.specs.Prelude.{◌==◌, nat_le}
use Rattle.std.proofs.lemmas.Bool.{and_parts, and_from, leb-true, le-leb, eqb-true, eq-eqb}
use Rattle.gx_node.specs.Lists.{Each}
use Rattle.gx_node.specs.Trees.{Pair, Node, Tree, IsLawful}
use Rattle.gx_node.specs.Legal.{Legal}
use Rattle.gx_node.specs.Steps.{IsSplit, IsRootSplit, IsWidening, IsAdding, IsMarking, IsSweep, AreSteps}
use Rattle.gx_node.specs.Worked.{Box, box, box_covers, boxes, tree_of, node_at, leaf, inner, live, dead, entry, held, held_split, held_steps, in_row, row_leaves, eight_rows, nine_rows, nine_steps, swept, swept_steps, named_twice, off_the_chain, bound_too_small}

-- Boxes.

pub corners : (a b : Box) → box_covers a b ≡ true → (a.x1 ≤ b.x1) × (a.y1 ≤ b.y1) × (b.x2 ≤ a.x2) × (b.y2 ≤ a.y2)
corners a b e =
    let p = and_parts (nat_le a.x1 b.x1) (nat_le a.y1 b.y1 && (nat_le b.x2 a.x2 && nat_le b.y2 a.y2)) e in
    let q = and_parts (nat_le a.y1 b.y1) (nat_le b.x2 a.x2 && nat_le b.y2 a.y2) p.1 in
    let s = and_parts (nat_le b.x2 a.x2) (nat_le b.y2 a.y2) q.1 in
    (leb-true a.x1 b.x1 p.0, leb-true a.y1 b.y1 q.0, leb-true b.x2 a.x2 s.0, leb-true b.y2 a.y2 s.1)

pub from_corners : (a b : Box) → a.x1 ≤ b.x1 → a.y1 ≤ b.y1 → b.x2 ≤ a.x2 → b.y2 ≤ a.y2 → box_covers a b ≡ true
from_corners a b p q s t =
    and_from (nat_le a.x1 b.x1) (nat_le a.y1 b.y1 && (nat_le b.x2 a.x2 && nat_le b.y2 a.y2)) (le-leb a.x1 b.x1 p)
    (and_from (nat_le a.y1 b.y1) (nat_le b.x2 a.x2 && nat_le b.y2 a.y2) (le-leb a.y1 b.y1 q)
    (and_from (nat_le b.x2 a.x2) (nat_le b.y2 a.y2) (le-leb b.x2 a.x2 s) (le-leb b.y2 a.y2 t)))

box_path : (a b : Box) → a.x1 ≡ b.x1 → a.y1 ≡ b.y1 → a.x2 ≡ b.x2 → a.y2 ≡ b.y2 → a ≡ b
box_path a b p q s t = λ i. record { x1 = p i; y1 = q i; x2 = s i; y2 = t i }

pub boxes_lawful : IsLawful boxes
boxes_lawful = record {
  goes_on = λ a b c ab bc.
      (let p = corners a b ab in let q = corners b c bc in
      let p0 = p.0 in let p1 = p.1 in let p2 = p.2 in let p3 = p.3 in let q0 = q.0 in let q1 = q.1 in let q2 = q.2 in let q3 = q.3 in
      from_corners a c (omega (arith, p0, q0)) (omega (arith, p1, q1)) (omega (arith, p2, q2)) (omega (arith, p3, q3)));
  exact = λ a b e.
      (let p = and_parts (a.x1 == b.x1) ((a.y1 == b.y1) && ((a.x2 == b.x2) && (a.y2 == b.y2))) e in
      let q = and_parts (a.y1 == b.y1) ((a.x2 == b.x2) && (a.y2 == b.y2)) p.1 in
      let s = and_parts (a.x2 == b.x2) (a.y2 == b.y2) q.1 in
      box_path a b (eqb-true a.x1 b.x1 p.0) (eqb-true a.y1 b.y1 q.0) (eqb-true a.x2 b.x2 s.0) (eqb-true a.y2 b.y2 s.1));
  itself = λ a. and_from (a.x1 == a.x1) ((a.y1 == a.y1) && ((a.x2 == a.x2) && (a.y2 == a.y2))) (eq-eqb a.x1 a.x1 refl)
      (and_from (a.y1 == a.y1) ((a.x2 == a.x2) && (a.y2 == a.y2)) (eq-eqb a.y1 a.y1 refl)
      (and_from (a.x2 == a.x2) (a.y2 == a.y2) (eq-eqb a.x2 a.x2 refl) (eq-eqb a.y2 a.y2 refl)));
  two = omega arith;
}

-- what covers two boxes covers a box that lies between them
between : (b c d e : Box) → box_covers b c ≡ true → box_covers b d ≡ true
    → ((b.x1 ≤ c.x1) → (b.x1 ≤ d.x1) → b.x1 ≤ e.x1) → ((b.y1 ≤ c.y1) → (b.y1 ≤ d.y1) → b.y1 ≤ e.y1)
    → ((c.x2 ≤ b.x2) → (d.x2 ≤ b.x2) → e.x2 ≤ b.x2) → ((c.y2 ≤ b.y2) → (d.y2 ≤ b.y2) → e.y2 ≤ b.y2) → box_covers b e ≡ true
between b c d e to_c to_d w x y z =
    let p = corners b c to_c in let q = corners b d to_d in
    from_corners b e (w p.0 q.0) (x p.1 q.1) (y p.2 q.2) (z p.3 q.3)

-- A leaf gets two pairs more, and is split.

abbrev held3 : Tree Box
held3 = tree_of (inner 1 0 (entry (box 0 0 101 5) 2 ∷ [])
    ∷ leaf 0 0 (live 1 (box 100 4 101 5) ∷ live 2 (box 0 0 1 1) ∷ live 3 (box 100 2 101 3) ∷ []) ∷ []) 0

abbrev held4 : Tree Box
held4 = tree_of (inner 1 0 (entry (box 0 0 101 5) 2 ∷ [])
    ∷ leaf 0 0 (live 1 (box 100 4 101 5) ∷ live 2 (box 0 0 1 1) ∷ live 3 (box 100 2 101 3) ∷ live 4 (box 100 0 101 1) ∷ []) ∷ []) 0

-- trees of two pages that differ in page 2 alone
two_others : (root x y : Node Box) (q : ℕ) → q ≢ 2 → node_at (root ∷ y ∷ []) q ≡ node_at (root ∷ x ∷ []) q
two_others root x y zero ne = refl
two_others root x y (suc zero) ne = refl
two_others root x y (suc (suc zero)) ne = absurd (ne refl)
two_others root x y (suc (suc (suc q))) ne = refl

two_cover : (k key : Box) (pairs : List (Pair Box)) → box_covers k key ≡ true
    → (q : ℕ) → Each (λ c. c.page ≡ 2 → box_covers c.key key ≡ true) (node_at (inner 1 0 (entry k 2 ∷ []) ∷ leaf 0 0 pairs ∷ []) q).children
two_cover k key pairs covers zero = tt
two_cover k key pairs covers (suc zero) = ((λ e. covers), tt)
two_cover k key pairs covers (suc (suc zero)) = tt
two_cover k key pairs covers (suc (suc (suc q))) = tt

held_third : IsAdding boxes held held3 2 (live 3 (box 100 2 101 3))
held_third = record {
  leaf = refl;
  room = omega arith;
  changes = record {
    there = (omega arith, omega arith);
    used = refl;
    counter = refl;
    changed = refl;
    others = two_others (inner 1 0 (entry (box 0 0 101 5) 2 ∷ [])) (held.node 2) (held3.node 2);
  };
  absent = refl;
  covered = λ p u. two_cover (box 0 0 101 5) (box 100 2 101 3) (held.node 2).pairs refl p;
}

held_fourth : IsAdding boxes held3 held4 2 (live 4 (box 100 0 101 1))
held_fourth = record {
  leaf = refl;
  room = omega arith;
  changes = record {
    there = (omega arith, omega arith);
    used = refl;
    counter = refl;
    changed = refl;
    others = two_others (inner 1 0 (entry (box 0 0 101 5) 2 ∷ [])) (held3.node 2) (held4.node 2);
  };
  absent = refl;
  covered = λ p u. two_cover (box 0 0 101 5) (box 100 0 101 1) (held3.node 2).pairs refl p;
}

held_others : (q : ℕ) → q ≢ 2 → q ≢ 1 → q ≢ 3 → held_split.node q ≡ held4.node q
held_others zero a b c = refl
held_others (suc zero) a b c = absurd (b refl)
held_others (suc (suc zero)) a b c = absurd (a refl)
held_others (suc (suc (suc zero))) a b c = absurd (c refl)
held_others (suc (suc (suc (suc q)))) a b c = refl

held_is_split : IsSplit boxes held4 held_split 2 1 (false ∷ true ∷ false ∷ true ∷ []) (box 100 2 101 5) (box 0 0 101 1)
held_is_split = record {
  parent = (omega arith, omega arith);
  names = refl;
  room = omega arith;
  used = refl;
  counter = refl;
  split = refl;
  sibling = refl;
  named = refl;
  others = held_others;
  left_some = omega arith;
  right_some = omega arith;
  left_union = record {
    covers = record { pairs = (refl, (refl, tt)); children = tt };
    least = λ b h. (let ps = h.pairs in between b (box 100 4 101 5) (box 100 2 101 3) (box 100 2 101 5) ps.0 ps.1.0
        (λ p q. p) (λ p q. q) (λ p q. p) (λ p q. p));
  };
  right_union = record {
    covers = record { pairs = (refl, (refl, tt)); children = tt };
    least = λ b h. (let ps = h.pairs in between b (box 0 0 1 1) (box 100 0 101 1) (box 0 0 101 1) ps.0 ps.1.0
        (λ p q. p) (λ p q. p) (λ p q. q) (λ p q. p));
  };
}

pub held_are_steps : AreSteps boxes held held_steps held_split
held_are_steps = (held3, held_third, (held4, held_fourth, (held_split, held_is_split, refl)))

-- The full root of eight boxes in a row is split, and the ninth is added.

abbrev upper : Box → List (Node Box) → Box → List (Node Box)
upper bound below last =
    (inner 2 0 (entry (box 10 0 41 1) 6 ∷ entry bound 7 ∷ []) ∷ below)
    ++ (inner 1 7 (entry (box 10 0 21 1) 2 ∷ entry (box 30 0 41 1) 3 ∷ []) ∷ inner 1 0 (entry (box 50 0 61 1) 4 ∷ entry last 5 ∷ []) ∷ [])

abbrev rows_split : Tree Box
rows_split = tree_of (upper (box 50 0 81 1) (row_leaves (in_row 7 ∷ in_row 8 ∷ [])) (box 70 0 81 1)) 3

abbrev rows_wider : Tree Box
rows_wider = tree_of (upper (box 50 0 91 1) (row_leaves (in_row 7 ∷ in_row 8 ∷ [])) (box 70 0 81 1)) 3

abbrev rows_widest : Tree Box
rows_widest = tree_of (upper (box 50 0 91 1) (row_leaves (in_row 7 ∷ in_row 8 ∷ [])) (box 70 0 91 1)) 3

root_others : (q : ℕ) → q ≢ 1 → q ≢ 6 → q ≢ 7 → rows_split.node q ≡ eight_rows.node q
root_others zero a b c = refl
root_others (suc zero) a b c = absurd (a refl)
root_others (suc (suc zero)) a b c = refl
root_others (suc (suc (suc zero))) a b c = refl
root_others (suc (suc (suc (suc zero)))) a b c = refl
root_others (suc (suc (suc (suc (suc zero))))) a b c = refl
root_others (suc (suc (suc (suc (suc (suc zero)))))) a b c = absurd (b refl)
root_others (suc (suc (suc (suc (suc (suc (suc zero))))))) a b c = absurd (c refl)
root_others (suc (suc (suc (suc (suc (suc (suc (suc q)))))))) a b c = refl

root_is_split : IsRootSplit boxes eight_rows rows_split (false ∷ false ∷ true ∷ true ∷ []) (box 10 0 41 1) (box 50 0 81 1)
root_is_split = record {
  used = refl;
  counter = refl;
  first = refl;
  second = refl;
  root = refl;
  others = root_others;
  left_some = omega arith;
  right_some = omega arith;
  left_union = record {
    covers = record { pairs = tt; children = (refl, (refl, tt)) };
    least = λ b h. (let cs = h.children in between b (box 10 0 21 1) (box 30 0 41 1) (box 10 0 41 1) cs.0 cs.1.0
        (λ p q. p) (λ p q. p) (λ p q. q) (λ p q. p));
  };
  right_union = record {
    covers = record { pairs = tt; children = (refl, (refl, tt)) };
    least = λ b h. (let cs = h.children in between b (box 50 0 61 1) (box 70 0 81 1) (box 50 0 81 1) cs.0 cs.1.0
        (λ p q. p) (λ p q. p) (λ p q. q) (λ p q. p));
  };
}

wider_others : (q : ℕ) → q ≢ 1 → rows_wider.node q ≡ rows_split.node q
wider_others zero ne = refl
wider_others (suc zero) ne = absurd (ne refl)
wider_others (suc (suc zero)) ne = refl
wider_others (suc (suc (suc zero))) ne = refl
wider_others (suc (suc (suc (suc zero)))) ne = refl
wider_others (suc (suc (suc (suc (suc zero))))) ne = refl
wider_others (suc (suc (suc (suc (suc (suc zero)))))) ne = refl
wider_others (suc (suc (suc (suc (suc (suc (suc zero))))))) ne = refl
wider_others (suc (suc (suc (suc (suc (suc (suc (suc q)))))))) ne = refl

-- pages of the tree of nine rows that entries name: page x's entry covers the ninth box, if x is 1, 7 or 5
names_root : (p : ℕ) → Each (λ c. c.page ≡ 1 → box_covers c.key (box 90 0 91 1) ≡ true) (rows_split.node p).children
names_root zero = tt
names_root (suc zero) = ((λ e. absurd (omega (arith, e))), ((λ e. absurd (omega (arith, e))), tt))
names_root (suc (suc zero)) = tt
names_root (suc (suc (suc zero))) = tt
names_root (suc (suc (suc (suc zero)))) = tt
names_root (suc (suc (suc (suc (suc zero))))) = tt
names_root (suc (suc (suc (suc (suc (suc zero)))))) = ((λ e. absurd (omega (arith, e))), ((λ e. absurd (omega (arith, e))), tt))
names_root (suc (suc (suc (suc (suc (suc (suc zero))))))) = ((λ e. absurd (omega (arith, e))), ((λ e. absurd (omega (arith, e))), tt))
names_root (suc (suc (suc (suc (suc (suc (suc (suc q)))))))) = tt

root_widens : IsWidening boxes rows_split rows_wider 1 7 (box 90 0 91 1) (box 50 0 91 1)
root_widens = record {
  inner = omega arith;
  changes = record { there = (omega arith, omega arith); used = refl; counter = refl; changed = refl; others = wider_others };
  covers_old = ((λ e. absurd (omega (arith, e))), ((λ e. refl), tt));
  covers_coming = refl;
  least = λ b h to_coming. between b (box 50 0 81 1) (box 90 0 91 1) (box 50 0 91 1) (h.1.0 refl) to_coming
      (λ p q. p) (λ p q. p) (λ p q. q) (λ p q. p);
  covered = λ p u. names_root p;
}

widest_others : (q : ℕ) → q ≢ 7 → rows_widest.node q ≡ rows_wider.node q
widest_others zero ne = refl
widest_others (suc zero) ne = refl
widest_others (suc (suc zero)) ne = refl
widest_others (suc (suc (suc zero))) ne = refl
widest_others (suc (suc (suc (suc zero)))) ne = refl
widest_others (suc (suc (suc (suc (suc zero))))) ne = refl
widest_others (suc (suc (suc (suc (suc (suc zero)))))) ne = refl
widest_others (suc (suc (suc (suc (suc (suc (suc zero))))))) ne = absurd (ne refl)
widest_others (suc (suc (suc (suc (suc (suc (suc (suc q)))))))) ne = refl

names_seven : (p : ℕ) → Each (λ c. c.page ≡ 7 → box_covers c.key (box 90 0 91 1) ≡ true) (rows_wider.node p).children
names_seven zero = tt
names_seven (suc zero) = ((λ e. absurd (omega (arith, e))), ((λ e. refl), tt))
names_seven (suc (suc zero)) = tt
names_seven (suc (suc (suc zero))) = tt
names_seven (suc (suc (suc (suc zero)))) = tt
names_seven (suc (suc (suc (suc (suc zero))))) = tt
names_seven (suc (suc (suc (suc (suc (suc zero)))))) = ((λ e. absurd (omega (arith, e))), ((λ e. absurd (omega (arith, e))), tt))
names_seven (suc (suc (suc (suc (suc (suc (suc zero))))))) = ((λ e. absurd (omega (arith, e))), ((λ e. absurd (omega (arith, e))), tt))
names_seven (suc (suc (suc (suc (suc (suc (suc (suc q)))))))) = tt

seven_widens : IsWidening boxes rows_wider rows_widest 7 5 (box 90 0 91 1) (box 70 0 91 1)
seven_widens = record {
  inner = omega arith;
  changes = record { there = (omega arith, omega arith); used = refl; counter = refl; changed = refl; others = widest_others };
  covers_old = ((λ e. absurd (omega (arith, e))), ((λ e. refl), tt));
  covers_coming = refl;
  least = λ b h to_coming. between b (box 70 0 81 1) (box 90 0 91 1) (box 70 0 91 1) (h.1.0 refl) to_coming
      (λ p q. p) (λ p q. p) (λ p q. q) (λ p q. p);
  covered = λ p u. names_seven p;
}

nine_others : (q : ℕ) → q ≢ 5 → nine_rows.node q ≡ rows_widest.node q
nine_others zero ne = refl
nine_others (suc zero) ne = refl
nine_others (suc (suc zero)) ne = refl
nine_others (suc (suc (suc zero))) ne = refl
nine_others (suc (suc (suc (suc zero)))) ne = refl
nine_others (suc (suc (suc (suc (suc zero))))) ne = absurd (ne refl)
nine_others (suc (suc (suc (suc (suc (suc zero)))))) ne = refl
nine_others (suc (suc (suc (suc (suc (suc (suc zero))))))) ne = refl
nine_others (suc (suc (suc (suc (suc (suc (suc (suc q)))))))) ne = refl

names_five : (p : ℕ) → Each (λ c. c.page ≡ 5 → box_covers c.key (box 90 0 91 1) ≡ true) (rows_widest.node p).children
names_five zero = tt
names_five (suc zero) = ((λ e. absurd (omega (arith, e))), ((λ e. absurd (omega (arith, e))), tt))
names_five (suc (suc zero)) = tt
names_five (suc (suc (suc zero))) = tt
names_five (suc (suc (suc (suc zero)))) = tt
names_five (suc (suc (suc (suc (suc zero))))) = tt
names_five (suc (suc (suc (suc (suc (suc zero)))))) = ((λ e. absurd (omega (arith, e))), ((λ e. absurd (omega (arith, e))), tt))
names_five (suc (suc (suc (suc (suc (suc (suc zero))))))) = ((λ e. absurd (omega (arith, e))), ((λ e. refl), tt))
names_five (suc (suc (suc (suc (suc (suc (suc (suc q)))))))) = tt

ninth_added : IsAdding boxes rows_widest nine_rows 5 (in_row 9)
ninth_added = record {
  leaf = refl;
  room = omega arith;
  changes = record { there = (omega arith, omega arith); used = refl; counter = refl; changed = refl; others = nine_others };
  absent = refl;
  covered = λ p u. names_five p;
}

pub nine_are_steps : AreSteps boxes eight_rows nine_steps nine_rows
nine_are_steps = (rows_split, root_is_split, (rows_wider, root_widens, (rows_widest, seven_widens, (nine_rows, ninth_added, refl))))

-- A pair is marked, and swept.

abbrev held_marked : Tree Box
held_marked = tree_of (inner 1 0 (entry (box 0 0 101 5) 2 ∷ []) ∷ leaf 0 0 (dead 1 (box 100 4 101 5) ∷ live 2 (box 0 0 1 1) ∷ []) ∷ []) 0

marked_step : IsMarking boxes held held_marked 2 1 (box 100 4 101 5) true
marked_step = record {
  leaf = refl;
  changes = record {
    there = (omega arith, omega arith);
    used = refl;
    counter = refl;
    changed = refl;
    others = two_others (inner 1 0 (entry (box 0 0 101 5) 2 ∷ [])) (held.node 2) (held_marked.node 2);
  };
}

swept_step : IsSweep held_marked swept 2 (λ x. false)
swept_step = record {
  leaf = refl;
  changes = record {
    there = (omega arith, omega arith);
    used = refl;
    counter = refl;
    changed = refl;
    others = two_others (inner 1 0 (entry (box 0 0 101 5) 2 ∷ [])) (held_marked.node 2) (swept.node 2);
  };
}

pub swept_are_steps : AreSteps boxes held swept_steps swept
swept_are_steps = (held_marked, marked_step, (swept, swept_step, refl))

-- Not legal.

pub twice_not_legal : Legal boxes named_twice → ⊥
twice_not_legal legal = let one = legal.parent 2 (omega arith) (omega arith) in cc

pub off_not_legal : Legal boxes off_the_chain → ⊥
off_not_legal legal = let one = legal.once 3 (omega arith, omega arith) refl in cc

pub small_not_legal : Legal boxes bound_too_small → ⊥
small_not_legal legal =
    let f = ((legal.pages 1 (omega arith, omega arith)).children).0 in
    let b = f.bounds in
    let p : false ≡ true = (b.pairs).0 in
    cc
