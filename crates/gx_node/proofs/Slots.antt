-- A node's slots.
use Rattle.std.proofs.Common.{◌≡◌, ℕ, zero, suc, ◌+◌, ◌<◌, ◌==◌, ◌&&◌, List, [], ◌∷◌, length, map, get_or, refl, sym, ap, ◌∙◌, arith, Bool, true, false, not, Some}
use Rattle.std.specs.Prelude.{nat_lt, nat_le, slice_index, slice_get}
use Rattle.std.specs.List.{list_all}
use Rattle.std.proofs.lemmas.Bool.{and_parts, and_from, and_left, and_right, eqb-true}
use Rattle.std.proofs.lemmas.List.Elements.{All-nil, All-cons}
use Rattle.gx_page.specs.Bytes.{number_32_at}
use Rattle.gx_page.specs.Contents.{Contents}
use Rattle.std.proofs.lemmas.List.{length-map}
use Rattle.gx_node.specs.Hits.{IsNextHit}
use Rattle.gx_node.specs.Reading.{Format, has_key, is_pair, is_child, leaf_size, inner_size, are_pairs, are_children, is_leaf, is_inner, IsKeyed, AreKeyed}

-- ---- a test of each

pub all_pass : (test : List ℕ → Bool) (items : List (List ℕ)) → ((k : ℕ) → k < length items → test (get_or items k []) ≡ true) → list_all test items ≡ true
all_pass test [] each = refl
all_pass test (item ∷ items) each =
    and_from (test item) (list_all test items) (each 0 (omega arith)) (all_pass test items (λ k h. each (suc k) (omega arith)))

pub one_fails : (test : List ℕ → Bool) (items : List (List ℕ)) (k : ℕ) → k < length items → test (get_or items k []) ≡ false → list_all test items ≡ false
one_fails test [] k h e = absurd (omega arith)
one_fails test (item ∷ items) zero h e = and_left (test item) (list_all test items) e
one_fails test (item ∷ items) (suc k) h e = and_right (test item) (list_all test items) (one_fails test items k (omega arith) e)

pub all_are_pairs : {B : Type 0} (f : Format B) (items : List (List ℕ)) → ((k : ℕ) → k < length items → is_pair f (get_or items k []) ≡ true) → are_pairs f items ≡ true
unfolding are_pairs
all_are_pairs f items each = all_pass (is_pair f) items each

pub one_is_no_pair : {B : Type 0} (f : Format B) (items : List (List ℕ)) (k : ℕ) → k < length items → is_pair f (get_or items k []) ≡ false → are_pairs f items ≡ false
unfolding are_pairs
one_is_no_pair f items k h e = one_fails (is_pair f) items k h e

pub all_are_children : {B : Type 0} (f : Format B) (used : ℕ) (items : List (List ℕ)) → ((k : ℕ) → k < length items → is_child f used (get_or items k []) ≡ true)
    → are_children f used items ≡ true
unfolding are_children
all_are_children f used items each = all_pass (is_child f used) items each

pub one_is_no_child : {B : Type 0} (f : Format B) (used : ℕ) (items : List (List ℕ)) (k : ℕ) → k < length items → is_child f used (get_or items k []) ≡ false
    → are_children f used items ≡ false
unfolding are_children
one_is_no_child f used items k h e = one_fails (is_child f used) items k h e

-- ---- what passed is keyed

keyed : {B : Type 0} (f : Format B) (size : ℕ) (test : List ℕ → Bool) → ((item : List ℕ) → test item ≡ true → IsKeyed f size item)
    → (items : List (List ℕ)) → list_all test items ≡ true → AreKeyed f size items
keyed f size test tells [] e = All-nil (IsKeyed f size)
keyed f size test tells (item ∷ items) e =
    let two = and_parts (test item) (list_all test items) e in
    All-cons (IsKeyed f size) item items (tells item two.0) (keyed f size test tells items two.1)

pair_is_keyed : {B : Type 0} (f : Format B) (item : List ℕ) → is_pair f item ≡ true → IsKeyed f (leaf_size f) item
pair_is_keyed f item e =
    let outer = and_parts (length item == f.key + 9) (has_key f item && nat_lt (slice_index item (f.key + 8)) 2) e in
    let inner = and_parts (has_key f item) (nat_lt (slice_index item (f.key + 8)) 2) outer.1 in
    record { long = eqb-true (length item) (f.key + 9) outer.0; key = inner.0 }

child_is_keyed : {B : Type 0} (f : Format B) (used : ℕ) (item : List ℕ) → is_child f used item ≡ true → IsKeyed f (inner_size f) item
child_is_keyed f used item e =
    let page = number_32_at item f.key in
    let outer = and_parts (length item == f.key + 4) (has_key f item && (nat_le 1 page && nat_le page used)) e in
    let inner = and_parts (has_key f item) (nat_le 1 page && nat_le page used) outer.1 in
    record { long = eqb-true (length item) (f.key + 4) outer.0; key = inner.0 }

pub leaf_is_keyed : {B : Type 0} (f : Format B) (page : Contents) → is_leaf f page ≡ true → AreKeyed f (leaf_size f) page.items
unfolding are_pairs
leaf_is_keyed f page e =
    let two = and_parts (page.level == 0) (are_pairs f page.items) e in
    keyed f (leaf_size f) (is_pair f) (pair_is_keyed f) page.items two.1

pub inner_is_keyed : {B : Type 0} (f : Format B) (used : ℕ) (page : Contents) → is_inner f used page ≡ true → AreKeyed f (inner_size f) page.items
unfolding are_children
inner_is_keyed f used page e =
    let two = and_parts (not (page.level == 0)) (are_children f used page.items) e in
    keyed f (inner_size f) (is_child f used) (child_is_keyed f used) page.items two.1

-- ---- a slot

pub slot_get : {X Y : Type 0} (f : X → Y) (xs : List X) (slot : ℕ) (d : X) → slot < length xs → slice_get (map f xs) slot ≡ Some (f (get_or xs slot d))
slot_get f [] slot d h = absurd (omega arith)
slot_get f (x ∷ xs) zero d h = refl
slot_get f (x ∷ xs) (suc slot) d h = slot_get f xs slot d (omega arith)

pub slot_made : {X Y : Type 0} (f : X → Y) (xs : List X) (slot : ℕ) (d : X) (y : Y) → slot < length xs → y ≡ f (get_or xs slot d) → slice_get (map f xs) slot ≡ Some y
slot_made f xs slot d y h e = slot_get f xs slot d h ∙ ap Some (sym e)

-- what is computed of a slot's element
pub made_at : {X Y : Type 0} (f : X → Y) (xs : List X) (slot : ℕ) (x : X) (d : Y) → slice_get xs slot ≡ Some x → get_or (map f xs) slot d ≡ f x
made_at f [] slot x d e = cc
made_at f (y ∷ xs) zero x d e = let same : y ≡ x = cc in ap f same
made_at f (y ∷ xs) (suc slot) x d e = made_at f xs slot x d e

-- if the one test fails, so does that and another
pub both_fail : {X : Type 0} (p q : X → Bool) (xs : List X) (slot : ℕ) → get_or (map p xs) slot false ≡ false → get_or (map (λ x. q x && p x) xs) slot false ≡ false
both_fail p q [] slot e = refl
both_fail p q (x ∷ xs) zero e = and_right (q x) (p x) e
both_fail p q (x ∷ xs) (suc slot) e = both_fail p q xs slot e

pub some_at : {X : Type 0} (xs : List X) (slot : ℕ) → slot < length xs → (x : X) × (slice_get xs slot ≡ Some x)
some_at [] slot h = absurd (omega arith)
some_at (x ∷ xs) zero h = (x, refl)
some_at (x ∷ xs) (suc slot) h = some_at xs slot (omega arith)

pub some_hit : {X : Type 0} (test : X → Bool) (xs : List X) (from slot : ℕ) → IsNextHit (map test xs) from (Some slot) → (x : X) × (slice_get xs slot ≡ Some x)
some_hit test xs from slot next = some_at xs slot (omega (arith, next.1, length-map xs test))

-- the slot of what is made of each
pub slot_is : {X Y : Type 0} (f : X → Y) (xs : List X) (slot : ℕ) (d : X) (y : Y) → slot < length xs → slice_get (map f xs) slot ≡ Some y → f (get_or xs slot d) ≡ y
slot_is f [] slot d y h e = absurd (omega arith)
slot_is f (x ∷ xs) zero d y h e = cc
slot_is f (x ∷ xs) (suc slot) d y h e = slot_is f xs slot d y (omega arith) e
