-- The first item that passes, and slots spelled in two bytes each.
use Rattle.std.proofs.Common.{◌≡◌, ℕ, ◌+◌, ◌-◌, ◌*◌, ◌<◌, ◌≤◌, ◌&&◌, ◌==◌, Bool, true, false, not, cond, List, [], ◌∷◌, ◌++◌, length, get_or, set, take, drop, Option, Some, None, refl, sym, ap, ◌∙◌, arith}
use Rattle.std.specs.Prelude.{position, nat_lt, is_some, replicate}
use Rattle.std.specs.List.{list_all, list_any, position_or_len}
use Rattle.std.proofs.lemmas.Bool.{lt-ltb, le-ltb, ltb-true, ltb-false, eqb-true, and_right, and_from, and_parts}
use Rattle.std.proofs.lemmas.List.{length-take, length-drop, length-set, length-replicate, take_all, take_at, set_past}
use Rattle.std.proofs.lemmas.List.Folds.{list_any_at, list_any_none}
use Rattle.std.proofs.lemmas.List.Sums.{position_or_len_is, passes_at_first, fails_before_first}
use Rattle.gx_page.specs.Bytes.{AreBytes, number_16}
use Rattle.gx_page.specs.Contents.{Contents}
use Rattle.gx_page.specs.Sizes.{NoneLonger}
use Rattle.gx_node.specs.Reading.{Format, has_key, is_leaf}
use Rattle.gx_node.specs.Small.{is_item_of, has_item_of, mark_fits, pair_fits, slots_in, sides_with, sides_of, is_bound, are_bounds}
use Rattle.gx_node.proofs.Edited.{get_pass}
use Rattle.gx_node.proofs.Parts.{IsLawful}
use Rattle.gx_node.proofs.Slots.{all_pass, one_fails, leaf_is_keyed}

-- ---- the first that passes

module _ {X : Type 0} (test : X → Bool) (xs : List X) (d : X) where
  pub first_is : (slot : ℕ) → slot < length xs → ((k : ℕ) → k < slot → test (get_or xs k d) ≡ false) → test (get_or xs slot d) ≡ true → Some slot ≡ position test xs
  first_is slot h before here =
      let is : position_or_len test xs ≡ slot = position_or_len_is test xs slot d (omega arith) (λ k l. before k l) (λ l. here) in
      sym (ap (λ n. cond (nat_lt n (length xs)) (Some n) None) is ∙ ap (λ b. cond b (Some slot) None) (lt-ltb slot (length xs) h))

  pub none_is : ((k : ℕ) → k < length xs → test (get_or xs k d) ≡ false) → None ≡ position test xs
  none_is fails =
      let is : position_or_len test xs ≡ length xs = position_or_len_is test xs (length xs) d (omega arith) fails (λ l. absurd (omega arith)) in
      sym (ap (λ n. cond (nat_lt n (length xs)) (Some n) None) is ∙ ap (λ b. cond b (Some (length xs)) None) (le-ltb (length xs) (length xs) (omega arith)))

-- one passes exactly if there is a first
cases_found : (n m : ℕ) (b : Bool) → nat_lt n m ≡ b → is_some (cond (nat_lt n m) (Some n) None) ≡ b
cases_found n m true e = ap (λ c. is_some (cond c (Some n) None)) e
cases_found n m false e = ap (λ c. is_some (cond c (Some n) None)) e

found_there : (n m slot : ℕ) (b : Bool) → nat_lt n m ≡ b → Some slot ≡ cond (nat_lt n m) (Some n) None → (slot ≡ n) × (n < m)
found_there n m slot true e is =
    let same : Some slot ≡ Some n = is ∙ ap (λ c. cond c (Some n) None) e in
    (cc, ltb-true n m e)
found_there n m slot false e is = let same : Some slot ≡ None = is ∙ ap (λ c. cond c (Some n) None) e in cc

pub position_any : {X : Type 0} (test : X → Bool) (xs : List X) (d : X) → is_some (position test xs) ≡ list_any test xs
position_any test xs d = by (nat_lt (position_or_len test xs) (length xs)) refl
  where
    by : (b : Bool) → nat_lt (position_or_len test xs) (length xs) ≡ b → is_some (position test xs) ≡ list_any test xs
    by true e =
        let h = ltb-true (position_or_len test xs) (length xs) e in
        cases_found (position_or_len test xs) (length xs) true e ∙ sym (list_any_at test xs (position_or_len test xs) d h (passes_at_first test xs d h))
    by false e =
        let h = ltb-false (position_or_len test xs) (length xs) e in
        cases_found (position_or_len test xs) (length xs) false e ∙ sym (list_any_none test xs (λ k d' l. fails_before_first test xs k d' (omega arith)))

-- there is a first
pub found_at : {X : Type 0} (test : X → Bool) (xs : List X) (slot : ℕ) → Some slot ≡ position test xs → (slot ≡ position_or_len test xs) × (slot < length xs)
found_at test xs slot e =
    let two = found_there (position_or_len test xs) (length xs) slot (nat_lt (position_or_len test xs) (length xs)) refl e in
    (two.0, omega (arith, two.0, two.1))

-- ---- which pages a change fits

module _ {B : Type 0} (f : Format B) (row : ℕ) (key : List ℕ) (page : Contents) where
  pub mark_misses : None ≡ position (is_item_of f row key) page.items → false ≡ mark_fits f row key page
  mark_misses e = sym (and_right (is_leaf f page) (has_item_of f row key page.items) (sym (position_any (is_item_of f row key) page.items []) ∙ sym (ap is_some e)))

  pub mark_finds : (slot : ℕ) → is_leaf f page ≡ true → Some slot ≡ position (is_item_of f row key) page.items → true ≡ mark_fits f row key page
  mark_finds slot leaf e =
      sym (and_from (is_leaf f page) (has_item_of f row key page.items) leaf (sym (position_any (is_item_of f row key) page.items []) ∙ sym (ap is_some e)))

  pub pair_stands : (most : ℕ) → is_some (position (is_item_of f row key) page.items) ≡ true → false ≡ pair_fits f most row key page
  pair_stands most e =
      let there : has_item_of f row key page.items ≡ true = sym (position_any (is_item_of f row key) page.items []) ∙ e in
      sym (and_right (is_leaf f page) _ (and_right (nat_lt (length page.items) most) _ (and_right (is_some (f.reading key)) _ (ap not there))))

  pub pair_lacks : (most : ℕ) → is_leaf f page ≡ true → length page.items < most → is_some (f.reading key) ≡ true → is_some (position (is_item_of f row key) page.items) ≡ false
      → true ≡ pair_fits f most row key page
  pair_lacks most leaf few spelled e =
      let lacks : has_item_of f row key page.items ≡ false = sym (position_any (is_item_of f row key) page.items []) ∙ e in
      sym (and_from (is_leaf f page) _ leaf (and_from (nat_lt (length page.items) most) _ (lt-ltb (length page.items) most few) (and_from (is_some (f.reading key)) _ spelled (ap not lacks))))

-- a bound's item is as long as an inner node's entry
pub bound_long : {B : Type 0} (f : Format B) (items : List (List ℕ)) (slot : ℕ) → are_bounds f items ≡ true → slot < length items → length (get_or items slot []) ≡ f.key + 4
unfolding are_bounds
bound_long f items slot e h =
    let item = get_or items slot [] in
    eqb-true (length item) (f.key + 4) (and_parts (length item == f.key + 4) (has_key f item) (get_pass (is_bound f) items slot [] e h)).0

-- ---- a test of each bound

pub all_are_bounds : {B : Type 0} (f : Format B) (items : List (List ℕ)) → ((k : ℕ) → k < length items → is_bound f (get_or items k []) ≡ true) → are_bounds f items ≡ true
unfolding are_bounds
all_are_bounds f items each = all_pass (is_bound f) items each

pub one_is_no_bound : {B : Type 0} (f : Format B) (items : List (List ℕ)) (k : ℕ) → k < length items → is_bound f (get_or items k []) ≡ false → are_bounds f items ≡ false
unfolding are_bounds
one_is_no_bound f items k h e = one_fails (is_bound f) items k h e

-- ---- the first slot, and those after it

abbrev pub behind : List ℕ → List ℕ
behind bytes = take (length bytes - 2) (drop 2 bytes)

pub first_slot : (bytes : List ℕ) → 2 ≤ length bytes → slots_in bytes ≡ (get_or bytes 0 0 * 256 + get_or bytes 1 0) ∷ slots_in (behind bytes)
first_slot [] h = absurd (omega arith)
first_slot (byte ∷ []) h = absurd (omega arith)
first_slot (high ∷ low ∷ bytes) h =
    let two : number_16 (high ∷ low ∷ []) ≡ high * 256 + low = omega arith in
    let long : length bytes ≤ length (high ∷ low ∷ bytes) - 2 = omega arith in
    ap (λ n. n ∷ slots_in bytes) two ∙ ap (λ l. (high * 256 + low) ∷ slots_in l) (sym (take_all (length (high ∷ low ∷ bytes) - 2) bytes long))

pub no_slot : (bytes : List ℕ) → length bytes < 2 → slots_in bytes ≡ []
no_slot [] h = refl
no_slot (byte ∷ []) h = refl
no_slot (high ∷ low ∷ bytes) h = absurd (omega arith)

pub fewer_left : (bytes : List ℕ) → 2 ≤ length bytes → length (behind bytes) < length bytes
fewer_left bytes h = omega (arith, length-take (length bytes - 2) (drop 2 bytes), length-drop 2 bytes)

-- the sides, with the first slot's set
pub side_set : (bytes : List ℕ) (sides : List Bool) (slot : ℕ) (all : List Bool) → 2 ≤ length bytes → slot ≡ get_or bytes 0 0 * 256 + get_or bytes 1 0
    → sides_with sides (slots_in bytes) ≡ all → sides_with (set sides slot true) (slots_in (behind bytes)) ≡ all
side_set bytes sides slot all h is e =
    ap (λ n. sides_with (set sides n true) (slots_in (behind bytes))) is ∙ sym (ap (sides_with sides) (first_slot bytes h)) ∙ e

pub side_skipped : (bytes : List ℕ) (sides : List Bool) (slot : ℕ) (all : List Bool) → 2 ≤ length bytes → slot ≡ get_or bytes 0 0 * 256 + get_or bytes 1 0
    → length sides ≤ slot → sides_with sides (slots_in bytes) ≡ all → sides_with sides (slots_in (behind bytes)) ≡ all
side_skipped bytes sides slot all h is past e =
    ap (λ l. sides_with l (slots_in (behind bytes))) (sym (set_past sides slot true past)) ∙ side_set bytes sides slot all h is e

pub length-sides_with : (sides : List Bool) (slots : List ℕ) → length (sides_with sides slots) ≡ length sides
length-sides_with sides [] = refl
length-sides_with sides (slot ∷ slots) = length-sides_with (set sides slot true) slots ∙ length-set sides slot true

pub length-sides_of : (count : ℕ) (slots : List ℕ) → length (sides_of count slots) ≡ count
length-sides_of count slots = length-sides_with (replicate count false) slots ∙ length-replicate count false

-- a test of each slot, of which the first is tested
pub slot_fails : (test : ℕ → Bool) (bytes : List ℕ) (slot : ℕ) (all : Bool) → 2 ≤ length bytes → slot ≡ get_or bytes 0 0 * 256 + get_or bytes 1 0
    → test slot ≡ false → list_all test (slots_in bytes) ≡ all → false ≡ all
slot_fails test bytes slot all h is fails e =
    sym (ap (λ b. b && list_all test (slots_in (behind bytes))) (sym (ap test is) ∙ fails)) ∙ sym (ap (list_all test) (first_slot bytes h)) ∙ e

pub slot_passes : (test : ℕ → Bool) (bytes : List ℕ) (slot : ℕ) (all : Bool) → 2 ≤ length bytes → slot ≡ get_or bytes 0 0 * 256 + get_or bytes 1 0
    → test slot ≡ true → list_all test (slots_in bytes) ≡ all → list_all test (slots_in (behind bytes)) ≡ all
slot_passes test bytes slot all h is passes e =
    sym (ap (λ b. b && list_all test (slots_in (behind bytes))) (sym (ap test is) ∙ passes)) ∙ sym (ap (list_all test) (first_slot bytes h)) ∙ e

-- ---- bytes that spell a key

pub is_spelled : {B : Type 0} (IsKey : B → Type 0) (spelling : B → List ℕ) (f : Format B) → IsLawful IsKey spelling f → (key : List ℕ) → AreBytes key
    → is_some (f.reading key) ≡ true → length key ≡ f.key
is_spelled {B} IsKey spelling f laws key small e = by (f.reading key) refl
  where
    by : (o : Option B) → f.reading key ≡ o → length key ≡ f.key
    by None same = let none : is_some (f.reading key) ≡ false = ap is_some same in cc
    by (Some k) same = let only = laws.only key k small same in ap length only.1 ∙ laws.size k only.0

-- the front of a buffer, as long as what was written there
pub front_long : (written rest : List ℕ) (size : ℕ) → length written ≡ size → length (take size (written ++ rest)) ≡ size
front_long written rest size long = ap length (take_at written rest size long) ∙ long

pub none_longer : {B : Type 0} (f : Format B) (page : Contents) (written rest : List ℕ) (size : ℕ) → is_leaf f page ≡ true → length written ≡ size → size ≡ f.key + 9
    → NoneLonger (length (take size (written ++ rest))) page.items
none_longer f page written rest size leaf long e = λ k d h. omega (arith, front_long written rest size long, (leaf_is_keyed f page leaf k d h).long)
