-- What small changes leave, read as nodes.
use Rattle.std.proofs.Common.{◌≡◌, ℕ, zero, suc, ◌+◌, ◌^◌, ◌<◌, ◌≤◌, ◌≢◌, ◌==◌, ◌&&◌, ◌||◌, Bool, true, false, not, cond, List, [], ◌∷◌, ◌++◌, length, map, get_or, set, take, drop, Some, refl, sym, ap, ◌∙◌, arith}
use Rattle.std.specs.Prelude.{nat_lt, is_some, unwrap_or, bytes_eq, slice_get, filter, replicate}
use Rattle.std.specs.List.{list_all, list_any, All, position_or_len}
use Rattle.std.proofs.lemmas.Bool.{and_parts, and_from, ltb-true, ltb-false, lt-ltb, eqb-true, eq-eqb}
use Rattle.std.proofs.lemmas.List.{length-map, length-replicate, length-set, get_or-replicate, get_or-set_same, get_or-set_other}
use Rattle.std.proofs.lemmas.List.Elements.{All-head, All-tail}
use Rattle.std.proofs.lemmas.List.Folds.{list_any_none}
use Rattle.std.proofs.lemmas.List.Sums.{passes_at_first, fails_before_first}
use Rattle.std.proofs.lemmas.Slice.Eq.{bytes_eq-Decides}
use Rattle.gx_class.specs.declared.class.TheConstants.{MAX_KEY}
use Rattle.gx_page.specs.Bytes.{AreBytes, spell_64, number_64_at}
use Rattle.gx_page.specs.Contents.{Contents}
use Rattle.gx_page.specs.Edits.{with_items}
use Rattle.gx_page.specs.Format.{IsItem, IsWellFormed}
use Rattle.gx_node.specs.Lists.{Each, staying}
use Rattle.gx_node.specs.Trees.{Pair, Child, Rules, is_entry}
use Rattle.gx_node.specs.declared.items.TheConstants.{MAX_ENTRIES}
use Rattle.gx_node.specs.Edits.{with_pairs, with_children, bounded_by}
use Rattle.gx_node.specs.Entries.{mark_byte, child_bytes}
use Rattle.gx_node.specs.Reading.{Format, has_key, key_of, is_pair, pair_of, is_child, child_of, are_children, is_leaf, is_inner, leaf_of, inner_of}
use Rattle.gx_node.specs.Small.{is_item_of, has_item_of, slot_of, mark_fits, mark_made, pair_fits, pair_made, live_item, is_bound, are_bounds, bound_fits, bound_made, is_marked, has_marked, slots_made, sides_with, sides_of}
use Rattle.gx_node.specs.SmallLaws.{Spells, MakesLeaf, live_pair, MarksFirst, MarkMeans, PairMeans, MakesInner, BoundMeans, HasMarked, SlotsMean, AreSlotsOf}
use Rattle.gx_node.proofs.Parts.{IsLawful, key_read, page_written}
use Rattle.gx_node.proofs.Edited.{get_pass}
use Rattle.gx_node.proofs.EditedLeaves.{leaf_parts, leaf_appended, leaf_marked, leaf_stays}
use Rattle.gx_node.proofs.EditedInners.{inner_bounded}
use Rattle.gx_node.proofs.Slots.{slot_get, slot_is}
use Rattle.gx_node.proofs.SmallItems.{length-sides_of, bound_long}
use Rattle.gx_node.proofs.laws.SmallPages.{mark_formed, pair_formed, bound_formed, staying_formed}

there_below : {X : Type 0} (xs : List X) (slot : ℕ) (x : X) → slice_get xs slot ≡ Some x → slot < length xs
there_below [] slot x e = cc
there_below (y ∷ xs) zero x e = omega arith
there_below (y ∷ xs) (suc slot) x e = omega (arith, there_below xs slot x e)

pub some_there : {X : Type 0} (test : X → Bool) (xs : List X) → list_any test xs ≡ true → position_or_len test xs < length xs
some_there test xs e = by (nat_lt (position_or_len test xs) (length xs)) refl
  where
    by : (b : Bool) → nat_lt (position_or_len test xs) (length xs) ≡ b → position_or_len test xs < length xs
    by true l = ltb-true (position_or_len test xs) (length xs) l
    by false l =
        let past = ltb-false (position_or_len test xs) (length xs) l in
        let none : list_any test xs ≡ false = list_any_none test xs (λ k d h. fails_before_first test xs k d (omega arith)) in
        cc

-- ---- a pair

module _ {B : Type 0} (IsKey : B → Type 0) (spelling : B → List ℕ) (f : Format B) (laws : IsLawful IsKey spelling f) where
  pub pair_put : f.key ≤ MAX_KEY → (most row : ℕ) (bytes : List ℕ) (key : B) (page : Contents) → row < 2 ^ 64 → Spells f bytes key → IsWellFormed page
      → most ≤ MAX_ENTRIES → pair_fits f most row bytes page ≡ true → MakesLeaf f page (pair_made row bytes page.items) ((leaf_of f page).pairs ++ live_pair row key ∷ [])
  pair_put short most row bytes key page room spells w few e =
      let only = laws.only bytes key spells.are spells.read in
      let two = and_parts (is_leaf f page) _ e in
      let less : length page.items < most = ltb-true (length page.items) most (and_parts (nat_lt (length page.items) most) _ two.1).0 in
      let size : length bytes ≡ f.key = ap length only.1 ∙ laws.size key only.0 in
      let new = leaf_appended f IsKey spelling laws page (with_items page (pair_made row bytes page.items)) (live_item row bytes) (live_pair row key) two.0 (record { key = only.0; row = room })
      (ap (λ l. l ++ (spell_64 row ++ mark_byte false ∷ [])) only.1) refl in
      record { well_formed = pair_formed f page row bytes short w two.0 (omega arith) spells.are size; leaf = new.leaf; node = new.node }

-- ---- an item, and the pair that it is

module _ {B : Type 0} (IsKey : B → Type 0) (spelling : B → List ℕ) (f : Format B) (laws : IsLawful IsKey spelling f) (r : Rules B)
    (exact : (a b : B) → r.same a b ≡ true → a ≡ b) (itself : (a : B) → r.same a a ≡ true) where
  key_same : (item bytes : List ℕ) (key : B) → AreBytes item → has_key f item ≡ true → Spells f bytes key → bytes_eq (take f.key item) bytes ≡ r.same (key_of f item) key
  key_same item bytes key are has spells = by (bytes_eq (take f.key item) bytes) refl (r.same (key_of f item) key) refl
    where
      by : (b : Bool) → bytes_eq (take f.key item) bytes ≡ b → (s : Bool) → r.same (key_of f item) key ≡ s → bytes_eq (take f.key item) bytes ≡ r.same (key_of f item) key
      by true e s same =
          let is : key_of f item ≡ key = ap (λ l. unwrap_or (f.reading l) f.start) ((bytes_eq-Decides (take f.key item) bytes).0 e) ∙ ap (λ o. unwrap_or o f.start) spells.read in
          e ∙ sym (ap (λ k. r.same k key) is ∙ itself key)
      by false e false same = e ∙ sym same
      by false e true same =
          let is : key_of f item ≡ key = exact (key_of f item) key same in
          let front : take f.key item ≡ bytes = (key_read IsKey spelling f laws item are has).1 ∙ ap spelling is ∙ sym (laws.only bytes key spells.are spells.read).1 in
          let so : bytes_eq (take f.key item) bytes ≡ true = (bytes_eq-Decides (take f.key item) bytes).1 front in
          cc

  pub item_is_entry : (row : ℕ) (bytes : List ℕ) (key : B) (item : List ℕ) → Spells f bytes key → AreBytes item → is_pair f item ≡ true
      → is_item_of f row bytes item ≡ is_entry r row key (pair_of f item)
  item_is_entry row bytes key item spells are e =
      let outer = and_parts (length item == f.key + 9) _ e in
      let inner = and_parts (has_key f item) _ outer.1 in
      ap (λ b. (number_64_at item f.key == row) && b) (key_same item bytes key are inner.0 spells)

  any_same : (row : ℕ) (bytes : List ℕ) (key : B) (items : List (List ℕ)) → Spells f bytes key → All IsItem items → list_all (is_pair f) items ≡ true
      → has_item_of f row bytes items ≡ list_any (is_entry r row key) (map (pair_of f) items)
  any_same row bytes key [] spells all e = refl
  any_same row bytes key (item ∷ items) spells all e =
      let two = and_parts (is_pair f item) (list_all (is_pair f) items) e in
      let first = item_is_entry row bytes key item spells (All-head IsItem item items all).1 two.0 in
      let rest = any_same row bytes key items spells (All-tail IsItem item items all) two.1 in
      ap (λ b. b || has_item_of f row bytes items) first ∙ ap (λ b. is_entry r row key (pair_of f item) || b) rest

  on_leaves : (page : Contents) (a b : Bool) → (is_leaf f page ≡ true → a ≡ b) → (is_leaf f page && a) ≡ (is_leaf f page && b)
  on_leaves page a b same = by (is_leaf f page) refl
    where
      by : (leaf : Bool) → is_leaf f page ≡ leaf → (is_leaf f page && a) ≡ (is_leaf f page && b)
      by true e = ap (λ c. is_leaf f page && c) (same e)
      by false e = ap (λ c. c && a) e ∙ sym (ap (λ c. c && b) e)

  mark_set : (row : ℕ) (bytes : List ℕ) (key : B) (page : Contents) → Spells f bytes key → IsWellFormed page → (marked : Bool) → mark_fits f row bytes page ≡ true
      → MarksFirst f r row key marked page (mark_made f row bytes marked page.items)
  mark_set row bytes key page spells w marked e =
      let items = page.items in
      let slot = slot_of f row bytes items in
      let two = and_parts (is_leaf f page) (has_item_of f row bytes items) e in
      let h : slot < length items = some_there (is_item_of f row bytes) items two.1 in
      let item = get_or items slot [] in
      let passes = get_pass (is_pair f) items slot [] (leaf_parts f page two.0).1 h in
      let same = item_is_entry row bytes key item spells (w.items slot [] h).1 passes in
      let new = leaf_marked f page (with_items page (mark_made f row bytes marked items)) slot (mark_byte marked) marked two.0 h refl refl in
      record {
        slot = slot;
        pair = pair_of f item;
        there = slot_get (pair_of f) items slot [] h;
        is = sym same ∙ passes_at_first (is_item_of f row bytes) items [] h;
        made = record { well_formed = mark_formed f page slot marked w h; leaf = new.leaf; node = new.node };
      }

  pub mark_means : (row : ℕ) (bytes : List ℕ) (key : B) (page : Contents) → Spells f bytes key → IsWellFormed page → MarkMeans f r row bytes key page
  mark_means row bytes key page spells w = record {
    fits = on_leaves page (has_item_of f row bytes page.items) (list_any (is_entry r row key) (map (pair_of f) page.items))
        (λ leaf. any_same row bytes key page.items spells w.items (leaf_parts f page leaf).1);
    made = mark_set row bytes key page spells w;
  }

  pub pair_means : f.key ≤ MAX_KEY → (most row : ℕ) (bytes : List ℕ) (key : B) (page : Contents) → row < 2 ^ 64 → Spells f bytes key → IsWellFormed page
      → PairMeans f r most row bytes key page
  pair_means short most row bytes key page room spells w = record {
    fits = on_leaves page (nat_lt (length page.items) most && (is_some (f.reading bytes) && not (has_item_of f row bytes page.items)))
        (nat_lt (length (map (pair_of f) page.items)) most && not (list_any (is_entry r row key) (map (pair_of f) page.items)))
        (λ leaf. ap (λ n. nat_lt n most && (is_some (f.reading bytes) && not (has_item_of f row bytes page.items))) (sym (length-map page.items (pair_of f)))
        ∙ ap (λ b. nat_lt (length (map (pair_of f) page.items)) most && (b && not (has_item_of f row bytes page.items))) (ap is_some spells.read)
        ∙ ap (λ b. nat_lt (length (map (pair_of f) page.items)) most && not b) (any_same row bytes key page.items spells w.items (leaf_parts f page leaf).1));
    made = pair_put IsKey spelling f laws short most row bytes key page room spells w;
  }

-- ---- a bound

module _ {B : Type 0} (IsKey : B → Type 0) (spelling : B → List ℕ) (f : Format B) (laws : IsLawful IsKey spelling f) where
  and_true : (b : Bool) → (b && true) ≡ b
  and_true true = refl
  and_true false = refl

  children_are_bounds : (used : ℕ) (items : List (List ℕ)) → list_all (is_child f used) items ≡ true → list_all (is_bound f) items ≡ true
  children_are_bounds used [] e = refl
  children_are_bounds used (item ∷ items) e =
      let two = and_parts (is_child f used item) (list_all (is_child f used) items) e in
      let outer = and_parts (length item == f.key + 4) _ two.0 in
      let inner = and_parts (has_key f item) _ outer.1 in
      and_from (is_bound f item) (list_all (is_bound f) items) (and_from (length item == f.key + 4) (has_key f item) outer.0 inner.0) (children_are_bounds used items two.1)

  inner_bounds : (used : ℕ) (page : Contents) → is_inner f used page ≡ true → (not (page.level == 0) ≡ true) × (are_bounds f page.items ≡ true)
  unfolding are_children are_bounds
  inner_bounds used page e =
      let two = and_parts (not (page.level == 0)) (list_all (is_child f used) page.items) e in
      (two.0, children_are_bounds used page.items two.1)

  pub bound_writes : (slot : ℕ) (bytes : List ℕ) (key : B) (page : Contents) → Spells f bytes key → IsWellFormed page → bound_fits f slot bytes page ≡ true
      → IsWellFormed (with_items page (bound_made f slot bytes page.items))
  bound_writes slot bytes key page spells w e =
      let only = laws.only bytes key spells.are spells.read in
      let items = page.items in
      let one = and_parts (not (page.level == 0)) _ e in
      let two = and_parts (are_bounds f items) _ one.1 in
      let h : slot < length items = ltb-true slot (length items) (and_parts (nat_lt slot (length items)) _ two.1).0 in
      bound_formed f page slot bytes w spells.are (ap length only.1 ∙ laws.size key only.0) h (bound_long f items slot two.0 h)

  pub bound_set : (slot : ℕ) (bytes : List ℕ) (key : B) (page : Contents) → Spells f bytes key → IsWellFormed page → (used : ℕ) (child : Child B) → used < 2 ^ 32
      → is_inner f used page ≡ true → slice_get (inner_of f page).children slot ≡ Some child
      → MakesInner f used page (bound_made f slot bytes page.items) (set (inner_of f page).children slot (bounded_by key child))
  bound_set slot bytes key page spells w used child room inner at =
      let only = laws.only bytes key spells.are spells.read in
      let items = page.items in
      let h : slot < length items = omega (arith, there_below (map (child_of f) items) slot child at, length-map items (child_of f)) in
      let item = get_or items slot [] in
      let long = bound_long f items slot (inner_bounds used page inner).1 h in
      let spelled : bytes ++ drop f.key item ≡ child_bytes spelling (bounded_by key (child_of f item)) =
      ap (λ l. l ++ drop f.key item) only.1 ∙ ap (λ l. spelling key ++ l) (page_written item f.key (w.items slot [] h).1 long).0 in
      let new = inner_bounded f used IsKey spelling laws room page (with_items page (bound_made f slot bytes items)) slot (bytes ++ drop f.key item) key inner h only.0 spelled refl in
      record {
        inner = new.inner;
        node = new.node ∙ ap (λ c. with_children (inner_of f page) (set (inner_of f page).children slot (bounded_by key c))) (slot_is (child_of f) items slot [] child h at);
      }

  pub bound_means : (slot : ℕ) (bytes : List ℕ) (key : B) (page : Contents) → Spells f bytes key → IsWellFormed page → BoundMeans f slot bytes key page
  bound_means slot bytes key page spells w = record {
    well_formed = bound_writes slot bytes key page spells w;
    fits = λ used e.
        let two = inner_bounds used page e in
        ap (λ b. b && (are_bounds f page.items && (nat_lt slot (length page.items) && is_some (f.reading bytes)))) two.0
        ∙ ap (λ b. b && (nat_lt slot (length page.items) && is_some (f.reading bytes))) two.1
        ∙ ap (λ b. nat_lt slot (length page.items) && b) (ap is_some spells.read) ∙ and_true (nat_lt slot (length page.items))
        ∙ ap (nat_lt slot) (sym (length-map page.items (child_of f)));
    made = bound_set slot bytes key page spells w;
  }

-- ---- slots

module _ {B : Type 0} (f : Format B) where
  marked_told : (items : List (List ℕ)) (slots : List ℕ) → list_all (has_marked f items) slots ≡ true → Each (HasMarked (map (pair_of f) items)) slots
  marked_told items [] e = tt
  marked_told items (slot ∷ slots) e =
      let two = and_parts (has_marked f items slot) (list_all (has_marked f items) slots) e in
      let first = and_parts (nat_lt slot (length items)) (is_marked f (get_or items slot [])) two.0 in
      let h = ltb-true slot (length items) first.0 in
      ((pair_of f (get_or items slot []), slot_get (pair_of f) items slot [] h, first.1), marked_told items slots two.1)

  marked_back : (items : List (List ℕ)) (slots : List ℕ) → Each (HasMarked (map (pair_of f) items)) slots → list_all (has_marked f items) slots ≡ true
  marked_back items [] each = refl
  marked_back items (slot ∷ slots) each =
      let x = each.0.0 in
      let h : slot < length items = omega (arith, there_below (map (pair_of f) items) slot x each.0.1, length-map items (pair_of f)) in
      let is : pair_of f (get_or items slot []) ≡ x = slot_is (pair_of f) items slot [] x h each.0.1 in
      and_from (has_marked f items slot) (list_all (has_marked f items) slots)
      (and_from (nat_lt slot (length items)) (is_marked f (get_or items slot [])) (lt-ltb slot (length items) h) (ap (λ (p : Pair B). p.marked) is ∙ each.0.2))
      (marked_back items slots each.1)

  pub slots_mean : (slots : List ℕ) (page : Contents) → SlotsMean f slots page
  slots_mean slots page = record {
    told = λ e. let two = and_parts (is_leaf f page) (list_all (has_marked f page.items) slots) e in (two.0, marked_told page.items slots two.1);
    back = λ leaf each. and_from (is_leaf f page) (list_all (has_marked f page.items) slots) leaf (marked_back page.items slots each);
    made = λ w e.
        let leaf = (and_parts (is_leaf f page) (list_all (has_marked f page.items) slots) e).0 in
        let sides = sides_of (length page.items) slots in
        let new = leaf_stays f page (with_items page (slots_made slots page.items)) sides leaf refl in
        record {
          well_formed = staying_formed page sides w;
          leaf = new.leaf;
          node = new.node ∙ ap (λ n. with_pairs (leaf_of f page) (staying (sides_of n slots) (leaf_of f page).pairs)) (sym (length-map page.items (pair_of f)));
        };
  }

-- ---- slots of what passes

or_false : (b : Bool) → (b || false) ≡ b
or_false true = refl
or_false false = refl

or_true : (b c : Bool) → true ≡ (b || (true || c))
or_true true c = refl
or_true false c = refl

side_more : (sides : List Bool) (slot k : ℕ) (any b : Bool) → k < length sides → (slot == k) ≡ b
    → (get_or (set sides slot true) k false || any) ≡ (get_or sides k false || ((slot == k) || any))
side_more sides slot k any true h e =
    let here : get_or (set sides slot true) k false ≡ true = ap (λ n. get_or (set sides n true) k false) (eqb-true slot k e) ∙ get_or-set_same sides k true false h in
    ap (λ b. b || any) here ∙ or_true (get_or sides k false) any ∙ ap (λ b. get_or sides k false || (b || any)) (sym e)
side_more sides slot k any false h e =
    let other : k ≢ slot = λ same. let so : (slot == k) ≡ true = eq-eqb slot k (sym same) in cc in
    let there : get_or (set sides slot true) k false ≡ get_or sides k false = get_or-set_other sides slot k true false other in
    ap (λ b. b || any) there ∙ ap (λ b. get_or sides k false || (b || any)) (sym e)

side_at : (sides : List Bool) (slots : List ℕ) (k : ℕ) → k < length sides → get_or (sides_with sides slots) k false ≡ (get_or sides k false || list_any (λ slot. slot == k) slots)
side_at sides [] k h = sym (or_false (get_or sides k false))
side_at sides (slot ∷ slots) k h =
    side_at (set sides slot true) slots k (omega (arith, length-set sides slot true)) ∙ side_more sides slot k (list_any (λ slot. slot == k) slots) (slot == k) h refl

first_stays : {X : Type 0} (test : X → Bool) (sides : List Bool) (x : X) (xs : List X) (b : Bool) → b ≡ test x → staying sides xs ≡ filter (λ x. not (test x)) xs
    → staying (b ∷ sides) (x ∷ xs) ≡ filter (λ x. not (test x)) (x ∷ xs)
first_stays test sides x xs true e rest = rest ∙ ap (λ b. cond (not b) (x ∷ filter (λ x. not (test x)) xs) (filter (λ x. not (test x)) xs)) e
first_stays test sides x xs false e rest = ap (λ l. x ∷ l) rest ∙ ap (λ b. cond (not b) (x ∷ filter (λ x. not (test x)) xs) (filter (λ x. not (test x)) xs)) e

staying_as : {X : Type 0} (test : X → Bool) (sides : List Bool) (xs : List X) → length sides ≡ length xs
    → ((k : ℕ) → k < length xs → get_or sides k false ≡ get_or (map test xs) k false) → staying sides xs ≡ filter (λ x. not (test x)) xs
staying_as test [] [] long each = refl
staying_as test (s ∷ sides) [] long each = refl
staying_as test [] (x ∷ xs) long each = absurd (omega arith)
staying_as test (s ∷ sides) (x ∷ xs) long each =
    first_stays test sides x xs s (each 0 (omega arith)) (staying_as test sides xs (omega arith) (λ k h. each (suc k) (omega arith)))

pub removals_filter : {X : Type 0} (test : X → Bool) (xs : List X) (slots : List ℕ) → AreSlotsOf test xs slots → staying (sides_of (length xs) slots) xs ≡ filter (λ x. not (test x)) xs
removals_filter test xs slots are =
    let sides = sides_of (length xs) slots in
    let blank : (k : ℕ) → k < length xs → get_or (replicate (length xs) false) k false ≡ false = λ k h. get_or-replicate (length xs) k false false h in
    staying_as test sides xs (length-sides_of (length xs) slots)
    (λ k h. side_at (replicate (length xs) false) slots k (omega (arith, length-replicate (length xs) false)) ∙ ap (λ b. b || list_any (λ slot. slot == k) slots) (blank k h) ∙ are k h)
