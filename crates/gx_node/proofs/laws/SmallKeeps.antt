-- Small changes keep nodes.
use Rattle.std.proofs.Common.{◌≡◌, ℕ, ◌≤◌, ◌==◌, Bool, true, false, not, cond, List, [], length, get_or, refl, sym, ap, ◌∙◌, Option, Some, None}
use Rattle.std.specs.Prelude.{nat_lt, is_some}
use Rattle.std.proofs.lemmas.Bool.{and_parts, and_from, ltb-true}
use Rattle.gx_class.specs.declared.class.TheConstants.{MAX_KEY}
use Rattle.gx_page.specs.Bytes.{AreBytes}
use Rattle.gx_page.specs.Contents.{Contents}
use Rattle.gx_page.specs.Edits.{with_items}
use Rattle.gx_node.specs.Entries.{mark_byte}
use Rattle.gx_node.specs.Reading.{Format, child_of, are_pairs, are_children, is_leaf, is_inner, is_node}
use Rattle.gx_node.specs.Small.{is_item_of, has_item_of, slot_of, mark_made, pair_made, are_bounds, bound_made, slots_made}
use Rattle.gx_node.specs.SmallLaws.{Spells, ChangesKeepNodes}
use Rattle.gx_node.proofs.Parts.{IsLawful}
use Rattle.gx_node.proofs.EditedLeaves.{leaf_marked}
use Rattle.gx_node.proofs.Slots.{slot_get}
use Rattle.gx_node.proofs.laws.SmallPages.{mark_formed}
use Rattle.gx_node.proofs.laws.SmallNodes.{some_there, pair_put, bound_writes, bound_set, slots_mean}

module _ {B : Type 0} (f : Format B) where
  leaf_is_node : (page : Contents) (used : ℕ) → is_leaf f page ≡ true → is_node f used page ≡ true
  leaf_is_node page used e =
      let two = and_parts (page.level == 0) (are_pairs f page.items) e in
      ap (λ b. cond b (are_pairs f page.items) (are_children f used page.items)) two.0 ∙ two.1

  not_true : (b : Bool) → not b ≡ true → b ≡ false
  not_true true e = cc
  not_true false e = refl

  inner_is_node : (page : Contents) (used : ℕ) → is_inner f used page ≡ true → is_node f used page ≡ true
  inner_is_node page used e =
      let two = and_parts (not (page.level == 0)) (are_children f used page.items) e in
      ap (λ b. cond b (are_pairs f page.items) (are_children f used page.items)) (not_true (page.level == 0) two.0) ∙ two.1

  node_is_inner : (page : Contents) (used : ℕ) → not (page.level == 0) ≡ true → is_node f used page ≡ true → is_inner f used page ≡ true
  node_is_inner page used level e =
      and_from (not (page.level == 0)) (are_children f used page.items) level
      (sym (ap (λ b. cond b (are_pairs f page.items) (are_children f used page.items)) (not_true (page.level == 0) level)) ∙ e)

  some_spelled : (bytes : List ℕ) (o : Option B) → AreBytes bytes → f.reading bytes ≡ o → is_some (f.reading bytes) ≡ true → (key : B) × Spells f bytes key
  some_spelled bytes None are same e = let none : is_some (f.reading bytes) ≡ false = ap is_some same in cc
  some_spelled bytes (Some key) are same e = (key, record { are = are; read = same })

pub changes_keep : {B : Type 0} (IsKey : B → Type 0) (spelling : B → List ℕ) (f : Format B) → IsLawful IsKey spelling f → f.key ≤ MAX_KEY → ChangesKeepNodes f
changes_keep IsKey spelling f laws short = record {
  mark = λ row bytes marked page w e.
      let two = and_parts (is_leaf f page) (has_item_of f row bytes page.items) e in
      let slot = slot_of f row bytes page.items in
      let h = some_there (is_item_of f row bytes) page.items two.1 in
      let new = leaf_marked f page (with_items page (mark_made f row bytes marked page.items)) slot (mark_byte marked) marked two.0 h refl refl in
      record { well_formed = mark_formed f page slot marked w h; node = λ used room is. leaf_is_node f (with_items page (mark_made f row bytes marked page.items)) used new.leaf };
  pair = λ most row bytes page few room are w e.
      let some = (and_parts (is_some (f.reading bytes)) _ (and_parts (nat_lt (length page.items) most) _ (and_parts (is_leaf f page) _ e).1).1).0 in
      let spelled = some_spelled f bytes (f.reading bytes) are refl some in
      let made = pair_put IsKey spelling f laws short most row bytes spelled.0 page room spelled.1 w few e in
      record { well_formed = made.well_formed; node = λ used room is. leaf_is_node f (with_items page (pair_made row bytes page.items)) used made.leaf };
  bound = λ slot bytes page are w e.
      let one = and_parts (not (page.level == 0)) _ e in
      let two = and_parts (nat_lt slot (length page.items)) (is_some (f.reading bytes)) (and_parts (are_bounds f page.items) _ one.1).1 in
      let h = ltb-true slot (length page.items) two.0 in
      let spelled = some_spelled f bytes (f.reading bytes) are refl two.1 in
      record {
        well_formed = bound_writes IsKey spelling f laws slot bytes spelled.0 page spelled.1 w e;
        node = λ used room is.
            inner_is_node f (with_items page (bound_made f slot bytes page.items)) used
            (bound_set IsKey spelling f laws slot bytes spelled.0 page spelled.1 w used (child_of f (get_or page.items slot [])) room
            (node_is_inner f page used one.0 is) (slot_get (child_of f) page.items slot [] h)).inner;
      };
  slots = λ slots page w e.
      let made = (slots_mean f slots page).made w e in
      record { well_formed = made.well_formed; node = λ used room is. leaf_is_node f (with_items page (slots_made slots page.items)) used made.leaf };
}
