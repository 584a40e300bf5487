-- What the edits of its items leave of an inner node.
use Rattle.std.proofs.Common.{◌≡◌, ℕ, ◌+◌, ◌^◌, ◌<◌, ◌≤◌, ◌==◌, ◌&&◌, List, [], ◌∷◌, ◌++◌, length, map, get_or, set, refl, ap, ◌∙◌, arith, Bool, true, not}
use Rattle.std.specs.Prelude.{nat_le}
use Rattle.std.specs.List.{list_all}
use Rattle.std.proofs.lemmas.Bool.{and_parts, and_from, ne_eqb, leb-true, le-leb}
use Rattle.std.proofs.lemmas.List.{map-append, map-set, length-append}
use Rattle.gx_page.specs.Bytes.{spell_32, number_32_at}
use Rattle.gx_page.specs.Contents.{Contents}
use Rattle.gx_page.specs.Edits.{blank, with_items}
use Rattle.gx_node.specs.Lists.{staying}
use Rattle.gx_node.specs.Trees.{Child}
use Rattle.gx_node.specs.Edits.{with_children, bounded_by}
use Rattle.gx_node.specs.Entries.{child_bytes, IsChild}
use Rattle.gx_node.specs.Reading.{Format, has_key, is_child, child_of, are_pairs, are_children, is_leaf, is_inner, inner_of}
use Rattle.gx_node.proofs.Parts.{IsLawful}
use Rattle.gx_node.proofs.Children.{child_again}
use Rattle.gx_node.proofs.Edited.{map-staying, staying_pass, append_pass, set_pass, get_pass}

-- the new page is an inner node with these children, and all else is unchanged
pub record IsEdited {B : Type 0} (f : Format B) (used : ℕ) (page new : Contents) (children : List (Child B)) : Type 0 where
  pub inner : is_inner f used new ≡ true
  pub node : inner_of f new ≡ with_children (inner_of f page) children
  pub number : new.number ≡ page.number

module _ {B : Type 0} (f : Format B) (used : ℕ) where
  edited : (page new : Contents) (items : List (List ℕ)) (children : List (Child B)) → not (page.level == 0) ≡ true → new ≡ with_items page items
      → list_all (is_child f used) items ≡ true → map (child_of f) items ≡ children → IsEdited f used page new children
  unfolding are_children
  edited page new items children level is all same = record {
    inner = ap (is_inner f used) is ∙ and_from (not (page.level == 0)) (list_all (is_child f used) items) level all;
    node = ap (inner_of f) is ∙ ap (with_children (inner_of f page)) same;
    number = ap (λ (c : Contents). c.number) is;
  }

  inner_parts : (page : Contents) → is_inner f used page ≡ true → (not (page.level == 0) ≡ true) × (list_all (is_child f used) page.items ≡ true)
  unfolding are_children
  inner_parts page e = and_parts (not (page.level == 0)) (list_all (is_child f used) page.items) e

  pub inner_appended : (IsKey : B → Type 0) (spelling : B → List ℕ) → IsLawful IsKey spelling f → used < 2 ^ 32 → (page new : Contents) (item : List ℕ) (c : Child B)
      → is_inner f used page ≡ true → IsChild IsKey used c → item ≡ child_bytes spelling c → new ≡ with_items page (page.items ++ item ∷ [])
      → IsEdited f used page new ((inner_of f page).children ++ c ∷ [])
  inner_appended IsKey spelling laws room page new item c inner is bytes e =
      let two = inner_parts page inner in
      let again = child_again IsKey spelling f laws used room c is in
      edited page new (page.items ++ item ∷ []) ((inner_of f page).children ++ c ∷ []) two.0 e
      (append_pass (is_child f used) page.items item two.1 (ap (is_child f used) bytes ∙ again.0))
      (map-append (child_of f) page.items (item ∷ []) ∙ ap (λ x. map (child_of f) page.items ++ x ∷ []) (ap (child_of f) bytes ∙ again.1))

  -- a child that is read of a page is on a page in use
  pub child_taken : (item : List ℕ) → is_child f used item ≡ true → (1 ≤ (child_of f item).page) × ((child_of f item).page ≤ used)
  child_taken item e =
      let page = number_32_at item f.key in
      let outer = and_parts (length item == f.key + 4) (has_key f item && (nat_le 1 page && nat_le page used)) e in
      let inner = and_parts (has_key f item) (nat_le 1 page && nat_le page used) outer.1 in
      let range = and_parts (nat_le 1 page) (nat_le page used) inner.1 in
      (leb-true 1 page range.0, leb-true page used range.1)

  pub inner_bounded : (IsKey : B → Type 0) (spelling : B → List ℕ) → IsLawful IsKey spelling f → used < 2 ^ 32 → (page new : Contents) (slot : ℕ) (item : List ℕ) (key : B)
      → is_inner f used page ≡ true → slot < length page.items → IsKey key
      → item ≡ child_bytes spelling (bounded_by key (child_of f (get_or page.items slot []))) → new ≡ with_items page (set page.items slot item)
      → IsEdited f used page new (set (inner_of f page).children slot (bounded_by key (child_of f (get_or page.items slot []))))
  inner_bounded IsKey spelling laws room page new slot item key inner h is bytes e =
      let two = inner_parts page inner in
      let child = bounded_by key (child_of f (get_or page.items slot [])) in
      let taken = child_taken (get_or page.items slot []) (get_pass (is_child f used) page.items slot [] two.1 h) in
      let again = child_again IsKey spelling f laws used room child (record { key = is; some = taken.0; taken = taken.1 }) in
      edited page new (set page.items slot item) (set (inner_of f page).children slot child) two.0 e
      (set_pass (is_child f used) page.items slot item two.1 (ap (is_child f used) bytes ∙ again.0))
      (map-set (child_of f) page.items slot item ∙ ap (set (map (child_of f) page.items) slot) (ap (child_of f) bytes ∙ again.1))

  -- ---- sides

  pub inner_stays : (page new : Contents) (sides : List Bool) → is_inner f used page ≡ true → new ≡ with_items page (staying sides page.items)
      → IsEdited f used page new (staying sides (inner_of f page).children)
  inner_stays page new sides inner e =
      let two = inner_parts page inner in
      edited page new (staying sides page.items) (staying sides (inner_of f page).children) two.0 e (staying_pass (is_child f used) sides page.items two.1) (map-staying (child_of f) sides page.items)

-- how long a child's bytes are
pub child_long : {B : Type 0} (IsKey : B → Type 0) (spelling : B → List ℕ) (f : Format B) → IsLawful IsKey spelling f → (c : Child B) → IsKey c.key → length (child_bytes spelling c) ≡ f.key + 4
child_long IsKey spelling f laws c is =
    let long = laws.size c.key is in
    omega (arith, length-append (spelling c.key) (spell_32 c.page))

-- if more pages are taken, an inner node is one
more_children : {B : Type 0} (f : Format B) (used more : ℕ) → used ≤ more → (items : List (List ℕ)) → list_all (is_child f used) items ≡ true → list_all (is_child f more) items ≡ true
more_children f used more h [] e = refl
more_children f used more h (item ∷ items) e =
    let page = number_32_at item f.key in
    let two = and_parts (is_child f used item) (list_all (is_child f used) items) e in
    let outer = and_parts (length item == f.key + 4) (has_key f item && (nat_le 1 page && nat_le page used)) two.0 in
    let inner = and_parts (has_key f item) (nat_le 1 page && nat_le page used) outer.1 in
    let range = and_parts (nat_le 1 page) (nat_le page used) inner.1 in
    let taken : page ≤ used = leb-true page used range.1 in
    and_from (is_child f more item) (list_all (is_child f more) items)
    (and_from (length item == f.key + 4) (has_key f item && (nat_le 1 page && nat_le page more)) outer.0
    (and_from (has_key f item) (nat_le 1 page && nat_le page more) inner.0 (and_from (nat_le 1 page) (nat_le page more) range.0 (le-leb page more (omega arith)))))
    (more_children f used more h items two.1)

pub more_taken : {B : Type 0} (f : Format B) (page : Contents) (used more : ℕ) → used ≤ more → is_inner f used page ≡ true → is_inner f more page ≡ true
unfolding are_children
more_taken f page used more h e =
    let two = and_parts (not (page.level == 0)) (list_all (is_child f used) page.items) e in
    and_from (not (page.level == 0)) (list_all (is_child f more) page.items) two.0 (more_children f used more h page.items two.1)

pub blank_inner : {B : Type 0} (f : Format B) (level number used : ℕ) → 1 ≤ level → is_inner f used (blank level number) ≡ true
unfolding are_children
blank_inner f level number used h = and_from (not (level == 0)) true (ap not (ne_eqb level 0 (λ z. omega arith))) refl

pub blank_leaf : {B : Type 0} (f : Format B) (number : ℕ) → is_leaf f (blank 0 number) ≡ true
unfolding are_pairs
blank_leaf f number = refl
