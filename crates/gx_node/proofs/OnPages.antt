-- Whole pages, written and read.
use Rattle.std.proofs.Common.{◌≡◌, ◌↔◌, inl, inr, ℕ, zero, suc, ◌^◌, ◌<◌, ◌≤◌, ◌==◌, List, map, refl, sym, ap, ◌∙◌, arith, Bool, true, false, not}
use Rattle.std.specs.Prelude.{if◌then◌else◌, IsTrue}
use Rattle.std.specs.List.{list_all}
use Rattle.std.proofs.lemmas.Bool.{and_parts, and_from, eq-eqb, eqb-true, ne_eqb, cases_Bool}
use Rattle.gx_page.specs.Contents.{Contents}
use Rattle.gx_page.specs.Format.{IsWellFormed}
use Rattle.gx_node.specs.Trees.{Pair, Child, Node}
use Rattle.gx_node.specs.Entries.{HoldsPairs, HoldsChildren, HoldsNode}
use Rattle.gx_node.specs.Reading.{Format, is_pair, pair_of, is_child, child_of, are_pairs, are_children, is_leaf, is_inner, is_node, leaf_of, inner_of}
use Rattle.gx_node.proofs.Parts.{IsLawful}
use Rattle.gx_node.proofs.Pairs.{pairs_again, pairs_only}
use Rattle.gx_node.proofs.Children.{children_again, children_only}

above_zero : (n : ℕ) → (n == 0) ≡ false → 1 ≤ n
above_zero zero e = cc
above_zero (suc n) e = omega arith

not_zero : (n : ℕ) → 1 ≤ n → (n == 0) ≡ false
not_zero n h = ne_eqb n 0 (λ e. omega arith)

not_true : (t : Bool) → not t ≡ true → t ≡ false
not_true true e = cc
not_true false e = refl

module _ {B : Type 0} (IsKey : B → Type 0) (spelling : B → List ℕ) (f : Format B) (laws : IsLawful IsKey spelling f) where
  pairs_hold : (page : Contents) → IsWellFormed page → (page.level == 0) ≡ true → are_pairs f page.items ≡ true → HoldsPairs IsKey spelling page (map (pair_of f) page.items)
  unfolding are_pairs
  pairs_hold page w level e =
      let is = pairs_only IsKey spelling f laws page.items w.items e in
      record { leaf = eqb-true page.level 0 level; each = is.0; items = is.1 }

  pub leaf_told : (page : Contents) → IsWellFormed page → is_leaf f page ≡ true → HoldsPairs IsKey spelling page (leaf_of f page).pairs
  leaf_told page w e =
      let two = and_parts (page.level == 0) (are_pairs f page.items) e in
      pairs_hold page w two.0 two.1

  pub leaf_back : (page : Contents) (pairs : List (Pair B)) → HoldsPairs IsKey spelling page pairs → (is_leaf f page ≡ true) × ((leaf_of f page).pairs ≡ pairs)
  unfolding are_pairs
  leaf_back page pairs h =
      let again = pairs_again IsKey spelling f laws pairs h.each in (
        and_from (page.level == 0) (list_all (is_pair f) page.items) (eq-eqb page.level 0 h.leaf) (ap (list_all (is_pair f)) h.items ∙ again.0),
        ap (map (pair_of f)) h.items ∙ again.1,
      )

  children_hold : (page : Contents) (used : ℕ) → IsWellFormed page → (page.level == 0) ≡ false → are_children f used page.items ≡ true
      → HoldsChildren IsKey spelling used page (map (child_of f) page.items)
  unfolding are_children
  children_hold page used w level e =
      let is = children_only IsKey spelling f laws used page.items w.items e in
      record { inner = above_zero page.level level; each = is.0; items = is.1 }

  pub inner_told : (page : Contents) (used : ℕ) → IsWellFormed page → is_inner f used page ≡ true → HoldsChildren IsKey spelling used page (inner_of f page).children
  inner_told page used w e =
      let two = and_parts (not (page.level == 0)) (are_children f used page.items) e in
      children_hold page used w (not_true (page.level == 0) two.0) two.1

  pub inner_back : (page : Contents) (used : ℕ) (children : List (Child B)) → used < 2 ^ 32 → HoldsChildren IsKey spelling used page children
      → (is_inner f used page ≡ true) × ((inner_of f page).children ≡ children)
  unfolding are_children
  inner_back page used children room h =
      let again = children_again IsKey spelling f laws used room children h.each in (
        and_from (not (page.level == 0)) (list_all (is_child f used) page.items) (ap not (not_zero page.level h.inner)) (ap (list_all (is_child f used)) h.items ∙ again.0),
        ap (map (child_of f)) h.items ∙ again.1,
      )

  as_leaf : (page : Contents) (used : ℕ) → IsWellFormed page → (page.level == 0) ≡ true → is_node f used page ≡ true → (node : Node B) × HoldsNode IsKey spelling used page node
  as_leaf page used w level e =
      let are : are_pairs f page.items ≡ true = ap (λ t. if t then are_pairs f page.items else are_children f used page.items) (sym level) ∙ e in
      (leaf_of f page, record { level = refl; nsn = refl; right = refl; entries = inl (pairs_hold page w level are, refl) })

  as_inner : (page : Contents) (used : ℕ) → IsWellFormed page → (page.level == 0) ≡ false → is_node f used page ≡ true → (node : Node B) × HoldsNode IsKey spelling used page node
  as_inner page used w level e =
      let are : are_children f used page.items ≡ true = ap (λ t. if t then are_pairs f page.items else are_children f used page.items) (sym level) ∙ e in
      (inner_of f page, record { level = refl; nsn = refl; right = refl; entries = inr (children_hold page used w level are, refl) })

  pub node_told : (page : Contents) (used : ℕ) → IsWellFormed page → is_node f used page ≡ true → (node : Node B) × HoldsNode IsKey spelling used page node
  node_told page used w e =
      elim (cases_Bool (page.level == 0)) [ inl level ↦ as_leaf page used w level e | inr level ↦ as_inner page used w level e ]

  pub node_back : (page : Contents) (used : ℕ) (node : Node B) → used < 2 ^ 32 → HoldsNode IsKey spelling used page node → is_node f used page ≡ true
  node_back page used node room h =
      elim h.entries [
        | inl p ↦
            let e = (leaf_back page node.pairs p.0).0 in
            let two = and_parts (page.level == 0) (are_pairs f page.items) e in
            ap (λ t. if t then are_pairs f page.items else are_children f used page.items) two.0 ∙ two.1
        | inr p ↦
            let e = (inner_back page used node.children room p.0).0 in
            let two = and_parts (not (page.level == 0)) (are_children f used page.items) e in
            ap (λ t. if t then are_pairs f page.items else are_children f used page.items) (not_true (page.level == 0) two.0) ∙ two.1
      ]

  pub node_exact : (page : Contents) (used : ℕ) (result : Bool) → used < 2 ^ 32 → IsWellFormed page → result ≡ is_node f used page
      → IsTrue result ↔ ((node : Node B) × HoldsNode IsKey spelling used page node)
  node_exact page used result room w is =
      (λ t. node_told page used w (sym is ∙ t), λ n. is ∙ node_back page used n.0 room n.1)

  pub leaf_found : (page : Contents) (result : Bool) → IsWellFormed page → page.level ≡ 0 → result ≡ are_pairs f page.items → result ≡ true
      → HoldsPairs IsKey spelling page (leaf_of f page).pairs
  leaf_found page result w level is t = leaf_told page w (and_from (page.level == 0) (are_pairs f page.items) (eq-eqb page.level 0 level) (sym is ∙ t))

  pub inner_found : (page : Contents) (used : ℕ) (result : Bool) → IsWellFormed page → (page.level ≡ 0 → ⊥) → result ≡ are_children f used page.items → result ≡ true
      → HoldsChildren IsKey spelling used page (inner_of f page).children
  inner_found page used result w level is t =
      inner_told page used w (and_from (not (page.level == 0)) (are_children f used page.items) (ap not (ne_eqb page.level 0 level)) (sym is ∙ t))

pub node_of_leaf : {B : Type 0} (f : Format B) (used : ℕ) (page : Contents) (result : Bool) → page.level ≡ 0 → result ≡ are_pairs f page.items → result ≡ is_node f used page
node_of_leaf f used page result level is =
    is ∙ sym (ap (λ (t : Bool). if t then are_pairs f page.items else are_children f used page.items) (eq-eqb page.level 0 level))

pub node_of_inner : {B : Type 0} (f : Format B) (used : ℕ) (page : Contents) (result : Bool) → (page.level ≡ 0 → ⊥) → result ≡ are_children f used page.items → result ≡ is_node f used page
node_of_inner f used page result level is =
    is ∙ sym (ap (λ (t : Bool). if t then are_pairs f page.items else are_children f used page.items) (ne_eqb page.level 0 level))
