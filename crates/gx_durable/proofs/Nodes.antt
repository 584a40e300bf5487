-- A node's page is read as that node.
use Rattle.std.proofs.Common.{◌≡◌, ◌∙◌, sym, ap, refl, inl, inr, ℕ, ◌<◌, ◌≤◌, ◌^◌, Bool, true, false, List, [], arith}
use Rattle.std.specs.Prelude.{◌==◌, if◌then◌else◌}
use Rattle.std.proofs.lemmas.Bool.{eq-eqb, eqb-true}
use Rattle.gx_page.specs.Contents.{Contents}
use Rattle.gx_page.specs.Format.{image_of, IsWellFormed}
use Rattle.gx_page.specs.Reading.{read_of}
use Rattle.gx_page.proofs.Images.{read-image}
use Rattle.gx_node.specs.Trees.{Pair, Child, Node}
use Rattle.gx_node.specs.Entries.{HoldsNode}
use Rattle.gx_node.specs.Laws.{HeldPairsAreRead, HeldChildrenAreRead}
use Rattle.gx_node.specs.Reading.{Format, leaf_of, inner_of}
use Rattle.gx_recovery.proofs.Tests.{true_or_false}
use Rattle.gx_index_laws.specs.Classes.{Page}
use Rattle.gx_durable.specs.Classes.{node_of, page_of}

module _ {B : Type 0} where
  same_node : (l l' n n' r r' : ℕ) (p p' : List (Pair B)) (c c' : List (Child B)) → l ≡ l' → n ≡ n' → r ≡ r' → p ≡ p' → c ≡ c'
      → ◌≡◌ {A = Node B} (record { level = l; nsn = n; right = r; pairs = p; children = c }) (record { level = l'; nsn = n'; right = r'; pairs = p'; children = c' })
  same_node l l' n n' r r' p p' c c' a b d e f = rw (a, b, d, e, f) refl

  pub same_page : {m : Node B} (n : Node B) {a : ℕ} (own : ℕ) (bytes : List ℕ) → m ≡ n → a ≡ own
      → ◌≡◌ {A = Page B} (record { node = m; own = a; bytes = bytes }) (record { node = n; own = own; bytes = bytes })
  same_page n own bytes node number = rw (node, number) refl

  chosen_leaf : (b : Bool) (x y : Node B) → b ≡ true → (if b then x else y) ≡ x
  chosen_leaf true x y is = refl
  chosen_leaf false x y is = cc

  chosen_inner : (b : Bool) (x y : Node B) → b ≡ false → (if b then x else y) ≡ y
  chosen_inner true x y is = cc
  chosen_inner false x y is = refl

above : (level : ℕ) → 1 ≤ level → (level == 0) ≡ false
above level some = elim (true_or_false (level == 0)) [
  | inl is ↦ absurd (let none : level ≡ 0 = eqb-true level 0 is in omega (arith, none, some))
  | inr not_so ↦ not_so
]

module _ {B : Type 0} (IsKey : B → Type 0) (spelling : B → List ℕ) (f : Format B) (pairs_read : HeldPairsAreRead IsKey spelling f) (children_read : HeldChildrenAreRead IsKey spelling f) where
  holds : (page : Contents) (used : ℕ) (node : Node B) → used < 2 ^ 32 → HoldsNode IsKey spelling used page node → node_of f page ≡ node
  holds page used node few has = elim (has.entries) [
    | inl leaf ↦
        chosen_leaf (page.level == 0) (leaf_of f page) (inner_of f page) (eq-eqb page.level 0 leaf.0.leaf)
        ∙ same_node page.level node.level page.nsn node.nsn page.right node.right (leaf_of f page).pairs node.pairs [] node.children
        (sym has.level) (sym has.nsn) (sym has.right) (pairs_read page node.pairs leaf.0).1 (sym leaf.1)
    | inr inner ↦
        chosen_inner (page.level == 0) (leaf_of f page) (inner_of f page) (above page.level inner.0.inner)
        ∙ same_node page.level node.level page.nsn node.nsn page.right node.right [] node.pairs (inner_of f page).children node.children
        (sym has.level) (sym has.nsn) (sym has.right) (sym inner.1) (children_read page used node.children few inner.0).1
  ]

  -- so where the bytes are that page's image
  pub node_is : (page : Contents) (used : ℕ) (node : Node B) (bytes : List ℕ) → IsWellFormed page → used < 2 ^ 32 → HoldsNode IsKey spelling used page node → bytes ≡ image_of page
      → page_of f bytes ≡ record { node = node; own = page.number; bytes = bytes }
  node_is page used node bytes formed few has is =
      let contents : read_of bytes ≡ page = ap read_of is ∙ read-image page formed in
      same_page node page.number bytes (ap (node_of f) contents ∙ holds page used node few has) (ap (λ (x : Contents). x.number) contents)

  pub node_read : (page : Contents) (used : ℕ) (node : Node B) → IsWellFormed page → used < 2 ^ 32 → HoldsNode IsKey spelling used page node
      → page_of f (image_of page) ≡ record { node = node; own = page.number; bytes = image_of page }
  node_read page used node formed few has = node_is page used node (image_of page) formed few has refl
