-- What a widening makes of an inner page's items.
use Rattle.std.proofs.Common.{◌≡◌, ◌≢◌, ◌∙◌, sym, ap, refl, subst, ℕ, zero, suc, ◌<◌, true, false, not, ◌&&◌, ◌==◌, List, [], ◌∷◌, ◌++◌, length, map, set, Some, arith}
use Rattle.std.specs.Prelude.{if◌then◌else◌, is_some, nat_lt, slice_get}
use Rattle.std.specs.List.{All, list_all}
use Rattle.std.proofs.lemmas.Bool.{and_from, and_parts, lt-ltb, ne_eqb}
use Rattle.std.proofs.lemmas.List.{drop_at, length-map, map-set}
use Rattle.std.proofs.lemmas.List.Elements.{All-head, All-tail}
use Rattle.gx_page.specs.Contents.{Contents}
use Rattle.gx_page.specs.Edits.{with_items}
use Rattle.gx_page.specs.Format.{IsWellFormed}
use Rattle.gx_page.specs.Bytes.{spell_32}
use Rattle.gx_node.specs.Steps.{node_with}
use Rattle.gx_node.specs.Trees.{Child, Node}
use Rattle.gx_node.specs.Edits.{bounded_by, with_children}
use Rattle.gx_node.specs.Entries.{IsChild, child_bytes}
use Rattle.gx_node.specs.Laws.{InnersHold}
use Rattle.gx_node.specs.Reading.{Format, are_children, are_pairs, child_of, has_key, inner_of, is_child, is_inner, is_node, leaf_of}
use Rattle.gx_node.specs.Small.{are_bounds, bound_fits, bound_made, is_bound, item_bounded}
use Rattle.gx_node.specs.Store.{node_of}
use Rattle.gx_node.proofs.Slots.{made_at}
use Rattle.gx_storage.proofs.SmallLeaf.{node_level, same_contents}

-- a page's node above level 0 is an inner node's
inner_node : {B : Type 0} (f : Format B) (c : Contents) → 0 < c.level → node_of f c ≡ inner_of f c
inner_node {B} f c above =
    let other : c.level ≢ 0 = omega arith in
    ap (λ b. (let n : Node B = if b then leaf_of f c else inner_of f c in n)) (ne_eqb c.level 0 other)

inner_is : {B : Type 0} (f : Format B) (used : ℕ) (c : Contents) → 0 < c.level → is_node f used c ≡ true → is_inner f used c ≡ true
inner_is f used c above node =
    let other : c.level ≢ 0 = omega arith in
    let above_zero : (c.level == 0) ≡ false = ne_eqb c.level 0 other in
    ap (λ b. not b && are_children f used c.items) above_zero ∙ (sym (ap (λ b. if b then are_pairs f c.items else are_children f used c.items) above_zero) ∙ node)

-- ---- entries of an inner node

there_below : {X : Type 0} (xs : List X) (slot : ℕ) (x : X) → slice_get xs slot ≡ Some x → slot < length xs
there_below [] slot x there = cc
there_below (y ∷ xs) zero x there = omega arith
there_below (y ∷ xs) (suc slot) x there = omega (arith, there_below xs slot x there)

key_at : {B : Type 0} (IsKey : B → Type 0) (used : ℕ) (children : List (Child B)) (slot : ℕ) (child : Child B) → All (IsChild IsKey used) children → slice_get children slot ≡ Some child → IsKey child.key
key_at IsKey used [] slot child each there = cc
key_at {B} IsKey used (c ∷ children) zero child each there =
    let same : c ≡ child = cc in
    subst {A = Child B} (λ x. IsKey x.key) same (All-head (IsChild IsKey used) c children each).key
key_at IsKey used (c ∷ children) (suc slot) child each there = key_at IsKey used children slot child (All-tail (IsChild IsKey used) c children each) there

-- entries are bounds
entries_bounds : {B : Type 0} (f : Format B) (used : ℕ) (items : List (List ℕ)) → list_all (is_child f used) items ≡ true → list_all (is_bound f) items ≡ true
entries_bounds f used [] are = refl
entries_bounds f used (item ∷ items) are =
    let two = and_parts (is_child f used item) (list_all (is_child f used) items) are in
    let outer = and_parts _ _ two.0 in
    let key = and_parts (has_key f item) _ outer.1 in
    and_from (is_bound f item) (list_all (is_bound f) items) (and_from _ (has_key f item) outer.0 key.0) (entries_bounds f used items two.1)

inner_bounds : {B : Type 0} (f : Format B) (used : ℕ) (c : Contents) → is_inner f used c ≡ true → (not (c.level == 0) ≡ true) × (are_bounds f c.items ≡ true)
unfolding are_children are_bounds
inner_bounds f used c inner =
    let two = and_parts (not (c.level == 0)) (list_all (is_child f used) c.items) inner in
    (two.0, entries_bounds f used c.items two.1)

module _ {B : Type 0} (IsKey : B → Type 0) (spelling : B → List ℕ) (f : Format B) where
  -- an entry's item with another key is the entry's with that bound
  item_spelled : ((key : B) → IsKey key → length (spelling key) ≡ f.key) → (key : B) (child : Child B) → IsKey child.key
      → item_bounded f (spelling key) (child_bytes spelling child) ≡ child_bytes spelling (bounded_by key child)
  item_spelled long key child is = ap (λ (rest : List ℕ). spelling key ++ rest) (drop_at (spelling child.key) (spell_32 child.page) f.key (long child.key is))

  -- an inner node with other children and the same number has their spellings as its items
  inner_made : InnersHold IsKey spelling f → (used : ℕ) (a b : Contents) (children : List (Child B)) (items : List (List ℕ)) → IsWellFormed b → is_inner f used b ≡ true → b.number ≡ a.number
      → inner_of f b ≡ with_children (inner_of f a) children → map (child_bytes spelling) children ≡ items → b ≡ with_items a items
  inner_made hold used a b children items well inner number is spelled =
      same_contents b (with_items a items) (ap (λ (n : Node B). n.level) is) (ap (λ (n : Node B). n.nsn) is) (ap (λ (n : Node B). n.right) is) number
      ((hold b used well inner).items ∙ ap (λ (n : Node B). map (child_bytes spelling) n.children) is ∙ spelled)

-- an inner node's page, and a slot of it that is a child's
module _ {B : Type 0} (f : Format B) (used : ℕ) (a : Contents) (old : Node B) (slot : ℕ) (child : Child B) (node : is_node f used a ≡ true) (is_old : old ≡ node_of f a) (above : 0 < old.level)
    (there : slice_get old.children slot ≡ Some child) where
  level_then : 0 < a.level
  level_then = let same = ap (λ (n : Node B). n.level) is_old in omega (arith, same, node_level f a)

  is_then : old ≡ inner_of f a
  is_then = is_old ∙ inner_node f a level_then

  inner_then : is_inner f used a ≡ true
  inner_then = inner_is f used a level_then node

  there_then : slice_get (inner_of f a).children slot ≡ Some child
  there_then = subst (λ (n : Node B). slice_get n.children slot ≡ Some child) is_then there

  -- the slot takes the bytes of a key as its bound
  pub bound_takes : (bytes : List ℕ) → is_some (f.reading bytes) ≡ true → bound_fits f slot bytes a ≡ true
  bound_takes bytes read =
      let two = inner_bounds f used a inner_then in
      let below : slot < length a.items = omega (arith, there_below (inner_of f a).children slot child there_then, length-map a.items (child_of f)) in
      and_from (not (a.level == 0)) _ two.0 (and_from (are_bounds f a.items) _ two.1 (and_from (nat_lt slot (length a.items)) (is_some (f.reading bytes)) (lt-ltb slot (length a.items) below) read))

  module _ (IsKey : B → Type 0) (spelling : B → List ℕ) (long : (key : B) → IsKey key → length (spelling key) ≡ f.key) (hold : InnersHold IsKey spelling f) (key : B) (well : IsWellFormed a) where
    spelled_now : map (child_bytes spelling) (set (inner_of f a).children slot (bounded_by key child)) ≡ bound_made f slot (spelling key) a.items
    spelled_now =
        let holds = hold a used well inner_then in
        let is_key = key_at IsKey used (inner_of f a).children slot child holds.each there_then in
        map-set (child_bytes spelling) (inner_of f a).children slot (bounded_by key child)
        ∙ ap (λ (item : List ℕ). set (map (child_bytes spelling) (inner_of f a).children) slot item)
        (sym (ap (λ (item : List ℕ). item_bounded f (spelling key) item) (made_at (child_bytes spelling) (inner_of f a).children slot child [] there_then)
        ∙ item_spelled IsKey spelling f long key child is_key))
        ∙ ap (λ (items : List (List ℕ)). bound_made f slot (spelling key) items) (sym holds.items)

    -- with another bound in the slot, the page has the slot's item with that key
    module _ (b : Contents) (new : Node B) (well_now : IsWellFormed b) (node_now : is_node f used b ≡ true) (number : b.number ≡ a.number) (is_new : new ≡ node_of f b)
        (made : new ≡ node_with old old.nsn old.right old.pairs (set old.children slot (bounded_by key child))) where
      level_now : 0 < b.level
      level_now =
          let same = ap (λ (n : Node B). n.level) is_new in
          let stays = ap (λ (n : Node B). n.level) made in
          omega (arith, same, stays, above, node_level f b)

      children_now : inner_of f b ≡ with_children (inner_of f a) (set (inner_of f a).children slot (bounded_by key child))
      children_now =
          sym (inner_node f b level_now) ∙ sym is_new ∙ made
          ∙ ap (λ (n : Node B). node_with n n.nsn n.right n.pairs (set n.children slot (bounded_by key child))) is_then

      pub bound_in_slot : b ≡ with_items a (bound_made f slot (spelling key) a.items)
      bound_in_slot = inner_made IsKey spelling f hold used a b _ _ well_now (inner_is f used b level_now node_now) number children_now spelled_now
