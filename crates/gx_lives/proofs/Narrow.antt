-- A node whose entries name pages of fewer is a node of a device with that many.
use Rattle.std.proofs.Common.{◌≡◌, refl, ℕ, ◌≤◌, ◌&&◌, Bool, true, false, List, [], ◌∷◌, map, length}
use Rattle.std.specs.Prelude.{◌==◌, if◌then◌else◌, nat_le}
use Rattle.std.specs.List.{list_all}
use Rattle.std.proofs.lemmas.Bool.{le-leb}
use Rattle.gx_node.specs.Reading.{Format, are_children, are_pairs, child_of, has_key, inner_of, inner_size, is_child, is_node, leaf_of}
use Rattle.gx_page.specs.Bytes.{number_32_at}
use Rattle.gx_page.specs.Contents.{Contents}
use Rattle.gx_durable.specs.Classes.{node_of}
use Rattle.gx_recovery.proofs.Logs.{and_all}
use Rattle.gx_recovery.proofs.Tests.{and_first, and_second}
use Rattle.gx_node.specs.Lists.{Each}
use Rattle.gx_node.specs.Trees.{Child, Node}

pub each_weaker : {X : Type 0} (P Q : X → Type 0) (xs : List X) → ((x : X) → P x → Q x) → Each P xs → Each Q xs
each_weaker P Q [] weaker all = tt
each_weaker P Q (x ∷ xs) weaker all = (weaker x all.0, each_weaker P Q xs weaker all.1)

module _ {B : Type 0} (f : Format B) (n m : ℕ) where
  abbrev Fewer : Child B → Type 0
  Fewer c = c.page ≤ m

  narrow_child : (item : List ℕ) → number_32_at item f.key ≤ m → is_child f n item ≡ true → is_child f m item ≡ true
  narrow_child item few is =
      let a : Bool = length item == inner_size f in
      let b : Bool = has_key f item in
      let c : Bool = nat_le 1 (number_32_at item f.key) in
      let d : Bool = nat_le (number_32_at item f.key) n in
      let rest = and_second a (b && (c && d)) is in
      let page = and_second b (c && d) rest in
      and_all a (b && (c && nat_le (number_32_at item f.key) m)) (and_first a (b && (c && d)) is)
      (and_all b (c && nat_le (number_32_at item f.key) m) (and_first b (c && d) rest)
      (and_all c (nat_le (number_32_at item f.key) m) (and_first c d page) (le-leb (number_32_at item f.key) m few)))

  narrow_items : (items : List (List ℕ)) → Each Fewer (map (child_of f) items) → list_all (is_child f n) items ≡ true → list_all (is_child f m) items ≡ true
  narrow_items [] few is = refl
  narrow_items (item ∷ items) few is =
      and_all (is_child f m item) (list_all (is_child f m) items) (narrow_child item few.0 (and_first (is_child f n item) (list_all (is_child f n) items) is))
      (narrow_items items few.1 (and_second (is_child f n item) (list_all (is_child f n) items) is))

  narrow_children : (items : List (List ℕ)) → Each Fewer (map (child_of f) items) → are_children f n items ≡ true → are_children f m items ≡ true
  unfolding are_children
  narrow_children items few is = narrow_items items few is

  by_level : (b pairs before after : Bool) (leaf inner : Node B) → (Each Fewer inner.children → before ≡ true → after ≡ true) → Each Fewer (if b then leaf else inner).children
      → (if b then pairs else before) ≡ true → (if b then pairs else after) ≡ true
  by_level true pairs before after leaf inner narrow few is = is
  by_level false pairs before after leaf inner narrow few is = narrow few is

  pub narrow : (page : Contents) → Each Fewer (node_of f page).children → is_node f n page ≡ true → is_node f m page ≡ true
  narrow page few is =
      by_level (page.level == 0) (are_pairs f page.items) (are_children f n page.items) (are_children f m page.items) (leaf_of f page) (inner_of f page) (narrow_children page.items) few is
