-- A split, from the changes that make it.
use Rattle.std.proofs.Common.{◌≡◌, ◌≢◌, ℕ, zero, suc, ◌+◌, ◌-◌, ◌<◌, ◌≤◌, Bool, true, false, not, List, [], ◌∷◌, ◌++◌, length, map, take, set, get_or, refl, sym, ap, ◌∙◌, subst, arith}
use Rattle.std.proofs.Math.Seq.{get_or-append_seam}
use Rattle.std.proofs.lemmas.List.{length-set, length-append, set-set, get_or-set_same, get_or-set_other, take_more, take_more_set}
use Rattle.gx_node.specs.Lists.{staying, going}
use Rattle.gx_node.specs.Trees.{Node, Rules, Used, size}
use Rattle.gx_node.specs.Steps.{IsUnion, IsSplit, node_with}
use Rattle.gx_node.specs.Store.{Store, node_at, tree_of, blank, with_node, with_page, with_split}
use Rattle.gx_tree.specs.Splitting.{left_of, right_of, least_of, keys_in, parent_of, split_store, CanSplit, DidSplit}
use Rattle.gx_tree.proofs.Hits.{map-append}

-- ---- sides

-- one side more is turned
pub turned_more : (sides others : List Bool) (k : ℕ) (d : Bool) → k < length sides → length others ≡ length sides → take k others ≡ map not (take k sides)
    → (length (set others k (not (get_or sides k d))) ≡ length sides) × (take (k + 1) (set others k (not (get_or sides k d))) ≡ map not (take (k + 1) sides))
turned_more sides others k d h i e = (
  length-set others k (not (get_or sides k d)) ∙ i,
  take_more_set others k (not (get_or sides k d)) (omega (arith, h, i))
      ∙ ap (λ xs. xs ++ not (get_or sides k d) ∷ []) e
      ∙ sym (map-append not (take k sides) (get_or sides k d ∷ []))
      ∙ ap (map not) (sym (take_more sides k d h)),
)

-- what stays by the other sides is what goes
stays_turned : {X : Type 0} (sides : List Bool) (xs : List X) → length xs ≤ length sides → staying (map not sides) xs ≡ going sides xs
stays_turned sides [] h = refl
stays_turned [] (x ∷ xs) h = absurd (omega arith)
stays_turned (true ∷ sides) (x ∷ xs) h = ap (λ l. x ∷ l) (stays_turned sides xs (omega arith))
stays_turned (false ∷ sides) (x ∷ xs) h = stays_turned sides xs (omega arith)

module _ {B : Type 0} where
  pub other_half : (sides others : List Bool) (node : Node B) → others ≡ map not sides → length sides ≡ size node → left_of others node ≡ right_of sides node
  other_half sides others node e h =
      ap (λ (ss : List Bool). left_of ss node) e
      ∙ ap (λ xs. node_with node node.nsn node.right xs (staying (map not sides) node.children)) (stays_turned sides node.pairs (omega arith))
      ∙ ap (λ xs. node_with node node.nsn node.right (going sides node.pairs) xs) (stays_turned sides node.children (omega arith))

  -- ---- a page's node after a change

  -- a node that is changed twice is changed to the second
  pub changed_twice : (s : Store B) (p : ℕ) (a b : Node B) → with_node (with_node s p a) p b ≡ with_node s p b
  changed_twice s p a b = ap (λ ns. record { nodes = ns; counter = s.counter; room = s.room }) (set-set s.nodes (p - 1) a b)

  -- two changes of a node
  pub two_changes : (s one two : Store B) (p : ℕ) (a : Node B) (f : Node B → Node B)
      → one ≡ with_node s p (node_at one.nodes p) → node_at one.nodes p ≡ a
      → two ≡ with_node one p (node_at two.nodes p) → node_at two.nodes p ≡ f (node_at one.nodes p)
      → two ≡ with_node s p (f a)
  two_changes s one two p a f first is second then =
      second
      ∙ ap (λ n. with_node one p n) (then ∙ ap f is)
      ∙ ap (λ t. with_node t p (f a)) first
      ∙ changed_twice s p (node_at one.nodes p) (f a)

  -- a node that was changed
  pub at_changed : (s : Store B) (p : ℕ) (a : Node B) → 0 < p → p ≤ length s.nodes → node_at (with_node s p a).nodes p ≡ a
  at_changed s zero a low high = absurd (omega arith)
  at_changed s (suc p) a low high =
      let one : suc p - 1 ≡ p = omega arith in
      ap (λ k. get_or (set s.nodes k a) p blank) one ∙ get_or-set_same s.nodes p a blank (omega arith)

  -- another's
  pub at_other : (s : Store B) (p q : ℕ) (a : Node B) → 0 < p → q ≢ p → node_at (with_node s p a).nodes q ≡ node_at s.nodes q
  at_other s zero q a low ne = absurd (omega arith)
  at_other s (suc p) zero a low ne = refl
  at_other s (suc p) (suc q) a low ne =
      let one : suc p - 1 ≡ p = omega arith in
      ap (λ k. get_or (set s.nodes k a) q blank) one ∙ get_or-set_other s.nodes p q a blank (λ e. ne (ap suc e))

  -- the node of a page in use
  pub at_taken : (s : Store B) (a : Node B) → node_at (with_page s a).nodes (suc (length s.nodes)) ≡ a
  at_taken s a = get_or-append_seam s.nodes a [] blank

  -- another's
  pub at_untaken : (s : Store B) (q : ℕ) (a : Node B) → q ≢ suc (length s.nodes) → node_at (with_page s a).nodes q ≡ node_at s.nodes q
  at_untaken s zero a ne = refl
  at_untaken s (suc q) a ne = past s.nodes q (λ e. ne (ap suc e))
    where
      past : (ns : List (Node B)) (k : ℕ) → k ≢ length ns → get_or (ns ++ a ∷ []) k blank ≡ get_or ns k blank
      past [] zero ne = absurd (ne refl)
      past [] (suc k) ne = refl
      past (n ∷ ns) zero ne = refl
      past (n ∷ ns) (suc k) ne = past ns k (λ e. ne (ap suc e))

  -- ---- the changes of a split

  -- what a split leaves on the node's page
  abbrev pub kept_of : Node B → List Bool → ℕ → ℕ → Node B
  kept_of node sides number right = node_with node number right (staying sides node.pairs) (staying sides node.children)

  pub made : (s one two three : Store B) (page parent : ℕ) (sides others : List Bool) (left right : B) (number sibling : ℕ)
      → others ≡ map not sides → length sides ≡ size (node_at s.nodes page)
      → Used (tree_of s) page → Used (tree_of s) parent → page ≢ parent → number ≡ suc s.counter → sibling ≡ suc (length s.nodes)
      → one ≡ with_page s (left_of others (node_at s.nodes page))
      → two ≡ with_node one page (kept_of (node_at one.nodes page) sides number sibling)
      → three ≡ with_node two parent (parent_of (node_at two.nodes parent) page left sibling right)
      → with_split three ≡ split_store s page parent sides left right
  made s one two three page parent sides others left right number sibling turned as_many here above apart n k first second third =
      let old = node_at s.nodes page in
      let taken = with_page s (right_of sides old) in
      let is_one : one ≡ taken = first ∙ ap (with_page s) (other_half sides others old turned as_many) in
      let same : node_at one.nodes page ≡ old =
      ap (λ (t : Store B). node_at t.nodes page) is_one ∙ at_untaken s page (right_of sides old) (λ e. omega (arith, here.1, e)) in
      let kept = with_node taken page (kept_of old sides (suc s.counter) (suc (length s.nodes))) in
      let is_two : two ≡ kept =
      second
      ∙ ap (λ (t : Store B). with_node t page (kept_of (node_at one.nodes page) sides number sibling)) is_one
      ∙ ap (λ (m : Node B). with_node taken page (kept_of m sides number sibling)) same
      ∙ ap (λ x. with_node taken page (kept_of old sides x sibling)) n
      ∙ ap (λ x. with_node taken page (kept_of old sides (suc s.counter) x)) k in
      let same_parent : node_at two.nodes parent ≡ node_at s.nodes parent =
      ap (λ (t : Store B). node_at t.nodes parent) is_two
      ∙ at_other taken page parent (kept_of old sides (suc s.counter) (suc (length s.nodes))) here.0 (λ e. apart (sym e))
      ∙ at_untaken s parent (right_of sides old) (λ e. omega (arith, above.1, e)) in
      let is_three : three ≡ with_node kept parent (parent_of (node_at s.nodes parent) page left (suc (length s.nodes)) right) =
      third
      ∙ ap (λ (t : Store B). with_node t parent (parent_of (node_at two.nodes parent) page left sibling right)) is_two
      ∙ ap (λ (m : Node B). with_node kept parent (parent_of m page left sibling right)) same_parent
      ∙ ap (λ x. with_node kept parent (parent_of (node_at s.nodes parent) page left x right)) k in
      ap with_split is_three

  -- the parent's node before it is changed
  pub parent_before : (s one two : Store B) (page parent : ℕ) (a b : Node B) → Used (tree_of s) page → Used (tree_of s) parent → page ≢ parent
      → one ≡ with_page s a → two ≡ with_node one page b → node_at two.nodes parent ≡ node_at s.nodes parent
  parent_before s one two page parent a b here above apart first second =
      ap (λ (t : Store B). node_at t.nodes parent) second
      ∙ at_other one page parent b here.0 (λ e. apart (sym e))
      ∙ ap (λ (t : Store B). node_at t.nodes parent) first
      ∙ at_untaken s parent a (λ e. omega (arith, above.1, e))

  -- ---- what they come to

  -- the union of a node's keys is that of another node with the same entries
  pub union_alike : (r : Rules B) (key : B) (node : Node B) (number right : ℕ) → IsUnion r key node → IsUnion r key (node_with node number right node.pairs node.children)
  union_alike r key node number right union = record {
    covers = record { pairs = union.covers.pairs; children = union.covers.children };
    least = λ b bounds. union.least b (record { pairs = bounds.pairs; children = bounds.children });
  }

  pub is_split : (r : Rules B) (sides_of : List B → ℕ → List Bool) (s : Store B) (page parent slot : ℕ) (sides : List Bool) (left right : B)
      → Used (tree_of s) page → Used (tree_of s) parent → page ≢ parent → CanSplit r sides_of s page parent slot sides left right
      → IsSplit r (tree_of s) (tree_of (split_store s page parent sides left right)) page parent (sides_of (keys_in (node_at s.nodes page)) (least_of r.most)) left right
  is_split r sides_of s page parent slot sides left right here above apart can =
      let old = node_at s.nodes page in
      let new = suc (length s.nodes) in
      let half = right_of sides old in
      let kept = kept_of old sides (suc s.counter) new in
      let over = parent_of (node_at s.nodes parent) page left new right in
      let one = with_page s half in
      let two = with_node one page kept in
      let three = with_node two parent over in
      let long : length one.nodes ≡ new = omega (arith, length-append s.nodes (half ∷ [])) in
      let long_two : length two.nodes ≡ new = omega (arith, long, length-set one.nodes (page - 1) kept) in
      let long_three : length three.nodes ≡ new = omega (arith, long_two, length-set two.nodes (parent - 1) over) in
      let split : node_at three.nodes page ≡ kept =
      at_other two parent page over above.0 apart ∙ at_changed one page kept here.0 (omega (arith, long, here.1)) in
      let sibling : node_at three.nodes new ≡ half =
      at_other two parent new over above.0 (λ e. omega (arith, above.1, e))
      ∙ at_other one page new kept here.0 (λ e. omega (arith, here.1, e))
      ∙ at_taken s half in
      let halves = can.halves in
      subst (λ (ss : List Bool). IsSplit r (tree_of s) (tree_of (with_split three)) page parent ss left right) halves.split
      (record {
        parent = above;
        names = can.names.once;
        room = can.few;
        used = long_three;
        counter = refl;
        split = split;
        sibling = sibling;
        named = at_changed two parent over above.0 (omega (arith, long_two, above.1));
        others = λ q not_page not_parent not_new.
            (at_other two parent q over above.0 not_parent ∙ at_other one page q kept here.0 not_page ∙ at_untaken s q half not_new);
        left_some = subst (λ (n : Node B). 0 < size n) (sym split) halves.left_some;
        right_some = subst (λ (n : Node B). 0 < size n) (sym sibling) halves.right_some;
        left_union = subst (λ (n : Node B). IsUnion r left n) (sym split) (union_alike r left (left_of sides old) (suc s.counter) new halves.left_union);
        right_union = subst (λ (n : Node B). IsUnion r right n) (sym sibling) halves.right_union;
      })

  pub did_split : (r : Rules B) (sides_of : List B → ℕ → List Bool) (s new : Store B) (page parent slot : ℕ) (sides : List Bool) (left right : B)
      → Used (tree_of s) page → Used (tree_of s) parent → page ≢ parent → CanSplit r sides_of s page parent slot sides left right
      → new ≡ split_store s page parent sides left right
      → DidSplit r sides_of s new page parent (record { sibling = suc (length s.nodes); slot = slot; left = left; right = right })
  did_split r sides_of s new page parent slot sides left right here above apart can is =
      subst (λ (t : Store B). DidSplit r sides_of s t page parent (record { sibling = suc (length s.nodes); slot = slot; left = left; right = right })) (sym is)
      (record {
        split = is_split r sides_of s page parent slot sides left right here above apart can;
        sibling = refl;
        slot = can.names;
        room = refl;
      })
