-- A node's keys by their sides.
use Rattle.std.proofs.Common.{◌≡◌, ◌≢◌, ℕ, zero, suc, ◌+◌, ◌<◌, ◌≤◌, Bool, true, false, not, List, [], ◌∷◌, ◌++◌, length, map, take, get_or, refl, sym, ap, subst, ◌∙◌, arith, cond, if◌then◌else◌, ◌⊎◌, inl, inr, Option, Some, None, IfSome, count_by}
use Rattle.std.specs.Prelude.{◌==◌, slice_get, slice_set}
use Rattle.std.proofs.lemmas.List.Sums.{sum_by-cons}
use Rattle.std.proofs.lemmas.List.{take_more, take_more_set, take_all, length-take-le, length-map, length-set, append-nil}
use Rattle.std.proofs.Math.Seq.{take-append_seam}
use Rattle.gx_class.specs.Sides.{LeavesEach}
use Rattle.gx_page.specs.Contents.{Contents}
use Rattle.gx_node.specs.Reading.{Format, leaf_of, inner_of, pair_of, child_of}
use Rattle.gx_node.specs.Lists.{Each, staying, going}
use Rattle.gx_node.specs.Trees.{Pair, Child, Node, Rules, size}
use Rattle.gx_node.specs.Steps.{IsUnion}
use Rattle.gx_node.proofs.Sums.{each-map, each_unmap, map_parted_staying, map_parted_going}
use Rattle.gx_tree.specs.Halved.{Halved}
use Rattle.gx_tree.specs.Splitting.{AreHalves, HalvesKeys, Unites, UnitesAny, keys_in, least_of, left_of, right_of, on_side}
use Rattle.gx_node.specs.Store.{node_of}

one_added : (y : Bool) (n : ℕ) → cond y 1 0 + n ≡ cond y (suc n) n
one_added true n = omega arith
one_added false n = omega arith

count_by-cons : (p : Bool → Bool) (b : Bool) (bs : List Bool) → count_by p (b ∷ bs) ≡ cond (p b) (suc (count_by p bs)) (count_by p bs)
count_by-cons p b bs = sum_by-cons (λ x. cond (p x) 1 0) b bs ∙ one_added (p b) (count_by p bs)

-- what was written over the first so many
pub written : (n : ℕ) (first rest : List Bool) → length first ≡ n → take n (first ++ rest) ≡ first
written n first rest long = ap (λ m. take m (first ++ rest)) (sym long) ∙ take-append_seam first rest

module _ {X : Type 0} where
  -- ---- sides, element by element

  on_side-append : (side : Bool) (sides more : List Bool) (xs ys : List X) → length sides ≡ length xs
      → on_side side (sides ++ more) (xs ++ ys) ≡ on_side side sides xs ++ on_side side more ys
  on_side-append false [] more [] ys long = refl
  on_side-append true [] more [] ys long = refl
  on_side-append side [] more (x ∷ xs) ys long = absurd (omega arith)
  on_side-append side (b ∷ sides) more [] ys long = absurd (omega arith)
  on_side-append false (true ∷ sides) more (x ∷ xs) ys long = on_side-append false sides more xs ys (omega arith)
  on_side-append false (false ∷ sides) more (x ∷ xs) ys long = ap (λ l. x ∷ l) (on_side-append false sides more xs ys (omega arith))
  on_side-append true (true ∷ sides) more (x ∷ xs) ys long = ap (λ l. x ∷ l) (on_side-append true sides more xs ys (omega arith))
  on_side-append true (false ∷ sides) more (x ∷ xs) ys long = on_side-append true sides more xs ys (omega arith)

  one_here : (side b : Bool) (x : X) → b ≡ side → on_side side (b ∷ []) (x ∷ []) ≡ x ∷ []
  one_here false false x e = refl
  one_here false true x e = cc
  one_here true false x e = cc
  one_here true true x e = refl

  one_past : (side b : Bool) (x : X) → b ≢ side → on_side side (b ∷ []) (x ∷ []) ≡ []
  one_past false false x e = absurd (e refl)
  one_past false true x e = refl
  one_past true false x e = refl
  one_past true true x e = absurd (e refl)

  one_more : (side : Bool) (sides : List Bool) (xs : List X) (slot : ℕ) (d : X) → length sides ≡ length xs → slot < length xs
      → on_side side (take (slot + 1) sides) (take (slot + 1) xs)
      ≡ on_side side (take slot sides) (take slot xs) ++ on_side side (get_or sides slot false ∷ []) (get_or xs slot d ∷ [])
  one_more side sides xs slot d long h =
      ap (λ s. on_side side s (take (slot + 1) xs)) (take_more sides slot false (omega arith))
      ∙ ap (on_side side (take slot sides ++ get_or sides slot false ∷ [])) (take_more xs slot d h)
      ∙ on_side-append side (take slot sides) (get_or sides slot false ∷ []) (take slot xs) (get_or xs slot d ∷ [])
      (omega (arith, length-take-le slot sides (omega arith), length-take-le slot xs (omega arith)))

  -- the key in a slot is on the side, or not
  pub side_here : (side : Bool) (sides : List Bool) (xs : List X) (slot : ℕ) (d : X) → length sides ≡ length xs → slot < length xs → get_or sides slot false ≡ side
      → on_side side (take (slot + 1) sides) (take (slot + 1) xs) ≡ on_side side (take slot sides) (take slot xs) ++ get_or xs slot d ∷ []
  side_here side sides xs slot d long h e =
      one_more side sides xs slot d long h ∙ ap (λ l. on_side side (take slot sides) (take slot xs) ++ l) (one_here side (get_or sides slot false) (get_or xs slot d) e)

  pub side_past : (side : Bool) (sides : List Bool) (xs : List X) (slot : ℕ) (d : X) → length sides ≡ length xs → slot < length xs → get_or sides slot false ≢ side
      → on_side side (take (slot + 1) sides) (take (slot + 1) xs) ≡ on_side side (take slot sides) (take slot xs)
  side_past side sides xs slot d long h e =
      one_more side sides xs slot d long h ∙ ap (λ l. on_side side (take slot sides) (take slot xs) ++ l) (one_past side (get_or sides slot false) (get_or xs slot d) e)
      ∙ append-nil (on_side side (take slot sides) (take slot xs))

  -- ---- how many are on each

  length-staying : (sides : List Bool) (xs : List X) → length sides ≡ length xs → length (staying sides xs) ≡ count_by not sides
  length-staying [] [] long = refl
  length-staying [] (x ∷ xs) long = absurd (omega arith)
  length-staying (b ∷ sides) [] long = absurd (omega arith)
  length-staying (true ∷ sides) (x ∷ xs) long = length-staying sides xs (omega arith) ∙ sym (count_by-cons not true sides)
  length-staying (false ∷ sides) (x ∷ xs) long = ap suc (length-staying sides xs (omega arith)) ∙ sym (count_by-cons not false sides)

  length-going : (sides : List Bool) (xs : List X) → length sides ≡ length xs → length (going sides xs) ≡ count_by (λ side. side) sides
  length-going [] [] long = refl
  length-going [] (x ∷ xs) long = absurd (omega arith)
  length-going (b ∷ sides) [] long = absurd (omega arith)
  length-going (true ∷ sides) (x ∷ xs) long = ap suc (length-going sides xs (omega arith)) ∙ sym (count_by-cons (λ side. side) true sides)
  length-going (false ∷ sides) (x ∷ xs) long = length-going sides xs (omega arith) ∙ sym (count_by-cons (λ side. side) false sides)

  -- a fair split leaves no side empty
  some_stay : (sides : List Bool) (xs : List X) (least : ℕ) → LeavesEach (length xs) least sides → 1 ≤ least → on_side false sides xs ≢ []
  some_stay sides xs least fair one none = omega (arith, fair.first_has, one, length-staying sides xs fair.each_has_one, ap length none)

  some_go : (sides : List Bool) (xs : List X) (least : ℕ) → LeavesEach (length xs) least sides → 1 ≤ least → on_side true sides xs ≢ []
  some_go sides xs least fair one none = omega (arith, fair.second_has, one, length-going sides xs fair.each_has_one, ap length none)

  none_united : (inside : X → X → Bool) (o : Option X) (xs : List X) → UnitesAny inside o xs → o ≡ None → xs ≡ []
  none_united inside None xs u e = u
  none_united inside (Some union) xs u e = cc

  pub left_united : (inside : X → X → Bool) (o : Option X) (sides picked : List Bool) (xs : List X) (least : ℕ) → UnitesAny inside o (on_side false sides xs)
      → sides ≡ picked → LeavesEach (length xs) least picked → 1 ≤ least → o ≢ None
  left_united inside o sides picked xs least u same fair one none =
      some_stay sides xs least (subst (LeavesEach (length xs) least) (sym same) fair) one (none_united inside o (on_side false sides xs) u none)

  pub right_united : (inside : X → X → Bool) (o : Option X) (sides picked : List Bool) (xs : List X) (least : ℕ) → UnitesAny inside o (on_side true sides xs)
      → sides ≡ picked → LeavesEach (length xs) least picked → 1 ≤ least → o ≢ None
  right_united inside o sides picked xs least u same fair one none =
      some_go sides xs least (subst (LeavesEach (length xs) least) (sym same) fair) one (none_united inside o (on_side true sides xs) u none)

module _ {X Y : Type 0} where
  -- ---- what is made of each, slot by slot

  made_at : (f : X → Y) (xs : List X) (slot : ℕ) (x : X) (d : Y) → slice_get xs slot ≡ Some x → get_or (map f xs) slot d ≡ f x
  made_at f [] slot x d at = cc
  made_at f (y ∷ xs) zero x d at = let same : y ≡ x = cc in ap f same
  made_at f (y ∷ xs) (suc slot) x d at = made_at f xs slot x d at

  pub filled : (f : X → Y) (xs : List X) (ys : List Y) (slot : ℕ) (x : X) → length ys ≡ length xs → slot < length xs → slice_get xs slot ≡ Some x
      → take slot ys ≡ take slot (map f xs)
      → (length (slice_set ys slot (f x)) ≡ length xs) × (take (slot + 1) (slice_set ys slot (f x)) ≡ take (slot + 1) (map f xs))
  filled f xs ys slot x long h at so_far = (
    length-set ys slot (f x) ∙ long,
    take_more_set ys slot (f x) (omega arith)
        ∙ ap (λ l. l ++ f x ∷ []) so_far
        ∙ ap (λ y. take slot (map f xs) ++ y ∷ []) (sym (made_at f xs slot x (f x) at))
        ∙ sym (take_more (map f xs) slot (f x) (omega (arith, length-map xs f))),
  )

  pub all_filled : (f : X → Y) (xs : List X) (ys : List Y) (n : ℕ) → length ys ≡ length xs → length xs ≤ n
      → take n ys ≡ take n (map f xs) → ys ≡ map f xs
  all_filled f xs ys n long h e =
      sym (take_all n ys (omega arith)) ∙ e ∙ take_all n (map f xs) (omega (arith, length-map xs f))

module _ {B : Type 0} (r : Rules B) where
  -- ---- a union of keys is one of the node that has them

  leaf_union : (key : B) (node : Node B) → node.children ≡ [] → Unites (λ a b. r.covers b a) key (map (λ x. x.key) node.pairs) → IsUnion r key node
  leaf_union key node none u = record {
    covers = record {
      pairs = each_unmap (λ k. r.covers key k ≡ true) (λ x. x.key) node.pairs u.covers;
      children = subst (Each (λ c. r.covers key c.key ≡ true)) (sym none) tt;
    };
    least = λ b bounds. u.least b (each-map (λ k. r.covers b k ≡ true) (λ x. x.key) node.pairs bounds.pairs);
  }

  inner_union : (key : B) (node : Node B) → node.pairs ≡ [] → Unites (λ a b. r.covers b a) key (map (λ c. c.key) node.children) → IsUnion r key node
  inner_union key node none u = record {
    covers = record {
      pairs = subst (Each (λ x. r.covers key x.key ≡ true)) (sym none) tt;
      children = each_unmap (λ k. r.covers key k ≡ true) (λ c. c.key) node.children u.covers;
    };
    least = λ b bounds. u.least b (each-map (λ k. r.covers b k ≡ true) (λ c. c.key) node.children bounds.children);
  }

  -- ---- a split of a node's keys is one of its entries

  pub leaf_halves : (sides_of : List B → ℕ → List Bool) (node : Node B) (h : Halved B) → node.children ≡ []
      → HalvesKeys (λ a b. r.covers b a) (sides_of (keys_in node) (least_of r.most)) (keys_in node) h → AreHalves r sides_of node h.sides h.left h.right
  leaf_halves sides_of node h none is =
      let key : Pair B → B = λ x. x.key in
      let same : keys_in node ≡ map key node.pairs = ap (λ cs. map key node.pairs ++ map (λ c. c.key) cs) none ∙ append-nil (map key node.pairs) in
      let stays : staying h.sides (keys_in node) ≡ map key (staying h.sides node.pairs) = ap (staying h.sides) same ∙ sym (map_parted_staying key h.sides node.pairs) in
      let goes : going h.sides (keys_in node) ≡ map key (going h.sides node.pairs) = ap (going h.sides) same ∙ sym (map_parted_going key h.sides node.pairs) in
      let left : Unites (λ a b. r.covers b a) h.left (map key (staying h.sides node.pairs)) = subst (Unites (λ a b. r.covers b a) h.left) stays is.left in
      let right : Unites (λ a b. r.covers b a) h.right (map key (going h.sides node.pairs)) = subst (Unites (λ a b. r.covers b a) h.right) goes is.right in
      record {
        split = is.split;
        as_many = omega (arith, is.as_many, ap length same, length-map node.pairs key, ap length none);
        left_some = omega (arith, left.some, length-map (staying h.sides node.pairs) key);
        right_some = omega (arith, right.some, length-map (going h.sides node.pairs) key);
        left_union = leaf_union h.left (left_of h.sides node) (ap (staying h.sides) none) left;
        right_union = leaf_union h.right (right_of h.sides node) (ap (going h.sides) none) right;
      }

  pub inner_halves : (sides_of : List B → ℕ → List Bool) (node : Node B) (h : Halved B) → node.pairs ≡ []
      → HalvesKeys (λ a b. r.covers b a) (sides_of (keys_in node) (least_of r.most)) (keys_in node) h → AreHalves r sides_of node h.sides h.left h.right
  inner_halves sides_of node h none is =
      let key : Child B → B = λ c. c.key in
      let same : keys_in node ≡ map key node.children = ap (λ xs. map (λ x. x.key) xs ++ map key node.children) none in
      let stays : staying h.sides (keys_in node) ≡ map key (staying h.sides node.children) = ap (staying h.sides) same ∙ sym (map_parted_staying key h.sides node.children) in
      let goes : going h.sides (keys_in node) ≡ map key (going h.sides node.children) = ap (going h.sides) same ∙ sym (map_parted_going key h.sides node.children) in
      let left : Unites (λ a b. r.covers b a) h.left (map key (staying h.sides node.children)) = subst (Unites (λ a b. r.covers b a) h.left) stays is.left in
      let right : Unites (λ a b. r.covers b a) h.right (map key (going h.sides node.children)) = subst (Unites (λ a b. r.covers b a) h.right) goes is.right in
      record {
        split = is.split;
        as_many = omega (arith, is.as_many, ap length same, length-map node.children key, ap length none);
        left_some = omega (arith, left.some, length-map (staying h.sides node.children) key);
        right_some = omega (arith, right.some, length-map (going h.sides node.children) key);
        left_union = inner_union h.left (left_of h.sides node) (ap (staying h.sides) none) left;
        right_union = inner_union h.right (right_of h.sides node) (ap (going h.sides) none) right;
      }

  halves_either : (sides_of : List B → ℕ → List Bool) (node : Node B) (h : Halved B) → (node.children ≡ []) ⊎ (node.pairs ≡ [])
      → HalvesKeys (λ a b. r.covers b a) (sides_of (keys_in node) (least_of r.most)) (keys_in node) h → AreHalves r sides_of node h.sides h.left h.right
  halves_either sides_of node h (inl none) is = leaf_halves sides_of node h none is
  halves_either sides_of node h (inr none) is = inner_halves sides_of node h none is

  one_empty : (leaf : Bool) (first second : Node B) → first.children ≡ [] → second.pairs ≡ []
      → ((if leaf then first else second).children ≡ []) ⊎ ((if leaf then first else second).pairs ≡ [])
  one_empty true first second none none' = inl none
  one_empty false first second none none' = inr none'

  -- what is found of a page's keys is found of its node
  pub node_halves : (f : Format B) (page : Contents) (sides_of : List B → ℕ → List Bool) (keys : List B) (o : Option (Halved B)) → keys ≡ keys_in (node_of f page)
      → IfSome o (HalvesKeys (λ a b. r.covers b a) (sides_of keys (least_of r.most)) keys)
      → IfSome o (λ h. AreHalves r sides_of (node_of f page) h.sides h.left h.right)
  node_halves f page sides_of keys None e is = tt
  node_halves f page sides_of keys (Some h) e is =
      halves_either sides_of (node_of f page) h (one_empty (page.level == 0) (leaf_of f page) (inner_of f page) refl refl)
      (subst (λ ks. HalvesKeys (λ a b. r.covers b a) (sides_of ks (least_of r.most)) ks h) e is)

size_either : {B : Type 0} (f : Format B) (page : Contents) (leaf : Bool) → size (if leaf then leaf_of f page else inner_of f page) ≡ length page.items
size_either f page true = omega (arith, length-map page.items (pair_of f))
size_either f page false = omega (arith, length-map page.items (child_of f))

-- a page's node has an entry for each item
pub size_is : {B : Type 0} (f : Format B) (page : Contents) → size (node_of f page) ≡ length page.items
size_is f page = size_either f page (page.level == 0)
