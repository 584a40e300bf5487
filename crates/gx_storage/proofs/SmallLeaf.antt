-- What a tree's step on one page makes of that page's items.
use Rattle.std.proofs.Common.{◌≡◌, ◌∙◌, sym, ap, refl, ℕ, ◌≤◌, Bool, true, false, ◌&&◌, ◌==◌, List, [], ◌∷◌, ◌++◌, Some}
use Rattle.std.specs.Prelude.{if◌then◌else◌, map}
use Rattle.std.proofs.lemmas.Bool.{eq-eqb, le-leb}
use Rattle.std.proofs.lemmas.List.{map-append}
use Rattle.gx_machine.specs.declared.entry.Entry.{Entry}
use Rattle.gx_disk.specs.Device.{Device}
use Rattle.gx_page.specs.Contents.{Contents}
use Rattle.gx_page.specs.Edits.{with_items}
use Rattle.gx_page.specs.Format.{IsWellFormed}
use Rattle.gx_page.specs.Reading.{read_of}
use Rattle.gx_pool.specs.Area.{IsPassing, bytes_of}
use Rattle.gx_pool.specs.State.{Kept, kept}
use Rattle.gx_node.specs.Steps.{node_with}
use Rattle.gx_node.specs.Trees.{Node, Pair}
use Rattle.gx_node.specs.Edits.{with_pairs}
use Rattle.gx_node.specs.Entries.{pair_bytes}
use Rattle.gx_node.specs.Laws.{LeavesHold}
use Rattle.gx_node.specs.Reading.{Format, are_children, are_pairs, inner_of, is_leaf, is_node, leaf_of}
use Rattle.gx_node.specs.Small.{pair_made}
use Rattle.gx_node.specs.Store.{node_of, tree_of}
use Rattle.gx_index_laws.specs.Classes.{Page}
use Rattle.gx_recovery.specs.Known.{Known}
use Rattle.gx_recovery.specs.Logged.{Logged}
use Rattle.gx_recovery.specs.Records.{Record}
use Rattle.gx_durable.specs.Stored.{bytes_by}
use Rattle.gx_durable.specs.Classes.{reading_of}
use Rattle.gx_store.specs.Standing.{standing_node, store_of}
use Rattle.gx_store.specs.State.{IsHeld, Shelf}
use Rattle.gx_store.proofs.Listed.{node_there}
use Rattle.gx_store.proofs.Shown.{stands_kept, stands_shown}
use Rattle.gx_storage.specs.Keeps.{Keeps}
use Rattle.gx_storage.specs.State.{Volume}
use Rattle.gx_storage.proofs.Recording.{AreNodes, by_bytes}
use Rattle.gx_storage.proofs.Shown.{bytes_shown}

pub same_contents : (a b : Contents) → a.level ≡ b.level → a.nsn ≡ b.nsn → a.right ≡ b.right → a.number ≡ b.number → a.items ≡ b.items → a ≡ b
same_contents a b level nsn right number items =
    ap (λ x. (let c : Contents = record { level = x; nsn = a.nsn; right = a.right; number = a.number; items = a.items } in c)) level
    ∙ ap (λ x. (let c : Contents = record { level = b.level; nsn = x; right = a.right; number = a.number; items = a.items } in c)) nsn
    ∙ ap (λ x. (let c : Contents = record { level = b.level; nsn = b.nsn; right = x; number = a.number; items = a.items } in c)) right
    ∙ ap (λ x. (let c : Contents = record { level = b.level; nsn = b.nsn; right = b.right; number = x; items = a.items } in c)) number
    ∙ ap (λ x. (let c : Contents = record { level = b.level; nsn = b.nsn; right = b.right; number = b.number; items = x } in c)) items

by_level : {B : Type 0} (f : Format B) (c : Contents) (leaf : Bool) → (if leaf then leaf_of f c else inner_of f c).level ≡ c.level
by_level f c true = refl
by_level f c false = refl

-- a page's node has its level, and is a leaf's if that is 0
pub node_level : {B : Type 0} (f : Format B) (c : Contents) → (node_of f c).level ≡ c.level
node_level f c = by_level f c (c.level == 0)

pub leaf_node : {B : Type 0} (f : Format B) (c : Contents) → c.level ≡ 0 → node_of f c ≡ leaf_of f c
leaf_node {B} f c level = ap (λ b. (let n : Node B = if b then leaf_of f c else inner_of f c in n)) (eq-eqb c.level 0 level)

pub leaf_is : {B : Type 0} (f : Format B) (used : ℕ) (c : Contents) → c.level ≡ 0 → is_node f used c ≡ true → is_leaf f c ≡ true
leaf_is f used c level node =
    let zero : (c.level == 0) ≡ true = eq-eqb c.level 0 level in
    ap (λ b. b && are_pairs f c.items) zero ∙ (sym (ap (λ b. if b then are_pairs f c.items else are_children f used c.items) zero) ∙ node)

module _ {B : Type 0} (IsKey : B → Type 0) (spelling : B → List ℕ) (f : Format B) (hold : LeavesHold IsKey spelling f) where
  -- a leaf with other pairs and the same number has their spellings as its items
  pub leaf_made : (a b : Contents) (pairs : List (Pair B)) (items : List (List ℕ)) → IsWellFormed b → is_leaf f b ≡ true → b.number ≡ a.number → leaf_of f b ≡ with_pairs (leaf_of f a) pairs
      → map (pair_bytes spelling) pairs ≡ items → b ≡ with_items a items
  leaf_made a b pairs items well leaf number is spelled =
      same_contents b (with_items a items) (ap (λ (n : Node B). n.level) is) (ap (λ (n : Node B). n.nsn) is) (ap (λ (n : Node B). n.right) is) number
      ((hold b well leaf).items ∙ ap (λ (n : Node B). map (pair_bytes spelling) n.pairs) is ∙ spelled)

  -- a pair after the last is an item after the last
  module _ (used : ℕ) (a b : Contents) (old new : Node B) (row : ℕ) (key : B) (well : IsWellFormed a) (well_now : IsWellFormed b) (node : is_node f used a ≡ true) (node_now : is_node f used b ≡ true)
      (number : b.number ≡ a.number) (is_old : old ≡ node_of f a) (is_new : new ≡ node_of f b) (leaf : old.level ≡ 0)
      (made : new ≡ node_with old old.nsn old.right (old.pairs ++ record { row = row; key = key; marked = false } ∷ []) old.children) where
    level_then : a.level ≡ 0
    level_then = sym (node_level f a) ∙ sym (ap (λ (n : Node B). n.level) is_old) ∙ leaf

    level_now : b.level ≡ 0
    level_now = sym (node_level f b) ∙ sym (ap (λ (n : Node B). n.level) is_new) ∙ ap (λ (n : Node B). n.level) made ∙ leaf

    pairs_now : leaf_of f b ≡ with_pairs (leaf_of f a) ((leaf_of f a).pairs ++ record { row = row; key = key; marked = false } ∷ [])
    pairs_now =
        sym (leaf_node f b level_now) ∙ sym is_new ∙ made
        ∙ ap (λ (n : Node B). node_with n n.nsn n.right (n.pairs ++ record { row = row; key = key; marked = false } ∷ []) n.children) (is_old ∙ leaf_node f a level_then)

    spelled_now : map (pair_bytes spelling) ((leaf_of f a).pairs ++ record { row = row; key = key; marked = false } ∷ []) ≡ pair_made row (spelling key) a.items
    spelled_now =
        map-append (pair_bytes spelling) (leaf_of f a).pairs (record { row = row; key = key; marked = false } ∷ [])
        ∙ ap (λ (items : List (List ℕ)). items ++ pair_bytes spelling (record { row = row; key = key; marked = false }) ∷ []) (sym (hold a well (leaf_is f used a level_then node)).items)

    pub pair_behind : b ≡ with_items a (pair_made row (spelling key) a.items)
    pair_behind = leaf_made a b _ _ well_now (leaf_is f used b level_now node_now) number pairs_now spelled_now

-- ---- a page of a volume that keeps a state

module _ {B D : Type 0} (k : Known (Entry B) (Page B)) (said : List ℕ → B) (f : Format B) (passes : ℕ → Contents → Bool) (d : Device) (v : Volume D)
    (bodies : List (List (Record (Entry B) (Page B)))) (s : Logged (Entry B) (Page B)) (keeps : Keeps k (reading_of said f) f passes d v bodies s) (was : AreNodes f passes v.shelf)
    (page : ℕ) (low : 1 ≤ page) (high : page ≤ v.shelf.used) where
  -- the bytes that it is
  abbrev pub bytes_then : List ℕ
  bytes_then = bytes_by (kept v.shelf.frames page) (bytes_of d.seen page)

  -- are the image of a node of its number
  pub passing_then : IsPassing (passes v.shelf.pages) page bytes_then
  passing_then =
      by_bytes (passes v.shelf.pages) page (kept v.shelf.frames page) (bytes_of d.seen page) (λ none. keeps.readable page low (le-leb page v.shelf.used high) none)
      (λ j here. (keeps.formed page j here, was.passed page j here))

  -- which is the one that is shown
  pub node_then : (tree_of (store_of f d.seen v.shelf)).node page ≡ node_of f (read_of bytes_then)
  node_then =
      node_there (standing_node f v.shelf.frames d.seen) v.shelf.used page low high
      ∙ ap (node_of f) (stands_shown v.shelf.frames d.seen page keeps.steady.backed ∙ sym (bytes_shown said f (kept v.shelf.frames page) (bytes_of d.seen page) (keeps.formed page)))

-- what is shown of a page that is held is what its frame keeps
pub node_held : {B D : Type 0} (f : Format B) (seen : List ℕ) (t : Shelf D) (page : ℕ) (j : Kept) → IsHeld t page → kept t.frames page ≡ Some j → (tree_of (store_of f seen t)).node page ≡ node_of f j.page
node_held f seen t page j held is = node_there (standing_node f t.frames seen) t.used page held.from held.to ∙ ap (node_of f) (stands_kept t.frames seen page j held.stays is)
