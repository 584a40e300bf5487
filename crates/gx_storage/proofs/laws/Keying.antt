-- The keys of the tree that a volume shows.
use Rattle.std.proofs.Common.{◌≡◌, ◌∙◌, sym, ap, subst, refl, ℕ, ◌≤◌, ◌==◌, Bool, true, false, List, [], ◌∷◌, Option, None, Some, not, arith}
use Rattle.std.specs.Prelude.{if◌then◌else◌}
use Rattle.std.specs.List.{All}
use Rattle.std.proofs.lemmas.Bool.{and_from, le-leb}
use Rattle.std.proofs.lemmas.List.Elements.{All-head, All-tail}
use Rattle.gx_disk.specs.Device.{Device}
use Rattle.gx_page.specs.Contents.{Contents}
use Rattle.gx_page.specs.Format.{IsWellFormed}
use Rattle.gx_page.specs.Reading.{read_of}
use Rattle.gx_pool.specs.Area.{bytes_of, IsPassing}
use Rattle.gx_pool.specs.Laws.{IsPassed, shown, shown_of}
use Rattle.gx_pool.specs.State.{Kept, kept}
use Rattle.gx_node.specs.Lists.{Each}
use Rattle.gx_node.specs.Trees.{Node, Used}
use Rattle.gx_node.specs.Entries.{IsChild, IsPair}
use Rattle.gx_node.specs.Laws.{InnersHold, LeavesHold}
use Rattle.gx_node.specs.Reading.{Format, are_children, are_pairs, inner_of, is_node, leaf_of}
use Rattle.gx_node.specs.Keyed.{AreKeys}
use Rattle.gx_node.specs.Store.{node_of, tree_of}
use Rattle.gx_store.specs.Faults.{CanBeRead}
use Rattle.gx_store.specs.Standing.{standing_node, store_of}
use Rattle.gx_store.specs.State.{IsSteady}
use Rattle.gx_store.proofs.Listed.{node_there, nodes_long}
use Rattle.gx_store.proofs.Shown.{stands_shown}
use Rattle.gx_storage.specs.Formed.{AreFormed}
use Rattle.gx_storage.specs.State.{Volume}

each_of : {X : Type 0} (P Q : X → Type 0) → ((x : X) → P x → Q x) → (xs : List X) → All P xs → Each Q xs
each_of P Q to [] all = tt
each_of P Q to (x ∷ xs) all = (to x (All-head P x xs all), each_of P Q to xs (All-tail P x xs all))

-- the contents are a node of the class, and have an image
record Reads {B : Type 0} (f : Format B) (pages : ℕ) (page : Contents) : Type 0 where
  pub formed : IsWellFormed page
  pub node : is_node f pages page ≡ true

module _ {B : Type 0} (IsKey : B → Type 0) (spelling : B → List ℕ) (f : Format B) (leaves : LeavesHold IsKey spelling f) (inners : InnersHold IsKey spelling f) where
  record KeysIn (n : Node B) : Type 0 where
    pub pairs : Each (λ x. IsKey x.key) n.pairs
    pub children : Each (λ x. IsKey x.key) n.children

  leaf_keys : (pages : ℕ) (page : Contents) → IsWellFormed page → (page.level == 0) ≡ true → are_pairs f page.items ≡ true → KeysIn (leaf_of f page)
  leaf_keys pages page formed level are =
      let holds = leaves page formed (and_from (page.level == 0) (are_pairs f page.items) level are) in
      record { pairs = each_of (IsPair IsKey) (λ x. IsKey x.key) (λ x is. is.key) (leaf_of f page).pairs holds.each; children = tt }

  inner_keys : (pages : ℕ) (page : Contents) → IsWellFormed page → (page.level == 0) ≡ false → are_children f pages page.items ≡ true → KeysIn (inner_of f page)
  inner_keys pages page formed level are =
      let holds = inners page pages formed (and_from (not (page.level == 0)) (are_children f pages page.items) (ap not level) are) in
      record { pairs = tt; children = each_of (IsChild IsKey pages) (λ x. IsKey x.key) (λ x is. is.key) (inner_of f page).children holds.each }

  by_level : (pages : ℕ) (page : Contents) → IsWellFormed page → (leaf : Bool) → (page.level == 0) ≡ leaf
      → (if leaf then are_pairs f page.items else are_children f pages page.items) ≡ true → KeysIn (if leaf then leaf_of f page else inner_of f page)
  by_level pages page formed true level are = leaf_keys pages page formed level are
  by_level pages page formed false level are = inner_keys pages page formed level are

  node_keys : (pages : ℕ) (page : Contents) → Reads f pages page → KeysIn (node_of f page)
  node_keys pages page reads = by_level pages page reads.formed (page.level == 0) refl reads.node

  by_kept : (pages p : ℕ) (o : Option Kept) (on_device : Contents) → ((k : Kept) → o ≡ Some k → Reads f pages k.page) → (o ≡ None → Reads f pages on_device) → Reads f pages (shown_of o on_device)
  by_kept pages p None on_device frame device = device refl
  by_kept pages p (Some k) on_device frame device = frame k refl

  module _ {D : Type 0} (d : Device) (v : Volume D) (steady : IsSteady d v.shelf.frames) (readable : CanBeRead (is_node f) d v.shelf) (formed : AreFormed v.shelf.frames)
      (passed : IsPassed (is_node f v.shelf.pages) v.shelf.frames) where
    reads_at : (p : ℕ) → 1 ≤ p → p ≤ v.shelf.used → Reads f v.shelf.pages (shown v.shelf.frames d.seen p)
    reads_at p low high =
        by_kept v.shelf.pages p (kept v.shelf.frames p) (read_of (bytes_of d.seen p))
        (λ k is. record { formed = formed p k is; node = (passed p k is).1 })
        (λ none. let passing : IsPassing (is_node f v.shelf.pages) p (bytes_of d.seen p) = readable p low (le-leb p v.shelf.used high) none in
        record { formed = passing.image.well_formed; node = passing.passing })

    keys_at : (p : ℕ) → Used (tree_of (store_of f d.seen v.shelf)) p → KeysIn ((tree_of (store_of f d.seen v.shelf)).node p)
    keys_at p used =
        let high : p ≤ v.shelf.used = omega (arith, used.1, nodes_long (standing_node f v.shelf.frames d.seen) v.shelf.used) in
        let same = node_there (standing_node f v.shelf.frames d.seen) v.shelf.used p used.0 high ∙ ap (node_of f) (stands_shown v.shelf.frames d.seen p steady.backed) in
        subst KeysIn (sym same) (node_keys v.shelf.pages (shown v.shelf.frames d.seen p) (reads_at p used.0 high))

    -- each key of the tree that is shown is one of the class
    pub shows_keys : AreKeys IsKey (tree_of (store_of f d.seen v.shelf))
    shows_keys = record { pairs = λ p used. (keys_at p used).pairs; children = λ p used. (keys_at p used).children }
