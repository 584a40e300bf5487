-- What a step has done once it changed one leaf.
use Rattle.std.proofs.Common.{◌≡◌, ◌<◌, ℕ, ◌==◌, Bool, true, false, List, length, refl, sym, ap, ◌∙◌, subst, Some}
use Rattle.std.specs.Prelude.{if◌then◌else◌, slice_get, slice_set}
use Rattle.std.proofs.lemmas.Option.{slice_get_within}
use Rattle.gx_page.specs.Contents.{Contents}
use Rattle.gx_node.specs.Edits.{with_pairs, marked_as}
use Rattle.gx_node.specs.Reading.{Format, leaf_of, inner_of}
use Rattle.gx_node.specs.Steps.{ChangesOnly, node_with}
use Rattle.gx_node.specs.Trees.{Pair, Child, Node, Used}
use Rattle.gx_tree.specs.Seeking.{Seeks}
use Rattle.gx_node.specs.Store.{Store, node_of, node_at, tree_of, with_node}
use Rattle.gx_tree.specs.Writing.{SetsMark}
use Rattle.gx_tree.specs.declared.seek.Sought.TheVariants.{Here}
use Rattle.gx_tree.proofs.Changed.{changed_only}
use Rattle.gx_node.proofs.Listed.{leaf_node}

module _ {B : Type 0} where
  level_read : (f : Format B) (page : Contents) → (node_of f page).level ≡ page.level
  level_read f page = by_level (page.level == 0)
    where
      by_level : (b : Bool) → (if b then leaf_of f page else inner_of f page).level ≡ page.level
      by_level true = refl
      by_level false = refl

  -- a node that is a leaf is what is read of its page as a leaf
  pub leaf_at : (f : Format B) (page : Contents) (node : Node B) → node_of f page ≡ node → node.level ≡ 0 → leaf_of f page ≡ node
  leaf_at f page node is leaf =
      let level : page.level ≡ 0 = sym (level_read f page) ∙ ap (λ (n : Node B). n.level) is ∙ leaf in
      sym (leaf_node f page level) ∙ is

  edited_only : (old new : Store B) (a : ℕ) (pairs : List (Pair B)) (children : List (Child B)) → Used (tree_of old) a
      → new ≡ with_node old a (node_at new.nodes a)
      → node_at new.nodes a ≡ node_with (node_at old.nodes a) (node_at old.nodes a).nsn (node_at old.nodes a).right pairs children
      → ChangesOnly (tree_of old) (tree_of new) a pairs children
  edited_only old new a pairs children used others edited =
      subst (λ (s : Store B). ChangesOnly (tree_of old) (tree_of s) a pairs children) (sym others)
      (changed_only old a (node_at new.nodes a) pairs children used edited)

  -- a pair that was found can have its mark set once its leaf is made ready
  pub mark_fits : (wants : Pair B → Bool) (read ready : Store B) (a slot : ℕ) (before : Bool) → ready ≡ read
      → Seeks wants (node_at read.nodes a) (Here slot before)
      → ((node_at ready.nodes a).level ≡ 0) × (slot < length (node_at ready.nodes a).pairs)
  mark_fits wants read ready a slot before same seeks =
      subst (λ (s : Store B). ((node_at s.nodes a).level ≡ 0) × (slot < length (node_at s.nodes a).pairs)) (sym same)
      (seeks.0, slice_get_within (node_at read.nodes a).pairs slot seeks.1.0 seeks.1.1)

  -- the store was read, made ready and changed
  pub mark_is_set : (wants : Pair B → Bool) (old read ready new : Store B) (a slot : ℕ) (before marked : Bool) → read ≡ old → ready ≡ read
      → Used (tree_of read) a → Seeks wants (node_at read.nodes a) (Here slot before)
      → ((x : Pair B) → slice_get (node_at ready.nodes a).pairs slot ≡ Some x
      → node_at new.nodes a ≡ with_pairs (node_at ready.nodes a) (slice_set (node_at ready.nodes a).pairs slot (marked_as marked x)))
      → new ≡ with_node ready a (node_at new.nodes a)
      → SetsMark wants old new a marked (Here slot before)
  mark_is_set wants old read ready new a slot before marked first second used seeks edited others =
      let there : Used (tree_of ready) a = subst (λ (s : Store B). Used (tree_of s) a) (sym second) used in
      let found : Seeks wants (node_at ready.nodes a) (Here slot before) =
      subst (λ (s : Store B). Seeks wants (node_at s.nodes a) (Here slot before)) (sym second) seeks in
      subst (λ (s : Store B). SetsMark wants s new a marked (Here slot before)) (second ∙ first) (
        found,
        λ x at. edited_only ready new a (slice_set (node_at ready.nodes a).pairs slot (marked_as marked x)) (node_at ready.nodes a).children there others (edited x at),
      )
