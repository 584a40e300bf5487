-- The parts of the test, joined.
use Rattle.std.proofs.Common.{◌≡◌, ◌∙◌, inl, ℕ, suc, ◌<◌, ◌≤◌, Bool, List, [], length, Option, Result, Ok, Err, OnOk, arith, subst, sym}
use Rattle.gx_node.specs.Legal.{Legal, Linked, NodeFits}
use Rattle.gx_node.specs.Trees.{Tree, Rules, Used, leaves, parents, times, size, standing, is_entry}
use Rattle.gx_node.specs.Store.{Store, node_at, tree_of}
use Rattle.gx_legality.specs.declared.fault.LegalityFault.{LegalityFault}
use Rattle.gx_legality.specs.Breaks.{Breaks}
use Rattle.gx_legality.specs.Marks.{AreLinks, HasShape, IsLegalButPairs, marked}
use Rattle.std.specs.declared.cmp.Ordering.{Ordering}
use Rattle.gx_machine.specs.declared.entry.Entry.{Entry}
use Rattle.gx_legality.specs.Entries.{entries_on}
use Rattle.gx_legality.specs.Gathered.{Gathered, Gathers}
use Rattle.gx_legality.specs.Owner.{IsFound}
use Rattle.gx_legality.specs.Placing.{BreaksOrLeavesOut}
use Rattle.gx_legality.specs.declared.fault.LegalityFault.TheVariants.{Memory, Pages, Broken, Unsteady}
use Rattle.gx_legality.specs.declared.notes.NotedPair.{NotedPair}

module _ {B : Type 0} where
  pub has_shape : {T E : Type 0} (t : Tree B) (marks : List Bool) (links : List (Option ℕ)) (result : Result T E) → AreLinks t links
      → length marks ≡ length links → ((q : ℕ) → q < length marks → marked marks q ≡ parents t q)
      → ((q : ℕ) → 2 ≤ q → q < length marks → marked marks q ≡ 1) → OnOk result (Linked t 2 (leaves t))
      → OnOk result ((q : ℕ) → Used t q → (t.node q).level ≡ 0 → times q (leaves t) ≡ 1) → OnOk result (HasShape t)
  has_shape t marks links (Ok done) are long named ones chain once = record {
    parent = λ q low high. (
        let each : length links ≡ suc t.used = are.length in
        let within : q < length marks = omega (arith, high, long, each) in
        sym (named q within) ∙ ones q low within
        );
    chain = chain;
    once = once;
  }
  has_shape t marks links (Err e) are long named ones chain once = tt

  -- a tree that is legal but for its pairs is legal if none is in two places
  pub with_pairs : (r : Rules B) (t : Tree B) → IsLegalButPairs r t → ((row : ℕ) (key : B) → standing (is_entry r row key) t ≤ 1) → Legal r t
  with_pairs r t legal single = record {
    pages = legal.pages;
    root = legal.root;
    parent = legal.shape.parent;
    chain = legal.shape.chain;
    once = legal.shape.once;
    single = single;
    counter = legal.counter;
  }

  -- what is found of the store after a call that leaves it unchanged
  pub fits_before : (r : Rules B) (old new : Store B) → new ≡ old → ((p : ℕ) → Used (tree_of new) p → NodeFits r (tree_of new) (node_at new.nodes p))
      → (p : ℕ) → Used (tree_of old) p → NodeFits r (tree_of old) (node_at old.nodes p)
  fits_before r old new same fits = subst (λ (s : Store B). (p : ℕ) → Used (tree_of s) p → NodeFits r (tree_of s) (node_at s.nodes p)) same fits

  pub shape_before : (old new : Store B) → new ≡ old → HasShape (tree_of new) → HasShape (tree_of old)
  shape_before old new same shape = subst (λ (s : Store B). HasShape (tree_of s)) same shape

  -- what holds of a store that a pass has read holds of the one before it
  pub pairs_before : (r : Rules B) (old new : Store B) (g : Gathered (Entry B)) (cmp : Entry B → Entry B → Ordering) → new ≡ old → (P : Rules B → Tree B → Type 0)
      → (Linked (tree_of new) 2 (leaves (tree_of new)) → ((p : ℕ) → Used (tree_of new) p → size (node_at new.nodes p) ≤ r.most)
      → Gathers cmp g (entries_on (tree_of new) (leaves (tree_of new))) [] → P r (tree_of new))
      → Linked (tree_of old) 2 (leaves (tree_of old)) → ((p : ℕ) → Used (tree_of old) p → size (node_at old.nodes p) ≤ r.most)
      → Gathers cmp g (entries_on (tree_of old) (leaves (tree_of old))) [] → P r (tree_of old)
  pairs_before r old new g cmp same P so =
      subst (λ (s : Store B). Linked (tree_of s) 2 (leaves (tree_of s)) → ((p : ℕ) → Used (tree_of s) p → size (node_at s.nodes p) ≤ r.most)
      → Gathers cmp g (entries_on (tree_of s) (leaves (tree_of s))) [] → P r (tree_of s)) same so

  pub legal_before : (r : Rules B) (old new : Store B) → new ≡ old → (P : Tree B → Type 0) → (IsLegalButPairs r (tree_of new) → P (tree_of new))
      → IsLegalButPairs r (tree_of old) → P (tree_of old)
  legal_before r old new same P so = subst (λ (s : Store B). IsLegalButPairs r (tree_of s) → P (tree_of s)) same so

  -- a rule that is broken is one that is broken or a pair left out
  pub found_breaks : {F : Type 0} (r : Rules B) (t : Tree B) (notes : List (NotedPair (Entry B))) (e : LegalityFault F) → IsFound (Breaks r t) e → IsFound (BreaksOrLeavesOut r t notes) e
  found_breaks r t notes Memory is = tt
  found_breaks r t notes (Pages fault) is = tt
  found_breaks r t notes Unsteady is = is
  found_breaks r t notes (Broken page rule) is = inl is

-- what holds holds of an answer that is Ok
pub on_ok : {T E P : Type 0} (result : Result T E) → P → OnOk result P
on_ok (Ok done) so = so
on_ok (Err why) so = tt
