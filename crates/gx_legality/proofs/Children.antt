-- A node's children, tested one by one.
use Rattle.std.proofs.Common.{◌≡◌, ℕ, suc, ◌+◌, ◌<◌, ◌≤◌, ◌==◌, Bool, true, false, inl, inr, [], length, Some, refl, ap, sym, ◌∙◌, subst, arith}
use Rattle.std.specs.Prelude.{if◌then◌else◌, slice_get}
use Rattle.std.proofs.lemmas.Bool.{cases_eq, eqb-true, eq-eqb}
use Rattle.gx_page.specs.Contents.{Contents}
use Rattle.gx_node.specs.Reading.{Format, leaf_of, inner_of}
use Rattle.gx_node.specs.Trees.{Child, Node, Tree, Rules, Used, size}
use Rattle.gx_node.specs.Legal.{ChildFits, NodeFits, Bounds}
use Rattle.gx_node.specs.Owner.{IsWhyLater}
use Rattle.gx_node.specs.Store.{Store, node_of, node_at, tree_of}
use Rattle.gx_node.proofs.Listed.{same_store}
use Rattle.gx_legality.specs.declared.fault.LegalityFault.{LegalityFault}
use Rattle.gx_legality.specs.declared.fault.LegalityFault.TheVariants.{Memory, Pages, Broken, Unsteady}
use Rattle.gx_legality.specs.declared.fault.Rule.{Rule}
use Rattle.gx_legality.specs.declared.fault.Rule.TheVariants.{SplitsOutnumberPages, RootIsLeaf, TooManyEntries, NoChild, SequenceNumber, ChildPage, ChildLevel, Bound, NamedTwice, NotNamed, Chain, OffTheChain, PairTwice, PairOutOfPlace}
use Rattle.gx_legality.specs.Breaks.{Breaks}
use Rattle.gx_legality.specs.Nodes.{FitsAlone, FitsBelow, FailsBelow}
use Rattle.gx_legality.specs.Owner.{OnlyReads, WasHeld, IsWhy, IsWhyBehind, IsFound}
use Rattle.gx_legality.proofs.Slots.{each_below, below_next}

module _ {P B : Type 0} {steady : P → Type 0} {store : P → Store B} {since : P → P → ℕ → Type 0} where
  pub reads_same : (a b : P) → OnlyReads steady store since a b → steady a → store b ≡ store a
  reads_same a b reads is = same_store (steady a) (store a) (store b) reads.stays is

  pub reads_none : (a : P) → OnlyReads steady store since a a
  reads_none a = record {
    stays = record { nodes = λ is. refl; used = refl; counter = refl; room = refl };
    still = λ is. is;
    goes_on = λ was q h. h;
  }

  pub reads_more : (a b c : P) → OnlyReads steady store since a b → OnlyReads steady store since b c → OnlyReads steady store since a c
  reads_more a b c first next = record {
    stays = record {
      nodes = λ is. next.stays.nodes (first.still is) ∙ first.stays.nodes is;
      used = next.stays.used ∙ first.stays.used;
      counter = next.stays.counter ∙ first.stays.counter;
      room = next.stays.room ∙ first.stays.room;
    };
    still = λ is. next.still (first.still is);
    goes_on = λ was q h. next.goes_on was q (first.goes_on was q h);
  }

  -- one page more was held, and now that is
  pub held_next : {held : P → ℕ → Type 0} (a b : P) (n : ℕ) → OnlyReads steady store since a b → ((p : ℕ) → 0 < p → p ≤ n → WasHeld steady store since held a p)
      → held b (n + 1) → (p : ℕ) → 0 < p → p ≤ n + 1 → WasHeld steady store since held a p
  held_next {held = held} a b n reads below here p low high = elim (cases_eq p (n + 1)) [
    | inl same ↦ record { moment = b; reads = reads; is = subst (λ p. held b p) (sym same) here }
    | inr other ↦ below p low (omega (arith, high, other))
  ]

  -- what was held since a moment was since an earlier one
  pub held_before : {held : P → ℕ → Type 0} (a b : P) (p : ℕ) → OnlyReads steady store since a b → WasHeld steady store since held b p → WasHeld steady store since held a p
  held_before a b p reads was = record { moment = was.moment; reads = reads_more a b was.moment reads was.reads; is = was.is }

module _ {P F : Type 0} where
  pub why_later : (why : P → P → F → Type 0) (a b c : P) (e : LegalityFault F) → IsWhyLater why a b → IsWhy (why b c) e → IsWhy (why a c) e
  why_later why a b c Memory later is = is
  why_later why a b c (Pages fault) later is = later c fault is
  why_later why a b c (Broken page rule) later is = tt
  why_later why a b c Unsteady later is = tt

  -- once memory was allocated
  pub why_behind : (old new : P) (why : F → Type 0) (e : LegalityFault F) → IsWhy why e → IsWhyBehind old new why e
  why_behind old new why Memory is = absurd is
  why_behind old new why (Pages fault) is = is
  why_behind old new why (Broken page rule) is = tt
  why_behind old new why Unsteady is = tt

module _ {B : Type 0} where
  pub node_level : (f : Format B) (page : Contents) → (node_of f page).level ≡ page.level
  node_level f page = by_level (page.level == 0)
    where
      by_level : (b : Bool) → (if b then leaf_of f page else inner_of f page).level ≡ page.level
      by_level true = refl
      by_level false = refl

  pub child_of_node : (n m : Node B) (k : ℕ) (c : Child B) → n ≡ m → slice_get n.children k ≡ Some c → slice_get m.children k ≡ Some c
  child_of_node n m k c same at = subst (λ (n : Node B). slice_get n.children k ≡ Some c) same at

  pub child_fits : (r : Rules B) (old new : Store B) (page slot level : ℕ) (c d : Child B) (below : Node B) → new ≡ old
      → below ≡ node_at new.nodes c.page → level ≡ (node_at old.nodes page).level
      → slice_get (node_at old.nodes page).children slot ≡ Some c → slice_get (node_at old.nodes page).children slot ≡ Some d
      → 2 ≤ c.page → c.page ≤ length old.nodes → FitsBelow r level c.key below → ChildFits r (tree_of old) (node_at old.nodes page).level d
  child_fits r old new page slot level c d below same is above at other low high fits =
      let one : c ≡ d = cc in
      let here : below ≡ node_at old.nodes c.page = is ∙ ap (λ (s : Store B). node_at s.nodes c.page) same in
      subst (λ (d : Child B). ChildFits r (tree_of old) (node_at old.nodes page).level d) one (record {
        low = low;
        used = high;
        level = ap (λ (n : Node B). suc n.level) (sym here) ∙ fits.level ∙ above;
        bounds = subst (λ n. Bounds r c.key n) here fits.bounds;
      })

  pub child_fails : (r : Rules B) (old new : Store B) (page slot level : ℕ) (c : Child B) (below : Node B) (rule : Rule) → new ≡ old
      → below ≡ node_at new.nodes c.page → level ≡ (node_at old.nodes page).level
      → slice_get (node_at old.nodes page).children slot ≡ Some c → Used (tree_of old) page
      → FailsBelow r level c.key slot below rule → Breaks r (tree_of old) page rule
  child_fails r old new page slot level c below (ChildLevel told) same is above at used fails =
      let here : below ≡ node_at old.nodes c.page = is ∙ ap (λ (s : Store B). node_at s.nodes c.page) same in (
        used,
        (c, subst (λ k. slice_get (node_at old.nodes page).children k ≡ Some c) (sym fails.0) at, λ fits. fails.1 (ap (λ (n : Node B). suc n.level) here ∙ fits ∙ sym above)),
      )
  child_fails r old new page slot level c below (Bound told) same is above at used fails =
      let here : below ≡ node_at old.nodes c.page = is ∙ ap (λ (s : Store B). node_at s.nodes c.page) same in (
        used,
        (c, subst (λ k. slice_get (node_at old.nodes page).children k ≡ Some c) (sym fails.0) at, λ fits. fails.1 (subst (λ n. Bounds r c.key n) (sym here) fits)),
      )
  child_fails r old new page slot level c below SplitsOutnumberPages same is above at used fails = absurd fails
  child_fails r old new page slot level c below RootIsLeaf same is above at used fails = absurd fails
  child_fails r old new page slot level c below TooManyEntries same is above at used fails = absurd fails
  child_fails r old new page slot level c below NoChild same is above at used fails = absurd fails
  child_fails r old new page slot level c below SequenceNumber same is above at used fails = absurd fails
  child_fails r old new page slot level c below (ChildPage told) same is above at used fails = absurd fails
  child_fails r old new page slot level c below NamedTwice same is above at used fails = absurd fails
  child_fails r old new page slot level c below NotNamed same is above at used fails = absurd fails
  child_fails r old new page slot level c below Chain same is above at used fails = absurd fails
  child_fails r old new page slot level c below OffTheChain same is above at used fails = absurd fails
  child_fails r old new page slot level c below PairTwice same is above at used fails = absurd fails
  child_fails r old new page slot level c below PairOutOfPlace same is above at used fails = absurd fails

  -- what one slot after another says of a node's children
  pub node_fits : (r : Rules B) (t : Tree B) (node : Node B) (n : ℕ) → FitsAlone r.most t.counter node
      → (node.level ≡ 0 → node.children ≡ []) → (0 < node.level → node.pairs ≡ []) → size node ≤ n
      → ((k : ℕ) (c : Child B) → k < n → slice_get node.children k ≡ Some c → ChildFits r t node.level c) → NodeFits r t node
  node_fits r t node n alone leaf inner all fits = record {
    room = alone.room;
    leaf = leaf;
    inner = λ above. (inner above, alone.inner above);
    nsn = alone.nsn;
    children = each_below (ChildFits r t node.level) node.children n (omega (arith, all)) fits;
  }

  pub leaf_childless : (f : Format B) (page : Contents) → (node_of f page).level ≡ 0 → (node_of f page).children ≡ []
  leaf_childless f page leaf = by_level (page.level == 0) refl
    where
      by_level : (b : Bool) → (page.level == 0) ≡ b → (if b then leaf_of f page else inner_of f page).children ≡ []
      by_level true is = refl
      by_level false is = absurd (let e : (page.level == 0) ≡ true = eq-eqb page.level 0 (sym (node_level f page) ∙ leaf) in cc)

  pub inner_pairless : (f : Format B) (page : Contents) → 0 < (node_of f page).level → (node_of f page).pairs ≡ []
  inner_pairless f page above = by_level (page.level == 0) refl
    where
      by_level : (b : Bool) → (page.level == 0) ≡ b → (if b then leaf_of f page else inner_of f page).pairs ≡ []
      by_level true is = absurd (let e = eqb-true page.level 0 is in let l = node_level f page in omega (arith, e, l, above))
      by_level false is = refl

  pub found_before : {F : Type 0} (r : Rules B) (old new : Store B) (e : LegalityFault F) → new ≡ old
      → IsFound (Breaks r (tree_of new)) e → IsFound (Breaks r (tree_of old)) e
  found_before r old new e same is = subst (λ (s : Store B). IsFound (Breaks r (tree_of s)) e) same is

  pub fits_more : (r : Rules B) (old new : Store B) (page n : ℕ) → new ≡ old
      → ((k : ℕ) (c : Child B) → k < n → slice_get (node_at old.nodes page).children k ≡ Some c → ChildFits r (tree_of old) (node_at old.nodes page).level c)
      → ((c : Child B) → slice_get (node_at new.nodes page).children n ≡ Some c → ChildFits r (tree_of new) (node_at new.nodes page).level c)
      → (k : ℕ) (c : Child B) → k < n + 1 → slice_get (node_at old.nodes page).children k ≡ Some c → ChildFits r (tree_of old) (node_at old.nodes page).level c
  fits_more r old new page n same below here =
      below_next (λ k c. slice_get (node_at old.nodes page).children k ≡ Some c → ChildFits r (tree_of old) (node_at old.nodes page).level c) n below
      (subst (λ (s : Store B). (c : Child B) → slice_get (node_at s.nodes page).children n ≡ Some c → ChildFits r (tree_of s) (node_at s.nodes page).level c) same here)
