-- Keys stay keys of the class.
use Rattle.std.proofs.Common.{◌≡◌, ◌≢◌, ℕ, suc, ◌<◌, ◌≤◌, inl, inr, Bool, true, false, List, [], ◌∷◌, ◌++◌, filter, sym, subst, arith}
use Rattle.std.specs.Prelude.{if◌then◌else◌}
use Rattle.gx_node.specs.Lists.{Each}
use Rattle.gx_node.specs.Trees.{Pair, Child, Node, Tree, Rules, Used, times, child_pages, is_entry}
use Rattle.gx_node.specs.Legal.{Legal}
use Rattle.gx_node.specs.Steps.{Step, Splits, SplitsRoot, Widens, Adds, Marks, Sweeps, IsStep, IsSplit, IsRootSplit, ChangesOnly, with_key, with_mark, spares}
use Rattle.std.proofs.lemmas.Bool.{cases_eq}
use Rattle.gx_node.proofs.Chains.{some_times, each_with_key}
use Rattle.gx_node.proofs.PageSteps.{each_filter}
use Rattle.gx_node.proofs.Runs.{each_child_used}
use Rattle.gx_node.proofs.Sums.{each-append, each_staying, each_going, each_map}
use Rattle.gx_node.specs.Keyed.{AreKeys, BringsKeys}

module _ {K : Type 0} (IsKey : K → Type 0) where
  -- a node's keys
  record KeysIn (node : Node K) : Type 0 where
    pub pairs : Each (λ x. IsKey x.key) node.pairs
    pub children : Each (λ c. IsKey c.key) node.children

  keys_at : (t : Tree K) → AreKeys IsKey t → (p : ℕ) → Used t p → KeysIn (t.node p)
  keys_at t keys p used = record { pairs = keys.pairs p used; children = keys.children p used }

  keys_from : (t : Tree K) → ((p : ℕ) → Used t p → KeysIn (t.node p)) → AreKeys IsKey t
  keys_from t each = record { pairs = λ p used. (each p used).pairs; children = λ p used. (each p used).children }

  -- one page has changed
  keys_changed : (old new : Tree K) (a : ℕ) (pairs : List (Pair K)) (children : List (Child K)) → AreKeys IsKey old
      → ChangesOnly old new a pairs children → Each (λ x. IsKey x.key) pairs → Each (λ c. IsKey c.key) children → AreKeys IsKey new
  keys_changed old new a pairs children keys changes those below = keys_from new (λ p used. elim (cases_eq p a) [
    | inl is ↦ subst (λ q. KeysIn (new.node q)) (sym is) (subst KeysIn (sym changes.changed) (record { pairs = those; children = below }))
    | inr ne ↦ subst KeysIn (sym (changes.others p ne)) (keys_at old keys p (used.0, omega (arith, used.1, changes.used)))
  ])

  marked_keys : (r : Rules K) (row : ℕ) (key : K) (mark : Bool) (xs : List (Pair K)) → Each (λ x. IsKey x.key) xs → Each (λ x. IsKey x.key) (with_mark r row key mark xs)
  marked_keys r row key mark [] each = tt
  marked_keys r row key mark (x ∷ xs) each = (at (is_entry r row key x), marked_keys r row key mark xs each.1)
    where
      at : (b : Bool) → IsKey (if b then record { row = x.row; key = x.key; marked = mark } else x).key
      at true = each.0
      at false = each.0

  module _ (r : Rules K) (old new : Tree K) (legal : Legal r old) (keys : AreKeys IsKey old) where
    keys_split : (n p : ℕ) (sides : List Bool) (left right : K) → IsKey left → IsKey right → IsSplit r old new n p sides left right → AreKeys IsKey new
    keys_split n p sides left right is_left is_right split =
        let one : 0 < times n (child_pages (old.node p)) = omega (arith, split.names) in
        let there = (some_times (λ q. Used old q × (2 ≤ q)) n (child_pages (old.node p)) one (each_child_used r old legal p split.parent)).0 in
        let here = keys_at old keys n there in
        let above = keys_at old keys p split.parent in
        let bounded : Each (λ c. IsKey c.key) (with_key n left (old.node p).children) =
        each_with_key (λ c. IsKey c.key) n left (old.node p).children
        (each_map (λ c. IsKey c.key) (λ c. (c.page ≡ n → IsKey left) × (c.page ≢ n → IsKey c.key)) (λ c is. (λ _. is_left, λ _. is)) (old.node p).children above.children) in
        keys_from new (λ q used. elim (cases_eq q (suc old.used)) [
          | inl is ↦ subst (λ q. KeysIn (new.node q)) (sym is) (subst KeysIn (sym split.sibling) (record {
            pairs = each_going (λ x. IsKey x.key) sides (old.node n).pairs here.pairs;
            children = each_going (λ c. IsKey c.key) sides (old.node n).children here.children;
          }))
          | inr new_one ↦ elim (cases_eq q n) [
            | inl is ↦ subst (λ q. KeysIn (new.node q)) (sym is) (subst KeysIn (sym split.split) (record {
              pairs = each_staying (λ x. IsKey x.key) sides (old.node n).pairs here.pairs;
              children = each_staying (λ c. IsKey c.key) sides (old.node n).children here.children;
            }))
            | inr off ↦ elim (cases_eq q p) [
              | inl is ↦ subst (λ q. KeysIn (new.node q)) (sym is) (subst KeysIn (sym split.named) (record {
                pairs = above.pairs;
                children = each-append (λ c. IsKey c.key) (with_key n left (old.node p).children) (record { key = right; page = suc old.used } ∷ []) bounded (is_right, tt);
              }))
              | inr below ↦ subst KeysIn (sym (split.others q off below new_one)) (keys_at old keys q (used.0, omega (arith, used.1, split.used, new_one)))
            ]
          ]
        ])

    keys_root : (sides : List Bool) (left right : K) → IsKey left → IsKey right → IsRootSplit r old new sides left right → AreKeys IsKey new
    keys_root sides left right is_left is_right split =
        let root : Used old 1 = (omega arith, omega (arith, legal.counter)) in
        let here = keys_at old keys 1 root in
        keys_from new (λ q used. elim (cases_eq q (suc old.used)) [
          | inl is ↦ subst (λ q. KeysIn (new.node q)) (sym is) (subst KeysIn (sym split.first) (record {
            pairs = tt;
            children = each_staying (λ c. IsKey c.key) sides (old.node 1).children here.children;
          }))
          | inr first ↦ elim (cases_eq q (suc (suc old.used))) [
            | inl is ↦ subst (λ q. KeysIn (new.node q)) (sym is) (subst KeysIn (sym split.second) (record {
              pairs = tt;
              children = each_going (λ c. IsKey c.key) sides (old.node 1).children here.children;
            }))
            | inr second ↦ elim (cases_eq q 1) [
              | inl is ↦ subst (λ q. KeysIn (new.node q)) (sym is) (subst KeysIn (sym split.root) (record { pairs = tt; children = (is_left, (is_right, tt)) }))
              | inr off ↦ subst KeysIn (sym (split.others q off first second)) (keys_at old keys q (used.0, omega (arith, used.1, split.used, first, second)))
            ]
          ]
        ])

    pub keys_step : (step : Step K) → BringsKeys IsKey step → IsStep r old step new → AreKeys IsKey new
    keys_step (Splits n p sides left right) brings step = keys_split n p sides left right brings.0 brings.1 step
    keys_step (SplitsRoot sides left right) brings step = keys_root sides left right brings.0 brings.1 step
    keys_step (Widens a x coming key) brings step =
        let stood = keys_at old keys a step.changes.there in
        keys_changed old new a (old.node a).pairs (with_key x key (old.node a).children) keys step.changes stood.pairs
        (each_with_key (λ c. IsKey c.key) x key (old.node a).children
        (each_map (λ c. IsKey c.key) (λ c. (c.page ≡ x → IsKey key) × (c.page ≢ x → IsKey c.key)) (λ c is. (λ _. brings, λ _. is)) (old.node a).children stood.children))
    keys_step (Adds a x) brings step =
        let stood = keys_at old keys a step.changes.there in
        keys_changed old new a ((old.node a).pairs ++ x ∷ []) (old.node a).children keys step.changes
        (each-append (λ y. IsKey y.key) (old.node a).pairs (x ∷ []) stood.pairs (brings, tt)) stood.children
    keys_step (Marks a row key mark) brings step =
        let stood = keys_at old keys a step.changes.there in
        keys_changed old new a (with_mark r row key mark (old.node a).pairs) (old.node a).children keys step.changes
        (marked_keys r row key mark (old.node a).pairs stood.pairs) stood.children
    keys_step (Sweeps a claimed) brings step =
        let stood = keys_at old keys a step.changes.there in
        keys_changed old new a (filter (spares claimed) (old.node a).pairs) (old.node a).children keys step.changes
        (each_filter (λ x. IsKey x.key) (spares claimed) (old.node a).pairs stood.pairs) stood.children
