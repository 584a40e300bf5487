-- A descent at work: steps of others keep it, and so do its own.
use Rattle.std.proofs.Common.{◌≡◌, ◌≢◌, ℕ, suc, ◌<◌, ◌≤◌, Bool, true, inl, inr, List, [], ◌∷◌, ◌++◌, map, filter, ap, sym, ◌∙◌, subst, arith}
use Rattle.std.proofs.lemmas.Bool.{cases_eq}
use Rattle.gx_node.specs.Lists.{Each}
use Rattle.gx_node.specs.Trees.{Pair, Child, Node, Tree, Rules, IsLawful, Used, child_pages, times}
use Rattle.gx_node.specs.Legal.{ChildFits, Legal}
use Rattle.gx_node.specs.Steps.{IsSplit, IsRootSplit, ChangesOnly, IsWidening, EntriesCover, with_key, with_mark, spares, Step, Splits, SplitsRoot, Widens, Adds, Marks, Sweeps, IsStep}
use Rattle.gx_node.specs.Reach.{TraversalItem}
use Rattle.gx_node.specs.Looks.{from_root}
use Rattle.gx_node.specs.Writes.{IsDescent}
use Rattle.gx_node.proofs.Sums.{each_map, each_both, each-append, each_staying, each_going, total_two}
use Rattle.gx_node.proofs.Chains.{one_at, some_child, each_with_key}
use Rattle.gx_node.proofs.Splits.{is_split, is_parent, is_new, is_other, place_of, split_used, used_more as split_more}
use Rattle.gx_node.proofs.Roots.{root_used, used_more as root_more, used_before as root_before, same_node}
use Rattle.gx_node.proofs.Changes.{used_kept, used_before, nsn_kept}
use Rattle.gx_node.proofs.SplitReach.{nsn_same as split_number}
use Rattle.gx_node.proofs.RootReach.{nsn_same as root_number}

module _ {K : Type 0} (r : Rules K) (coming : K) where
  -- an entry that names page x covers the key
  abbrev Cover : ℕ → Child K → Type 0
  Cover x c = c.page ≡ x → r.covers c.key coming ≡ true

  module _ (law : IsLawful r) (old new : Tree K) (n p : ℕ) (sides : List Bool) (left right : K)
      (legal : Legal r old) (step : IsSplit r old new n p sides left right) where
    cover_split : (a : ℕ) → Used old a → a ≢ n → EntriesCover r old a coming → EntriesCover r new a coming
    cover_split a ua na covers q u = elim (place_of n p (suc old.used) q) [
      | is_split e ↦ subst (λ q. Each (Cover a) (new.node q).children) (sym e)
          (subst (λ (z : Node K). Each (Cover a) z.children) (sym step.split)
          (each_staying (Cover a) sides (old.node n).children (covers n (split_used r law old new n p sides left right legal step))))
      | is_parent e ↦ subst (λ q. Each (Cover a) (new.node q).children) (sym e)
          (subst (λ (z : Node K). Each (Cover a) z.children) (sym step.named)
          (each-append (Cover a) (with_key n left (old.node p).children) (record { key = right; page = suc old.used } ∷ [])
          (each_with_key (Cover a) n left (old.node p).children
          (each_map (Cover a) (λ c. (c.page ≡ n → Cover a (record { key = left; page = c.page })) × (c.page ≢ n → Cover a c))
          (λ c cover. ((λ same is. absurd (na (sym is ∙ same))), (λ ne. cover))) (old.node p).children (covers p step.parent)))
          ((λ is. (let h = ua.1 in absurd (omega (arith, h, is)))), tt)))
      | is_new e ↦ subst (λ q. Each (Cover a) (new.node q).children) (sym e)
          (subst (λ (z : Node K). Each (Cover a) z.children) (sym step.sibling)
          (each_going (Cover a) sides (old.node n).children (covers n (split_used r law old new n p sides left right legal step))))
      | is_other nn np ns ↦ subst (λ (z : Node K). Each (Cover a) z.children) (sym (step.others q nn np ns))
          (covers q (u.0, (let h = u.1 in let k = step.used in omega (arith, h, k, ns))))
    ]

    pub descent_split : (item : TraversalItem) → IsDescent r old item coming → IsDescent r new item coming
    descent_split item d = record {
      there = split_more r law old new n p sides left right legal step item.page d.there;
      seen = (let h = d.seen in let e = step.counter in omega (arith, h, e));
      covered = λ le. elim (cases_eq item.page n) [
        | inl e ↦ let h = d.seen in let m = ap (λ q. (new.node q).nsn) e in let k = ap (λ (z : Node K). z.nsn) step.split in absurd (omega (arith, le, h, m, k))
        | inr ne ↦ cover_split item.page d.there ne
            (d.covered (let m = split_number r law old new n p sides left right legal step item.page d.there ne in omega (arith, le, m)))
      ];
    }

  module _ (old new : Tree K) (sides : List Bool) (left right : K) (legal : Legal r old) (step : IsRootSplit r old new sides left right) where
    cover_root : (a : ℕ) → Used old a → EntriesCover r old a coming → EntriesCover r new a coming
    cover_root a ua covers q u = elim (place_of 1 (suc old.used) (suc (suc old.used)) q) [
      | is_split e ↦ subst (λ q. Each (Cover a) (new.node q).children) (sym e)
          (subst (λ (z : Node K). Each (Cover a) z.children) (sym step.root)
          ((λ is. (let h = ua.1 in absurd (omega (arith, h, is)))), ((λ is. (let h = ua.1 in absurd (omega (arith, h, is)))), tt)))
      | is_parent e ↦ subst (λ q. Each (Cover a) (new.node q).children) (sym e)
          (subst (λ (z : Node K). Each (Cover a) z.children) (sym step.first)
          (each_staying (Cover a) sides (old.node 1).children (covers 1 (root_used r old new sides left right legal step))))
      | is_new e ↦ subst (λ q. Each (Cover a) (new.node q).children) (sym e)
          (subst (λ (z : Node K). Each (Cover a) z.children) (sym step.second)
          (each_going (Cover a) sides (old.node 1).children (covers 1 (root_used r old new sides left right legal step))))
      | is_other n1 na nb ↦
          let before = root_before r old new sides left right legal step q u na nb in
          subst (λ (z : Node K). Each (Cover a) z.children) (sym (same_node r old new sides left right legal step q before n1)) (covers q before)
    ]

    pub descent_root : (item : TraversalItem) → IsDescent r old item coming → IsDescent r new item coming
    descent_root item d = record {
      there = root_more r old new sides left right legal step item.page d.there;
      seen = (let h = d.seen in let e = step.counter in omega (arith, h, e));
      covered = λ le. cover_root item.page d.there
          (d.covered (let m = root_number r old new sides left right legal step item.page d.there in omega (arith, le, m)));
    }

  module _ (old new : Tree K) (a : ℕ) (pairs : List (Pair K)) (entries : List (Child K)) (step : ChangesOnly old new a pairs entries)
      (still : (x : ℕ) → EntriesCover r old x coming → Each (Cover x) entries) where
    cover_changed : (x : ℕ) → EntriesCover r old x coming → EntriesCover r new x coming
    cover_changed x covers q u = elim (cases_eq q a) [
      | inl e ↦ subst (λ q. Each (Cover x) (new.node q).children) (sym e) (subst (λ (z : Node K). Each (Cover x) z.children) (sym step.changed) (still x covers))
      | inr ne ↦ subst (λ (z : Node K). Each (Cover x) z.children) (sym (step.others q ne)) (covers q (used_before old new a pairs entries step q u))
    ]

    pub descent_changed : (item : TraversalItem) → IsDescent r old item coming → IsDescent r new item coming
    descent_changed item d = record {
      there = used_kept old new a pairs entries step item.page d.there;
      seen = (let h = d.seen in let e = step.counter in omega (arith, h, e));
      covered = λ le. cover_changed item.page
          (d.covered (let m = nsn_kept old new a pairs entries step item.page in omega (arith, le, m)));
    }

  -- any step of others
  pub descent_step : IsLawful r → (item : TraversalItem) (old new : Tree K) (step : Step K) → Legal r old → IsStep r old step new
      → IsDescent r old item coming → IsDescent r new item coming
  descent_step law item old new (Splits n p sides left right) legal step d = descent_split law old new n p sides left right legal step item d
  descent_step law item old new (SplitsRoot sides left right) legal step d = descent_root old new sides left right legal step item d
  descent_step law item old new (Widens a x other key) legal step d =
      descent_changed old new a (old.node a).pairs (with_key x key (old.node a).children) step.changes
      (λ y covers. each_with_key (Cover y) x key (old.node a).children
      (each_both (Cover y) (λ c. c.page ≡ x → r.covers key c.key ≡ true) (λ c. (c.page ≡ x → Cover y (record { key = key; page = c.page })) × (c.page ≢ x → Cover y c))
      (λ c cover wider. ((λ same is. law.goes_on key c.key coming (wider same) (cover is)), (λ ne. cover))) (old.node a).children
      (covers a (step.changes).there) step.covers_old)) item d
  descent_step law item old new (Adds a x) legal step d =
      descent_changed old new a ((old.node a).pairs ++ x ∷ []) (old.node a).children step.changes (λ y covers. covers a (step.changes).there) item d
  descent_step law item old new (Marks a row key mark) legal step d =
      descent_changed old new a (with_mark r row key mark (old.node a).pairs) (old.node a).children step.changes (λ y covers. covers a (step.changes).there) item d
  descent_step law item old new (Sweeps a claimed) legal step d =
      descent_changed old new a (filter (spares claimed) (old.node a).pairs) (old.node a).children step.changes (λ y covers. covers a (step.changes).there) item d

  -- Its own steps.

  pub descent_begins : (t : Tree K) → Legal r t → IsDescent r t (from_root t) coming
  descent_begins t legal = record {
    there = (omega arith, (let h = legal.counter in omega (arith, h)));
    seen = omega arith;
    covered = λ le q u. each_map (ChildFits r t (t.node q).level) (Cover 1)
        (λ c fit is. (let low = fit.low in absurd (omega (arith, low, is)))) (t.node q).children (legal.pages q u).children;
  }

  unnamed_covers : (x : ℕ) (cs : List (Child K)) → times x (map (λ c. c.page) cs) ≡ 0 → Each (Cover x) cs
  unnamed_covers x [] none = tt
  unnamed_covers x (c ∷ cs) none =
      ((λ is. (let one = one_at c.page x is in absurd (omega (arith, one, none)))), unnamed_covers x cs (omega (arith, none)))

  -- from a page whose entry for x covers the key a descent goes on to x, remembered with the counter
  pub descent_goes_down : (t : Tree K) → Legal r t → (a x : ℕ) → Used t a → 0 < times x (child_pages (t.node a))
      → Each (Cover x) (t.node a).children → IsDescent r t (record { page = x; seen = t.counter }) coming
  descent_goes_down t legal a x ua named covers = record {
    there = ((omega (arith, low), ux));
    seen = omega arith;
    covered = λ le q u. elim (cases_eq q a) [
      | inl e ↦ subst (λ q. Each (Cover x) (t.node q).children) (sym e) covers
      | inr ne ↦ unnamed_covers x (t.node q).children
          (let two = total_two (λ y. times x (child_pages (t.node y))) t.used q a u.0 u.1 ua.0 ua.1 ne in
          let one = legal.parent x low ux in omega (arith, two, one, named))
    ];
  }
    where
      pick : (c : Child K) × ChildFits r t (t.node a).level c × (c.page ≡ x)
      pick = some_child (ChildFits r t (t.node a).level) x (t.node a).children named (legal.pages a ua).children

      low : 2 ≤ x
      low = let f = pick.1 in let e = pick.2 in let h = f.low in omega (arith, e, h)

      ux : x ≤ t.used
      ux = let f = pick.1 in let e = pick.2 in let h = f.used in omega (arith, e, h)

  -- a widening for the key makes that entry cover it
  pub widened_covers : (old new : Tree K) (a x : ℕ) (key : K) → IsWidening r old new a x coming key → Each (Cover x) (new.node a).children
  widened_covers old new a x key step =
      subst (λ (z : Node K). Each (Cover x) z.children) (sym (step.changes).changed)
      (each_with_key (Cover x) x key (old.node a).children
      (each_map (λ c. c.page ≡ x → r.covers key c.key ≡ true) (λ c. (c.page ≡ x → Cover x (record { key = key; page = c.page })) × (c.page ≢ x → Cover x c))
      (λ c wider. ((λ same is. step.covers_coming), (λ ne is. absurd (ne is)))) (old.node a).children step.covers_old))
