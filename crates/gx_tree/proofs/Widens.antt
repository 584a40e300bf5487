-- A bound that is widened by its slot is the tree's step, and the descent goes on below it.
use Rattle.std.proofs.Common.{◌≡◌, ◌≢◌, ℕ, zero, suc, ◌<◌, Bool, true, List, [], ◌∷◌, length, set, refl, sym, ap, ◌∙◌, subst, arith, inl, inr, Some}
use Rattle.std.specs.Prelude.{slice_get, IfSome}
use Rattle.std.proofs.lemmas.Bool.{cases_eq}
use Rattle.gx_node.specs.Edits.{bounded_by}
use Rattle.gx_node.proofs.OneChanged.{bound_once}
use Rattle.gx_node.specs.Lists.{Each}
use Rattle.gx_node.specs.Trees.{Pair, Child, Node, Tree, Rules, IsLawful, Used, standing}
use Rattle.gx_node.specs.Legal.{Legal}
use Rattle.gx_node.specs.Steps.{ChangesOnly, EntriesCover, IsWidening, with_key}
use Rattle.gx_node.specs.Reach.{TraversalItem}
use Rattle.gx_node.specs.Writes.{IsDescent}
use Rattle.gx_node.proofs.PageSteps.{legal_widened, standing_widened}
use Rattle.gx_tree.specs.declared.descent.Descended.{Descended}
use Rattle.gx_tree.specs.declared.descent.Descended.TheVariants.{Again, Leaf, FullLeaf, FullInner, Down, Widened}
use Rattle.gx_tree.specs.Descending.{StepsDown, next_of}
use Rattle.gx_node.specs.Keyed.{AreKeys}
use Rattle.gx_node.specs.Store.{Store, tree_of}
use Rattle.gx_tree.proofs.Ways.{each_slot, alone, named_once, way_down}

module _ {K : Type 0} where
  -- a node with an entry isn't a leaf
  inner_with : (level : ℕ) (cs : List (Child K)) (slot : ℕ) (c : Child K) → (level ≡ 0 → cs ≡ []) → slice_get cs slot ≡ Some c → 0 < level
  inner_with zero [] slot c none at = cc
  inner_with zero (x ∷ cs) slot c none at = let empty : x ∷ cs ≡ [] = none refl in cc
  inner_with (suc level) cs slot c none at = omega arith

  set_at : (cs : List (Child K)) (slot : ℕ) (c d : Child K) → slice_get cs slot ≡ Some c → slice_get (set cs slot d) slot ≡ Some d
  set_at [] slot c d at = cc
  set_at (x ∷ cs) zero c d at = refl
  set_at (x ∷ cs) (suc slot) c d at = set_at cs slot c d at

  -- an inner node of a legal tree has entries
  pub never_empty : (r : Rules K) (t : Tree K) → Legal r t → (a : ℕ) → Used t a → 0 < (t.node a).level → length (t.node a).children ≢ 0
  never_empty r t legal a used inner none = let some : 0 < length (t.node a).children = ((legal.pages a used).inner inner).1 in absurd (omega (arith, some, none))

  module _ (r : Rules K) (coming key : K) (old new : Tree K) (legal : Legal r old) (a slot : ℕ) (used : Used old a)
      (c : Child K) (at : slice_get (old.node a).children slot ≡ Some c)
      (first : r.covers key c.key ≡ true) (second : r.covers key coming ≡ true)
      (changes : ChangesOnly old new a (old.node a).pairs (set (old.node a).children slot (bounded_by key c))) where
    pub widening : ((b : K) → r.covers b c.key ≡ true → r.covers b coming ≡ true → r.covers b key ≡ true)
        → EntriesCover r old a coming → IsWidening r old new a c.page coming key
    widening least covered =
        let cs = (old.node a).children in
        let same : set cs slot (bounded_by key c) ≡ with_key c.page key cs = bound_once c.page key cs slot c (named_once r old legal a slot used c at) at refl in
        record {
          inner = inner_with (old.node a).level cs slot c (legal.pages a used).leaf at;
          changes = subst (λ ds. ChangesOnly old new a (old.node a).pairs ds) same changes;
          covers_old = alone (λ d. r.covers key d.key ≡ true) cs slot c at first (named_once r old legal a slot used c at);
          covers_coming = second;
          least = λ b each covers. least b (each_slot (λ d. d.page ≡ c.page → r.covers b d.key ≡ true) cs slot c at each refl) covers;
          covered = covered;
        }

    pub widened_down : Legal r new → IsDescent r new (record { page = c.page; seen = old.counter }) coming
    widened_down legal_new =
        let entry : slice_get (new.node a).children slot ≡ Some (bounded_by key c) =
        ap (λ (n : Node K). slice_get n.children slot) changes.changed ∙ set_at (old.node a).children slot c (bounded_by key c) at in
        subst (λ n. IsDescent r new (record { page = c.page; seen = n }) coming) changes.counter
        (way_down r coming new legal_new a slot (used.0, omega (arith, used.1, changes.used)) (bounded_by key c) entry second)

  each_set : (P : Child K → Type 0) (cs : List (Child K)) (slot : ℕ) (d : Child K) → P d → Each P cs → Each P (set cs slot d)
  each_set P [] slot d p each = tt
  each_set P (c ∷ cs) zero d p each = (p, each.1)
  each_set P (c ∷ cs) (suc slot) d p each = (each.0, each_set P cs slot d p each.1)

  -- a class's steps, with what it says of its unions
  module _ (r : Rules K) (IsKey : K → Type 0) (cost : K → K → ℕ × ℕ) (joined : K → K → K)
      (is_key : (a b : K) → IsKey a → IsKey b → IsKey (joined a b))
      (first : (a b : K) → IsKey a → IsKey b → r.covers (joined a b) a ≡ true)
      (second : (a b : K) → IsKey a → IsKey b → r.covers (joined a b) b ≡ true)
      (least : (a b c : K) → IsKey a → IsKey b → r.covers c a ≡ true → r.covers c b ≡ true → r.covers c (joined a b) ≡ true)
      (old new : Store K) (item : TraversalItem) (coming : K) (keys : AreKeys IsKey (tree_of old)) (is : IsKey coming) where
    -- a slot's bound is a key
    bound_is : (slot : ℕ) (c : Child K) → Used (tree_of old) item.page → slice_get ((tree_of old).node item.page).children slot ≡ Some c → IsKey c.key
    bound_is slot c used at = each_slot (λ d. IsKey d.key) ((tree_of old).node item.page).children slot c at (keys.children item.page used)

    pub went_down : (next : TraversalItem) → Legal r (tree_of old) → IsDescent r (tree_of old) item coming → StepsDown cost joined r.most old new item coming (Down next) → IsDescent r (tree_of new) next coming
    went_down next legal descent step =
        let way = step.0.1 in
        let c : Child K = record { key = way.1.0; page = next.page } in
        let covers : r.covers c.key coming ≡ true = ap (λ b. r.covers b coming) (sym way.1.2) ∙ second c.key coming (bound_is step.0.0 c descent.there (way.1.1).at) is in
        subst (λ s. IsDescent r (tree_of s) next coming) (sym step.2)
        (subst (λ n. IsDescent r (tree_of old) (record { page = next.page; seen = n }) coming) (sym step.1)
        (way_down r coming (tree_of old) legal item.page step.0.0 descent.there c (way.1.1).at covers))

    module _ (next : TraversalItem) (slot : ℕ) (key : K) (step : StepsDown cost joined r.most old new item coming (Widened next slot key)) where
      pub keys_widened : Used (tree_of old) item.page → AreKeys IsKey (tree_of new)
      keys_widened used =
          let way = step.0 in
          let c : Child K = record { key = way.1.0; page = next.page } in
          let changes = step.2 c (way.1.1).at in
          let here = changes.changed in
          let key_is : IsKey key = subst IsKey (sym way.1.2) (is_key c.key coming (bound_is slot c used (way.1.1).at) is) in
          record {
            pairs = λ p u. elim (cases_eq p item.page) [
              | inl e ↦ subst (λ q. Each (λ x. IsKey x.key) ((tree_of new).node q).pairs) (sym e)
                  (subst (λ (n : Node K). Each (λ x. IsKey x.key) n.pairs) (sym here) (keys.pairs item.page used))
              | inr ne ↦ subst (λ (n : Node K). Each (λ x. IsKey x.key) n.pairs) (sym (changes.others p ne)) (keys.pairs p (u.0, omega (arith, u.1, changes.used)))
            ];
            children = λ p u. elim (cases_eq p item.page) [
              | inl e ↦ subst (λ q. Each (λ d. IsKey d.key) ((tree_of new).node q).children) (sym e)
                  (subst (λ (n : Node K). Each (λ d. IsKey d.key) n.children) (sym here)
                  (each_set (λ d. IsKey d.key) ((tree_of old).node item.page).children slot (bounded_by key c) key_is (keys.children item.page used)))
              | inr ne ↦ subst (λ (n : Node K). Each (λ d. IsKey d.key) n.children) (sym (changes.others p ne)) (keys.children p (u.0, omega (arith, u.1, changes.used)))
            ];
          }

      module _ (legal : Legal r (tree_of old)) (descent : IsDescent r (tree_of old) item coming) where
        pub went_widening : IsWidening r (tree_of old) (tree_of new) item.page next.page coming key
        went_widening =
            let way = step.0 in
            let c : Child K = record { key = way.1.0; page = next.page } in
            let bound_key = bound_is slot c descent.there (way.1.1).at in
            widening r coming key (tree_of old) (tree_of new) legal item.page slot descent.there c (way.1.1).at
            (ap (λ b. r.covers b c.key) way.1.2 ∙ first c.key coming bound_key is)
            (ap (λ b. r.covers b coming) way.1.2 ∙ second c.key coming bound_key is)
            (step.2 c (way.1.1).at)
            (λ b on_bound on_coming. ap (r.covers b) way.1.2 ∙ least c.key coming b bound_key is on_bound on_coming)
            (descent.covered way.0)

        pub went_widened : IsLawful r → IsDescent r (tree_of new) next coming
        went_widened law =
            let way = step.0 in
            let c : Child K = record { key = way.1.0; page = next.page } in
            let bound_key = bound_is slot c descent.there (way.1.1).at in
            let legal_new = legal_widened r (tree_of old) (tree_of new) item.page legal law next.page coming key went_widening in
            subst (λ n. IsDescent r (tree_of new) (record { page = next.page; seen = n }) coming) (sym step.1)
            (widened_down r coming key (tree_of old) (tree_of new) legal item.page slot descent.there c (way.1.1).at
            (ap (λ b. r.covers b c.key) way.1.2 ∙ first c.key coming bound_key is)
            (ap (λ b. r.covers b coming) way.1.2 ∙ second c.key coming bound_key is)
            (step.2 c (way.1.1).at) legal_new)

    pub step_keys : Used (tree_of old) item.page → (did : Descended K) → StepsDown cost joined r.most old new item coming did → AreKeys IsKey (tree_of new)
    step_keys used Again step = subst (λ s. AreKeys IsKey (tree_of s)) (sym step.1) keys
    step_keys used Leaf step = subst (λ s. AreKeys IsKey (tree_of s)) (sym step.1) keys
    step_keys used FullLeaf step = subst (λ s. AreKeys IsKey (tree_of s)) (sym step.1) keys
    step_keys used FullInner step = subst (λ s. AreKeys IsKey (tree_of s)) (sym step.1) keys
    step_keys used (Down next) step = subst (λ s. AreKeys IsKey (tree_of s)) (sym step.2) keys
    step_keys used (Widened next slot key) step = keys_widened next slot key step used

    module _ (law : IsLawful r) (legal : Legal r (tree_of old)) (descent : IsDescent r (tree_of old) item coming) where
      pub step_legal : (did : Descended K) → StepsDown cost joined r.most old new item coming did → Legal r (tree_of new)
      step_legal Again step = subst (λ s. Legal r (tree_of s)) (sym step.1) legal
      step_legal Leaf step = subst (λ s. Legal r (tree_of s)) (sym step.1) legal
      step_legal FullLeaf step = subst (λ s. Legal r (tree_of s)) (sym step.1) legal
      step_legal FullInner step = subst (λ s. Legal r (tree_of s)) (sym step.1) legal
      step_legal (Down next) step = subst (λ s. Legal r (tree_of s)) (sym step.2) legal
      step_legal (Widened next slot key) step =
          legal_widened r (tree_of old) (tree_of new) item.page legal law next.page coming key (went_widening next slot key step legal descent)

      pub step_pairs : (test : Pair K → Bool) (did : Descended K) → StepsDown cost joined r.most old new item coming did
          → standing test (tree_of new) ≡ standing test (tree_of old)
      step_pairs test Again step = ap (λ s. standing test (tree_of s)) step.1
      step_pairs test Leaf step = ap (λ s. standing test (tree_of s)) step.1
      step_pairs test FullLeaf step = ap (λ s. standing test (tree_of s)) step.1
      step_pairs test FullInner step = ap (λ s. standing test (tree_of s)) step.1
      step_pairs test (Down next) step = ap (λ s. standing test (tree_of s)) step.2
      step_pairs test (Widened next slot key) step =
          standing_widened r (tree_of old) (tree_of new) item.page legal law next.page coming key (went_widening next slot key step legal descent) test

      pub step_goes_on : (did : Descended K) → StepsDown cost joined r.most old new item coming did → IfSome (next_of did) (λ next. IsDescent r (tree_of new) next coming)
      step_goes_on Again step = tt
      step_goes_on Leaf step = tt
      step_goes_on FullLeaf step = tt
      step_goes_on FullInner step = tt
      step_goes_on (Down next) step = went_down next legal descent step
      step_goes_on (Widened next slot key) step = went_widened next slot key step legal descent law
