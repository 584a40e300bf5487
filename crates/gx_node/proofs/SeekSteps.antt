-- A seek at work: steps of others keep it, and so do its own, of which each leaves a leaf less.
use Rattle.std.proofs.Common.{◌≡◌, ℕ, ◌<◌, Bool, true, false, ◌&&◌, List, [], ◌∷◌, ◌++◌, filter, length, refl, ap, sym, ◌∙◌, subst, arith}
use Rattle.gx_node.specs.Lists.{one_if, how_many}
use Rattle.gx_node.specs.Trees.{Pair, Child, Tree, Rules, IsLawful, Used, walk, leaves, passing, standing, is_entry}
use Rattle.gx_node.specs.Legal.{Linked, Legal}
use Rattle.gx_node.specs.Steps.{with_key, with_mark, spares, ChangesOnly, IsMarking, Step, Splits, SplitsRoot, Widens, Adds, Marks, Sweeps, IsStep, LeavesAlone}
use Rattle.gx_node.specs.Writes.{IsSeek, leaves_left}
use Rattle.gx_node.proofs.Sums.{sum_over_same, each_always}
use Rattle.gx_node.proofs.Chains.{walk_is, length_walk, linked_from, sum_from}
use Rattle.gx_node.proofs.Splits.{chain_split, passing_split}
use Rattle.gx_node.proofs.Roots.{chain_root, passing_root}
use Rattle.gx_node.proofs.Changes.{chain_kept, passing_kept}
use Rattle.gx_node.proofs.PageSteps.{entries_marked}
use Rattle.gx_node.proofs.LookSteps.{alone_added, alone_marked, alone_swept}

and_true : (b : Bool) → one_if (b && true) ≡ one_if b
and_true true = refl
and_true false = refl

module _ {K : Type 0} (r : Rules K) (a row : ℕ) (key : K) where
  plain : (xs : List (Pair K)) → how_many (λ x. is_entry r row key x && true) xs ≡ how_many (is_entry r row key) xs
  plain xs = sum_over_same (λ x. one_if (is_entry r row key x && true)) (λ x. one_if (is_entry r row key x)) xs
      (each_always (λ x. one_if (is_entry r row key x && true) ≡ one_if (is_entry r row key x)) (λ x. and_true (is_entry r row key x)) xs)

  seek_changed : (old new : Tree K) (b : ℕ) (pairs : List (Pair K)) (entries : List (Child K)) → ChangesOnly old new b pairs entries
      → how_many (is_entry r row key) pairs ≡ how_many (is_entry r row key) (old.node b).pairs → IsSeek r old a row key → IsSeek r new a row key
  seek_changed old new b pairs entries step same seek = record {
    chain = chain_kept old new b pairs entries step a seek.chain;
    stands = (let e = passing_kept old new b pairs entries step (is_entry r row key) same a seek.chain in let h = seek.stands in omega (arith, e, h));
  }

  from_alone : (xs ys : List (Pair K)) → how_many (λ x. is_entry r row key x && true) xs ≡ how_many (λ x. is_entry r row key x && true) ys
      → how_many (is_entry r row key) xs ≡ how_many (is_entry r row key) ys
  from_alone xs ys e = sym (plain xs) ∙ e ∙ plain ys

  -- any step of others
  pub seek_step : IsLawful r → (old new : Tree K) (step : Step K) → Legal r old → IsStep r old step new → LeavesAlone r (is_entry r row key) step
      → IsSeek r old a row key → IsSeek r new a row key
  seek_step law old new (Splits n p sides left right) legal step alone seek = record {
    chain = chain_split r law old new n p sides left right legal step a seek.chain;
    stands = (let e = passing_split r law old new n p sides left right legal step (is_entry r row key) a seek.chain in let h = seek.stands in omega (arith, e, h));
  }
  seek_step law old new (SplitsRoot sides left right) legal step alone seek = record {
    chain = chain_root r old new sides left right legal step a seek.chain;
    stands = (let e = passing_root r old new sides left right legal step (is_entry r row key) a seek.chain in let h = seek.stands in omega (arith, e, h));
  }
  seek_step law old new (Widens b x coming k) legal step alone seek =
      seek_changed old new b (old.node b).pairs (with_key x k (old.node b).children) step.changes refl seek
  seek_step law old new (Adds b x) legal step alone seek =
      seek_changed old new b ((old.node b).pairs ++ x ∷ []) (old.node b).children step.changes
      (from_alone ((old.node b).pairs ++ x ∷ []) (old.node b).pairs (alone_added (is_entry r row key) (λ y. true) x (old.node b).pairs alone)) seek
  seek_step law old new (Marks b row' key' mark) legal step alone seek =
      seek_changed old new b (with_mark r row' key' mark (old.node b).pairs) (old.node b).children step.changes
      (from_alone (with_mark r row' key' mark (old.node b).pairs) (old.node b).pairs
      (alone_marked (is_entry r row key) (λ y. true) r row' key' mark alone (old.node b).pairs)) seek
  seek_step law old new (Sweeps b claimed) legal step alone seek =
      seek_changed old new b (filter (spares claimed) (old.node b).pairs) (old.node b).children step.changes
      (from_alone (filter (spares claimed) (old.node b).pairs) (old.node b).pairs
      (alone_swept (is_entry r row key) (λ y. true) claimed alone (old.node b).pairs)) seek

  -- a mark, that of its own pair too
  pub seek_marked : (old new : Tree K) (b row' : ℕ) (key' : K) (mark : Bool) → IsMarking r old new b row' key' mark → IsSeek r old a row key → IsSeek r new a row key
  seek_marked old new b row' key' mark step seek =
      seek_changed old new b (with_mark r row' key' mark (old.node b).pairs) (old.node b).children step.changes
      (entries_marked r row' key' mark row key (old.node b).pairs) seek

  -- Its own steps.

  module _ (t : Tree K) where
    begins_by : (ys : List ℕ) → Used t a → Linked t a ys → 0 < how_many (is_entry r row key) (t.node a).pairs → 0 < passing (is_entry r row key) t ys
    begins_by [] u l here = let low = u.0 in absurd (omega (arith, l, low))
    begins_by (y ∷ ys) u l here = let same = ap (λ q. how_many (is_entry r row key) (t.node q).pairs) l.0 in omega (arith, same, here)

    pub seek_begins : Legal r t → Used t a → (t.node a).level ≡ 0 → 0 < how_many (is_entry r row key) (t.node a).pairs → IsSeek r t a row key
    seek_begins legal u leaf here =
        let one = legal.once a u leaf in
        let rest = linked_from t a 2 (leaves t) legal.chain (omega (arith, one)) in
        let most = length_walk t t.used 2 in
        let le = rest.2 in
        let shape : walk t t.used a ≡ rest.0 = walk_is t rest.0 a t.used rest.1 (omega (arith, le, most)) in
        record {
          chain = subst (λ ys. Linked t a ys) (sym shape) rest.1;
          stands = subst (λ ys. 0 < passing (is_entry r row key) t ys) (sym shape) (begins_by rest.0 u rest.1 here);
        }

    -- a seek is at a leaf
    at_leaf_by : (ys : List ℕ) → Linked t a ys → 0 < passing (is_entry r row key) t ys → Used t a × ((t.node a).level ≡ 0)
    at_leaf_by [] l some = absurd (omega arith)
    at_leaf_by (y ∷ ys) l some = subst (λ q. Used t q × ((t.node q).level ≡ 0)) (sym l.0) (l.1, l.2)

    pub seek_at_leaf : IsSeek r t a row key → Used t a × ((t.node a).level ≡ 0)
    seek_at_leaf seek = at_leaf_by (walk t t.used a) seek.chain seek.stands

    -- the tree has the pair that is sought, and no other
    pub sought_stands : Legal r t → IsSeek r t a row key → standing (is_entry r row key) t ≡ 1
    sought_stands legal seek =
        let here = seek_at_leaf seek in
        let one = legal.once a here.0 here.1 in
        let most = sum_from t (λ q. how_many (is_entry r row key) (t.node q).pairs) a 2 (leaves t) (walk t t.used a) legal.chain (omega (arith, one)) seek.chain in
        let some = seek.stands in
        let single = legal.single row key in
        omega (arith, most, some, single)

    goes_right_by : (ys : List ℕ) → walk t t.used a ≡ ys → Linked t a ys → 0 < passing (is_entry r row key) t ys
        → how_many (is_entry r row key) (t.node a).pairs ≡ 0 → IsSeek r t (t.node a).right row key × (leaves_left t (t.node a).right < leaves_left t a)
    goes_right_by [] shape l some none = absurd (omega arith)
    goes_right_by (y ∷ ys) shape l some none =
        let most = length_walk t t.used a in
        let long = ap (λ (zs : List ℕ). length zs) shape in
        let rest : Linked t (t.node a).right ys = subst (λ q. Linked t q ys) (ap (λ q. (t.node q).right) (sym l.0)) l.3 in
        let next : walk t t.used (t.node a).right ≡ ys = walk_is t ys (t.node a).right t.used rest (omega (arith, most, long)) in
        let same = ap (λ q. how_many (is_entry r row key) (t.node q).pairs) l.0 in
        let short = ap (λ (zs : List ℕ). length zs) next in (
          record {
            chain = subst (λ zs. Linked t (t.node a).right zs) (sym next) rest;
            stands = subst (λ zs. 0 < passing (is_entry r row key) t zs) (sym next) (omega (arith, some, same, none));
          },
          omega (arith, short, long),
        )

    pub seek_goes_right : IsSeek r t a row key → how_many (is_entry r row key) (t.node a).pairs ≡ 0
        → IsSeek r t (t.node a).right row key × (leaves_left t (t.node a).right < leaves_left t a)
    seek_goes_right seek none = goes_right_by (walk t t.used a) refl seek.chain seek.stands none
