-- No pair is in two places, by passes.
use Rattle.std.proofs.Common.{◌≡◌, ℕ, zero, suc, ◌+◌, ◌*◌, ◌<◌, ◌≤◌, ◌==◌, ◌&&◌, Bool, true, false, not, cond, ◌⊎◌, inl, inr, List, [], ◌∷◌, length, map, Option, Some, None, refl, ap, sym, ◌∙◌, subst, arith, length-append}
use Rattle.std.specs.Prelude.{nat_lt}
use Rattle.std.specs.Cmp.{IsTotalOrder}
use Rattle.std.specs.Ordering.{is_eq, is_gt, ordering_then, ordering_reverse}
use Rattle.std.specs.declared.cmp.Ordering.{Ordering}
use Rattle.std.specs.declared.cmp.Ordering.TheVariants.{Less, Equal, Greater}
use Rattle.std.proofs.lemmas.Bool.{eqb-true, cases_eq}
use borrow.Author.Tests.{ltb-true}
use Rattle.std.proofs.lemmas.List.{length-map}
use Rattle.std.proofs.Math.Nat.{mul-le-mul_right}
use Rattle.gx_machine.specs.Keys.{Keys, entry_cmp}
use Rattle.gx_machine.specs.declared.entry.Entry.{Entry}
use Rattle.gx_node.specs.Edits.{entry_of}
use Rattle.gx_node.specs.Legal.{Linked}
use Rattle.gx_node.specs.Lists.{how_many, one_if}
use Rattle.gx_node.specs.Trees.{Pair, Tree, Rules, Used, leaves, walk, passing, standing, size, is_entry}
use Rattle.gx_node.proofs.Sums.{sum_over-append, sum_over_le, sum_over_add, each_always}
use Rattle.gx_node.specs.Store.{Store, tree_of}
use Rattle.gx_legality.specs.declared.fault.LegalityFault.{LegalityFault}
use Rattle.gx_legality.specs.declared.fault.LegalityFault.TheVariants.{Memory, Pages, Broken, Unsteady}
use Rattle.gx_legality.specs.declared.fault.Rule.TheVariants.{PairTwice}
use Rattle.gx_legality.specs.Breaks.{Breaks}
use Rattle.gx_legality.specs.Entries.{IsPairTwice, entries_on}
use Rattle.gx_legality.specs.Owner.{IsFound}
use Rattle.gx_legality.proofs.Passes.{gathers_begins}
use Rattle.gx_legality.proofs.Walks.{walk_on}
use Rattle.gx_legality.specs.Gathered.{count, IsAfter, Gathered, Gathers, OnceBetween, StandsTwice, Tested, below, gathered_above}

module _ {E : Type 0} (cmp : E → E → Ordering) (o : IsTotalOrder cmp) where
  not_after : (b e : E) (r : Ordering) → cmp b e ≡ r → (cmp b e ≡ Less → ⊥) → is_gt (cmp e b) ≡ false
  not_after b e Less is never = absurd (never is)
  not_after b e Equal is never = ap is_gt (o.antisymm e b ∙ ap ordering_reverse is)
  not_after b e Greater is never = ap is_gt (o.antisymm e b ∙ ap ordering_reverse is)

  after_or : (above : Option E) (e : E) → IsAfter cmp above e ⊎ (IsAfter cmp above e → ⊥)
  after_or None e = inl tt
  after_or (Some a) e = by_order (cmp a e) refl
    where
      by_order : (r : Ordering) → cmp a e ≡ r → (cmp a e ≡ Less) ⊎ (cmp a e ≡ Less → ⊥)
      by_order Less is = inl is
      by_order Equal is = inr (λ less. (let bad : Equal ≡ Less = sym is ∙ less in cc))
      by_order Greater is = inr (λ less. (let bad : Greater ≡ Less = sym is ∙ less in cc))

  -- one that is no later than the lesser bound, or is the greater one, is no later than that
  pair_at_most : (a b x : E) (p q : Ordering) → cmp x a ≡ p → cmp x b ≡ q → cmp a b ≡ Less
      → one_if (not (is_gt (cmp x a))) + one_if (is_eq (cmp x b)) ≤ one_if (not (is_gt (cmp x b)))
  pair_at_most a b x p Equal first next less =
      let other : cmp x a ≡ Greater = o.congr x b a next ∙ (o.antisymm b a ∙ ap ordering_reverse less) in
      let one = ap (λ r. one_if (not (is_gt r))) other in
      let two = ap (λ r. one_if (is_eq r)) next in
      let three = ap (λ r. one_if (not (is_gt r))) next in
      omega (arith, one, two, three)
  pair_at_most a b x Greater Less first next less =
      let one = ap (λ r. one_if (not (is_gt r))) first in
      let two = ap (λ r. one_if (is_eq r)) next in
      let three = ap (λ r. one_if (not (is_gt r))) next in
      omega (arith, one, two, three)
  pair_at_most a b x Less Less first next less =
      let one = ap (λ r. one_if (not (is_gt r))) first in
      let two = ap (λ r. one_if (is_eq r)) next in
      let three = ap (λ r. one_if (not (is_gt r))) next in
      omega (arith, one, two, three)
  pair_at_most a b x Equal Less first next less =
      let one = ap (λ r. one_if (not (is_gt r))) first in
      let two = ap (λ r. one_if (is_eq r)) next in
      let three = ap (λ r. one_if (not (is_gt r))) next in
      omega (arith, one, two, three)
  pair_at_most a b x Less Greater first next less =
      absurd (let bad : Greater ≡ Less = sym next ∙ o.trans x a b first less in cc)
  pair_at_most a b x Equal Greater first next less =
      absurd (let bad : Greater ≡ Less = sym next ∙ (o.congr x a b first ∙ less) in cc)
  pair_at_most a b x Greater Greater first next less =
      let one = ap (λ r. one_if (not (is_gt r))) first in
      let two = ap (λ r. one_if (is_eq r)) next in
      let three = ap (λ r. one_if (not (is_gt r))) next in
      omega (arith, one, two, three)

  same_at_most : (b x : E) (q : Ordering) → cmp x b ≡ q → one_if (is_eq (cmp x b)) ≤ one_if (not (is_gt (cmp x b)))
  same_at_most b x Less next = let two = ap (λ r. one_if (is_eq r)) next in omega (arith, two)
  same_at_most b x Equal next = let two = ap (λ r. one_if (is_eq r)) next in let three = ap (λ r. one_if (not (is_gt r))) next in omega (arith, two, three)
  same_at_most b x Greater next = let two = ap (λ r. one_if (is_eq r)) next in omega (arith, two)

  below_rises : (above : Option E) (b : E) (all : List E) → IsAfter cmp above b → below cmp above all + count cmp b all ≤ below cmp (Some b) all
  below_rises None b all after =
      let each = sum_over_le (λ x. one_if (is_eq (cmp x b))) (λ x. one_if (not (is_gt (cmp x b)))) all (each_always _ (λ x. same_at_most b x (cmp x b) refl) all) in
      omega (arith, each)
  below_rises (Some a) b all after =
      let both = sum_over_add (λ x. one_if (not (is_gt (cmp x a)))) (λ x. one_if (is_eq (cmp x b))) all in
      let each = sum_over_le (λ x. one_if (not (is_gt (cmp x a))) + one_if (is_eq (cmp x b))) (λ x. one_if (not (is_gt (cmp x b)))) all
      (each_always _ (λ x. pair_at_most a b x (cmp x a) (cmp x b) refl refl after) all) in
      omega (arith, both, each)

  one_at_most : (b : Bool) → one_if b ≤ 1
  one_at_most true = omega arith
  one_at_most false = omega arith

  pub below_all : (above : Option E) (all : List E) → below cmp above all ≤ length all
  below_all None all = omega arith
  below_all (Some a) [] = omega arith
  below_all (Some a) (x ∷ xs) =
      let here = one_at_most (not (is_gt (cmp x a))) in
      let rest = below_all (Some a) xs in
      omega (arith, here, rest)

  pub tested_none : (g : Gathered E) (all : List E) → g ≡ gathered_above g.half None → Tested cmp g all 0
  tested_none g all fresh =
      let none : g.above ≡ None = ap (λ (h : Gathered E). h.above) fresh in
      record {
        fresh = fresh ∙ ap (λ (above : Option E). gathered_above g.half above) (sym none);
        once = λ e never. absurd (never (subst (λ (above : Option E). IsAfter cmp above e) (sym none) tt));
        many = omega arith;
      }

  pub tested_more : (g new : Gathered E) (all : List E) (passes half : ℕ) (b : E) → Tested cmp g all passes → IsAfter cmp g.above b
      → 0 < count cmp b all → OnceBetween cmp g.above (Some b) all → new ≡ gathered_above half (Some b) → Tested cmp new all (passes + 1)
  tested_more g new all passes half b was after some once is = subst (λ (h : Gathered E). Tested cmp h all (passes + 1)) (sym is) (record {
    fresh = refl;
    once = λ e never. (
        let low = not_after b e (cmp b e) refl never in
        elim (after_or g.above e) [
          | inl later ↦ once e later low
          | inr up ↦ was.once e up
        ]
        );
    many = let rises = below_rises g.above b all after in let many = was.many in omega (arith, rises, many, some);
  })

  -- a pass came to a new bound, above which the next begins
  pub tested_again : (g new : Gathered E) (all : List E) (passes : ℕ) → Tested cmp (gathered_above 0 g.above) all passes
      → (b : E) × IsAfter cmp g.above b × (0 < count cmp b all) × OnceBetween cmp g.above (Some b) all × (new ≡ gathered_above g.half (Some b)) → Tested cmp new all (passes + 1)
  tested_again g new all passes was again = tested_more (gathered_above 0 g.above) new all passes g.half again.0 was again.1 again.2 again.3 again.4

  pub tested_all : (g : Gathered E) (all : List E) (passes : ℕ) → Tested cmp g all passes → OnceBetween cmp g.above None all
      → (e : E) → count cmp e all ≤ 1
  tested_all g all passes was once e = elim (after_or g.above e) [
    | inl later ↦ once e later tt
    | inr up ↦ was.once e up
  ]

-- what was tested doesn't depend on the buffer
pub tested_from : {E : Type 0} (cmp : E → E → Ordering) (g : Gathered E) (all : List E) (passes : ℕ) → Tested cmp g all passes → Tested cmp (gathered_above 0 g.above) all passes
tested_from cmp g all passes was = record { fresh = refl; once = was.once; many = was.many }

module _ {B : Type 0} (order : B → B → Ordering) (overlap inside : B → B → Bool) (most : ℕ) where
  abbrev the_keys : Keys B
  the_keys = record { cmp = order; overlaps = overlap; within = inside }

  abbrev the_rules : Rules B
  the_rules = record { covers = λ a b. inside b a; same = λ a b. is_eq (order a b); most = most }

  same_row : (a b : ℕ) (lt eq : Bool) (r : Ordering) → nat_lt a b ≡ lt → (a == b) ≡ eq
      → is_eq (ordering_then (cond lt Less (cond eq Equal Greater)) r) ≡ (eq && is_eq r)
  same_row a b true true r low same = absurd (let h = ltb-true a b low in let e = eqb-true a b same in omega (arith, h, e))
  same_row a b true false r low same = refl
  same_row a b false true r low same = refl
  same_row a b false false r low same = refl

  entry_same : (x : Pair B) (e : Entry B) → is_eq (entry_cmp the_keys (entry_of x) e) ≡ is_entry the_rules e.row e.key x
  entry_same x e = same_row x.row e.row (nat_lt x.row e.row) (x.row == e.row) (order x.key e.key) refl refl

  pub count_pairs : (e : Entry B) (pairs : List (Pair B))
      → count (entry_cmp the_keys) e (map entry_of pairs) ≡ how_many (is_entry the_rules e.row e.key) pairs
  count_pairs e [] = refl
  count_pairs e (x ∷ pairs) =
      let here = ap one_if (entry_same x e) in
      let rest = count_pairs e pairs in
      omega (arith, here, rest)

  -- an entry is on these pages as often as a pair of its row and key is
  pub count_entries : (t : Tree B) (e : Entry B) (qs : List ℕ)
      → count (entry_cmp the_keys) e (entries_on t qs) ≡ passing (is_entry the_rules e.row e.key) t qs
  count_entries t e [] = refl
  count_entries t e (q ∷ qs) =
      let both = sum_over-append (λ x. one_if (is_eq (entry_cmp the_keys x e))) (map entry_of (t.node q).pairs) (entries_on t qs) in
      let here = count_pairs e (t.node q).pairs in
      let rest = count_entries t e qs in
      omega (arith, both, here, rest)

  pub twice_pair : (t : Tree B) (p : ℕ) → p ≡ 2 → StandsTwice (entry_cmp the_keys) (entries_on t (leaves t)) → Breaks the_rules t p PairTwice
  twice_pair t p begins twice =
      let same = count_entries t twice.0 (leaves t) in
      let two = twice.1 in
      (begins, twice.0.row, twice.0.key, omega (arith, same, two))

  pub pair_found : {F : Type 0} (t : Tree B) (e : LegalityFault F) → IsFound (IsPairTwice (entry_cmp the_keys) (entries_on t (leaves t))) e
      → IsFound (Breaks the_rules t) e
  pair_found t Memory is = tt
  pair_found t (Pages fault) is = tt
  pair_found t Unsteady is = is
  pair_found t (Broken p rule) is = subst (λ rule. Breaks the_rules t p rule) (sym is.0) (twice_pair t p is.1 is.2)

  pub once_pair : (t : Tree B) → ((e : Entry B) → count (entry_cmp the_keys) e (entries_on t (leaves t)) ≤ 1)
      → (row : ℕ) (key : B) → standing (is_entry the_rules row key) t ≤ 1
  once_pair t once row key =
      let e : Entry B = record { row = row; key = key } in
      let same = count_entries t e (leaves t) in
      let one = once e in
      omega (arith, same, one)

module _ {B : Type 0} where
  -- if a node has room for so many, the leaves have no more than that each
  long_entries : (t : Tree B) (most p : ℕ) (qs : List ℕ) → Linked t p qs → ((q : ℕ) → Used t q → size (t.node q) ≤ most)
      → length (entries_on t qs) ≤ length qs * most
  long_entries t most p [] linked room = omega arith
  long_entries t most p (q ∷ qs) linked room =
      let here = room q linked.1 in
      let rest = long_entries t most (t.node q).right qs linked.3 room in
      let all = length-append (map entry_of (t.node q).pairs) (entries_on t qs) in
      let some = length-map (t.node q).pairs entry_of in
      grind (arith, here, rest, all, some)

  long_walk : (t : Tree B) (n p : ℕ) → length (walk t n p) ≤ n
  long_walk t zero p = omega arith
  long_walk t (suc n) p = elim (cases_eq p 0) [
    | inl end ↦ (let none : walk t (suc n) p ≡ [] = ap (λ q. walk t (suc n) q) end in omega (arith, ap length none))
    | inr some ↦ (
        let rest = long_walk t n (t.node p).right in
        let here = ap length (walk_on t n p some) in
        omega (arith, rest, here)
        )
  ]

  pub few_entries : (t : Tree B) (most : ℕ) → Linked t 2 (leaves t) → ((q : ℕ) → Used t q → size (t.node q) ≤ most)
      → length (entries_on t (leaves t)) ≤ t.used * most
  few_entries t most linked room =
      let few = long_entries t most 2 (leaves t) linked room in
      let long = mul-le-mul_right most (long_walk t t.used 2) in
      omega (arith, few, long)

module _ {E : Type 0} (cmp : E → E → Ordering) (o : IsTotalOrder cmp) where
  pub pass_begins : (g : Gathered E) (all : List E) (passes : ℕ) → Tested cmp g all passes → Gathers cmp g all all
  pass_begins g all passes was = subst (λ (h : Gathered E). Gathers cmp h all all) (sym was.fresh) (gathers_begins cmp o g.half g.above all)

module _ {B : Type 0} (cmp : Entry B → Entry B → Ordering) (o : IsTotalOrder cmp) where
  -- a pass begins, over pages that show the same
  pub pass_goes : (old now : Store B) (g : Gathered (Entry B)) (passes : ℕ) → now ≡ old
      → Tested cmp g (entries_on (tree_of old) (leaves (tree_of old))) passes → Linked (tree_of old) 2 (leaves (tree_of old))
      → Linked (tree_of now) 2 (leaves (tree_of now))
      × Gathers cmp g (entries_on (tree_of old) (leaves (tree_of old))) (entries_on (tree_of now) (leaves (tree_of now)))
  pass_goes old now g passes same was linked =
      subst (λ (s : Store B). Linked (tree_of s) 2 (leaves (tree_of s))
      × Gathers cmp g (entries_on (tree_of old) (leaves (tree_of old))) (entries_on (tree_of s) (leaves (tree_of s)))) (sym same)
      (linked, pass_begins cmp o g (entries_on (tree_of old) (leaves (tree_of old))) passes was)
