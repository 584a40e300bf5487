-- Which entries are live: by the mark of the entry's pair, and after each step.
use Rattle.std.proofs.Common.{◌≡◌, ℕ, ◌+◌, ◌≤◌, Bool, true, false, not, ◌&&◌, inl, inr, List, ◌∷◌, ◌++◌, refl, ap, sym, ◌∙◌, subst, arith}
use Rattle.std.specs.Prelude.{◌==◌, nat_lt}
use Rattle.std.specs.Ordering.{is_eq}
use Rattle.std.proofs.lemmas.Bool.{eqb-true, eq-eqb, lt-ltb}
use Rattle.gx_machine.specs.declared.entry.Entry.{Entry}
use Rattle.gx_machine.specs.Keys.{same_entry}
use Rattle.gx_machine.proofs.SetLaws.{entry_itself}
use Rattle.gx_node.specs.Lists.{one_if, how_many}
use Rattle.gx_node.specs.Trees.{Pair, Tree, Used, leaves, passing, standing}
use Rattle.gx_node.specs.Legal.{Legal}
use Rattle.gx_node.specs.Steps.{IsAdding, IsMarking, Step, Splits, SplitsRoot, Widens, Adds, Marks, Sweeps, IsStep}
use Rattle.gx_node.proofs.Sums.{sum_over_add, sum_over_same, each_always}
use Rattle.gx_node.proofs.Splits.{standing_split}
use Rattle.gx_node.proofs.Roots.{standing_root}
use Rattle.gx_node.proofs.PageSteps.{standing_widened, standing_added, standing_swept_plain, standing_one_marked}
use Rattle.gx_recovery.proofs.Tests.{true_or_false, and_first, and_second}
use Rattle.gx_recovery.proofs.Logs.{and_all}
use Rattle.gx_index_laws.specs.Classes.{Class, IsLawful, entry_of, is_of, is_live_of, is_live}
use Rattle.gx_index_laws.specs.Steps.{IsPageStep}
use Rattle.gx_index_laws.proofs.Tools.{not_true, counted_in, halves, none_pass, one_counts}

swept_dead : (a m n : Bool) → ((a && not m) && (m && n)) ≡ false
swept_dead true true n = refl
swept_dead true false n = refl
swept_dead false m n = refl

module _ {B : Type 0} (c : Class B) (l : IsLawful c) where
  -- a pair is of one entry
  pub pair_is : (e : Entry B) (x : Pair B) → is_of c e x ≡ true → entry_of x ≡ e
  pair_is e x is =
      let row : x.row ≡ e.row = eqb-true x.row e.row (and_first (x.row == e.row) (c.rules.same x.key e.key) is) in
      let key : x.key ≡ e.key = l.rules.exact x.key e.key (and_second (x.row == e.row) (c.rules.same x.key e.key) is) in
      λ i. record { row = row i; key = key i }

  pub is_pair : (e : Entry B) (x : Pair B) → entry_of x ≡ e → is_of c e x ≡ true
  is_pair e x is =
      and_all (x.row == e.row) (c.rules.same x.key e.key) (eq-eqb x.row e.row (ap (λ (y : Entry B). y.row) is))
      (subst (λ k. c.rules.same x.key k ≡ true) (ap (λ (y : Entry B). y.key) is) (l.rules.itself x.key))

  pub same_refl : (e : Entry B) → same_entry c.keys e e ≡ true
  same_refl e = ap is_eq (entry_itself c.keys l.keys e)

  -- another entry has no such pair
  pub other_pair : (e other : Entry B) (x : Pair B) → entry_of x ≡ e → same_entry c.keys other e ≡ false → is_of c other x ≡ false
  other_pair e other x is ne =
      elim (true_or_false (is_of c other x)) [
        | inl h ↦ (let at : other ≡ e = sym (pair_is other x h) ∙ is in
            not_true (same_entry c.keys other e) (subst (λ y. same_entry c.keys other y ≡ true) at (same_refl other)) ne)
        | inr h ↦ h
      ]

  passing_halves : (t : Tree B) (p q : Pair B → Bool) (pages : List ℕ) → passing (λ x. p x && q x) t pages + passing (λ x. p x && not (q x)) t pages ≡ passing p t pages
  passing_halves t p q pages =
      sym (sum_over_add (λ a. how_many (λ x. p x && q x) (t.node a).pairs) (λ a. how_many (λ x. p x && not (q x)) (t.node a).pairs) pages)
      ∙ sum_over_same (λ a. how_many (λ x. p x && q x) (t.node a).pairs + how_many (λ x. p x && not (q x)) (t.node a).pairs) (λ a. how_many p (t.node a).pairs) pages
      (each_always (λ a. how_many (λ x. p x && q x) (t.node a).pairs + how_many (λ x. p x && not (q x)) (t.node a).pairs ≡ how_many p (t.node a).pairs)
      (λ a. halves p q (t.node a).pairs) pages)

  pub in_leaf : (t : Tree B) → Legal c.rules t → (test : Pair B → Bool) (a : ℕ) → Used t a → (t.node a).level ≡ 0
      → how_many test (t.node a).pairs ≤ standing test t
  in_leaf t legal test a used leaf =
      let one = legal.once a used leaf in one_counts (λ q. how_many test (t.node q).pairs) a (leaves t) (omega (arith, one))

  -- an entry is live exactly if its pair isn't marked
  module _ (t : Tree B) (legal : Legal c.rules t) (e : Entry B) (a : ℕ) (used : Used t a) (leaf : (t.node a).level ≡ 0) (before after : List (Pair B)) (y : Pair B)
      (parts : (t.node a).pairs ≡ before ++ y ∷ after) (is : is_of c e y ≡ true) where
    counts : (test : Pair B → Bool) → test y ≡ true → 1 ≤ standing test t
    counts test passes =
        let here = counted_in test before after y in
        let one = ap (λ b. one_if b) passes in
        let same = ap (λ xs. how_many test xs) parts in
        let all = in_leaf t legal test a used leaf in
        omega (arith, here, one, same, all)

    few : standing (λ x. is_of c e x && not x.marked) t + standing (λ x. is_of c e x && not (not x.marked)) t ≤ 1
    few =
        let both = passing_halves t (λ x. is_of c e x) (λ x. not x.marked) (leaves t) in
        let single = legal.single e.row e.key in
        omega (arith, both, single)

    live_by : (m : Bool) → y.marked ≡ m → is_live c t e ≡ not m
    unfolding is_live
    live_by true at =
        let some = counts (λ x. is_of c e x && not (not x.marked)) (and_all (is_of c e y) (not (not y.marked)) is (ap (λ b. not (not b)) at)) in
        let both = few in
        let none : standing (is_live_of c e) t ≡ 0 = omega (arith, some, both) in
        ap (λ n. nat_lt 0 n) none
    live_by false at =
        let some = counts (is_live_of c e) (and_all (is_of c e y) (not y.marked) is (ap not at)) in
        lt-ltb 0 (standing (is_live_of c e) t) (omega (arith, some))

    pub live_by_pair : is_live c t e ≡ not y.marked
    live_by_pair = live_by y.marked refl

  -- if the live pairs of an entry count alike, it is as live
  pub live_alike : (old new : Tree B) (e : Entry B) → standing (is_live_of c e) new ≡ standing (is_live_of c e) old → is_live c new e ≡ is_live c old e
  unfolding is_live
  live_alike old new e same = ap (λ n. nat_lt 0 n) same

  -- a step that has a page record: an entry is live exactly if it was
  pub page_step_live : (old new : Tree B) (step : Step B) → Legal c.rules old → IsStep c.rules old step new → IsPageStep step → (e : Entry B)
      → is_live c new e ≡ is_live c old e
  page_step_live old new (Splits n p sides left right) legal step is e =
      live_alike old new e (standing_split c.rules l.rules old new n p sides left right legal step (is_live_of c e))
  page_step_live old new (SplitsRoot sides left right) legal step is e =
      live_alike old new e (standing_root c.rules old new sides left right legal step (is_live_of c e))
  page_step_live old new (Widens a x coming key) legal step is e =
      live_alike old new e (standing_widened c.rules old new a legal l.rules x coming key step (is_live_of c e))
  page_step_live old new (Sweeps a claimed) legal step is e =
      let gone = none_pass (λ x. is_live_of c e x && (x.marked && not (claimed x))) (λ x. swept_dead (is_of c e x) x.marked (not (claimed x))) (old.node a).pairs in
      let all = standing_swept_plain c.rules old new a legal claimed step (is_live_of c e) in
      live_alike old new e (omega (arith, gone, all))
  page_step_live old new (Adds a x) legal step is e = absurd is
  page_step_live old new (Marks a row key mark) legal step is e = absurd is

  -- a write of a pair: any other entry is live exactly if it was
  pub added_others : (old new : Tree B) (a : ℕ) (x : Pair B) → Legal c.rules old → IsAdding c.rules old new a x → (other : Entry B)
      → same_entry c.keys other (entry_of x) ≡ false → is_live c new other ≡ is_live c old other
  added_others old new a x legal step other ne =
      let none : one_if (is_live_of c other x) ≡ 0 = ap (λ b. one_if (b && not x.marked)) (other_pair (entry_of x) other x refl ne) in
      let all = standing_added c.rules old new a legal l.rules x step (is_live_of c other) in
      live_alike old new other (omega (arith, none, all))

  pub marked_others : (old new : Tree B) (a : ℕ) (e : Entry B) (mark : Bool) → Legal c.rules old → IsMarking c.rules old new a e.row e.key mark
      → (before after : List (Pair B)) (y : Pair B) → (old.node a).pairs ≡ before ++ y ∷ after → is_of c e y ≡ true → (other : Entry B)
      → same_entry c.keys other e ≡ false → is_live c new other ≡ is_live c old other
  marked_others old new a e mark legal step before after y parts is other ne =
      let at : entry_of y ≡ e = pair_is e y is in
      let was : one_if (is_live_of c other y) ≡ 0 = ap (λ b. one_if (b && not y.marked)) (other_pair e other y at ne) in
      let now : Pair B = record { row = y.row; key = y.key; marked = mark } in
      let now_one : one_if (is_live_of c other now) ≡ 0 = ap (λ b. one_if (b && not mark)) (other_pair e other now at ne) in
      let all = standing_one_marked c.rules e.row e.key mark old new a legal step (is_live_of c other) before after y parts is in
      live_alike old new other (omega (arith, was, now_one, all))
