-- What is live in a tree can be listed, and so can what a log stands for over its pages.
use Rattle.std.proofs.Common.{◌≡◌, ℕ, ◌+◌, Bool, true, false, not, cond, ◌&&◌, ◌||◌, inl, inr, List, [], ◌∷◌, map, flat_map, filter, refl, ap, sym, ◌∙◌, subst, arith}
use Rattle.std.specs.Prelude.{nat_lt}
use Rattle.std.proofs.lemmas.Bool.{lt-ltb}
use Rattle.gx_machine.specs.declared.entry.Entry.{Entry}
use Rattle.gx_machine.specs.Keys.{same_entry}
use Rattle.gx_machine.specs.Sets.{has, IsSetOf}
use Rattle.gx_machine.proofs.SetLaws.{same_is}
use Rattle.gx_machine.proofs.SetsByTests.{set_of_a_test_that_agrees, set_that_is_gathered}
use Rattle.gx_node.specs.Lists.{one_if, how_many}
use Rattle.gx_node.specs.Trees.{Pair, Tree, leaves}
use Rattle.gx_node.proofs.Sums.{how_many-flat_map}
use Rattle.gx_events.specs.Engines.{gathered}
use Rattle.gx_recovery.specs.Records.{Record, any_number}
use Rattle.gx_recovery.specs.Redo.{tree_of}
use Rattle.gx_recovery.specs.Standing.{stands_for}
use Rattle.gx_recovery.proofs.Listing.{listed_set}
use Rattle.gx_recovery.proofs.Tests.{true_or_false}
use Rattle.gx_index_laws.specs.Classes.{Class, Page, IsLawful, entry_of, is_of, is_live_of, is_live, tree_in, known_of}
use Rattle.gx_index_laws.proofs.Tools.{not_true}
use Rattle.gx_index_laws.proofs.Living.{pair_is, is_pair, same_refl}
use Rattle.gx_index_laws.proofs.Standing.{known_lawful}

none_marked : (a : Bool) → one_if (a && false) ≡ 0
none_marked true = refl
none_marked false = refl

-- one more that passes, or doesn't
one_more : (s b : Bool) → s ≡ b → (n : ℕ) (rest : Bool) → rest ≡ nat_lt 0 n → (s || rest) ≡ nat_lt 0 (one_if (b && true) + n)
one_more s true is n rest h = ap (λ z. z || rest) is ∙ sym (lt-ltb 0 (one_if (true && true) + n) (omega arith))
one_more s false is n rest h =
    let same : n ≡ one_if (false && true) + n = omega arith in
    ap (λ z. z || rest) is ∙ h ∙ ap (λ k. nat_lt 0 k) same

module _ {B : Type 0} (c : Class B) (l : IsLawful c) where
  entry_alike : (e : Entry B) (x : Pair B) → same_entry c.keys e (entry_of x) ≡ is_of c e x
  entry_alike e x =
      elim (true_or_false (is_of c e x)) [
        | inl is ↦ subst (λ y. same_entry c.keys e y ≡ true) (sym (pair_is c l e x is)) (same_refl c l e) ∙ sym is
        | inr other ↦ elim (true_or_false (same_entry c.keys e (entry_of x))) [
          | inl h ↦ not_true (is_of c e x) (is_pair c l e x (sym (same_is c.keys l.keys e (entry_of x) h))) other
          | inr h ↦ h ∙ sym other
        ]
      ]

  abbrev unmarked : List (Pair B) → List (Pair B)
  unmarked xs = filter (λ x. not x.marked) xs

  listed_live : (e : Entry B) (xs : List (Pair B)) → has c.keys e (map entry_of (unmarked xs)) ≡ nat_lt 0 (how_many (is_live_of c e) xs)
  listed_live e [] = refl
  listed_live e (x ∷ xs) = by x.marked (listed_live e xs)
    where
      by : (m : Bool) → has c.keys e (map entry_of (unmarked xs)) ≡ nat_lt 0 (how_many (is_live_of c e) xs)
          → has c.keys e (map entry_of (cond (not m) (x ∷ unmarked xs) (unmarked xs))) ≡ nat_lt 0 (one_if (is_of c e x && not m) + how_many (is_live_of c e) xs)
      by true rest =
          let none = none_marked (is_of c e x) in
          let same : how_many (is_live_of c e) xs ≡ one_if (is_of c e x && false) + how_many (is_live_of c e) xs = omega (arith, none) in
          rest ∙ ap (λ k. nat_lt 0 k) same
      by false rest = one_more (same_entry c.keys e (entry_of x)) (is_of c e x) (entry_alike e x) (how_many (is_live_of c e) xs) (has c.keys e (map entry_of (unmarked xs))) rest

  abbrev live_entries : Tree B → List (Entry B)
  live_entries t = map entry_of (unmarked (flat_map (λ q. (t.node q).pairs) (leaves t)))

  live_listed : (t : Tree B) (e : Entry B) → has c.keys e (live_entries t) ≡ is_live c t e
  unfolding is_live
  live_listed t e = listed_live e (flat_map (λ q. (t.node q).pairs) (leaves t)) ∙ ap (λ n. nat_lt 0 n) (sym (how_many-flat_map (is_live_of c e) t))

  pub live_set : (t : Tree B) → IsSetOf c.keys (is_live c t) (gathered c.keys (live_entries t))
  live_set t =
      set_of_a_test_that_agrees c.keys l.keys (λ e. has c.keys e (live_entries t)) (is_live c t) (gathered c.keys (live_entries t)) (live_listed t)
      (set_that_is_gathered c.keys l.keys (live_entries t))

  pub log_listed : (area : ℕ → Page B) (log : List (Record (Entry B) (Page B))) → (set : List (Entry B)) × IsSetOf c.keys (stands_for (known_of c) area log) set
  log_listed area log =
      listed_set c.keys l.keys (known_of c) (known_lawful c l) refl area log (live_entries (tree_in (tree_of (known_of c) area log)))
      (λ e. live_listed (tree_in (tree_of (known_of c) area log)) e) any_number
