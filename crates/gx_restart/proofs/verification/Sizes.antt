-- A legal tree has as many entries as it has pairs that aren't marked, whatever page these are on.
use Rattle.std.proofs.Common.{◌≡◌, ℕ, suc, ◌+◌, ◌<◌, ◌≤◌, Bool, true, false, not, cond, ◌&&◌, ◌||◌, inl, inr, List, [], ◌∷◌, flat_map, length, refl, ap, sym, ◌∙◌, subst, arith}
use Rattle.std.specs.Prelude.{◌==◌, nat_lt}
use Rattle.std.specs.Ordering.{is_eq, match_ordering}
use Rattle.std.specs.declared.cmp.Ordering.{Ordering}
use Rattle.std.specs.declared.cmp.Ordering.TheVariants.{Less, Equal, Greater}
use Rattle.std.proofs.lemmas.Bool.{and_from, cases_eq, eq-eqb, eqb-true, lt-ltb}
use Rattle.gx_machine.specs.declared.entry.Entry.{Entry}
use Rattle.gx_machine.specs.Keys.{Keys, entry_cmp, same_entry}
use Rattle.gx_machine.specs.Keys as keys
use Rattle.gx_machine.specs.Sets.{has, including, including_all, IsSetOf}
use Rattle.gx_machine.proofs.SessionMoves.{same_itself}
use Rattle.gx_machine.proofs.SetLaws.{has-including, same_is}
use Rattle.gx_machine.proofs.SetsByTests.{one_set_of_a_test, set_of_a_test_that_agrees, set_that_is_gathered}
use Rattle.gx_node.specs.Legal.{Legal}
use Rattle.gx_node.specs.Lists.{Each, how_many, one_if, sum_over, total}
use Rattle.gx_node.specs.Trees.{Pair, Rules, Tree, Used, is_entry, leaves, standing, times}
use Rattle.gx_node.specs.Trees as trees
use Rattle.gx_node.proofs.Chains.{each_linked, one_at, one_off}
use Rattle.gx_node.proofs.Sums.{at_page, at_page_other, at_page_same, each_always, how_many-flat_map, sum_over_le, total_add, total_at_page, total_none, total_same}
use Rattle.gx_restart.specs.Sizes.{live_up_to}

-- What a list of pages has of each page.
module _ (f : ℕ → ℕ) where
  abbrev here_in : List ℕ → ℕ → ℕ
  here_in xs q = sum_over (λ x. at_page x (f x) q) xs

  -- a sum over pages is that of what the list has of each
  summed : (n : ℕ) (xs : List ℕ) → Each (λ x. (0 < x) × (x ≤ n)) xs → sum_over f xs ≡ total (here_in xs) n
  summed n [] each = sym (total_none (here_in []) n (λ q low high. refl))
  summed n (x ∷ xs) each =
      ap (λ k. f x + k) (summed n xs each.1) ∙ ap (λ k. k + total (here_in xs) n) (sym (total_at_page x (f x) n each.0.0 each.0.1))
      ∙ sym (total_add (at_page x (f x)) (here_in xs) n)

  none_here : (q : ℕ) (xs : List ℕ) → times q xs ≡ 0 → here_in xs q ≡ 0
  none_here q [] none = refl
  none_here q (x ∷ xs) none = elim (cases_eq x q) [
    | inl same ↦ (let one = one_at x q same in absurd (omega (arith, none, one)))
    | inr other ↦
        (let here : at_page x (f x) q ≡ 0 = at_page_other x (f x) q (λ same. other (sym same)) in
        let rest = none_here q xs (omega (arith, none)) in omega (arith, here, rest))
  ]

  nothing_here : (q : ℕ) (xs : List ℕ) → f q ≡ 0 → here_in xs q ≡ 0
  nothing_here q [] none = refl
  nothing_here q (x ∷ xs) none =
      let rest = nothing_here q xs none in
      let here : at_page x (f x) q ≡ 0 = (elim (cases_eq x q) [
        | inl same ↦ ap (at_page x (f x)) (sym same) ∙ at_page_same x (f x) ∙ ap f same ∙ none
        | inr other ↦ at_page_other x (f x) q (λ same. other (sym same))
      ]) in omega (arith, here, rest)

  once_here : (q : ℕ) (xs : List ℕ) → times q xs ≡ 1 → here_in xs q ≡ f q
  once_here q [] once = absurd (omega (arith, once))
  once_here q (x ∷ xs) once = elim (cases_eq x q) [
    | inl same ↦
        (let one = one_at x q same in
        let none = none_here q xs (omega (arith, once, one)) in
        let here : at_page x (f x) q ≡ f q = ap (at_page x (f x)) (sym same) ∙ at_page_same x (f x) ∙ ap f same in
        omega (arith, here, none))
    | inr other ↦
        (let here : at_page x (f x) q ≡ 0 = at_page_other x (f x) q (λ same. other (sym same)) in
        let none = one_off x q other in
        let rest = once_here q xs (omega (arith, once, none)) in omega (arith, here, rest))
  ]

module _ {K : Type 0} (t : Tree K) (r : Rules K) (legal : Legal r t) where
  abbrev unmarked : Pair K → Bool
  unmarked x = not x.marked

  abbrev on_page : ℕ → ℕ
  on_page q = how_many unmarked (t.node q).pairs

  on_inner : (q : ℕ) → Used t q → ((t.node q).level ≡ 0 → ⊥) → on_page q ≡ 0
  on_inner q used inner =
      let above : 0 < (t.node q).level = omega (arith, inner) in
      ap (λ (xs : List (Pair K)). how_many unmarked xs) ((legal.pages q used).inner above).0

  -- the pages in use have as many as the leaves on the chain
  pub live_on_chain : live_up_to t.node t.used ≡ standing unmarked t
  live_on_chain =
      total_same on_page (here_in on_page (leaves t)) t.used
      (λ q low high. elim (cases_eq (t.node q).level 0) [
        | inl leaf ↦ sym (once_here on_page q (leaves t) (legal.once q (low, high) leaf))
        | inr inner ↦ (let none = on_inner q (low, high) inner in none ∙ sym (nothing_here on_page q (leaves t) none))
      ])
      ∙ sym (summed on_page t.used (leaves t) (each_linked (λ q. (0 < q) × (q ≤ t.used)) t 2 (leaves t) (λ q used leaf. used) legal.chain))

-- Entries that are gathered, none of them twice, are a set of as many.
module _ {B : Type 0} (k : Keys B) (l : keys.IsLawful k) where
  by_first : (b c : Bool) (n : ℕ) → c ≡ nat_lt 0 n → (b || c) ≡ nat_lt 0 (one_if b + n)
  by_first true c n is = sym (lt-ltb 0 (1 + n) (omega arith))
  by_first false c n is = let none : n ≡ 0 + n = omega arith in is ∙ ap (λ m. nat_lt 0 m) none

  has_times : (e : Entry B) (xs : List (Entry B)) → has k e xs ≡ nat_lt 0 (how_many (same_entry k e) xs)
  has_times e [] = refl
  has_times e (x ∷ xs) = by_first (same_entry k e x) (has k e xs) (how_many (same_entry k e) xs) (has_times e xs)

  longer_by : (e x : Entry B) (xs : List (Entry B)) (o : Ordering) → entry_cmp k e x ≡ o → (is_eq o || has k e xs) ≡ false
      → (has k e xs ≡ false → length (including k e xs) ≡ suc (length xs))
      → length (match_ordering o (e ∷ x ∷ xs) (x ∷ xs) (x ∷ including k e xs)) ≡ suc (suc (length xs))
  longer_by e x xs Less is none rest = refl
  longer_by e x xs Equal is none rest = cc
  longer_by e x xs Greater is none rest = ap suc (rest none)

  -- a set with an entry that it hasn't is longer by one
  longer : (e : Entry B) (set : List (Entry B)) → has k e set ≡ false → length (including k e set) ≡ suc (length set)
  longer e [] none = refl
  longer e (x ∷ xs) none = longer_by e x xs (entry_cmp k e x) refl none (longer e xs)

  none_if : (b : Bool) → one_if b ≤ 0 → b ≡ false
  none_if true few = absurd (omega (arith, few))
  none_if false few = refl

  at_most_both : (a b : Bool) → one_if (a || b) ≤ one_if a + one_if b
  at_most_both true b = omega arith
  at_most_both false b = omega arith

  gathered_size : (xs set : List (Entry B)) → ((e : Entry B) → how_many (same_entry k e) xs + one_if (has k e set) ≤ 1)
      → length (including_all k xs set) ≡ length xs + length set
  gathered_size [] set once = omega arith
  gathered_size (x ∷ xs) set once =
      let itself : one_if (same_entry k x x) ≡ 1 = ap (λ b. one_if b) (same_itself k l x) in
      let first = once x in
      let new : has k x set ≡ false = none_if (has k x set) (omega (arith, itself, first)) in
      let more = longer x set new in
      let rest = gathered_size xs (including k x set) (λ e.
      (let both = at_most_both (same_entry k e x) (has k e set) in
      let has_now : one_if (has k e (including k x set)) ≡ one_if (same_entry k e x || has k e set) = ap (λ b. one_if b) (has-including k l e x set) in
      let here = once e in
      omega (arith, both, has_now, here))) in
      omega (arith, more, rest)

  -- the set of a test that these entries pass, each of them once, and no others
  set_size : (test : Entry B → Bool) (set xs : List (Entry B)) → IsSetOf k test set → ((e : Entry B) → has k e xs ≡ test e) → ((e : Entry B) → how_many (same_entry k e) xs ≤ 1)
      → length set ≡ length xs
  set_size test set xs is agree once =
      let gathered = including_all k xs [] in
      let same : set ≡ gathered = one_set_of_a_test k l test set gathered is (set_of_a_test_that_agrees k l (λ e. has k e xs) test gathered agree (set_that_is_gathered k l xs)) in
      let long = gathered_size xs [] (λ e. (let one = once e in omega (arith, one))) in
      let equal : length set ≡ length gathered = ap (λ (ys : List (Entry B)). length ys) same in
      omega (arith, equal, long)

  module _ (r : Rules B) (lr : trees.IsLawful r) where
    abbrev entry_of : Pair B → Entry B
    entry_of x = record { row = x.row; key = x.key }

    -- the entries of the pairs that aren't marked
    abbrev live_entries : List (Pair B) → List (Entry B)
    live_entries [] = []
    live_entries (x ∷ xs) = cond (not x.marked) (entry_of x ∷ live_entries xs) (live_entries xs)

    abbrev is_live_of : Entry B → Pair B → Bool
    is_live_of e x = is_entry r e.row e.key x && not x.marked

    size_by : (live : Bool) (e : Entry B) (xs : List (Entry B)) (n : ℕ) → length xs ≡ n → length (cond live (e ∷ xs) xs) ≡ one_if live + n
    size_by true e xs n is = omega (arith, is)
    size_by false e xs n is = omega (arith, is)

    live_size : (xs : List (Pair B)) → length (live_entries xs) ≡ how_many (λ x. not x.marked) xs
    live_size [] = refl
    live_size (x ∷ xs) = size_by (not x.marked) (entry_of x) (live_entries xs) (how_many (λ x. not x.marked) xs) (live_size xs)

    alike : (a b : Bool) → (a ≡ true → b ≡ true) → (b ≡ true → a ≡ true) → a ≡ b
    alike true b to from = sym (to refl)
    alike false true to from = from refl
    alike false false to from = refl

    -- a pair is an entry's where its own entry is that one
    same_pair : (e : Entry B) (x : Pair B) → same_entry k e (entry_of x) ≡ is_entry r e.row e.key x
    same_pair e x =
        alike (same_entry k e (entry_of x)) (is_entry r e.row e.key x)
        (λ is.
        (let at : e ≡ entry_of x = same_is k l e (entry_of x) is in
        and_from (x.row == e.row) (r.same x.key e.key) (eq-eqb x.row e.row (ap (λ (y : Entry B). y.row) (sym at)))
        (subst (λ (key : B). r.same x.key key ≡ true) (ap (λ (y : Entry B). y.key) (sym at)) (lr.itself x.key))))
        (λ is.
        (let parts = both_are (x.row == e.row) (r.same x.key e.key) is in
        let row : e.row ≡ x.row = sym (eqb-true x.row e.row parts.0) in
        let key : e.key ≡ x.key = sym (lr.exact x.key e.key parts.1) in
        let at : e ≡ entry_of x = (λ i. record { row = row i; key = key i }) in
        ap (same_entry k e) (sym at) ∙ same_itself k l e))
      where
        both_are : (a b : Bool) → (a && b) ≡ true → (a ≡ true) × (b ≡ true)
        both_are true true is = (refl, refl)
        both_are true false is = cc
        both_are false b is = cc

    times_by : (mine live : Bool) (e x : Entry B) (xs : List (Entry B)) (n : ℕ) → same_entry k e x ≡ mine → how_many (same_entry k e) xs ≡ n
        → how_many (same_entry k e) (cond live (x ∷ xs) xs) ≡ one_if (mine && live) + n
    times_by mine true e x xs n same is = let here : one_if (same_entry k e x) ≡ one_if mine = ap (λ b. one_if b) same in with_true mine here
      where
        with_true : (mine : Bool) → one_if (same_entry k e x) ≡ one_if mine → one_if (same_entry k e x) + how_many (same_entry k e) xs ≡ one_if (mine && true) + n
        with_true true here = omega (arith, here, is)
        with_true false here = omega (arith, here, is)
    times_by true false e x xs n same is = omega (arith, is)
    times_by false false e x xs n same is = omega (arith, is)

    live_times : (e : Entry B) (xs : List (Pair B)) → how_many (same_entry k e) (live_entries xs) ≡ how_many (is_live_of e) xs
    live_times e [] = refl
    live_times e (x ∷ xs) =
        times_by (is_entry r e.row e.key x) (not x.marked) e (entry_of x) (live_entries xs) (how_many (is_live_of e) xs) (same_pair e x) (live_times e xs)

    fewer : (a b : Bool) → one_if (a && b) ≤ one_if a
    fewer true true = omega arith
    fewer true false = omega arith
    fewer false b = omega arith

    -- a legal tree has as many pairs that aren't marked as the set of its entries has entries
    pub live_is_the_sets_size : (t : Tree B) → Legal r t → (set : List (Entry B)) → IsSetOf k (λ e. nat_lt 0 (standing (is_live_of e) t)) set → live_up_to t.node t.used ≡ length set
    live_is_the_sets_size t legal set is =
        let pairs = flat_map (λ q. (t.node q).pairs) (leaves t) in
        let counted : (e : Entry B) → how_many (same_entry k e) (live_entries pairs) ≡ standing (is_live_of e) t = (λ e. live_times e pairs ∙ sym (how_many-flat_map (is_live_of e) t)) in
        let agree : (e : Entry B) → has k e (live_entries pairs) ≡ nat_lt 0 (standing (is_live_of e) t) = (λ e. has_times e (live_entries pairs) ∙ ap (λ n. nat_lt 0 n) (counted e)) in
        let once : (e : Entry B) → how_many (same_entry k e) (live_entries pairs) ≤ 1 = (λ e.
        (let same = counted e in
        let one = legal.single e.row e.key in
        let few = fewer_live t e in
        omega (arith, same, one, few))) in
        live_on_chain t r legal ∙ how_many-flat_map (λ x. not x.marked) t ∙ sym (live_size pairs)
        ∙ sym (set_size (λ e. nat_lt 0 (standing (is_live_of e) t)) set (live_entries pairs) is agree once)
      where
        fewer_live : (t : Tree B) (e : Entry B) → standing (is_live_of e) t ≤ standing (is_entry r e.row e.key) t
        fewer_live t e =
            sum_over_le (λ q. how_many (is_live_of e) (t.node q).pairs) (λ q. how_many (is_entry r e.row e.key) (t.node q).pairs) (leaves t)
            (each_always (λ q. how_many (is_live_of e) (t.node q).pairs ≤ how_many (is_entry r e.row e.key) (t.node q).pairs)
            (λ q. sum_over_le (λ x. one_if (is_live_of e x)) (λ x. one_if (is_entry r e.row e.key x)) (t.node q).pairs
            (each_always (λ x. one_if (is_live_of e x) ≤ one_if (is_entry r e.row e.key x)) (λ x. fewer (is_entry r e.row e.key x) (not x.marked)) (t.node q).pairs)) (leaves t))
