-- Sets by their members: lists in order with the same members are one list, and what each operation makes of the set
-- of a test.
use Rattle.std.proofs.Common.{◌≡◌, Bool, true, false, not, ◌&&◌, ◌||◌, inl, inr, List, [], ◌∷◌, refl, ap, sym, ◌∙◌, subst}
use Rattle.std.specs.List.{filter}
use Rattle.std.specs.Ordering.{is_eq, ordering_reverse}
use Rattle.std.specs.declared.cmp.Ordering.TheVariants.{Less, Greater}
use Rattle.gx_machine.specs.declared.entry.Entry.{Entry}
use Rattle.gx_machine.specs.declared.query.Query.{Query}
use Rattle.gx_machine.specs.Keys.{Keys, IsLawful, entry_cmp, same_entry, matches}
use Rattle.gx_machine.specs.Sets.{has, including, excluding, including_all, excluding_all, found, Before, InOrder, IsSetOf}
use Rattle.gx_machine.specs.Sessions.{Changes, view}
use Rattle.gx_machine.proofs.SetLaws.{entry_total, same_is, has-including, has-including_all, has-filter, has-view, in_order_including, in_order_including_all, in_order_filter}
use Rattle.gx_machine.proofs.SessionMoves.{or_either, or_first, same_itself}
use Rattle.gx_machine.proofs.StepsKeep.{view_in_order}

module _ {B : Type 0} (k : Keys B) (l : IsLawful k) where
  -- what comes before a list comes before each of its members
  pub comes_before_each : (x e : Entry B) (xs : List (Entry B)) → Before k x xs → has k e xs ≡ true → entry_cmp k x e ≡ Less
  comes_before_each x e [] before h = cc
  comes_before_each x e (y ∷ ys) before h =
      elim (or_either (same_entry k e y) (has k e ys) h) [
        | inl same ↦ ap (entry_cmp k x) (same_is k l e y same) ∙ before.0
        | inr among ↦ comes_before_each x e ys before.1 among
      ]

  not_twice : (x e : Entry B) (xs : List (Entry B)) (there : Bool) → has k e xs ≡ there → same_entry k e x ≡ true → Before k x xs → there ≡ false
  not_twice x e xs true is same before =
      let less : entry_cmp k x x ≡ Less = ap (entry_cmp k x) (sym (same_is k l e x same)) ∙ comes_before_each x e xs before is in
      let both : true ≡ false = sym (same_itself k l x) ∙ ap is_eq less in cc
  not_twice x e xs false is same before = refl

  not_both_ways : (x y : Entry B) → entry_cmp k x y ≡ Less → ¬ (entry_cmp k y x ≡ Less)
  not_both_ways x y h back =
      let turned : entry_cmp k x y ≡ Greater = (entry_total k l).antisymm x y ∙ ap ordering_reverse back in
      let no : Less ≡ Greater = sym h ∙ turned in cc

  rest_of : (s a b : Bool) → (s || a) ≡ (s || b) → (s ≡ true → a ≡ false) → (s ≡ true → b ≡ false) → a ≡ b
  rest_of true a b h first second = first refl ∙ sym (second refl)
  rest_of false a b h first second = h

  same_first : (x y : Entry B) (xs ys : List (Entry B)) → Before k x xs → Before k y ys → (same_entry k x y || has k x ys) ≡ true → (same_entry k y x || has k y xs) ≡ true → x ≡ y
  same_first x y xs ys first second there back =
      elim (or_either (same_entry k x y) (has k x ys) there) [
        | inl same ↦ same_is k l x y same
        | inr among ↦ elim (or_either (same_entry k y x) (has k y xs) back) [
          | inl same ↦ sym (same_is k l y x same)
          | inr among_first ↦ absurd (not_both_ways y x (comes_before_each y x ys second among) (comes_before_each x y xs first among_first))
        ]
      ]

  -- two lists in order with the same members are one list
  pub same_members_are_one_list : (xs ys : List (Entry B)) → InOrder k xs → InOrder k ys → ((e : Entry B) → has k e xs ≡ has k e ys) → xs ≡ ys
  same_members_are_one_list [] [] in_xs in_ys same = refl
  same_members_are_one_list [] (y ∷ ys) in_xs in_ys same =
      let no : false ≡ true = same y ∙ or_first (same_entry k y y) (has k y ys) (same_itself k l y) in cc
  same_members_are_one_list (x ∷ xs) [] in_xs in_ys same =
      let no : false ≡ true = sym (same x) ∙ or_first (same_entry k x x) (has k x xs) (same_itself k l x) in cc
  same_members_are_one_list (x ∷ xs) (y ∷ ys) in_xs in_ys same =
      let first : x ≡ y = same_first x y xs ys in_xs.0 in_ys.0
      (sym (same x) ∙ or_first (same_entry k x x) (has k x xs) (same_itself k l x)) (same y ∙ or_first (same_entry k y y) (has k y ys) (same_itself k l y)) in
      let after : Before k x ys = subst (λ (z : Entry B). Before k z ys) (sym first) in_ys.0 in
      let rest : xs ≡ ys = same_members_are_one_list xs ys in_xs.1 in_ys.1 (λ e. rest_of (same_entry k e x) (has k e xs) (has k e ys)
      (same e ∙ ap (λ (z : Entry B). same_entry k e z || has k e ys) (sym first))
      (λ is. not_twice x e xs (has k e xs) refl is in_xs.0)
      (λ is. not_twice x e ys (has k e ys) refl is after)) in
      λ i. first i ∷ rest i

  -- a test has one set
  pub one_set_of_a_test : (test : Entry B → Bool) (xs ys : List (Entry B)) → IsSetOf k test xs → IsSetOf k test ys → xs ≡ ys
  one_set_of_a_test test xs ys is_xs is_ys =
      same_members_are_one_list xs ys is_xs.in_order is_ys.in_order (λ e. is_xs.members e ∙ sym (is_ys.members e))

  -- tests that agree have the same set
  pub set_of_a_test_that_agrees : (test other : Entry B → Bool) (xs : List (Entry B)) → ((e : Entry B) → test e ≡ other e) → IsSetOf k test xs → IsSetOf k other xs
  set_of_a_test_that_agrees test other xs agree is = record { in_order = is.in_order; members = λ e. is.members e ∙ agree e }

  -- a list in order is the set of what it has
  pub set_of_its_members : (xs : List (Entry B)) → InOrder k xs → IsSetOf k (λ e. has k e xs) xs
  set_of_its_members xs o = record { in_order = o; members = λ e. refl }

  pub set_with_an_entry : (test : Entry B → Bool) (e : Entry B) (xs : List (Entry B)) → IsSetOf k test xs → IsSetOf k (λ x. same_entry k x e || test x) (including k e xs)
  set_with_an_entry test e xs is = record {
    in_order = in_order_including k l e xs is.in_order;
    members = λ x. has-including k l x e xs ∙ ap (λ (t : Bool). same_entry k x e || t) (is.members x);
  }

  pub set_without_an_entry : (test : Entry B → Bool) (e : Entry B) (xs : List (Entry B)) → IsSetOf k test xs → IsSetOf k (λ x. not (same_entry k e x) && test x) (excluding k e xs)
  set_without_an_entry test e xs is = record {
    in_order = in_order_filter k l (λ x. not (same_entry k e x)) xs is.in_order;
    members = λ x. has-filter k l (λ z. not (same_entry k e z)) x xs ∙ ap (λ (t : Bool). not (same_entry k e x) && t) (is.members x);
  }

  -- a filter keeps what passes both
  pub set_that_is_filtered : (test keep : Entry B → Bool) (xs : List (Entry B)) → IsSetOf k test xs → IsSetOf k (λ x. keep x && test x) (filter keep xs)
  set_that_is_filtered test keep xs is = record {
    in_order = in_order_filter k l keep xs is.in_order;
    members = λ x. has-filter k l keep x xs ∙ ap (λ (t : Bool). keep x && t) (is.members x);
  }

  pub set_that_is_found : (test : Entry B → Bool) (q : Query B) (xs : List (Entry B)) → IsSetOf k test xs → IsSetOf k (λ x. matches k q x && test x) (found k q xs)
  set_that_is_found test q xs is = set_that_is_filtered test (matches k q) xs is

  pub set_with_all_of : (test : Entry B → Bool) (more xs : List (Entry B)) → IsSetOf k test xs → IsSetOf k (λ x. has k x more || test x) (including_all k more xs)
  set_with_all_of test more xs is = record {
    in_order = in_order_including_all k l more xs is.in_order;
    members = λ x. has-including_all k l x more xs ∙ ap (λ (t : Bool). has k x more || t) (is.members x);
  }

  pub set_with_none_of : (test : Entry B → Bool) (gone xs : List (Entry B)) → IsSetOf k test xs → IsSetOf k (λ x. not (has k x gone) && test x) (excluding_all k gone xs)
  set_with_none_of test gone xs is = set_that_is_filtered test (λ x. not (has k x gone)) xs is

  or_false : (a : Bool) → (a || false) ≡ a
  or_false true = refl
  or_false false = refl

  -- entries gathered one after another, in any order and with repeats, are the set of what they are
  pub set_that_is_gathered : (xs : List (Entry B)) → IsSetOf k (λ x. has k x xs) (including_all k xs [])
  set_that_is_gathered xs = record {
    in_order = in_order_including_all k l xs [] tt;
    members = λ x. has-including_all k l x xs [] ∙ or_false (has k x xs);
  }

  -- what a transaction sees
  pub set_that_is_viewed : (test : Entry B → Bool) (latest : List (Entry B)) (changes : Changes B) → IsSetOf k test latest
      → IsSetOf k (λ x. has k x changes.added || (not (has k x changes.taken) && test x)) (view k latest changes)
  set_that_is_viewed test latest changes is = record {
    in_order = view_in_order k l latest changes is.in_order;
    members = λ x. has-view k l x latest changes.added changes.taken
        ∙ ap (λ (t : Bool). has k x changes.added || (not (has k x changes.taken) && t)) (is.members x);
  }
