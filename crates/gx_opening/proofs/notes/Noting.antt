-- Notes that are put in the order of entries.
use Rattle.std.proofs.Common.{◌≡◌, inl, inr, ℕ, zero, suc, ◌+◌, ◌<◌, ◌≤◌, List, [], ◌∷◌, ◌++◌, take, drop, length, Some, refl, sym, ap, subst, ◌∙◌, arith}
use Rattle.std.specs.Prelude.{slice_get}
use Rattle.std.specs.Cmp.{IsTotalOrder}
use Rattle.std.specs.Ordering.{ordering_reverse}
use Rattle.std.proofs.lemmas.Bool.{cases_lt}
use Rattle.gx_legality.proofs.Counted.{each_later}
use Rattle.std.specs.declared.cmp.Ordering.{Ordering}
use Rattle.std.specs.declared.cmp.Ordering.TheVariants.{Less, Equal, Greater}
use Rattle.gx_legality.specs.declared.notes.NotedPair.{NotedPair}
use Rattle.gx_legality.specs.Gathered.{Ascends}
use Rattle.gx_legality.specs.Placing.{noted}
use Rattle.gx_recovery.specs.Records.{Touch}
use Rattle.gx_node.specs.Lists.{Each, SomeOf}
use Rattle.gx_opening.specs.Noting.{note_of, AreLess, IsNoLess, IsPut, IsOfOne, AreNoted}

module _ {X : Type 0} where
  -- ---- one element more, in the midst of a list
  each_weaker : (P Q : X → Type 0) (xs : List X) → ((x : X) → P x → Q x) → Each P xs → Each Q xs
  each_weaker P Q [] less all = tt
  each_weaker P Q (x ∷ xs) less all = (less x all.0, each_weaker P Q xs less all.1)

  each_put : (P : X → Type 0) (xs ys : List X) (x : X) → Each P (xs ++ ys) → P x → Each P (xs ++ x ∷ ys)
  each_put P [] ys x all here = (here, all)
  each_put P (z ∷ xs) ys x all here = (all.0, each_put P xs ys x all.1 here)

  some_put : (P : X → Type 0) (xs ys : List X) (x : X) → SomeOf P (xs ++ ys) → SomeOf P (xs ++ x ∷ ys)
  some_put P [] ys x some = inr some
  some_put P (z ∷ xs) ys x (inl here) = inl here
  some_put P (z ∷ xs) ys x (inr some) = inr (some_put P xs ys x some)

  some_here : (P : X → Type 0) (xs ys : List X) (x : X) → P x → SomeOf P (xs ++ x ∷ ys)
  some_here P [] ys x here = inl here
  some_here P (z ∷ xs) ys x here = inr (some_here P xs ys x here)

  some_each : (P Q : X → Type 0) (R : Type 0) (xs : List X) → ((x : X) → P x → Q x → R) → SomeOf P xs → Each Q xs → R
  some_each P Q R [] both some all = absurd some
  some_each P Q R (x ∷ xs) both (inl here) all = both x here all.0
  some_each P Q R (x ∷ xs) both (inr some) all = some_each P Q R xs both some all.1

  take_drop : (n : ℕ) (xs : List X) → take n xs ++ drop n xs ≡ xs
  take_drop zero xs = refl
  take_drop (suc n) [] = refl
  take_drop (suc n) (x ∷ xs) = ap (λ ys. x ∷ ys) (take_drop n xs)

  -- what holds of each element before a place holds of those that are taken
  pub each_taken : (P : X → Type 0) (n : ℕ) (xs : List X) → ((i : ℕ) (x : X) → i < n → slice_get xs i ≡ Some x → P x) → Each P (take n xs)
  each_taken P zero xs at = tt
  each_taken P (suc n) [] at = tt
  each_taken P (suc n) (x ∷ xs) at = (at 0 x (omega arith) refl, each_taken P n xs (λ i y below there. at (suc i) y (omega (arith, below)) there))

module _ {E : Type 0} (cmp : E → E → Ordering) where
  -- the note at a place is the first that is left
  pub no_less_there : (e : E) (n : ℕ) (xs : List (NotedPair E)) (x : NotedPair E) → slice_get xs n ≡ Some x → (cmp x.entry e ≡ Less → ⊥) → IsNoLess cmp e (drop n xs)
  no_less_there e n [] x there not_less = absurd (cc)
  no_less_there e zero (y ∷ xs) x there not_less = λ less. (let same : y ≡ x = cc in not_less (subst (λ (z : NotedPair E). cmp z.entry e ≡ Less) same less))
  no_less_there e (suc n) (y ∷ xs) x there not_less = no_less_there e n xs x there not_less

  pub no_less_end : (e : E) (n : ℕ) (xs : List (NotedPair E)) → length xs ≤ n → IsNoLess cmp e (drop n xs)
  no_less_end e zero [] long = tt
  no_less_end e (suc n) [] long = tt
  no_less_end e zero (y ∷ xs) long = absurd (omega (arith, long))
  no_less_end e (suc n) (y ∷ xs) long = no_less_end e n xs (omega (arith, long))

  each_noted_put : (P : E → Type 0) (xs ys : List (NotedPair E)) (x : NotedPair E) → Each P (noted (xs ++ ys)) → P x.entry → Each P (noted (xs ++ x ∷ ys))
  each_noted_put P [] ys x all here = (here, all)
  each_noted_put P (z ∷ xs) ys x all here = (all.0, each_noted_put P xs ys x all.1 here)

  -- ---- one note less
  each_noted_out : (P : E → Type 0) (xs ys : List (NotedPair E)) (x : NotedPair E) → Each P (noted (xs ++ x ∷ ys)) → Each P (noted (xs ++ ys)) × P x.entry
  each_noted_out P [] ys x all = (all.1, all.0)
  each_noted_out P (z ∷ xs) ys x all = (let rest = each_noted_out P xs ys x all.1 in ((all.0, rest.0), rest.1))

  ascends_out : (xs ys : List (NotedPair E)) (x : NotedPair E) → Ascends cmp (noted (xs ++ x ∷ ys)) → Ascends cmp (noted (xs ++ ys))
  ascends_out [] ys x up = up.1
  ascends_out (z ∷ xs) ys x up = ((each_noted_out (λ y. cmp z.entry y ≡ Less) xs ys x up.0).0, ascends_out xs ys x up.1)

  not_less_tied : (r : Ordering) → r ≡ Less → r ≡ Equal → ⊥
  not_less_tied r less tied = absurd (cc)

  module _ (o : IsTotalOrder cmp) where
    -- what comes after a note is of another entry
    behind_differs : (x : NotedPair E) (ys : List (NotedPair E)) → Each (λ y. cmp x.entry y ≡ Less) (noted ys) → Each (λ n. cmp n.entry x.entry ≡ Equal → ⊥) ys
    behind_differs x [] all = tt
    behind_differs x (y ∷ ys) all = (
      λ tied. not_less_tied (cmp x.entry y.entry) all.0 (o.antisymm x.entry y.entry ∙ ap ordering_reverse tied),
      behind_differs x ys all.1,
    )

    -- each note but one is of another entry than that one
    others_differ : (xs ys : List (NotedPair E)) (x : NotedPair E) → Ascends cmp (noted (xs ++ x ∷ ys)) → Each (λ n. cmp n.entry x.entry ≡ Equal → ⊥) (xs ++ ys)
    others_differ [] ys x up = behind_differs x ys up.0
    others_differ (z ∷ xs) ys x up = (
      λ tied. not_less_tied (cmp z.entry x.entry) (each_noted_out (λ y. cmp z.entry y ≡ Less) xs ys x up.0).1 tied,
      others_differ xs ys x up.1,
    )

    comes_first : (x n : NotedPair E) (ns : List (NotedPair E)) (r : Ordering) → cmp n.entry x.entry ≡ r → (r ≡ Less → ⊥) → (r ≡ Equal → ⊥) → Ascends cmp (noted (n ∷ ns))
        → Each (λ y. cmp x.entry y ≡ Less) (noted (n ∷ ns))
    comes_first x n ns Less is unless other up = absurd (unless refl)
    comes_first x n ns Equal is unless other up = absurd (other refl)
    comes_first x n ns Greater is unless other up =
        let less : cmp x.entry n.entry ≡ Less = o.antisymm x.entry n.entry ∙ ap ordering_reverse is in
        (less, each_later cmp o x.entry n.entry (noted ns) less up.0)

    put_ascends : (x : NotedPair E) (xs ys : List (NotedPair E)) → Ascends cmp (noted (xs ++ ys)) → AreLess cmp x.entry xs → IsNoLess cmp x.entry ys
        → Each (λ n. cmp n.entry x.entry ≡ Equal → ⊥) (xs ++ ys) → Ascends cmp (noted (xs ++ x ∷ ys))
    put_ascends x [] [] up less unless other = (tt, tt)
    put_ascends x [] (n ∷ ns) up less unless other =
        (comes_first x n ns (cmp n.entry x.entry) refl unless other.0 up, up)
    put_ascends x (n ∷ xs) ys up less unless other =
        (each_noted_put (λ y. cmp n.entry y ≡ Less) xs ys x up.0 less.0, put_ascends x xs ys up.1 less.1 unless other.1)

    -- one touch more
    pub noted_more : (touched : List (Touch E)) (n : ℕ) (t : Touch E) (old new : List (NotedPair E)) → slice_get touched n ≡ Some t → AreNoted cmp touched n old → IsPut cmp (note_of t) old new
        → AreNoted cmp touched (n + 1) new
    noted_more touched n t old new there so put =
        let whole : take put.place old ++ drop put.place old ≡ old = take_drop put.place old in
        record {
          all = λ i u below at. elim (cases_lt i n) [
            | inl less ↦
                subst (λ (ns : List (NotedPair E)). SomeOf (λ x. x ≡ note_of u) ns) (sym put.items)
                (some_put (λ x. x ≡ note_of u) (take put.place old) (drop put.place old) (note_of t)
                (subst (λ (ns : List (NotedPair E)). SomeOf (λ x. x ≡ note_of u) ns) (sym whole) (so.all i u less at)))
            | inr last ↦
                let here : i ≡ n = omega (arith, last, below) in
                let same : t ≡ u = one_touch touched n t u there (subst (λ j. slice_get touched j ≡ Some u) here at) in
                subst (λ (ns : List (NotedPair E)). SomeOf (λ x. x ≡ note_of u) ns) (sym put.items)
                (some_here (λ x. x ≡ note_of u) (take put.place old) (drop put.place old) (note_of t) (ap note_of same))
          ];
          only = subst (λ (ns : List (NotedPair E)). Each (IsOfOne cmp touched (n + 1)) ns) (sym put.items)
              (each_put (IsOfOne cmp touched (n + 1)) (take put.place old) (drop put.place old) (note_of t)
              (subst (λ (ns : List (NotedPair E)). Each (IsOfOne cmp touched (n + 1)) ns) (sym whole)
              (each_weaker (IsOfOne cmp touched n) (IsOfOne cmp touched (n + 1)) old (λ x one. record { at = one.at; below = omega (arith, one.below); touch = one.touch; there = one.there; same = one.same }) so.only))
              (record { at = n; below = omega arith; touch = t; there = there; same = refl }));
          in_order = λ others.
              (subst (λ (ns : List (NotedPair E)). Ascends cmp (noted ns)) (sym put.items)
              (put_ascends (note_of t) (take put.place old) (drop put.place old)
              (subst (λ (ns : List (NotedPair E)). Ascends cmp (noted ns)) (sym whole) (so.in_order others)) put.before put.behind
              (subst (λ (ns : List (NotedPair E)). Each (λ x. cmp x.entry t.entry ≡ Equal → ⊥) ns) (sym whole)
              (each_weaker (IsOfOne cmp touched n) (λ x. cmp x.entry t.entry ≡ Equal → ⊥) old
              (λ x one. λ tied. others one.at n one.touch t one.below one.there there (subst (λ (y : NotedPair E). cmp y.entry t.entry ≡ Equal) one.same tied)) so.only))));
          others = λ up i j a b before below first second tied.
              (let apart : Ascends cmp (noted (take put.place old ++ note_of t ∷ drop put.place old)) = subst (λ (ns : List (NotedPair E)). Ascends cmp (noted ns)) put.items up in
              elim (cases_lt j n) [
                | inl less ↦
                    so.others (subst (λ (ns : List (NotedPair E)). Ascends cmp (noted ns)) whole (ascends_out (take put.place old) (drop put.place old) (note_of t) apart))
                    i j a b before less first second tied
                | inr last ↦
                    let here : j ≡ n = omega (arith, last, below) in
                    let same : t ≡ b = one_touch touched n t b there (subst (λ k. slice_get touched k ≡ Some b) here second) in
                    some_each (λ x. x ≡ note_of a) (λ x. cmp x.entry t.entry ≡ Equal → ⊥) ⊥ old
                    (λ x is other. other (subst (λ (y : NotedPair E). cmp y.entry t.entry ≡ Equal) (sym is) (subst (λ (y : Touch E). cmp a.entry y.entry ≡ Equal) (sym same) tied)))
                    (so.all i a (omega (arith, before, here)) first)
                    (subst (λ (ns : List (NotedPair E)). Each (λ x. cmp x.entry t.entry ≡ Equal → ⊥) ns) whole
                    (others_differ (take put.place old) (drop put.place old) (note_of t) apart))
              ]);
        }
      where
        one_touch : (xs : List (Touch E)) (k : ℕ) (a b : Touch E) → slice_get xs k ≡ Some a → slice_get xs k ≡ Some b → a ≡ b
        one_touch xs k a b at here = cc

  pub none_noted : (touched : List (Touch E)) → AreNoted cmp touched 0 []
  none_noted touched = record { all = λ i t below at. absurd (omega (arith, below)); only = tt; in_order = λ others. tt; others = λ up i j x y before below first second tied. absurd (omega (arith, below)) }
