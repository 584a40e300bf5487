-- How often an item is in a list, by an order.
use Rattle.std.proofs.Common.{◌≡◌, ◌≢◌, ℕ, zero, suc, ◌+◌, ◌-◌, ◌<◌, ◌≤◌, Bool, true, false, List, [], ◌∷◌, ◌++◌, length, take, drop, get_or, Some, refl, ap, sym, ◌∙◌, subst, arith}
use Rattle.std.specs.Cmp.{IsTotalOrder, tied_itself}
use Rattle.std.specs.List.{sum_by}
use Rattle.std.specs.Bool.{MatchBool}
use Rattle.std.specs.List.Sorted.{IsPermutation, IsSorted}
use Rattle.std.specs.Ordering.{is_eq, is_gt, is_lt, ordering_reverse}
use Rattle.std.specs.declared.cmp.Ordering.{Ordering}
use Rattle.std.specs.declared.cmp.Ordering.TheVariants.{Less, Equal, Greater}
use Rattle.std.proofs.lemmas.List.Sums.{sum_by-cons}
use Rattle.std.proofs.lemmas.List.Sorted.{sum_by-IsPermutation}
use Rattle.gx_node.specs.Lists.{Each, sum_over, one_if}
use Rattle.gx_node.proofs.Sums.{sum_over-append, each-append}
use Rattle.gx_legality.specs.Gathered.{count, IsUpTo, Ascends, StandsTwice, Halves}

module _ {E : Type 0} where
  summed : (f : E → ℕ) (xs : List E) → sum_over f xs ≡ sum_by f xs
  summed f [] = refl
  summed f (x ∷ xs) = ap (λ n. f x + n) (summed f xs) ∙ sym (sum_by-cons f x xs)

  pub count_permuted : (cmp : E → E → Ordering) (e : E) (xs ys : List E) → IsPermutation xs ys → count cmp e ys ≡ count cmp e xs
  count_permuted cmp e xs ys p =
      let f : E → ℕ = λ x. one_if (is_eq (cmp x e)) in
      summed f ys ∙ sum_by-IsPermutation f xs ys p ∙ sym (summed f xs)

  pub count-append : (cmp : E → E → Ordering) (e : E) (xs ys : List E) → count cmp e (xs ++ ys) ≡ count cmp e xs + count cmp e ys
  count-append cmp e xs ys = sum_over-append (λ x. one_if (is_eq (cmp x e))) xs ys

module _ {E : Type 0} (cmp : E → E → Ordering) (o : IsTotalOrder cmp) where
  later : (a b : E) → cmp a b ≡ Less → cmp b a ≡ Greater
  later a b e = o.antisymm b a ∙ ap ordering_reverse e

  tied : (a b : E) → cmp a b ≡ Equal → cmp b a ≡ Equal
  tied a b e = o.antisymm b a ∙ ap ordering_reverse e

  -- what comes no later than b comes before what comes after b
  upto_before : (b e y : E) → IsUpTo cmp (Some b) e → cmp b y ≡ Less → cmp e y ≡ Less
  upto_before b e y low next = by_case (cmp e b) refl
    where
      by_case : (r : Ordering) → cmp e b ≡ r → cmp e y ≡ Less
      by_case Less is = o.trans e b y is next
      by_case Equal is = o.congr e b y is ∙ next
      by_case Greater is = absurd (let up : is_gt (cmp e b) ≡ true = ap is_gt is in cc)

  one_of : (x e : E) (r : Ordering) → cmp x e ≡ r → one_if (is_eq (cmp x e)) ≡ one_if (is_eq r)
  one_of x e r is = ap (λ r. one_if (is_eq r)) is

  -- none of what comes after b is what comes no later than b
  pub none_after : (b e : E) (ys : List E) → Each (λ y. cmp b y ≡ Less) ys → IsUpTo cmp (Some b) e → count cmp e ys ≡ 0
  none_after b e [] next low = refl
  none_after b e (y ∷ ys) next low =
      let here = one_of y e Greater (later e y (upto_before b e y low next.0)) in
      let rest = none_after b e ys next.1 low in
      omega (arith, here, rest)

  tied_upto : (x e : E) → cmp x e ≡ Equal → IsUpTo cmp (Some x) e
  tied_upto x e is = ap is_gt (tied x e is)

  once_by : (x e : E) (xs : List E) (r : Ordering) → cmp x e ≡ r → Each (λ y. cmp x y ≡ Less) xs → count cmp e xs ≤ 1
      → one_if (is_eq (cmp x e)) + count cmp e xs ≤ 1
  once_by x e xs Less is next rest = let here = one_of x e Less is in omega (arith, here, rest)
  once_by x e xs Equal is next rest = let here = one_of x e Equal is in let none = none_after x e xs next (tied_upto x e is) in omega (arith, here, none)
  once_by x e xs Greater is next rest = let here = one_of x e Greater is in omega (arith, here, rest)

  -- if each item comes after the one before, none is in the list twice
  pub ascends_once : (e : E) (xs : List E) → Ascends cmp xs → count cmp e xs ≤ 1
  ascends_once e [] up = omega arith
  ascends_once e (x ∷ xs) up = once_by x e xs (cmp x e) refl up.0 (ascends_once e xs up.1)

  pub each_later : (x y : E) (ys : List E) → cmp x y ≡ Less → Each (λ z. cmp y z ≡ Less) ys → Each (λ z. cmp x z ≡ Less) ys
  each_later x y [] first next = tt
  each_later x y (z ∷ ys) first next = (o.trans x y z first next.0, each_later x y ys first next.1)

  pub ascends_by : (xs : List E) → ((j k : ℕ) (d : E) → suc j ≡ k → k < length xs → cmp (get_or xs j d) (get_or xs k d) ≡ Less) → Ascends cmp xs
  ascends_by [] up = tt
  ascends_by (x ∷ []) up = (tt, tt)
  ascends_by (x ∷ y ∷ ys) up =
      let first : cmp x y ≡ Less = up 0 1 x refl (omega arith) in
      let rest : Ascends cmp (y ∷ ys) = ascends_by (y ∷ ys) (λ j k d next low. up (suc j) (suc k) d (ap suc next) (omega (arith, low))) in
      ((first, each_later x y ys first rest.0), rest)

  -- at a bound in it, a rising list is the items that come no later and those that come after
  pub cut_after : (xs ys : List E) (b : E) → Ascends cmp (xs ++ b ∷ ys) → Each (λ y. cmp b y ≡ Less) ys
  cut_after [] ys b up = up.0
  cut_after (x ∷ xs) ys b up = cut_after xs ys b up.1

  each_of : (P : E → Type 0) (xs ys : List E) (b : E) → Each P (xs ++ b ∷ ys) → P b
  each_of P [] ys b e = e.0
  each_of P (x ∷ xs) ys b e = each_of P xs ys b e.1

  pub cut_before : (xs ys : List E) (b : E) → Ascends cmp (xs ++ b ∷ ys) → Each (λ x. is_gt (cmp x b) ≡ false) xs
  cut_before [] ys b up = tt
  cut_before (x ∷ xs) ys b up = (ap is_gt (each_of (λ y. cmp x y ≡ Less) xs ys b up.0), cut_before xs ys b up.1)

  upto_by : (b x e : E) (xs : List E) (r : Ordering) → cmp x e ≡ r → is_gt (cmp x b) ≡ false
      → (0 < count cmp e xs → is_gt (cmp e b) ≡ false) → 0 < one_if (is_eq (cmp x e)) + count cmp e xs → is_gt (cmp e b) ≡ false
  upto_by b x e xs Less is low rest some = let here = one_of x e Less is in rest (omega (arith, here, some))
  upto_by b x e xs Equal is low rest some = ap is_gt (sym (o.congr x e b is)) ∙ low
  upto_by b x e xs Greater is low rest some = let here = one_of x e Greater is in rest (omega (arith, here, some))

  -- an item of a list whose items come no later than a bound doesn't either
  pub stands_upto : (b e : E) (xs : List E) → Each (λ x. is_gt (cmp x b) ≡ false) xs → 0 < count cmp e xs → is_gt (cmp e b) ≡ false
  stands_upto b e [] low some = absurd (omega arith)
  stands_upto b e (x ∷ xs) low some = upto_by b x e xs (cmp x e) refl low.0 (stands_upto b e xs low.1) some

  pub count_itself : (b : E) (xs ys : List E) → 0 < count cmp b (xs ++ b ∷ ys)
  count_itself b xs ys =
      let all = count-append cmp b xs (b ∷ ys) in
      let here = one_of b b Equal (tied_itself o b) in
      omega (arith, all, here)

  -- two neighbours that are the same
  count_two : (xs : List E) (j : ℕ) (d : E) → suc j < length xs → cmp (get_or xs j d) (get_or xs (suc j) d) ≡ Equal → 2 ≤ count cmp (get_or xs j d) xs
  count_two [] j d low same = absurd (omega arith)
  count_two (x ∷ []) zero d low same = absurd (omega arith)
  count_two (x ∷ y ∷ ys) zero d low same =
      let here = one_of x x Equal (tied_itself o x) in
      let next = one_of y x Equal (tied x y same) in
      omega (arith, here, next)
  count_two (x ∷ xs) (suc j) d low same = let rest = count_two xs j d (omega arith) same in omega (arith, rest)

  tied_neighbours : (x y : E) (r : Ordering) → cmp x y ≡ r → cmp x y ≢ Less → is_lt (cmp y x) ≡ false → cmp x y ≡ Equal
  tied_neighbours x y Less is ne up = absurd (ne is)
  tied_neighbours x y Equal is ne up = is
  tied_neighbours x y Greater is ne up =
      absurd (let back : is_lt (cmp y x) ≡ true = ap is_lt (o.antisymm y x ∙ ap ordering_reverse is) in cc)

  twice_by : (xs : List E) (j : ℕ) (d : E) → IsSorted cmp xs → suc j < length xs → cmp (get_or xs j d) (get_or xs (suc j) d) ≢ Less → StandsTwice cmp xs
  twice_by xs j d up low ne =
      let next : j + 1 ≡ suc j = omega arith in
      let sorted : is_lt (cmp (get_or xs (suc j) d) (get_or xs j d)) ≡ false =
      subst (λ k. is_lt (cmp (get_or xs k d) (get_or xs j d)) ≡ false) next (up j d (omega arith) (omega arith)) in
      (get_or xs j d, count_two xs j d low (tied_neighbours (get_or xs j d) (get_or xs (suc j) d) (cmp (get_or xs j d) (get_or xs (suc j) d)) refl ne sorted))

  some_twice : (xs : List E) (j : ℕ) → IsSorted cmp xs → suc j < length xs → ((d : E) → cmp (get_or xs j d) (get_or xs (suc j) d) ≢ Less) → StandsTwice cmp xs
  some_twice [] j up low ne = absurd (omega arith)
  some_twice (x ∷ xs) j up low ne = twice_by (x ∷ xs) j x up low (ne x)

  -- a sorted list rises, or has an item twice
  pub rises : (xs ys : List E) (b : Bool) → ys ≡ xs → IsSorted cmp xs
      → MatchBool b ((j k : ℕ) (d : E) → suc j ≡ k → k < length ys → cmp (get_or ys j d) (get_or ys k d) ≡ Less)
      ((j : ℕ) × (suc j < length ys) × ((d : E) → cmp (get_or ys j d) (get_or ys (suc j) d) ≢ Less))
      → MatchBool b (Ascends cmp xs) (StandsTwice cmp xs)
  rises xs ys true same up next =
      ascends_by xs (subst (λ zs. (j k : ℕ) (d : E) → suc j ≡ k → k < length zs → cmp (get_or zs j d) (get_or zs k d) ≡ Less) same next)
  rises xs ys false same up falls =
      let here = subst (λ zs. (j : ℕ) × (suc j < length zs) × ((d : E) → cmp (get_or zs j d) (get_or zs (suc j) d) ≢ Less)) same falls in
      some_twice xs here.0 up here.1 here.2

module _ {E : Type 0} where
  pub get_any : (xs : List E) (k : ℕ) (x d : E) → k < length xs → x ≡ get_or xs k x → get_or xs k d ≡ x
  get_any [] k x d low is = absurd (omega arith)
  get_any (y ∷ ys) zero x d low is = sym is
  get_any (y ∷ ys) (suc k) x d low is = get_any ys k x d (omega arith) is

  pub falls_at : (cmp : E → E → Ordering) (xs : List E) (at : ℕ) (x y : E) → 1 ≤ at → at < length xs → x ≡ get_or xs (at - 1) x → y ≡ get_or xs at y
      → cmp x y ≢ Less → (j : ℕ) × (suc j < length xs) × ((d : E) → cmp (get_or xs j d) (get_or xs (suc j) d) ≢ Less)
  falls_at cmp xs zero x y some low first next ne = absurd (omega arith)
  falls_at cmp xs (suc j) x y some low first next ne =
      let one : suc j - 1 ≡ j = omega arith in
      let here : x ≡ get_or xs j x = subst (λ k. x ≡ get_or xs k x) one first in
      (j, low, λ d less. ne (sym (ap (λ a. cmp a y) (get_any xs j x d (omega arith) here)) ∙ sym (ap (λ b. cmp (get_or xs j d) b) (get_any xs (suc j) y d low next)) ∙ less))

  parted : (h : ℕ) (xs : List E) (d : E) → h < length xs → xs ≡ take h xs ++ get_or xs h d ∷ drop (suc h) xs
  parted h [] d low = absurd (omega arith)
  parted zero (x ∷ xs) d low = refl
  parted (suc h) (x ∷ xs) d low = ap (λ ys. x ∷ ys) (parted h xs d (omega arith))

  taken : (h : ℕ) (xs : List E) (d : E) → h < length xs → take (suc h) xs ≡ take h xs ++ get_or xs h d ∷ []
  taken h [] d low = absurd (omega arith)
  taken zero (x ∷ xs) d low = refl
  taken (suc h) (x ∷ xs) d low = ap (λ ys. x ∷ ys) (taken h xs d (omega arith))

  taken_at : (h : ℕ) (xs : List E) (d : E) → h < length xs → get_or (take (suc h) xs) h d ≡ get_or xs h d
  taken_at h [] d low = absurd (omega arith)
  taken_at zero (x ∷ xs) d low = refl
  taken_at (suc h) (x ∷ xs) d low = taken_at h xs d (omega arith)

module _ {E : Type 0} (cmp : E → E → Ordering) (o : IsTotalOrder cmp) where
  halved_by : (old sorted new : List E) (h : ℕ) (b : E) → h < length sorted → Ascends cmp sorted
      → ((e : E) → count cmp e sorted ≡ count cmp e old) → new ≡ take (suc h) sorted → b ≡ get_or sorted h b → Halves cmp old new b
  halved_by old sorted new h b low up counts is at =
      let xs = take h sorted in
      let ys = drop (suc h) sorted in
      let here : sorted ≡ xs ++ b ∷ ys = parted h sorted b low ∙ ap (λ y. xs ++ y ∷ ys) (sym at) in
      let kept : new ≡ xs ++ b ∷ [] = is ∙ taken h sorted b low ∙ ap (λ y. xs ++ y ∷ []) (sym at) in
      let rising : Ascends cmp (xs ++ b ∷ ys) = subst (Ascends cmp) here up in
      let itself : is_gt (cmp b b) ≡ false = ap is_gt (tied_itself o b) in
      record {
        counts = λ e upto. (
            let all : count cmp e sorted ≡ count cmp e xs + count cmp e (b ∷ ys) = ap (count cmp e) here ∙ count-append cmp e xs (b ∷ ys) in
            let some : count cmp e new ≡ count cmp e xs + count cmp e (b ∷ []) = ap (count cmp e) kept ∙ count-append cmp e xs (b ∷ []) in
            let none = none_after cmp o b e ys (cut_after cmp o xs ys b rising) upto in
            let same = counts e in
            omega (arith, all, some, none, same)
            );
        upto = λ e some. stands_upto cmp o b e (xs ++ b ∷ []) (each-append (λ x. is_gt (cmp x b) ≡ false) xs (b ∷ []) (cut_before cmp o xs ys b rising) (itself, tt))
            (subst (λ zs. 0 < count cmp e zs) kept some);
        bound = subst (λ n. 0 < n) (ap (count cmp b) (sym here) ∙ counts b) (count_itself cmp o b xs ys);
      }

  pub halved : (old sorted new : List E) (half : ℕ) (b : E) → 0 < half → half ≤ length sorted → Ascends cmp sorted
      → ((e : E) → count cmp e sorted ≡ count cmp e old) → new ≡ take half sorted → b ≡ get_or new (half - 1) b → Halves cmp old new b
  halved old sorted new zero b some low up counts is at = absurd (omega arith)
  halved old sorted new (suc h) b some low up counts is at =
      let one : suc h - 1 ≡ h = omega arith in
      halved_by old sorted new h b (omega arith) up counts is
      (at ∙ ap (λ k. get_or new k b) one ∙ ap (λ xs. get_or xs h b) is ∙ taken_at h sorted b (omega arith))
