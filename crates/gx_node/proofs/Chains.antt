-- Entries by the pages that they name, and pages in a chain of rightlinks.
use Rattle.std.proofs.Common.{◌≡◌, ◌≢◌, ℕ, zero, suc, ◌+◌, ◌<◌, ◌≤◌, Bool, true, false, cond, inl, inr, List, [], ◌∷◌, map, length, refl, ap, sym, ◌∙◌, subst, arith}
use Rattle.std.specs.Prelude.{◌==◌, if◌then◌else◌}
use Rattle.std.proofs.lemmas.Bool.{eqb-true, ne_eqb, eq-eqb, eqb-false, cases_eq}
use Rattle.gx_node.specs.Lists.{sum_over, one_if, Each, staying, going}
use Rattle.gx_node.specs.Trees.{Child, Tree, Used, times, walk}
use Rattle.gx_node.specs.Legal.{Linked}
use Rattle.gx_node.specs.Steps.{with_key}
use Rattle.gx_node.proofs.Sums.{sum_over-map, sum_over_parted}

one_same : (q : ℕ) → one_if (q == q) ≡ 1
one_same q = ap (λ b. one_if b) (eq-eqb q q refl)

one_other : (x q : ℕ) → x ≢ q → one_if (x == q) ≡ 0
one_other x q ne = ap (λ b. one_if b) (ne_eqb x q ne)

pub one_at : (x q : ℕ) → x ≡ q → one_if (x == q) ≡ 1
one_at x q e = ap (λ b. one_if b) (eq-eqb x q e)

pub one_off : (x q : ℕ) → x ≢ q → one_if (x == q) ≡ 0
one_off x q ne = one_other x q ne

-- no page of the list is this one
pub times_none : (q : ℕ) (xs : List ℕ) → Each (λ x. x ≢ q) xs → times q xs ≡ 0
times_none q [] e = refl
times_none q (x ∷ xs) e = let here = one_other x q e.0 in let rest = times_none q xs e.1 in omega (arith, here, rest)

pub none_times : (q : ℕ) (xs : List ℕ) → times q xs ≡ 0 → Each (λ x. x ≢ q) xs
none_times q [] e = tt
none_times q (x ∷ xs) e =
    (λ same. (let one = one_at x q same in absurd (omega (arith, one, e))), none_times q xs (omega (arith, e)))

-- a list that names a page has an element that does
pub some_times : (P : ℕ → Type 0) (q : ℕ) (xs : List ℕ) → 0 < times q xs → Each P xs → P q
some_times P q [] some e = absurd (omega arith)
some_times P q (x ∷ xs) some e = elim (cases_eq x q) [
  | inl same ↦ subst P same e.0
  | inr ne ↦ let none = one_other x q ne in some_times P q xs (omega (arith, some, none)) e.1
]

module _ {K : Type 0} where
  -- an entry that names the page, if one does
  pub some_child : (P : Child K → Type 0) (q : ℕ) (cs : List (Child K)) → 0 < times q (map (λ c. c.page) cs) → Each P cs
      → (c : Child K) × P c × (c.page ≡ q)
  some_child P q [] some e = absurd (omega arith)
  some_child P q (c ∷ cs) some e = elim (cases_eq c.page q) [
    | inl same ↦ (c, e.0, same)
    | inr ne ↦ let none = one_other c.page q ne in some_child P q cs (omega (arith, some, none)) e.1
  ]

  page_with_key : (n : ℕ) (key : K) (c : Child K) (b : Bool) → (if b then record { key = key; page = c.page } else c).page ≡ c.page
  page_with_key n key c true = refl
  page_with_key n key c false = refl

  -- the pages named are the same if a key is another
  pub pages_with_key : (n : ℕ) (key : K) (cs : List (Child K)) → map (λ (c : Child K). c.page) (with_key n key cs) ≡ map (λ (c : Child K). c.page) cs
  pages_with_key n key [] = refl
  pages_with_key n key (c ∷ cs) =
      ap (λ q. q ∷ map (λ (c : Child K). c.page) (with_key n key cs)) (page_with_key n key c (c.page == n))
      ∙ ap (λ (qs : List ℕ). c.page ∷ qs) (pages_with_key n key cs)

  pub length_with_key : (n : ℕ) (key : K) (cs : List (Child K)) → length (with_key n key cs) ≡ length cs
  length_with_key n key [] = refl
  length_with_key n key (c ∷ cs) = ap (λ k. suc k) (length_with_key n key cs)

  each_with_key_at : (P : Child K → Type 0) (n : ℕ) (key : K) (c : Child K) (b : Bool) → (c.page == n) ≡ b
      → (c.page ≡ n → P (record { key = key; page = c.page })) → (c.page ≢ n → P c)
      → P (if b then record { key = key; page = c.page } else c)
  each_with_key_at P n key c true is hit miss = hit (eqb-true c.page n is)
  each_with_key_at P n key c false is hit miss = miss (eqb-false c.page n is)

  pub each_with_key : (P : Child K → Type 0) (n : ℕ) (key : K) (cs : List (Child K))
      → Each (λ c. (c.page ≡ n → P (record { key = key; page = c.page })) × (c.page ≢ n → P c)) cs → Each P (with_key n key cs)
  each_with_key P n key [] e = tt
  each_with_key P n key (c ∷ cs) e =
      (each_with_key_at P n key c (c.page == n) refl e.0.0 e.0.1, each_with_key P n key cs e.1)

  pub pages_parted : (f : ℕ → ℕ) (sides : List Bool) (cs : List (Child K))
      → sum_over f (map (λ c. c.page) (staying sides cs)) + sum_over f (map (λ c. c.page) (going sides cs)) ≡ sum_over f (map (λ c. c.page) cs)
  pages_parted f sides cs =
      let a = sum_over-map f (λ (c : Child K). c.page) (staying sides cs) in
      let b = sum_over-map f (λ (c : Child K). c.page) (going sides cs) in
      let d = sum_over-map f (λ (c : Child K). c.page) cs in
      let e = sum_over_parted (λ (c : Child K). f c.page) sides cs in
      omega (arith, a, b, d, e)

-- each page n of the list is followed by s
abbrev pub after : ℕ → ℕ → List ℕ → List ℕ
after n s [] = []
after n s (x ∷ xs) = cond (x == n) (x ∷ s ∷ after n s xs) (x ∷ after n s xs)

pub after_at : (n s x : ℕ) (xs : List ℕ) → x ≡ n → after n s (x ∷ xs) ≡ x ∷ s ∷ after n s xs
after_at n s x xs e = ap (λ b. cond b (x ∷ s ∷ after n s xs) (x ∷ after n s xs)) (eq-eqb x n e)

pub after_off : (n s x : ℕ) (xs : List ℕ) → x ≢ n → after n s (x ∷ xs) ≡ x ∷ after n s xs
after_off n s x xs ne = ap (λ b. cond b (x ∷ s ∷ after n s xs) (x ∷ after n s xs)) (ne_eqb x n ne)

pub sum_after : (f g : ℕ → ℕ) (n s : ℕ) (xs : List ℕ) → f n + f s ≡ g n → Each (λ x. x ≢ n → f x ≡ g x) xs
    → sum_over f (after n s xs) ≡ sum_over g xs
sum_after f g n s [] parted e = refl
sum_after f g n s (x ∷ xs) parted e = elim (cases_eq x n) [
  | inl same ↦
      let shape = ap (λ (ys : List ℕ). sum_over f ys) (after_at n s x xs same) in
      let at_f = ap f same in let at_g = ap g same in
      let rest = sum_after f g n s xs parted e.1 in
      omega (arith, shape, at_f, at_g, rest, parted)
  | inr ne ↦
      let shape = ap (λ (ys : List ℕ). sum_over f ys) (after_off n s x xs ne) in
      let here = e.0 ne in
      let rest = sum_after f g n s xs parted e.1 in
      omega (arith, shape, here, rest)
]

pub length_after : (n s : ℕ) (xs : List ℕ) → length (after n s xs) ≡ length xs + times n xs
length_after n s [] = refl
length_after n s (x ∷ xs) = elim (cases_eq x n) [
  | inl same ↦
      let shape = ap (λ (ys : List ℕ). length ys) (after_at n s x xs same) in
      let one = one_at x n same in let rest = length_after n s xs in
      omega (arith, shape, one, rest)
  | inr ne ↦
      let shape = ap (λ (ys : List ℕ). length ys) (after_off n s x xs ne) in
      let none = one_other x n ne in let rest = length_after n s xs in
      omega (arith, shape, none, rest)
]

module _ {K : Type 0} where
  -- a walk with steps enough is the chain
  pub walk_is : (t : Tree K) (xs : List ℕ) (a most : ℕ) → Linked t a xs → length xs ≤ most → walk t most a ≡ xs
  walk_is t [] a zero l le = refl
  walk_is t [] a (suc most) l le =
      ap (λ b. if b then [] else (a ∷ walk t most (t.node a).right)) (eq-eqb a 0 l)
  walk_is t (x ∷ xs) a zero l le = absurd (omega arith)
  walk_is t (x ∷ xs) a (suc most) l le =
      let used = l.1 in
      let ne : a ≢ 0 = (let e = l.0 in omega (arith, used.0, e)) in
      ap (λ b. if b then [] else (a ∷ walk t most (t.node a).right)) (ne_eqb a 0 ne)
      ∙ ap (λ q. q ∷ walk t most (t.node q).right) l.0
      ∙ ap (λ (ys : List ℕ). x ∷ ys) (walk_is t xs (t.node x).right most l.3 (omega arith))

  pub length_walk : (t : Tree K) (most a : ℕ) → length (walk t most a) ≤ most
  length_walk t zero a = omega arith
  length_walk t (suc most) a = length_by (a == 0) (walk t most (t.node a).right) most a (length_walk t most (t.node a).right)
    where
      length_by : (b : Bool) (rest : List ℕ) (most a : ℕ) → length rest ≤ most → length (if b then [] else (a ∷ rest)) ≤ suc most
      length_by true rest most a le = omega arith
      length_by false rest most a le = omega arith

  -- there is one chain from a page
  pub linked_unique : (t : Tree K) (a : ℕ) (xs ys : List ℕ) → Linked t a xs → Linked t a ys → xs ≡ ys
  linked_unique t a [] [] l m = refl
  linked_unique t a [] (y ∷ ys) l m = let used = m.1 in let e = m.0 in absurd (omega (arith, used.0, e, l))
  linked_unique t a (x ∷ xs) [] l m = let used = l.1 in let e = l.0 in absurd (omega (arith, used.0, e, m))
  linked_unique t a (x ∷ xs) (y ∷ ys) l m =
      let same : x ≡ y = sym l.0 ∙ m.0 in
      ap (λ q. q ∷ xs) same
      ∙ ap (λ (zs : List ℕ). y ∷ zs) (linked_unique t (t.node y).right xs ys (subst (λ q. Linked t (t.node q).right xs) same l.3) m.3)

  pub linked_from : (t : Tree K) (n a : ℕ) (xs : List ℕ) → Linked t a xs → 0 < times n xs
      → (ys : List ℕ) × Linked t n ys × (length ys ≤ length xs)
  linked_from t n a [] l some = absurd (omega arith)
  linked_from t n a (x ∷ xs) l some = elim (cases_eq x n) [
    | inl same ↦ (x ∷ xs, (sym same, l.1, l.2, l.3), omega arith)
    | inr ne ↦
        let none = one_other x n ne in
        let found = linked_from t n (t.node x).right xs l.3 (omega (arith, none, some)) in
        (found.0, found.1, (let le = found.2 in omega (arith, le)))
  ]

  -- what is summed from a page of it on is no more than all
  pub sum_from : (t : Tree K) (f : ℕ → ℕ) (n a : ℕ) (xs ys : List ℕ) → Linked t a xs → 0 < times n xs → Linked t n ys → sum_over f ys ≤ sum_over f xs
  sum_from t f n a [] ys l some rest = absurd (omega arith)
  sum_from t f n a (x ∷ xs) ys l some rest = elim (cases_eq x n) [
    | inl same ↦
        let equal = ap (λ (zs : List ℕ). sum_over f zs) (linked_unique t n ys (x ∷ xs) rest (sym same, l.1, l.2, l.3)) in
        omega (arith, equal)
    | inr ne ↦
        let none = one_other x n ne in
        let more = sum_from t f n (t.node x).right xs ys l.3 (omega (arith, none, some)) rest in
        omega (arith, more)
  ]

  -- so no page is on it twice
  pub linked_once : (t : Tree K) (n a : ℕ) (xs : List ℕ) → Linked t a xs → times n xs ≤ 1
  linked_once t n a [] l = omega arith
  linked_once t n a (x ∷ xs) l = elim (cases_eq x n) [
    | inl same ↦ once_by (times n xs) refl same
    | inr ne ↦ let none = one_other x n ne in let rest = linked_once t n (t.node x).right xs l.3 in omega (arith, none, rest)
  ]
    where
      once_by : (k : ℕ) → times n xs ≡ k → x ≡ n → one_if (x == n) + times n xs ≤ 1
      once_by zero is same = let one = one_at x n same in omega (arith, one, is)
      once_by (suc k) is same =
          let found = linked_from t n (t.node x).right xs l.3 (omega (arith, is)) in
          let whole : Linked t n (x ∷ xs) = (sym same, l.1, l.2, l.3) in
          let equal = ap (λ (zs : List ℕ). length zs) (linked_unique t n found.0 (x ∷ xs) found.1 whole) in
          let le = found.2 in
          absurd (omega (arith, equal, le))

  -- what holds of each leaf that is taken holds of each page of a chain
  pub each_linked : (P : ℕ → Type 0) (t : Tree K) (a : ℕ) (xs : List ℕ) → ((q : ℕ) → Used t q → (t.node q).level ≡ 0 → P q)
      → Linked t a xs → Each P xs
  each_linked P t a [] leaf l = tt
  each_linked P t a (x ∷ xs) leaf l = (leaf x l.1 l.2, each_linked P t (t.node x).right xs leaf l.3)
