-- Sums over lists and over pages.
use Rattle.std.proofs.Common.{◌≡◌, ◌≢◌, ℕ, zero, suc, ◌+◌, ◌<◌, ◌≤◌, Bool, true, false, cond, ◌⊎◌, inl, inr, List, [], ◌∷◌, ◌++◌, map, flat_map, length, refl, ap, sym, ◌∙◌, arith}
use Rattle.std.specs.Prelude.{◌==◌}
use Rattle.std.proofs.lemmas.Bool.{ne_eqb, eq-eqb, cases_eq}
use Rattle.gx_node.specs.Lists.{sum_over, one_if, how_many, Each, total, staying, going}
use Rattle.gx_node.specs.Trees.{Pair, Tree, leaves, passing, standing}

module _ {X : Type 0} where
  pub sum_over-append : (f : X → ℕ) (xs ys : List X) → sum_over f (xs ++ ys) ≡ sum_over f xs + sum_over f ys
  sum_over-append f [] ys = omega arith
  sum_over-append f (x ∷ xs) ys = omega (arith, sum_over-append f xs ys)

  pub sum_over_same : (f g : X → ℕ) (xs : List X) → Each (λ x. f x ≡ g x) xs → sum_over f xs ≡ sum_over g xs
  sum_over_same f g [] e = refl
  sum_over_same f g (x ∷ xs) e = omega (arith, e.0, sum_over_same f g xs e.1)

  pub sum_over_le : (f g : X → ℕ) (xs : List X) → Each (λ x. f x ≤ g x) xs → sum_over f xs ≤ sum_over g xs
  sum_over_le f g [] e = omega arith
  sum_over_le f g (x ∷ xs) e = omega (arith, e.0, sum_over_le f g xs e.1)

  pub sum_over_add : (f g : X → ℕ) (xs : List X) → sum_over (λ x. f x + g x) xs ≡ sum_over f xs + sum_over g xs
  sum_over_add f g [] = refl
  sum_over_add f g (x ∷ xs) = omega (arith, sum_over_add f g xs)

  pub sum_over_parted : (f : X → ℕ) (sides : List Bool) (xs : List X) → sum_over f (staying sides xs) + sum_over f (going sides xs) ≡ sum_over f xs
  sum_over_parted f sides [] = refl
  sum_over_parted f [] (x ∷ xs) = omega arith
  sum_over_parted f (true ∷ sides) (x ∷ xs) = omega (arith, sum_over_parted f sides xs)
  sum_over_parted f (false ∷ sides) (x ∷ xs) = omega (arith, sum_over_parted f sides xs)

  pub each_always : (P : X → Type 0) → ((x : X) → P x) → (xs : List X) → Each P xs
  each_always P always [] = tt
  each_always P always (x ∷ xs) = (always x, each_always P always xs)

  pub each_map : (P Q : X → Type 0) → ((x : X) → P x → Q x) → (xs : List X) → Each P xs → Each Q xs
  each_map P Q weaker [] e = tt
  each_map P Q weaker (x ∷ xs) e = (weaker x e.0, each_map P Q weaker xs e.1)

  pub each_both : (P Q R : X → Type 0) → ((x : X) → P x → Q x → R x) → (xs : List X) → Each P xs → Each Q xs → Each R xs
  each_both P Q R both [] e h = tt
  each_both P Q R both (x ∷ xs) e h = (both x e.0 h.0, each_both P Q R both xs e.1 h.1)

  pub each-append : (P : X → Type 0) (xs ys : List X) → Each P xs → Each P ys → Each P (xs ++ ys)
  each-append P [] ys e h = h
  each-append P (x ∷ xs) ys e h = (e.0, each-append P xs ys e.1 h)

  pub each_parts : (P : X → Type 0) (xs ys : List X) → Each P (xs ++ ys) → Each P xs × Each P ys
  each_parts P [] ys e = (tt, e)
  each_parts P (x ∷ xs) ys e = let rest = each_parts P xs ys e.1 in ((e.0, rest.0), rest.1)

  pub each_staying : (P : X → Type 0) (sides : List Bool) (xs : List X) → Each P xs → Each P (staying sides xs)
  each_staying P sides [] e = tt
  each_staying P [] (x ∷ xs) e = e
  each_staying P (true ∷ sides) (x ∷ xs) e = each_staying P sides xs e.1
  each_staying P (false ∷ sides) (x ∷ xs) e = (e.0, each_staying P sides xs e.1)

  pub each_going : (P : X → Type 0) (sides : List Bool) (xs : List X) → Each P xs → Each P (going sides xs)
  each_going P sides [] e = tt
  each_going P [] (x ∷ xs) e = tt
  each_going P (true ∷ sides) (x ∷ xs) e = (e.0, each_going P sides xs e.1)
  each_going P (false ∷ sides) (x ∷ xs) e = each_going P sides xs e.1

  pub each_joined : (P : X → Type 0) (sides : List Bool) (xs : List X) → Each P (staying sides xs) → Each P (going sides xs) → Each P xs
  each_joined P sides [] e h = tt
  each_joined P [] (x ∷ xs) e h = e
  each_joined P (true ∷ sides) (x ∷ xs) e h = (h.0, each_joined P sides xs e h.1)
  each_joined P (false ∷ sides) (x ∷ xs) e h = (e.0, each_joined P sides xs e.1 h)

  pub length_parted : (sides : List Bool) (xs : List X) → length (staying sides xs) + length (going sides xs) ≡ length xs
  length_parted sides [] = refl
  length_parted [] (x ∷ xs) = omega arith
  length_parted (true ∷ sides) (x ∷ xs) = omega (arith, length_parted sides xs)
  length_parted (false ∷ sides) (x ∷ xs) = omega (arith, length_parted sides xs)

module _ {X Y : Type 0} where
  pub sum_over-map : (f : Y → ℕ) (g : X → Y) (xs : List X) → sum_over f (map g xs) ≡ sum_over (λ x. f (g x)) xs
  sum_over-map f g [] = refl
  sum_over-map f g (x ∷ xs) = omega (arith, sum_over-map f g xs)

  pub each-map : (P : Y → Type 0) (g : X → Y) (xs : List X) → Each (λ x. P (g x)) xs → Each P (map g xs)
  each-map P g [] e = tt
  each-map P g (x ∷ xs) e = (e.0, each-map P g xs e.1)

  pub each_unmap : (P : Y → Type 0) (g : X → Y) (xs : List X) → Each P (map g xs) → Each (λ x. P (g x)) xs
  each_unmap P g [] e = tt
  each_unmap P g (x ∷ xs) e = (e.0, each_unmap P g xs e.1)

  pub map_parted_staying : (g : X → Y) (sides : List Bool) (xs : List X) → map g (staying sides xs) ≡ staying sides (map g xs)
  map_parted_staying g sides [] = refl
  map_parted_staying g [] (x ∷ xs) = refl
  map_parted_staying g (true ∷ sides) (x ∷ xs) = map_parted_staying g sides xs
  map_parted_staying g (false ∷ sides) (x ∷ xs) = ap (λ (ys : List Y). g x ∷ ys) (map_parted_staying g sides xs)

  pub map_parted_going : (g : X → Y) (sides : List Bool) (xs : List X) → map g (going sides xs) ≡ going sides (map g xs)
  map_parted_going g sides [] = refl
  map_parted_going g [] (x ∷ xs) = refl
  map_parted_going g (true ∷ sides) (x ∷ xs) = ap (λ (ys : List Y). g x ∷ ys) (map_parted_going g sides xs)
  map_parted_going g (false ∷ sides) (x ∷ xs) = map_parted_going g sides xs

-- Sums over pages.

pub total_same : (f g : ℕ → ℕ) (n : ℕ) → ((q : ℕ) → 0 < q → q ≤ n → f q ≡ g q) → total f n ≡ total g n
total_same f g zero each = refl
total_same f g (suc n) each =
    let here : f (suc n) ≡ g (suc n) = each (suc n) (omega arith) (omega arith) in
    let rest : total f n ≡ total g n = total_same f g n (λ q low high. each q low (omega arith)) in
    omega arith

pub total_le : (f g : ℕ → ℕ) (n : ℕ) → ((q : ℕ) → 0 < q → q ≤ n → f q ≤ g q) → total f n ≤ total g n
total_le f g zero each = omega arith
total_le f g (suc n) each =
    let here : f (suc n) ≤ g (suc n) = each (suc n) (omega arith) (omega arith) in
    let rest : total f n ≤ total g n = total_le f g n (λ q low high. each q low (omega arith)) in
    omega arith

pub total_add : (f g : ℕ → ℕ) (n : ℕ) → total (λ q. f q + g q) n ≡ total f n + total g n
total_add f g zero = refl
total_add f g (suc n) = omega (arith, total_add f g n)

pub total_none : (f : ℕ → ℕ) (n : ℕ) → ((q : ℕ) → 0 < q → q ≤ n → f q ≡ 0) → total f n ≡ 0
total_none f zero each = refl
total_none f (suc n) each =
    let here : f (suc n) ≡ 0 = each (suc n) (omega arith) (omega arith) in
    let rest : total f n ≡ 0 = total_none f n (λ q low high. each q low (omega arith)) in
    omega arith

-- this number at page a, and nothing elsewhere
abbrev pub at_page : ℕ → ℕ → ℕ → ℕ
at_page a d q = cond (q == a) d 0

pub at_page_same : (a d : ℕ) → at_page a d a ≡ d
at_page_same a d = ap (λ b. cond b d 0) (eq-eqb a a refl)

pub at_page_other : (a d q : ℕ) → q ≢ a → at_page a d q ≡ 0
at_page_other a d q ne = ap (λ b. cond b d 0) (ne_eqb q a ne)

total_at_page_by : (a d n : ℕ) → (a ≡ suc n) ⊎ (a ≢ suc n) → 0 < a → a ≤ suc n → (a ≤ n → total (at_page a d) n ≡ d) → total (at_page a d) (suc n) ≡ d
total_at_page_by a d n (inl e) low high rest =
    let here : at_page a d (suc n) ≡ d = ap (λ k. at_page a d k) (sym e) ∙ at_page_same a d in
    let none : total (at_page a d) n ≡ 0 = total_none (at_page a d) n (λ q l h. at_page_other a d q (λ same. absurd (omega arith))) in
    omega arith
total_at_page_by a d n (inr ne) low high rest =
    let here : at_page a d (suc n) ≡ 0 = at_page_other a d (suc n) (λ same. ne (sym same)) in
    let below : a ≤ n = omega arith in
    let more : total (at_page a d) n ≡ d = rest below in
    omega arith

pub total_at_page : (a d n : ℕ) → 0 < a → a ≤ n → total (at_page a d) n ≡ d
total_at_page a d zero low high = absurd (omega arith)
total_at_page a d (suc n) low high =
    total_at_page_by a d n (cases_eq a (suc n)) low high (λ below. total_at_page a d n low below)

-- two pages' shares are at most the sum
pub total_two : (f : ℕ → ℕ) (n a b : ℕ) → 0 < a → a ≤ n → 0 < b → b ≤ n → a ≢ b → f a + f b ≤ total f n
total_two f n a b la ha lb hb ne =
    let each : (q : ℕ) → 0 < q → q ≤ n → at_page a (f a) q + at_page b (f b) q ≤ f q = λ q l h. two_at f a b q ne (cases_eq q a) (cases_eq q b) in
    let le : total (λ q. at_page a (f a) q + at_page b (f b) q) n ≤ total f n = total_le (λ q. at_page a (f a) q + at_page b (f b) q) f n each in
    let sum : total (λ q. at_page a (f a) q + at_page b (f b) q) n ≡ total (at_page a (f a)) n + total (at_page b (f b)) n = total_add (at_page a (f a)) (at_page b (f b)) n in
    let one : total (at_page a (f a)) n ≡ f a = total_at_page a (f a) n la ha in
    let two : total (at_page b (f b)) n ≡ f b = total_at_page b (f b) n lb hb in
    omega arith
  where
    two_at : (f : ℕ → ℕ) (a b q : ℕ) → a ≢ b → (q ≡ a) ⊎ (q ≢ a) → (q ≡ b) ⊎ (q ≢ b) → at_page a (f a) q + at_page b (f b) q ≤ f q
    two_at f a b q ne (inl e) (inl k) = absurd (ne (sym e ∙ k))
    two_at f a b q ne (inl e) (inr k) =
        let x : at_page a (f a) q ≡ f q = ap (λ z. at_page a (f a) z) e ∙ at_page_same a (f a) ∙ ap f (sym e) in
        let y : at_page b (f b) q ≡ 0 = at_page_other b (f b) q k in omega arith
    two_at f a b q ne (inr e) (inl k) =
        let x : at_page b (f b) q ≡ f q = ap (λ z. at_page b (f b) z) k ∙ at_page_same b (f b) ∙ ap f (sym k) in
        let y : at_page a (f a) q ≡ 0 = at_page_other a (f a) q e in omega arith
    two_at f a b q ne (inr e) (inr k) =
        let x : at_page a (f a) q ≡ 0 = at_page_other a (f a) q e in
        let y : at_page b (f b) q ≡ 0 = at_page_other b (f b) q k in omega arith

pub total_one : (f : ℕ → ℕ) (n a : ℕ) → 0 < a → a ≤ n → f a ≤ total f n
total_one f zero a low high = absurd (omega arith)
total_one f (suc n) a low high = one_by f n a (cases_eq a (suc n)) (λ below. total_one f n a low below) high
  where
    one_by : (f : ℕ → ℕ) (n a : ℕ) → (a ≡ suc n) ⊎ (a ≢ suc n) → (a ≤ n → f a ≤ total f n) → a ≤ suc n → f a ≤ f (suc n) + total f n
    one_by f n a (inl e) rest high = let same : f a ≡ f (suc n) = ap f e in omega arith
    one_by f n a (inr ne) rest high = let below : a ≤ n = omega arith in let more : f a ≤ total f n = rest below in omega arith

-- the pairs on some pages, in order
pub how_many-flat_map : {K : Type 0} (test : Pair K → Bool) (t : Tree K) → standing test t ≡ how_many test (flat_map (λ q. (t.node q).pairs) (leaves t))
how_many-flat_map {K} test t = on (leaves t)
  where
    on : (pages : List ℕ) → passing test t pages ≡ how_many test (flat_map (λ q. (t.node q).pairs) pages)
    on [] = refl
    on (q ∷ qs) =
        let more = sum_over-append (λ x. one_if (test x)) (t.node q).pairs (flat_map (λ q. (t.node q).pairs) qs) in
        let rest = on qs in
        omega (arith, more, rest)
