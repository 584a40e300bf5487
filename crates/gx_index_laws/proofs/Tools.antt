-- Small facts: what is changed at one session, what is counted in a list, what is listed.
use Rattle.std.proofs.Common.{◌≡◌, ◌≢◌, ℕ, ◌+◌, ◌<◌, ◌≤◌, Bool, true, false, not, ◌&&◌, inl, inr, List, [], ◌∷◌, ◌++◌, refl, ap, sym, ◌∙◌, subst, arith}
use Rattle.std.specs.Prelude.{if◌then◌else◌}
use Rattle.std.proofs.lemmas.Bool.{eq-eqb, ne_eqb}
use Rattle.std.proofs.Math.Decide.{ℕ_discrete}
use Rattle.gx_node.specs.Lists.{sum_over, one_if, how_many}
use Rattle.gx_node.specs.Trees.{times}
use Rattle.gx_node.proofs.Sums.{sum_over_add, sum_over_same, each_always}
use Rattle.gx_node.proofs.Chains.{one_off}
use Rattle.gx_recovery.proofs.Tests.{true_or_false}
use Rattle.gx_index_laws.specs.Happening.{changed_at}

module _ {X : Type 0} (s : ℕ) (x : X) (by : ℕ → X) where
  pub changed_here : (a : ℕ) → a ≡ s → changed_at s x by a ≡ x
  changed_here a is = ap (λ b. if b then x else by a) (eq-eqb a s is)

  pub changed_beside : (a : ℕ) → a ≢ s → changed_at s x by a ≡ by a
  changed_beside a ne = ap (λ b. if b then x else by a) (ne_eqb a s ne)

-- what holds where it is changed and elsewhere holds of all
pub by_session : (P : ℕ → Type 0) (s : ℕ) → P s → ((a : ℕ) → a ≢ s → P a) → (a : ℕ) → P a
by_session P s here there a = elim (ℕ_discrete a s) [ yes e ↦ subst P (sym e) here | no ne ↦ there a ne ]

-- of a value that isn't the first, an equation says the second
pub not_true : {A : Type 0} → (b : Bool) → b ≡ true → b ≡ false → A
not_true b t f = let no : ⊥ = cc in absurd no

-- one of a list that passes
pub record SomeIn {X : Type 0} (test : X → Bool) (xs : List X) : Type 0 where
  pub before : List X
  pub one : X
  pub after : List X
  pub parts : xs ≡ before ++ one ∷ after
  pub passes : test one ≡ true

half : (a b : Bool) → one_if (a && b) + one_if (a && not b) ≡ one_if a
half true true = refl
half true false = refl
half false b = refl

module _ {X : Type 0} where
  pub some_in : (test : X → Bool) (xs : List X) → 0 < how_many test xs → SomeIn test xs
  some_in test [] some = absurd (omega arith)
  some_in test (x ∷ xs) some =
      elim (true_or_false (test x)) [
        | inl is ↦ record { before = []; one = x; after = xs; parts = refl; passes = is }
        | inr other ↦
            (let zero_here = ap (λ b. one_if b) other in
            let rest : SomeIn test xs = some_in test xs (omega (arith, some, zero_here)) in
            record { before = x ∷ rest.before; one = rest.one; after = rest.after; parts = ap (λ ys. x ∷ ys) rest.parts; passes = rest.passes })
      ]

  pub counted_in : (test : X → Bool) (before after : List X) (y : X) → one_if (test y) ≤ how_many test (before ++ y ∷ after)
  counted_in test [] after y = omega arith
  counted_in test (x ∷ before) after y = let rest = counted_in test before after y in omega (arith, rest)

  -- what passes with another test and without it is what passes
  pub halves : (p q : X → Bool) (xs : List X) → how_many (λ x. p x && q x) xs + how_many (λ x. p x && not (q x)) xs ≡ how_many p xs
  halves p q xs =
      sym (sum_over_add (λ x. one_if (p x && q x)) (λ x. one_if (p x && not (q x))) xs)
      ∙ sum_over_same (λ x. one_if (p x && q x) + one_if (p x && not (q x))) (λ x. one_if (p x)) xs
      (each_always (λ x. one_if (p x && q x) + one_if (p x && not (q x)) ≡ one_if (p x)) (λ x. half (p x) (q x)) xs)

  pub none_pass : (test : X → Bool) → ((x : X) → test x ≡ false) → (xs : List X) → how_many test xs ≡ 0
  none_pass test none [] = refl
  none_pass test none (x ∷ xs) =
      let here = ap (λ b. one_if b) (none x) in
      let rest = none_pass test none xs in
      omega (arith, here, rest)

  pub less_pass : (p q : X → Bool) → ((x : X) → p x ≡ true → q x ≡ true) → (xs : List X) → how_many p xs ≤ how_many q xs
  less_pass p q more [] = omega arith
  less_pass p q more (x ∷ xs) =
      let rest = less_pass p q more xs in
      elim (true_or_false (p x)) [
        | inl is ↦ (let a = ap (λ b. one_if b) is in let b = ap (λ b. one_if b) (more x is) in omega (arith, a, b, rest))
        | inr other ↦ (let a = ap (λ b. one_if b) other in omega (arith, a, rest))
      ]

-- a page in a list counts in its sum
pub one_counts : (f : ℕ → ℕ) (a : ℕ) (xs : List ℕ) → 0 < times a xs → f a ≤ sum_over f xs
one_counts f a [] some = absurd (omega arith)
one_counts f a (x ∷ xs) some =
    elim (ℕ_discrete x a) [
      | yes e ↦ (let same = ap f e in omega (arith, same))
      | no ne ↦ (let off = one_off x a ne in let rest = one_counts f a xs (omega (arith, off, some)) in omega (arith, rest))
    ]
