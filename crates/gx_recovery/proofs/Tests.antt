-- Small facts on tests.
use Rattle.std.proofs.Common.{◌≡◌, ℕ, Bool, true, false, ◌&&◌, ◌||◌, ◌⊎◌, inl, inr, refl}
use Rattle.std.specs.Prelude.{◌==◌}
use Rattle.std.proofs.lemmas.Bool.{eq-eqb}

pub and_first : (a b : Bool) → (a && b) ≡ true → a ≡ true
and_first true b h = refl
and_first false b h = h

pub and_second : (a b : Bool) → (a && b) ≡ true → b ≡ true
and_second true b h = h
and_second false b h = cc

pub either_of : (a b : Bool) → (a || b) ≡ true → (a ≡ true) ⊎ (b ≡ true)
either_of true b h = inl refl
either_of false b h = inr h

pub or_second : (a b : Bool) → b ≡ true → (a || b) ≡ true
or_second true b h = refl
or_second false b h = h

pub or_swap : (a b c : Bool) → (a || (b || c)) ≡ (b || (a || c))
or_swap true true c = refl
or_swap true false c = refl
or_swap false b c = refl

pub or_again : (a b c : Bool) → a ≡ b → (a || c) ≡ (b || (a || c))
or_again true true c h = refl
or_again true false c h = cc
or_again false true c h = cc
or_again false false c h = refl

pub true_or_false : (b : Bool) → (b ≡ true) ⊎ (b ≡ false)
true_or_false true = inl refl
true_or_false false = inr refl

pub clash : {A : Type 0} → (b : Bool) → b ≡ true → b ≡ false → A
clash true p q = let no : ⊥ = cc in absurd no
clash false p q = let no : ⊥ = cc in absurd no

pub or_none_first : (a b : Bool) → (a || b) ≡ false → a ≡ false
or_none_first true b h = h
or_none_first false b h = refl

pub or_none_second : (a b : Bool) → (a || b) ≡ false → b ≡ false
or_none_second true b h = cc
or_none_second false b h = h

pub itself : (n : ℕ) → (n == n) ≡ true
itself n = eq-eqb n n refl
