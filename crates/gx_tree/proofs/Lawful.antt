-- Keys with an order and relations are as a tree wants them.
use Rattle.std.proofs.Common.{◌≡◌, ◌≤◌, ℕ, Bool, true, ap}
use Rattle.std.specs.Cmp.{IsTotalOrder, tied_itself, Equal-is}
use Rattle.std.specs.Ordering.{is_eq}
use Rattle.std.specs.declared.cmp.Ordering.{Ordering}
use Rattle.std.specs.declared.cmp.Ordering.TheVariants.{Equal}
use Rattle.gx_node.specs.Trees.{IsLawful}

pub lawful : {B : Type 0} (cmp : B → B → Ordering) (inside : B → B → Bool) (most : ℕ) → 2 ≤ most → IsTotalOrder cmp
    → ((a b c : B) → inside a b ≡ true → inside b c ≡ true → inside a c ≡ true) → ((a b : B) → cmp a b ≡ Equal → a ≡ b)
    → IsLawful (record { covers = λ a b. inside b a; same = λ a b. is_eq (cmp a b); most = most })
lawful cmp inside most two total through same = record {
  goes_on = λ a b c ab bc. through c b a bc ab;
  exact = λ a b e. same a b ((Equal-is (cmp a b)).0 e);
  itself = λ a. ap is_eq (tied_itself total a);
  two = two;
}
