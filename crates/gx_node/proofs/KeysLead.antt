-- If each key of a tree is a key of its class, what the class says of its keys holds of the tree's.
use Rattle.std.proofs.Common.{◌≡◌, ℕ, Bool, true, List, [], ◌∷◌}
use Rattle.gx_node.specs.Lists.{Each}
use Rattle.gx_node.specs.Trees.{Pair, Child, Tree, Rules, Used}
use Rattle.gx_node.specs.Looks.{LeadsTo}

module _ {K : Type 0} (r : Rules K) (t : Tree K) (IsKey : K → Type 0)
    (pairs : (p : ℕ) → Used t p → Each (λ x. IsKey x.key) (t.node p).pairs)
    (children : (p : ℕ) → Used t p → Each (λ c. IsKey c.key) (t.node p).children)
    (wants : Pair K → Bool) (leads : K → Bool)
    (consistent : (b : K) (x : Pair K) → IsKey b → IsKey x.key → wants x ≡ true → r.covers b x.key ≡ true → leads b ≡ true) where
  of_pairs : (b : K) → IsKey b → (xs : List (Pair K)) → Each (λ x. IsKey x.key) xs
      → Each (λ x. wants x ≡ true → r.covers b x.key ≡ true → leads b ≡ true) xs
  of_pairs b is [] are = tt
  of_pairs b is (x ∷ xs) are = ((λ wanted covers. consistent b x is are.0 wanted covers), of_pairs b is xs are.1)

  of_children : (cs : List (Child K)) → Each (λ c. IsKey c.key) cs
      → Each (λ c. (q : ℕ) → Used t q → Each (λ x. wants x ≡ true → r.covers c.key x.key ≡ true → leads c.key ≡ true) (t.node q).pairs) cs
  of_children [] are = tt
  of_children (c ∷ cs) are = ((λ q taken. of_pairs c.key are.0 (t.node q).pairs (pairs q taken)), of_children cs are.1)

  pub keys_lead : LeadsTo r t wants leads
  keys_lead p taken = of_children (t.node p).children (children p taken)
