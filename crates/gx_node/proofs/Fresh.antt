-- A fresh tree is legal.
use Rattle.std.proofs.Common.{◌≡◌, ℕ, ◌⊎◌, inl, inr, refl, ap, sym, subst, arith}
use Rattle.std.proofs.lemmas.Bool.{cases_eq}
use Rattle.gx_node.specs.Trees.{Rules, IsLawful, Used, parents, times, leaves, fresh_node, fresh_tree}
use Rattle.gx_node.specs.Legal.{NodeFits, Legal}

module _ {K : Type 0} (r : Rules K) (law : IsLawful r) (start : K) where
  fits_root : NodeFits r (fresh_tree start) (fresh_node start 1)
  fits_root = record {
    room = (let two = law.two in omega (arith, two));
    leaf = λ z. absurd (omega (arith, z));
    inner = λ z. (refl, omega arith);
    nsn = omega arith;
    children = (record { low = omega arith; used = omega arith; level = refl; bounds = record { pairs = tt; children = tt } }, tt);
  }

  fits_leaf : NodeFits r (fresh_tree start) (fresh_node start 2)
  fits_leaf = record {
    room = omega arith;
    leaf = λ z. refl;
    inner = λ z. absurd (omega (arith, z));
    nsn = omega arith;
    children = tt;
  }

  pub one_of : (p : ℕ) → Used (fresh_tree start) p → (p ≡ 1) ⊎ (p ≡ 2)
  one_of p u = elim (cases_eq p 1) [ inl e ↦ inl e | inr ne ↦ inr (let low = u.0 in let high = u.1 in omega (arith, low, high, ne)) ]

  pub fresh_legal : Legal r (fresh_tree start)
  fresh_legal = record {
    pages = λ p u. elim (one_of p u) [
      | inl e ↦ subst (λ q. NodeFits r (fresh_tree start) (fresh_node start q)) (sym e) fits_root
      | inr e ↦ subst (λ q. NodeFits r (fresh_tree start) (fresh_node start q)) (sym e) fits_leaf
    ];
    root = omega arith;
    parent = λ q low high. (let e : 2 ≡ q = omega (arith, low, high) in subst (λ x. parents (fresh_tree start) x ≡ 1) e refl);
    chain = (refl, (omega arith, omega arith), refl, refl);
    once = λ q u leaf. elim (one_of q u) [
      | inl e ↦ (let l = ap (λ x. (fresh_node start x).level) e in absurd (omega (arith, l, leaf)))
      | inr e ↦ subst (λ x. times x (leaves (fresh_tree start)) ≡ 1) (sym e) refl
    ];
    single = λ row key. omega arith;
    counter = omega arith;
  }
