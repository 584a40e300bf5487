-- A whole search: what its look wants is what matches.
use Rattle.std.proofs.Common.{◌≡◌, ◌&&◌, Bool, true, List, [], ◌∷◌, length, ap, sym, ◌∙◌, arith}
use Rattle.std.specs.Prelude.{Result, Err}
use Rattle.std.proofs.lemmas.Bool.{and_parts}
use Rattle.gx_node.specs.Lists.{one_if, how_many, Each}
use Rattle.gx_node.specs.Trees.{Pair, Tree, Rules, leaves, standing}
use Rattle.gx_node.specs.Legal.{Legal}
use Rattle.gx_node.specs.Reach.{TraversalItem}
use Rattle.gx_node.specs.Looks.{IsLook, LeadsTo}
use Rattle.gx_node.proofs.Chains.{each_linked}
use Rattle.gx_node.proofs.KeysLead.{keys_lead}
use Rattle.gx_node.proofs.Sums.{sum_over_same, each_map}
use Rattle.gx_node.specs.Keyed.{AreKeys}

-- the same error in results of two types
pub same_err : {A B F : Type 0} (r : Result A F) (s : Result B F) (x y : F) → r ≡ Err x → s ≡ Err x → r ≡ Err y → s ≡ Err y
same_err r s x y rx sx ry = let same : x ≡ y = cc in sx ∙ ap Err same

module _ {K : Type 0} (r : Rules K) (t : Tree K) (IsKey : K → Type 0) (keys : AreKeys IsKey t) where
  same_count : (f g : Pair K → Bool) → ((x : Pair K) → IsKey x.key → f x ≡ g x) → (xs : List (Pair K)) → Each (λ x. IsKey x.key) xs
      → how_many f xs ≡ how_many g xs
  same_count f g same xs each =
      sum_over_same (λ x. one_if (f x)) (λ x. one_if (g x)) xs
      (each_map (λ x. IsKey x.key) (λ x. one_if (f x) ≡ one_if (g x)) (λ x is. ap one_if (same x is)) xs each)

  -- tests that are alike on keys count alike
  pub same_standing : Legal r t → (f g : Pair K → Bool) → ((x : Pair K) → IsKey x.key → f x ≡ g x) → standing f t ≡ standing g t
  same_standing legal f g same =
      sum_over_same (λ q. how_many f (t.node q).pairs) (λ q. how_many g (t.node q).pairs) (leaves t)
      (each_linked (λ q. how_many f (t.node q).pairs ≡ how_many g (t.node q).pairs) t 2 (leaves t)
      (λ q used level. same_count f g same (t.node q).pairs (keys.pairs q used)) legal.chain)

  -- what the look ended with
  pub all_found : Legal r t → (wants match : Pair K → Bool) → ((x : Pair K) → IsKey x.key → wants x ≡ match x)
      → (stack : List TraversalItem) (found : List (Pair K)) → length stack ≡ 0 → IsLook t wants stack found
      → (test : Pair K → Bool) → how_many test found ≡ standing (λ x. match x && test x) t
  all_found legal wants match same [] found e look test =
      let whole = look.complete test in
      let alike = same_standing legal (λ x. wants x && test x) (λ x. match x && test x) (λ x is. ap (λ b. b && test x) (same x is)) in
      omega (arith, whole, alike)
  all_found legal wants match same (x ∷ xs) found e look test = absurd (omega arith)

  -- the look's bounds lead to what it wants
  pub leads_to : (wants match : Pair K → Bool) (leads may : K → Bool) (rest : Pair K → Bool) → ((x : Pair K) → IsKey x.key → wants x ≡ (rest x && match x))
      → ((b : K) → IsKey b → leads b ≡ may b)
      → ((x : Pair K) (b : K) → IsKey x.key → IsKey b → match x ≡ true → r.covers b x.key ≡ true → may b ≡ true)
      → LeadsTo r t wants leads
  leads_to wants match leads may rest same bounds consistent =
      keys_lead r t IsKey keys.pairs keys.children wants leads
      (λ b x isb isx wanted covers. bounds b isb ∙ consistent x b isx isb (and_parts (rest x) (match x) (sym (same x isx) ∙ wanted)).1 covers)
