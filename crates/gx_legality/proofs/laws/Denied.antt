-- What breaks a rule is no legal tree.
use Rattle.std.proofs.Common.{◌≡◌, ℕ, ◌+◌, ◌<◌, ◌==◌, ◌⊎◌, inl, inr, List, [], ◌∷◌, ap, sym, ◌∙◌, subst, arith}
use Rattle.gx_node.specs.Lists.{one_if}
use Rattle.gx_node.specs.Trees.{Tree, Rules, Used, leaves, times}
use Rattle.gx_node.proofs.Chains.{one_at, linked_once}
use Rattle.gx_node.specs.Legal.{Legal, ChildFits, Linked}
use Rattle.gx_legality.specs.declared.fault.Rule.{Rule}
use Rattle.gx_legality.specs.declared.fault.Rule.TheVariants.{SplitsOutnumberPages, RootIsLeaf, TooManyEntries, NoChild, SequenceNumber, ChildPage, ChildLevel, Bound, NamedTwice, NotNamed, Chain, OffTheChain, PairTwice, PairOutOfPlace}
use Rattle.gx_legality.specs.Breaks.{Breaks, Leads}
use Rattle.gx_legality.proofs.Slots.{slot_of}

module _ {K : Type 0} where
  -- if rightlinks lead from a page to another, its chain is the pages between and the other's chain
  led_on : (t : Tree K) (p a : ℕ) (xs ys : List ℕ) → Leads t a xs p → Linked t a ys
      → (rest : List ℕ) × Linked t p rest × ((q : ℕ) → times q ys ≡ times q xs + times q rest)
  led_on t p a [] ys led linked = (ys, subst (λ k. Linked t k ys) led linked, λ q. omega arith)
  led_on t p a (x ∷ xs) [] led linked = let used = led.1 in let e = led.0 in absurd (omega (arith, used.0, e, linked))
  led_on t p a (x ∷ xs) (y ∷ ys) led linked =
      let same : x ≡ y = sym led.0 ∙ linked.0 in
      let next = led_on t p (t.node y).right xs ys (subst (λ k. Leads t (t.node k).right xs p) same led.3) linked.3 in (
        next.0,
        next.1,
        λ q. (let here = ap (λ k. one_if (k == q)) same in let rest = next.2 q in omega (arith, here, rest)),
      )

  pub denied : (r : Rules K) (t : Tree K) (p : ℕ) (rule : Rule) → Breaks r t p rule → Legal r t → ⊥
  denied r t p SplitsOutnumberPages broken legal = let few = broken.1 in let all = legal.counter in omega (arith, few, all)
  denied r t p RootIsLeaf broken legal = let leaf = broken.1 in let root = legal.root in omega (arith, leaf, root)
  denied r t p TooManyEntries broken legal = let many = broken.1 in let room = (legal.pages p broken.0).room in omega (arith, many, room)
  denied r t p NoChild broken legal = let none = broken.2 in let some = ((legal.pages p broken.0).inner broken.1).1 in omega (arith, none, some)
  denied r t p SequenceNumber broken legal = let ahead = broken.1 in let nsn = (legal.pages p broken.0).nsn in omega (arith, ahead, nsn)
  denied r t p (ChildPage slot) broken legal =
      let fits = slot_of (ChildFits r t (t.node p).level) (t.node p).children slot broken.1.0 (legal.pages p broken.0).children broken.1.1 in
      broken.1.2 (fits.low, fits.used)
  denied r t p (ChildLevel slot) broken legal =
      let fits = slot_of (ChildFits r t (t.node p).level) (t.node p).children slot broken.1.0 (legal.pages p broken.0).children broken.1.1 in
      broken.1.2 fits.level
  denied r t p (Bound slot) broken legal =
      let fits = slot_of (ChildFits r t (t.node p).level) (t.node p).children slot broken.1.0 (legal.pages p broken.0).children broken.1.1 in
      broken.1.2 fits.bounds
  denied r t p NamedTwice broken legal = let one = legal.parent p broken.0 broken.1 in let two = broken.2 in omega (arith, one, two)
  denied r t p NotNamed broken legal = let one = legal.parent p broken.0 broken.1 in let none = broken.2 in omega (arith, one, none)
  denied r t p Chain broken legal = by_rest (led_on t p 2 broken.1 (leaves t) broken.2 legal.chain) broken.3
    where
      by_rest : (rest : List ℕ) × Linked t p rest × ((q : ℕ) → times q (leaves t) ≡ times q broken.1 + times q rest)
          → (Used t p → (t.node p).level ≡ 0 → ⊥) ⊎ (0 < times p broken.1) → ⊥
      by_rest ([], end, same) why = let some = broken.0 in omega (arith, some, end)
      by_rest (q ∷ qs, rest, same) (inl never) = (subst (λ k. (Used t k → (t.node k).level ≡ 0 → ⊥) → ⊥) (sym rest.0) (λ none. none rest.1 rest.2)) never
      by_rest (q ∷ qs, rest, same) (inr again) =
          let all = same p in
          let here = one_at q p (sym rest.0) in
          let once = linked_once t p 2 (leaves t) legal.chain in
          omega (arith, all, here, once, again)
  denied r t p OffTheChain broken legal = let one = legal.once p broken.0 broken.1 in let none = broken.2 in omega (arith, one, none)
  denied r t p PairTwice broken legal = let one = legal.single broken.1 broken.2 in let two = broken.3 in omega (arith, one, two)
  denied r t p PairOutOfPlace broken legal = broken
