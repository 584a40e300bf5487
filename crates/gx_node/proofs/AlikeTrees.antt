-- Trees that agree on their pages are alike: in legality, in their pairs, and in seeks.
use Rattle.std.proofs.Common.{◌≡◌, ℕ, suc, ◌+◌, ◌<◌, ◌≤◌, Bool, List, [], ◌∷◌, refl, ap, sym, ◌∙◌, subst, arith}
use Rattle.gx_node.specs.Lists.{how_many, total}
use Rattle.gx_node.specs.Trees.{Pair, Child, Node, Tree, Rules, Used, times, child_pages, parents, walk, leaves, passing, standing, is_entry}
use Rattle.gx_node.specs.Legal.{Bounds, ChildFits, NodeFits, Linked, Legal}
use Rattle.gx_node.specs.Writes.{IsSeek}
use Rattle.gx_node.specs.Alike.{AgreeOnUsed}
use Rattle.gx_node.proofs.Sums.{each_map, total_same}
use Rattle.gx_node.proofs.Chains.{walk_is, length_walk}

module _ {K : Type 0} (one other : Tree K) (agree : AgreeOnUsed one other) where
  pub used_too : (q : ℕ) → Used one q → Used other q
  used_too q u = (u.0, subst (λ n. q ≤ n) (sym agree.used) u.1)

  pub used_back : (q : ℕ) → Used other q → Used one q
  used_back q u = (u.0, subst (λ n. q ≤ n) agree.used u.1)

  pub agree_back : AgreeOnUsed other one
  agree_back = record { used = sym agree.used; counter = sym agree.counter; nodes = λ q u. sym (agree.nodes q (used_back q u)) }

  linked_too : (a : ℕ) (xs : List ℕ) → Linked one a xs → Linked other a xs
  linked_too a [] l = l
  linked_too a (q ∷ qs) l = (
    l.0,
    used_too q l.1,
    ap (λ (n : Node K). n.level) (agree.nodes q l.1) ∙ l.2,
    subst (λ x. Linked other x qs) (sym (ap (λ (n : Node K). n.right) (agree.nodes q l.1))) (linked_too (one.node q).right qs l.3),
  )

  walk_too : (a : ℕ) → Linked one a (walk one one.used a) → walk other other.used a ≡ walk one one.used a
  walk_too a l =
      let most = length_walk one one.used a in
      let same = agree.used in
      walk_is other (walk one one.used a) a other.used (linked_too a (walk one one.used a) l) (omega (arith, most, same))

  passing_too : (test : Pair K → Bool) (a : ℕ) (xs : List ℕ) → Linked one a xs → passing test other xs ≡ passing test one xs
  passing_too test a [] l = refl
  passing_too test a (q ∷ qs) l =
      ap (λ n. n + passing test other qs) (ap (λ (n : Node K). how_many test n.pairs) (agree.nodes q l.1))
      ∙ ap (λ n. how_many test (one.node q).pairs + n) (passing_too test (one.node q).right qs l.3)

module _ {K : Type 0} (r : Rules K) (one other : Tree K) (agree : AgreeOnUsed one other) where
  pub seek_too : (a row : ℕ) (key : K) → IsSeek r one a row key → IsSeek r other a row key
  seek_too a row key seek = record {
    chain = subst (λ xs. Linked other a xs) (sym (walk_too one other agree a seek.chain)) (linked_too one other agree a (walk one one.used a) seek.chain);
    stands = subst (λ n. 0 < n) (sym (ap (passing (is_entry r row key) other) (walk_too one other agree a seek.chain) ∙ passing_too one other agree (is_entry r row key) a (walk one one.used a) seek.chain)) seek.stands;
  }

  module _ (legal : Legal r one) where
    leaves_too : leaves other ≡ leaves one
    leaves_too = walk_too one other agree 2 legal.chain

    pub standing_too : (test : Pair K → Bool) → standing test other ≡ standing test one
    standing_too test = ap (passing test other) leaves_too ∙ passing_too one other agree test 2 (leaves one) legal.chain

    parents_too : (q : ℕ) → parents other q ≡ parents one q
    parents_too q =
        ap (total (λ p. times q (child_pages (other.node p)))) agree.used
        ∙ total_same (λ p. times q (child_pages (other.node p))) (λ p. times q (child_pages (one.node p))) one.used
        (λ p low high. ap (λ (n : Node K). times q (child_pages n)) (agree.nodes p (low, high)))

    child_too : (above : ℕ) (x : Child K) → ChildFits r one above x → ChildFits r other above x
    child_too above x f =
        let there : Used one x.page = (let low = f.low in omega (arith, low), f.used) in
        record {
          low = f.low;
          used = subst (λ n. x.page ≤ n) (sym agree.used) f.used;
          level = ap (λ (n : Node K). suc n.level) (agree.nodes x.page there) ∙ f.level;
          bounds = subst (Bounds r x.key) (sym (agree.nodes x.page there)) f.bounds;
        }

    node_too : (node : Node K) → NodeFits r one node → NodeFits r other node
    node_too node f = record {
      room = f.room;
      leaf = f.leaf;
      inner = f.inner;
      nsn = subst (λ n. node.nsn ≤ n) (sym agree.counter) f.nsn;
      children = each_map (ChildFits r one node.level) (ChildFits r other node.level) (child_too node.level) node.children f.children;
    }

    root_used : Used one 1
    root_used = (let c = legal.counter in (omega arith, omega (arith, c)))

    pub legal_too : Legal r other
    legal_too = record {
      pages = λ p u. subst (NodeFits r other) (sym (agree.nodes p (used_back one other agree p u))) (node_too (one.node p) (legal.pages p (used_back one other agree p u)));
      root = subst (λ (n : Node K). 0 < n.level) (sym (agree.nodes 1 root_used)) legal.root;
      parent = λ q low high. parents_too q ∙ legal.parent q low (subst (λ n. q ≤ n) agree.used high);
      chain = subst (λ xs. Linked other 2 xs) (sym leaves_too) (linked_too one other agree 2 (leaves one) legal.chain);
      once = λ q u leaf.
          ap (times q) leaves_too ∙ legal.once q (used_back one other agree q u) (sym (ap (λ (n : Node K). n.level) (agree.nodes q (used_back one other agree q u))) ∙ leaf);
      single = λ row key. subst (λ n. n ≤ 1) (sym (standing_too (is_entry r row key))) (legal.single row key);
      counter = (let c = legal.counter in let a = agree.counter in let u = agree.used in omega (arith, c, a, u));
    }
