-- Pages tested in the order of their numbers.
use Rattle.std.proofs.Common.{◌≡◌, ◌≢◌, ℕ, zero, suc, ◌+◌, ◌<◌, ◌≤◌, Bool, ◌⊎◌, inl, inr, List, length, get_or, set, Option, None, refl, ap, sym, ◌∙◌, subst, arith, get_or-set_other, get_or-set_same}
use Rattle.std.proofs.lemmas.Bool.{cases_eq}
use Rattle.gx_node.specs.Legal.{NodeFits, ChildFits}
use Rattle.gx_node.specs.Lists.{Each, total}
use Rattle.gx_node.specs.Trees.{Child, Node, Tree, Rules, times, child_pages, parents}
use Rattle.gx_node.proofs.Chains.{some_times}
use Rattle.gx_node.proofs.Sums.{each_map, each-map}
use Rattle.gx_node.specs.Store.{Store, node_at, tree_of}
use Rattle.gx_legality.specs.declared.fault.LegalityFault.{LegalityFault}
use Rattle.gx_legality.specs.declared.fault.LegalityFault.TheVariants.{Memory, Pages, Broken, Unsteady}
use Rattle.gx_legality.specs.declared.fault.Rule.TheVariants.{NamedTwice}
use Rattle.gx_legality.specs.Breaks.{Breaks}
use Rattle.gx_legality.specs.Marks.{AreLinks, IsTwice, link_of, marked, named_by}
use Rattle.gx_legality.specs.Owner.{IsFound}

total_le : (f : ℕ → ℕ) (n m : ℕ) → n ≤ m → total f n ≤ total f m
total_le f n zero le = let none : n ≡ 0 = omega arith in subst (λ k. total f k ≤ 0) (sym none) (omega arith)
total_le f n (suc m) le = elim (cases_eq n (suc m)) [
  | inl same ↦ subst (λ k. total f k ≤ total f (suc m)) (sym same) (omega arith)
  | inr ne ↦ let rest = total_le f n m (omega arith) in omega (arith, rest)
]

-- what holds of the pages up to one, and of the next, holds up to the next
pub up_to_next : (P : ℕ → Type 0) (n : ℕ) → ((p : ℕ) → 0 < p → p ≤ n → P p) → P (n + 1) → (p : ℕ) → 0 < p → p ≤ n + 1 → P p
up_to_next P n below here p some low = elim (cases_eq p (n + 1)) [
  | inl same ↦ subst P (sym same) here
  | inr ne ↦ below p some (omega arith)
]

pub unlinked_more : (links more : List (Option ℕ)) (before : ℕ) (link : Option ℕ) → more ≡ set links (before + 1) link
    → get_or links 0 None ≡ None → get_or more 0 None ≡ None
unlinked_more links more before link is none =
    let ne : 0 ≢ before + 1 = omega arith in
    ap (λ xs. get_or xs 0 None) is ∙ (rw get_or-set_other none)

module _ {B : Type 0} where
  pub twice_named : (r : Rules B) (t : Tree B) (marks : List Bool) (node : Node B) (q : ℕ) → NodeFits r t node → length marks ≡ suc t.used
      → 0 < times q (child_pages node) → (length marks ≤ q) ⊎ (2 ≤ marked marks q + times q (child_pages node))
      → IsTwice t marks node q NamedTwice
  twice_named r t marks node q fits long named twice =
      let each : Each (λ p. (2 ≤ p) × (p ≤ t.used)) (child_pages node) =
      each-map (λ p. (2 ≤ p) × (p ≤ t.used)) (λ (c : Child B). c.page) node.children
      (each_map (ChildFits r t node.level) (λ c. (2 ≤ c.page) × (c.page ≤ t.used)) (λ c fits. (fits.low, fits.used)) node.children fits.children) in
      let bounds = some_times (λ p. (2 ≤ p) × (p ≤ t.used)) q (child_pages node) named each in
      let high = bounds.1 in
      elim twice [
        | inl past ↦ absurd (omega (arith, past, long, high))
        | inr two ↦ (refl, bounds.0, bounds.1, two)
      ]

  pub found_named : {F : Type 0} (r : Rules B) (t : Tree B) (marks : List Bool) (before : ℕ) (e : LegalityFault F) → before < t.used
      → length marks ≡ suc t.used → ((q : ℕ) → q < length marks → marked marks q ≡ named_by t q before)
      → IsFound (λ p rule. Breaks r t p rule ⊎ IsTwice t marks (t.node (before + 1)) p rule) e → IsFound (Breaks r t) e
  found_named r t marks before Memory low long named is = tt
  found_named r t marks before (Pages fault) low long named is = tt
  found_named r t marks before Unsteady low long named is = is
  found_named r t marks before (Broken p rule) low long named (inl breaks) = breaks
  found_named r t marks before (Broken p rule) low long named (inr twice) =
      let next : before + 1 ≡ suc before = omega arith in
      let two : 2 ≤ marked marks p + times p (child_pages (t.node (suc before))) =
      subst (λ n. 2 ≤ marked marks p + times p (child_pages (t.node n))) next twice.3 in
      let high = twice.2 in
      let here = named p (omega (arith, high, long)) in
      let all = total_le (λ p'. times p (child_pages (t.node p'))) (suc before) t.used low in
      let twice_all : 2 ≤ parents t p = omega (arith, two, here, all) in
      subst (λ rule. Breaks r t p rule) (sym twice.0) (twice.1, twice.2, twice_all)

  pub named_more : (t : Tree B) (start now more : List Bool) (before : ℕ)
      → ((q : ℕ) → q < length start → marked now q ≡ named_by t q before)
      → ((q : ℕ) → q < length start → marked more q ≡ marked now q + times q (child_pages (t.node (before + 1))))
      → (q : ℕ) → q < length start → marked more q ≡ named_by t q (before + 1)
  named_more t start now more before was marks q low =
      let next : before + 1 ≡ suc before = omega arith in
      let here = was q low in
      let mark : marked more q ≡ marked now q + times q (child_pages (t.node (suc before))) =
      subst (λ n. marked more q ≡ marked now q + times q (child_pages (t.node n))) next (marks q low) in
      let all : marked more q ≡ named_by t q (suc before) = omega (arith, here, mark) in
      subst (λ n. marked more q ≡ named_by t q n) (sym next) all

  pub linked_more : (t : Tree B) (links more : List (Option ℕ)) (before : ℕ) → before + 1 < length links
      → more ≡ set links (before + 1) (link_of (t.node (before + 1)))
      → ((p : ℕ) → 0 < p → p ≤ before → get_or links p None ≡ link_of (t.node p))
      → (p : ℕ) → 0 < p → p ≤ before + 1 → get_or more p None ≡ link_of (t.node p)
  linked_more t links more before low is was =
      up_to_next (λ p. get_or more p None ≡ link_of (t.node p)) before
      (λ p some le. (let ne : p ≢ before + 1 = omega arith in ap (λ xs. get_or xs p None) is ∙ (rw get_or-set_other (was p some le))))
      (ap (λ xs. get_or xs (before + 1) None) is ∙ (rw get_or-set_same refl))

  pub are_links : (t : Tree B) (links : List (Option ℕ)) (n : ℕ) → length links ≡ suc t.used → t.used ≤ n → get_or links 0 None ≡ None
      → ((p : ℕ) → 0 < p → p ≤ n → get_or links p None ≡ link_of (t.node p)) → AreLinks t links
  are_links t links n long all none each = record {
    length = long;
    none = none;
    each = λ q used. each q used.0 (let low = used.1 in omega (arith, low, all));
  }

  pub found_at : {F : Type 0} (r : Rules B) (old new : Store B) (marks : List Bool) (before : ℕ) (e : LegalityFault F) → new ≡ old
      → before < length old.nodes → length marks ≡ suc (length old.nodes)
      → ((q : ℕ) → q < length marks → marked marks q ≡ named_by (tree_of old) q before)
      → IsFound (λ p rule. Breaks r (tree_of new) p rule ⊎ IsTwice (tree_of new) marks (node_at new.nodes (before + 1)) p rule) e
      → IsFound (Breaks r (tree_of old)) e
  found_at r old new marks before e same low long named is =
      found_named r (tree_of old) marks before e low long named
      (subst (λ (s : Store B). IsFound (λ p rule. Breaks r (tree_of s) p rule ⊎ IsTwice (tree_of s) marks (node_at s.nodes (before + 1)) p rule) e) same is)

  pub fits_next : (r : Rules B) (old new : Store B) (n : ℕ) → new ≡ old
      → ((p : ℕ) → 0 < p → p ≤ n → NodeFits r (tree_of old) (node_at old.nodes p))
      → NodeFits r (tree_of new) (node_at new.nodes (n + 1)) → (p : ℕ) → 0 < p → p ≤ n + 1 → NodeFits r (tree_of old) (node_at old.nodes p)
  fits_next r old new n same below here =
      up_to_next (λ p. NodeFits r (tree_of old) (node_at old.nodes p)) n below
      (subst (λ (s : Store B). NodeFits r (tree_of s) (node_at s.nodes (n + 1))) same here)

  pub named_next : (old new : Store B) (start now more : List Bool) (before : ℕ) → new ≡ old → length now ≡ length start
      → ((q : ℕ) → q < length start → marked now q ≡ named_by (tree_of old) q before)
      → ((q : ℕ) → q < length now → marked more q ≡ marked now q + times q (child_pages (node_at new.nodes (before + 1))))
      → (q : ℕ) → q < length start → marked more q ≡ named_by (tree_of old) q (before + 1)
  named_next old new start now more before same long was marks =
      named_more (tree_of old) start now more before was (λ q low. (
      subst (λ (s : Store B). marked more q ≡ marked now q + times q (child_pages (node_at s.nodes (before + 1)))) same
      (marks q (omega (arith, low, long)))
      ))

  pub linked_next : (old new : Store B) (links more : List (Option ℕ)) (before : ℕ) → new ≡ old → before + 1 < length links
      → more ≡ set links (before + 1) (link_of (node_at new.nodes (before + 1)))
      → ((p : ℕ) → 0 < p → p ≤ before → get_or links p None ≡ link_of (node_at old.nodes p))
      → (p : ℕ) → 0 < p → p ≤ before + 1 → get_or more p None ≡ link_of (node_at old.nodes p)
  linked_next old new links more before same low is was =
      linked_more (tree_of old) links more before low
      (subst (λ (s : Store B). more ≡ set links (before + 1) (link_of (node_at s.nodes (before + 1)))) same is) was
