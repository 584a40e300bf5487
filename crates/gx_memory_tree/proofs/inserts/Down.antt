-- An insert goes down from an inner node.
use Rattle.std.proofs.Common.{◌≡◌, ◌≢◌, ◌∙◌, ◌<◌, ◌-◌, ◌^◌, ℕ, true, false, List, length, inr, sym, ap, subst, arith, Some}
use Rattle.std.specs.Prelude.{slice_get}
use Rattle.gx_machine.specs.declared.entry.Entry.{Entry}
use Rattle.gx_node.specs.Trees.{Pair, Child, Tree, Rules, IsLawful, Used, size}
use Rattle.gx_node.specs.Legal.{ChildFits, Legal}
use Rattle.gx_node.specs.Reach.{TraversalItem}
use Rattle.gx_node.specs.Steps.{Widens}
use Rattle.gx_node.specs.Writes.{IsDescent, descent_left}
use Rattle.gx_node.proofs.DescentFalls.{down_falls, widened_falls}
use Rattle.gx_node.proofs.PageSteps.{legal_widened, standing_widened}
use Rattle.gx_tree.specs.declared.descent.Descended.TheVariants.{Down, Widened}
use Rattle.gx_memory_tree.specs.declared.inserts.DescentPlace.{DescentPlace}
use Rattle.gx_tree.specs.Descending.{IsChoice, StepsDown}
use Rattle.gx_memory_tree.specs.Inserting.{GoesOn, IsInsert}
use Rattle.gx_node.specs.Store.{Store, tree_of}
use Rattle.gx_memory_tree.proofs.inserts.Steps.{no_way, still_absent, way_by}
use Rattle.gx_tree.proofs.Ways.{each_slot, named}
use Rattle.gx_tree.proofs.Widens.{keys_widened, went_down, went_widened, went_widening}

module _ {K : Type 0} (r : Rules K) where
  -- a child is another page
  below_apart : (t : Tree K) → Legal r t → (a slot : ℕ) → Used t a → (c : Child K) → slice_get (t.node a).children slot ≡ Some c → a ≢ c.page
  below_apart t legal a slot used c at same =
      let fits : ChildFits r t (t.node a).level c = each_slot (ChildFits r t (t.node a).level) (t.node a).children slot c at (legal.pages a used).children in
      let alike = ap (λ q. (t.node q).level) same in
      absurd (omega (arith, fits.level, alike))

  -- an inner node's children are all its entries
  few_entries : (t : Tree K) → Legal r t → (a : ℕ) → Used t a → 0 < (t.node a).level → length (t.node a).children < r.most → size (t.node a) < r.most
  few_entries t legal a used inner few =
      let none = ap (λ (ps : List (Pair K)). length ps) ((legal.pages a used).inner inner).0 in
      omega (arith, none, few)

  module _ (law : IsLawful r) (IsKey : K → Type 0) (cost : K → K → ℕ × ℕ) (joined : K → K → K)
      (is_key : (a b : K) → IsKey a → IsKey b → IsKey (joined a b))
      (first : (a b : K) → IsKey a → IsKey b → r.covers (joined a b) a ≡ true)
      (second : (a b : K) → IsKey a → IsKey b → r.covers (joined a b) b ≡ true)
      (least : (a b c : K) → IsKey a → IsKey b → r.covers c a ≡ true → r.covers c b ≡ true → r.covers c (joined a b) ≡ true)
      (old new : Store K) (entry : Entry K) (place : DescentPlace) (is : IsKey entry.key) (insert : IsInsert r IsKey (tree_of old) entry place) where
    pub down_on : (next : TraversalItem) → StepsDown cost joined r.most old new place.item entry.key (Down next)
        → GoesOn r IsKey (tree_of old) (tree_of new) entry place (record { item = next; parent = place.item.page })
    down_on next step =
        let t = tree_of old in
        let a = place.item.page in
        let slot = step.0.0 in
        let bound = step.0.1.1.0 in
        let choice : IsChoice cost r.most (t.node a) entry.key slot next.page bound = step.0.1.1.1 in
        let c : Child K = record { key = bound; page = next.page } in
        let used = insert.descent.there in
        let falls = down_falls r (2 ^ 32 - 1) (λ x. false) t insert.legal place.parent place.item next.page used
        (few_entries t insert.legal a used choice.inner choice.room) (named (t.node a).children slot c choice.at) in
        subst (λ s. GoesOn r IsKey t (tree_of s) entry place (record { item = next; parent = a })) (sym step.2) (record {
          way = no_way r t;
          insert = record {
            legal = insert.legal;
            keys = insert.keys;
            absent = insert.absent;
            descent = subst (λ s. IsDescent r (tree_of s) next entry.key) step.2
                (went_down r IsKey cost joined is_key first second least old new place.item entry.key insert.keys is next insert.legal insert.descent step);
            came = inr (record { there = used; inner = choice.inner; apart = below_apart t insert.legal a slot used c choice.at });
          };
          less = subst (λ n. descent_left r t (2 ^ 32 - 1) (λ x. false) a (record { page = next.page; seen = n }) < descent_left r t (2 ^ 32 - 1) (λ x. false) place.parent place.item)
              (sym step.1) falls;
        })

    pub widened_on : (next : TraversalItem) (slot : ℕ) (key : K) → StepsDown cost joined r.most old new place.item entry.key (Widened next slot key)
        → GoesOn r IsKey (tree_of old) (tree_of new) entry place (record { item = next; parent = place.item.page })
    widened_on next slot key step =
        let t = tree_of old in
        let after = tree_of new in
        let a = place.item.page in
        let bound = step.0.1.0 in
        let choice : IsChoice cost r.most (t.node a) entry.key slot next.page bound = step.0.1.1 in
        let c : Child K = record { key = bound; page = next.page } in
        let changes = step.2 c choice.at in
        let used = insert.descent.there in
        let widening = went_widening r IsKey cost joined is_key first second least old new place.item entry.key insert.keys is next slot key step insert.legal insert.descent in
        let way = way_by r t after (Widens a next.page entry.key key) widening
        (λ test. standing_widened r t after a insert.legal law next.page entry.key key widening test) in
        let falls = widened_falls r (2 ^ 32 - 1) (λ x. false) law t after insert.legal place.parent place.item next.page entry.key key widening
        (few_entries t insert.legal a used choice.inner choice.room) (named (t.node a).children slot c choice.at) in
        record {
          way = way;
          insert = record {
            legal = legal_widened r t after a insert.legal law next.page entry.key key widening;
            keys = keys_widened r IsKey cost joined is_key first second least old new place.item entry.key insert.keys is next slot key step used;
            absent = still_absent r t after entry way insert.absent;
            descent = went_widened r IsKey cost joined is_key first second least old new place.item entry.key insert.keys is next slot key step insert.legal insert.descent law;
            came = inr (record {
              there = (used.0, omega (arith, used.1, changes.used));
              inner = (let alike = ap (λ n. n.level) changes.changed in omega (arith, alike, choice.inner));
              apart = below_apart t insert.legal a slot used c choice.at;
            });
          };
          less = subst (λ n. descent_left r after (2 ^ 32 - 1) (λ x. false) a (record { page = next.page; seen = n }) < descent_left r t (2 ^ 32 - 1) (λ x. false) place.parent place.item)
              (changes.counter ∙ sym step.1) falls;
        }
