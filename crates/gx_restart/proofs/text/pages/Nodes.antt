-- A page that is a node, by its level.
use Rattle.std.proofs.Common.{◌≡◌, ℕ, ◌+◌, ◌==◌, ◌&&◌, Bool, true, false, not, List, [], ◌∷◌, length, refl, ap, sym, ◌∙◌, arith}
use Rattle.std.specs.Prelude.{nat_le, if◌then◌else◌}
use Rattle.std.specs.List.{list_all, All}
use Rattle.std.proofs.lemmas.Bool.{and_parts, and_from, eqb-true, le-leb, ne_eqb}
use Rattle.std.proofs.lemmas.List.Elements.{All-head, All-tail}
use Rattle.gx_page.specs.Bytes.{AreBytes, number_32_at}
use Rattle.gx_page.specs.Contents.{Contents}
use Rattle.gx_page.specs.Format.{IsItem, IsWellFormed}
use Rattle.gx_node.specs.Reading.{Format, has_key, is_child, are_pairs, are_children, is_inner}
use Rattle.gx_node.proofs.Parts.{page_written}
use Rattle.gx_restart.specs.Pages.{IsNode}

module _ {B : Type 0} (f : Format B) where
  -- a child that is written in four bytes is below 2^32, whatever the greatest page is
  child_any : (used : ℕ) (item : List ℕ) → AreBytes item → is_child f used item ≡ true → is_child f 4294967295 item ≡ true
  child_any used item small e =
      let page : ℕ = number_32_at item f.key in
      let outer = and_parts (length item == f.key + 4) (has_key f item && (nat_le 1 page && nat_le page used)) e in
      let inner = and_parts (has_key f item) (nat_le 1 page && nat_le page used) outer.1 in
      let last = and_parts (nat_le 1 page) (nat_le page used) inner.1 in
      let below = (page_written item f.key small (eqb-true (length item) (f.key + 4) outer.0)).1 in
      and_from (length item == f.key + 4) (has_key f item && (nat_le 1 page && nat_le page 4294967295)) outer.0
      (and_from (has_key f item) (nat_le 1 page && nat_le page 4294967295) inner.0
      (and_from (nat_le 1 page) (nat_le page 4294967295) last.0 (le-leb page 4294967295 (omega (arith, below)))))

  children_any : (used : ℕ) (items : List (List ℕ)) → All IsItem items → list_all (is_child f used) items ≡ true → list_all (is_child f 4294967295) items ≡ true
  children_any used [] each e = refl
  children_any used (item ∷ items) each e =
      let two = and_parts (is_child f used item) (list_all (is_child f used) items) e in
      and_from (is_child f 4294967295 item) (list_all (is_child f 4294967295) items) (child_any used item (All-head IsItem item items each).1 two.0)
      (children_any used items (All-tail IsItem item items each) two.1)

  module _ (page : Contents) (is : IsNode f page) where
    abbrev by : Bool → Bool
    by leaf = if leaf then are_pairs f page.items else are_children f is.greatest page.items

    pub told_inner : IsWellFormed page → (page.level ≡ 0 → ⊥) → is_inner f 4294967295 page ≡ true
    unfolding are_children
    told_inner well above =
        let e : (page.level == 0) ≡ false = ne_eqb page.level 0 above in
        and_from (not (page.level == 0)) (are_children f 4294967295 page.items) (ap not e) (children_any is.greatest page.items well.items (sym (ap by e) ∙ is.passes))
