-- An inner node's entries, written and read.
use Rattle.std.proofs.Common.{◌≡◌, ℕ, ◌+◌, ◌^◌, ◌<◌, ◌≤◌, ◌==◌, ◌&&◌, List, [], ◌∷◌, ◌++◌, length, map, drop, refl, sym, ap, ◌∙◌, arith, true}
use Rattle.std.specs.Prelude.{nat_le}
use Rattle.std.specs.List.{list_all, All}
use Rattle.std.proofs.lemmas.Bool.{and_parts, and_from, eq-eqb, eqb-true, leb-true, le-leb}
use Rattle.std.proofs.lemmas.List.{take-append-drop, length-append}
use Rattle.std.proofs.lemmas.List.Elements.{All-nil, All-cons, All-head, All-tail}
use Rattle.gx_page.specs.Bytes.{AreBytes, spell_32, number_32_at}
use Rattle.gx_page.specs.Format.{IsItem}
use Rattle.gx_node.specs.Trees.{Child}
use Rattle.gx_node.specs.Entries.{child_bytes, IsChild}
use Rattle.gx_node.specs.Reading.{Format, has_key, key_of, is_child, child_of}
use Rattle.gx_node.proofs.Parts.{IsLawful, key_in_front, key_read, page_behind, page_written}

pub same_child : {B : Type 0} (p q : Child B) → p.key ≡ q.key → p.page ≡ q.page → p ≡ q
same_child {B} p q key page =
    let made : B → ℕ → Child B = λ k n. record { key = k; page = n } in
    ap (λ k. made k p.page) key ∙ ap (made q.key) page

pub child_again : {B : Type 0} (IsKey : B → Type 0) (spelling : B → List ℕ) (f : Format B) → IsLawful IsKey spelling f → (used : ℕ) → used < 2 ^ 32 → (c : Child B)
    → IsChild IsKey used c → (is_child f used (child_bytes spelling c) ≡ true) × (child_of f (child_bytes spelling c) ≡ c)
child_again IsKey spelling f laws used room c is =
    let key = spelling c.key in
    let item = child_bytes spelling c in
    let some : 1 ≤ c.page = is.some in
    let taken : c.page ≤ used = is.taken in
    let long = laws.size c.key is.key in
    let front = key_in_front f key (spell_32 c.page) c.key long (laws.back c.key is.key) in
    let page : number_32_at item f.key ≡ c.page = page_behind key f.key c.page long (omega arith) in (
      and_from (length item == f.key + 4) _ (eq-eqb (length item) (f.key + 4) (omega (arith, length-append key (spell_32 c.page))))
          (and_from (has_key f item) _ front.0
          (and_from (nat_le 1 (number_32_at item f.key)) _ (le-leb 1 (number_32_at item f.key) (omega arith)) (le-leb (number_32_at item f.key) used (omega arith)))),
      same_child (child_of f item) c front.1 page,
    )

pub child_only : {B : Type 0} (IsKey : B → Type 0) (spelling : B → List ℕ) (f : Format B) → IsLawful IsKey spelling f → (used : ℕ) (item : List ℕ)
    → AreBytes item → is_child f used item ≡ true → IsChild IsKey used (child_of f item) × (item ≡ child_bytes spelling (child_of f item))
child_only IsKey spelling f laws used item small e =
    let page = number_32_at item f.key in
    let outer = and_parts (length item == f.key + 4) (has_key f item && (nat_le 1 page && nat_le page used)) e in
    let inner = and_parts (has_key f item) (nat_le 1 page && nat_le page used) outer.1 in
    let range = and_parts (nat_le 1 page) (nat_le page used) inner.1 in
    let long : length item ≡ f.key + 4 = eqb-true (length item) (f.key + 4) outer.0 in
    let key = key_read IsKey spelling f laws item small inner.0 in
    let tail = page_written item f.key small long in (
      record { key = key.0; some = leb-true 1 page range.0; taken = leb-true page used range.1 },
      sym (take-append-drop f.key item) ∙ ap (λ l. l ++ drop f.key item) key.1 ∙ ap (λ l. spelling (key_of f item) ++ l) tail.0,
    )

-- ---- lists of them

pub children_again : {B : Type 0} (IsKey : B → Type 0) (spelling : B → List ℕ) (f : Format B) → IsLawful IsKey spelling f → (used : ℕ) → used < 2 ^ 32 → (children : List (Child B))
    → All (IsChild IsKey used) children
    → (list_all (is_child f used) (map (child_bytes spelling) children) ≡ true) × (map (child_of f) (map (child_bytes spelling) children) ≡ children)
children_again IsKey spelling f laws used room [] all = (refl, refl)
children_again IsKey spelling f laws used room (c ∷ children) all =
    let first = child_again IsKey spelling f laws used room c (All-head (IsChild IsKey used) c children all) in
    let rest = children_again IsKey spelling f laws used room children (All-tail (IsChild IsKey used) c children all) in (
      and_from (is_child f used (child_bytes spelling c)) (list_all (is_child f used) (map (child_bytes spelling) children)) first.0 rest.0,
      ap (λ x. x ∷ map (child_of f) (map (child_bytes spelling) children)) first.1 ∙ ap (λ xs. c ∷ xs) rest.1,
    )

pub children_only : {B : Type 0} (IsKey : B → Type 0) (spelling : B → List ℕ) (f : Format B) → IsLawful IsKey spelling f → (used : ℕ) (items : List (List ℕ))
    → All IsItem items → list_all (is_child f used) items ≡ true
    → All (IsChild IsKey used) (map (child_of f) items) × (items ≡ map (child_bytes spelling) (map (child_of f) items))
children_only IsKey spelling f laws used [] all e = (All-nil (IsChild IsKey used), refl)
children_only IsKey spelling f laws used (item ∷ items) all e =
    let two = and_parts (is_child f used item) (list_all (is_child f used) items) e in
    let first = child_only IsKey spelling f laws used item (All-head IsItem item items all).1 two.0 in
    let rest = children_only IsKey spelling f laws used items (All-tail IsItem item items all) two.1 in (
      All-cons (IsChild IsKey used) (child_of f item) (map (child_of f) items) first.0 rest.0,
      ap (λ x. x ∷ items) first.1 ∙ ap (λ xs. child_bytes spelling (child_of f item) ∷ xs) rest.1,
    )
