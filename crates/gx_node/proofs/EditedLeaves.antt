-- What the edits of its items leave of a leaf.
use Rattle.std.proofs.Common.{◌≡◌, ℕ, ◌+◌, ◌-◌, ◌<◌, ◌==◌, ◌&&◌, List, [], ◌∷◌, ◌++◌, length, map, take, drop, get_or, set, refl, ap, ◌∙◌, arith, Bool, true, false}
use Rattle.std.specs.Prelude.{slice_index, nat_lt, is_some, unwrap_or}
use Rattle.std.specs.List.{list_all}
use Rattle.std.proofs.lemmas.Bool.{and_parts, and_from, eq-eqb, eqb-true}
use Rattle.std.proofs.lemmas.List.{map-append, map-set, length-append, length-set, take-set-le, drop-set-add, get_or-set_same}
use mir.Val.{bool_byte}
use Rattle.gx_page.specs.Bytes.{spell_64, number_64, number_64_at}
use Rattle.gx_page.specs.Contents.{Contents}
use Rattle.gx_page.specs.Edits.{with_items}
use Rattle.gx_node.specs.Lists.{staying}
use Rattle.gx_node.specs.Trees.{Pair}
use Rattle.gx_node.specs.Edits.{with_pairs, marked_as}
use Rattle.gx_node.specs.Entries.{mark_byte, pair_bytes, IsPair}
use Rattle.gx_node.specs.Reading.{Format, has_key, is_pair, pair_of, are_pairs, is_leaf, leaf_of}
use Rattle.gx_node.proofs.Parts.{IsLawful}
use Rattle.gx_node.proofs.Pairs.{pair_again, mark_small, mark_read, same_pair}
use Rattle.gx_node.proofs.Edited.{map-staying, staying_pass, append_pass, set_pass, get_pass}

-- the new page is a leaf with these pairs, and all else is unchanged
pub record IsEdited {B : Type 0} (f : Format B) (page new : Contents) (pairs : List (Pair B)) : Type 0 where
  pub leaf : is_leaf f new ≡ true
  pub node : leaf_of f new ≡ with_pairs (leaf_of f page) pairs
  pub number : new.number ≡ page.number

module _ {B : Type 0} (f : Format B) where
  pub edited : (page new : Contents) (items : List (List ℕ)) (pairs : List (Pair B)) → (page.level == 0) ≡ true → new ≡ with_items page items
      → list_all (is_pair f) items ≡ true → map (pair_of f) items ≡ pairs → IsEdited f page new pairs
  unfolding are_pairs
  edited page new items pairs level is all same = record {
    leaf = ap (is_leaf f) is ∙ and_from (page.level == 0) (list_all (is_pair f) items) level all;
    node = ap (leaf_of f) is ∙ ap (with_pairs (leaf_of f page)) same;
    number = ap (λ (c : Contents). c.number) is;
  }

  pub leaf_parts : (page : Contents) → is_leaf f page ≡ true → ((page.level == 0) ≡ true) × (list_all (is_pair f) page.items ≡ true)
  unfolding are_pairs
  leaf_parts page e = and_parts (page.level == 0) (list_all (is_pair f) page.items) e

  pub leaf_appended : (IsKey : B → Type 0) (spelling : B → List ℕ) → IsLawful IsKey spelling f → (page new : Contents) (item : List ℕ) (p : Pair B)
      → is_leaf f page ≡ true → IsPair IsKey p → item ≡ pair_bytes spelling p → new ≡ with_items page (page.items ++ item ∷ [])
      → IsEdited f page new ((leaf_of f page).pairs ++ p ∷ [])
  leaf_appended IsKey spelling laws page new item p leaf is bytes e =
      let two = leaf_parts page leaf in
      let again = pair_again IsKey spelling f laws p is in
      edited page new (page.items ++ item ∷ []) ((leaf_of f page).pairs ++ p ∷ []) two.0 e
      (append_pass (is_pair f) page.items item two.1 (ap (is_pair f) bytes ∙ again.0))
      (map-append (pair_of f) page.items (item ∷ []) ∙ ap (λ x. map (pair_of f) page.items ++ x ∷ []) (ap (pair_of f) bytes ∙ again.1))

  -- ---- one mark

  mark_written : (item : List ℕ) (b : Bool) → is_pair f item ≡ true
      → (is_pair f (set item (f.key + 8) (mark_byte b)) ≡ true) × (pair_of f (set item (f.key + 8) (mark_byte b)) ≡ marked_as b (pair_of f item))
  mark_written item b e =
      let new = set item (f.key + 8) (mark_byte b) in
      let outer = and_parts (length item == f.key + 9) (has_key f item && nat_lt (slice_index item (f.key + 8)) 2) e in
      let inner = and_parts (has_key f item) (nat_lt (slice_index item (f.key + 8)) 2) outer.1 in
      let long : length item ≡ f.key + 9 = eqb-true (length item) (f.key + 9) outer.0 in
      let front : take f.key new ≡ take f.key item = take-set-le f.key item (f.key + 8) (mark_byte b) (omega arith) in
      let eight : f.key + 8 - f.key ≡ 8 = omega arith in
      let row : number_64_at new f.key ≡ number_64_at item f.key =
      ap (λ l. number_64 (take (f.key + 8 - f.key) l)) (drop-set-add f.key item 8 (mark_byte b))
      ∙ ap number_64 (take-set-le (f.key + 8 - f.key) (drop f.key item) 8 (mark_byte b) (omega arith)) in
      let mark : slice_index new (f.key + 8) ≡ mark_byte b = get_or-set_same item (f.key + 8) (mark_byte b) 0 (omega arith) in (
        and_from (length new == f.key + 9) (has_key f new && nat_lt (slice_index new (f.key + 8)) 2) (eq-eqb (length new) (f.key + 9) (length-set item (f.key + 8) (mark_byte b) ∙ long))
            (and_from (has_key f new) (nat_lt (slice_index new (f.key + 8)) 2) (ap (λ l. is_some (f.reading l)) front ∙ inner.0) (ap (λ m. nat_lt m 2) mark ∙ mark_small b)),
        same_pair (pair_of f new) (marked_as b (pair_of f item)) row (ap (λ l. unwrap_or (f.reading l) f.start) front) (ap (λ m. m == 1) mark ∙ mark_read b),
      )

  pub leaf_marked : (page new : Contents) (slot byte : ℕ) (b : Bool) → is_leaf f page ≡ true → slot < length page.items → byte ≡ mark_byte b
      → new ≡ with_items page (set page.items slot (set (get_or page.items slot []) (f.key + 8) byte))
      → IsEdited f page new (set (leaf_of f page).pairs slot (marked_as b (pair_of f (get_or page.items slot []))))
  leaf_marked page new slot byte b leaf h is e =
      let two = leaf_parts page leaf in
      let item = get_or page.items slot [] in
      let written = mark_written item b (get_pass (is_pair f) page.items slot [] two.1 h) in
      edited page new (set page.items slot (set item (f.key + 8) (mark_byte b))) (set (leaf_of f page).pairs slot (marked_as b (pair_of f item))) two.0
      (e ∙ ap (λ m. with_items page (set page.items slot (set item (f.key + 8) m))) is)
      (set_pass (is_pair f) page.items slot (set item (f.key + 8) (mark_byte b)) two.1 written.0)
      (map-set (pair_of f) page.items slot (set item (f.key + 8) (mark_byte b)) ∙ ap (set (map (pair_of f) page.items) slot) written.1)

  -- ---- sides

  pub leaf_stays : (page new : Contents) (sides : List Bool) → is_leaf f page ≡ true → new ≡ with_items page (staying sides page.items)
      → IsEdited f page new (staying sides (leaf_of f page).pairs)
  leaf_stays page new sides leaf e =
      let two = leaf_parts page leaf in
      edited page new (staying sides page.items) (staying sides (leaf_of f page).pairs) two.0 e (staying_pass (is_pair f) sides page.items two.1) (map-staying (pair_of f) sides page.items)

-- how long a pair's bytes are
pub pair_long : {B : Type 0} (IsKey : B → Type 0) (spelling : B → List ℕ) (f : Format B) → IsLawful IsKey spelling f → (p : Pair B) → IsPair IsKey p → length (pair_bytes spelling p) ≡ f.key + 9
pair_long IsKey spelling f laws p is =
    let long = laws.size p.key is.key in
    omega (arith, length-append (spelling p.key) (spell_64 p.row ++ mark_byte p.marked ∷ []), length-append (spell_64 p.row) (mark_byte p.marked ∷ []))

pub bool_mark : (b : Bool) → bool_byte b ≡ mark_byte b
bool_mark true = refl
bool_mark false = refl
