-- A leaf's entries, written and read.
use Rattle.std.proofs.Common.{◌≡◌, ℕ, zero, suc, ◌+◌, ◌<◌, ◌==◌, ◌&&◌, List, [], ◌∷◌, ◌++◌, length, map, drop, refl, sym, ap, ◌∙◌, arith, Bool, true, false}
use Rattle.std.specs.Prelude.{slice_index, nat_lt}
use Rattle.std.specs.List.{list_all, All}
use Rattle.std.proofs.lemmas.Bool.{and_parts, and_from, eq-eqb, eqb-true, ltb-true}
use Rattle.std.proofs.lemmas.List.{take-append-drop, length-append}
use Rattle.std.proofs.lemmas.List.Elements.{All-nil, All-cons, All-head, All-tail}
use Rattle.gx_page.specs.Bytes.{AreBytes, spell_64, number_64_at}
use Rattle.gx_page.specs.Format.{IsItem}
use Rattle.gx_node.specs.Trees.{Pair}
use Rattle.gx_node.specs.Entries.{mark_byte, pair_bytes, IsPair}
use Rattle.gx_node.specs.Reading.{Format, has_key, key_of, is_pair, pair_of}
use Rattle.gx_node.proofs.Parts.{IsLawful, key_in_front, key_read, row_behind, mark_behind, row_written}

pub mark_small : (b : Bool) → nat_lt (mark_byte b) 2 ≡ true
mark_small true = refl
mark_small false = refl

pub mark_read : (b : Bool) → (mark_byte b == 1) ≡ b
mark_read true = refl
mark_read false = refl

pub same_pair : {B : Type 0} (p q : Pair B) → p.row ≡ q.row → p.key ≡ q.key → p.marked ≡ q.marked → p ≡ q
same_pair {B} p q row key marked =
    let made : ℕ → B → Bool → Pair B = λ r k m. record { row = r; key = k; marked = m } in
    ap (λ r. made r p.key p.marked) row ∙ ap (λ k. made q.row k p.marked) key ∙ ap (made q.row q.key) marked

pub pair_again : {B : Type 0} (IsKey : B → Type 0) (spelling : B → List ℕ) (f : Format B) → IsLawful IsKey spelling f → (p : Pair B)
    → IsPair IsKey p → (is_pair f (pair_bytes spelling p) ≡ true) × (pair_of f (pair_bytes spelling p) ≡ p)
pair_again IsKey spelling f laws p is =
    let key = spelling p.key in
    let tail = spell_64 p.row ++ mark_byte p.marked ∷ [] in
    let item = pair_bytes spelling p in
    let long = laws.size p.key is.key in
    let front = key_in_front f key tail p.key long (laws.back p.key is.key) in
    let mark : slice_index item (f.key + 8) ≡ mark_byte p.marked = mark_behind key [] f.key p.row (mark_byte p.marked) long in (
      and_from (length item == f.key + 9) _ (eq-eqb (length item) (f.key + 9) (omega (arith, length-append key tail, length-append (spell_64 p.row) (mark_byte p.marked ∷ []))))
          (and_from (has_key f item) _ front.0 (ap (λ b. nat_lt b 2) mark ∙ mark_small p.marked)),
      same_pair (pair_of f item) p (row_behind key (mark_byte p.marked ∷ []) f.key p.row long is.row) front.1 (ap (λ b. b == 1) mark ∙ mark_read p.marked),
    )

mark_written : (b : ℕ) → b < 2 → b ≡ mark_byte (b == 1)
mark_written zero h = refl
mark_written (suc zero) h = refl
mark_written (suc (suc b)) h = absurd (omega arith)

pub pair_only : {B : Type 0} (IsKey : B → Type 0) (spelling : B → List ℕ) (f : Format B) → IsLawful IsKey spelling f → (item : List ℕ)
    → AreBytes item → is_pair f item ≡ true → IsPair IsKey (pair_of f item) × (item ≡ pair_bytes spelling (pair_of f item))
pair_only IsKey spelling f laws item small e =
    let outer = and_parts (length item == f.key + 9) (has_key f item && nat_lt (slice_index item (f.key + 8)) 2) e in
    let inner = and_parts (has_key f item) (nat_lt (slice_index item (f.key + 8)) 2) outer.1 in
    let long : length item ≡ f.key + 9 = eqb-true (length item) (f.key + 9) outer.0 in
    let key = key_read IsKey spelling f laws item small inner.0 in
    let tail = row_written item f.key small long in
    let mark = mark_written (slice_index item (f.key + 8)) (ltb-true (slice_index item (f.key + 8)) 2 inner.1) in (
      record { key = key.0; row = tail.1 },
      sym (take-append-drop f.key item) ∙ ap (λ l. l ++ drop f.key item) key.1
          ∙ ap (λ l. spelling (key_of f item) ++ l) (tail.0 ∙ ap (λ b. spell_64 (number_64_at item f.key) ++ b ∷ []) mark),
    )

-- ---- lists of them

pub pairs_again : {B : Type 0} (IsKey : B → Type 0) (spelling : B → List ℕ) (f : Format B) → IsLawful IsKey spelling f → (pairs : List (Pair B))
    → All (IsPair IsKey) pairs → (list_all (is_pair f) (map (pair_bytes spelling) pairs) ≡ true) × (map (pair_of f) (map (pair_bytes spelling) pairs) ≡ pairs)
pairs_again IsKey spelling f laws [] all = (refl, refl)
pairs_again IsKey spelling f laws (p ∷ pairs) all =
    let first = pair_again IsKey spelling f laws p (All-head (IsPair IsKey) p pairs all) in
    let rest = pairs_again IsKey spelling f laws pairs (All-tail (IsPair IsKey) p pairs all) in (
      and_from (is_pair f (pair_bytes spelling p)) (list_all (is_pair f) (map (pair_bytes spelling) pairs)) first.0 rest.0,
      ap (λ x. x ∷ map (pair_of f) (map (pair_bytes spelling) pairs)) first.1 ∙ ap (λ xs. p ∷ xs) rest.1,
    )

pub pairs_only : {B : Type 0} (IsKey : B → Type 0) (spelling : B → List ℕ) (f : Format B) → IsLawful IsKey spelling f → (items : List (List ℕ))
    → All IsItem items → list_all (is_pair f) items ≡ true → All (IsPair IsKey) (map (pair_of f) items) × (items ≡ map (pair_bytes spelling) (map (pair_of f) items))
pairs_only IsKey spelling f laws [] all e = (All-nil (IsPair IsKey), refl)
pairs_only IsKey spelling f laws (item ∷ items) all e =
    let two = and_parts (is_pair f item) (list_all (is_pair f) items) e in
    let first = pair_only IsKey spelling f laws item (All-head IsItem item items all).1 two.0 in
    let rest = pairs_only IsKey spelling f laws items (All-tail IsItem item items all) two.1 in (
      All-cons (IsPair IsKey) (pair_of f item) (map (pair_of f) items) first.0 rest.0,
      ap (λ x. x ∷ items) first.1 ∙ ap (λ xs. pair_bytes spelling (pair_of f item) ∷ xs) rest.1,
    )
