-- Predicates by their kinds.
use Rattle.std.proofs.Common.{◌≡◌, ℕ, ◌<◌, ◌≤◌, Bool, true, false, ◌||◌, List, [], ◌∷◌, ◌++◌, length, refl, ap, sym, ◌∙◌, arith}
use Rattle.std.specs.List.{list_any}
use Rattle.std.specs.Ordering.{is_eq}
use Rattle.gx_machine.specs.declared.entry.Entry.{Entry}
use Rattle.gx_machine.specs.declared.query.Query.{Query}
use Rattle.gx_machine.specs.declared.query.Query.TheVariants.{Overlap, Within, Equal, Covers}
use Rattle.gx_machine.specs.Keys.{Keys, matches}
use Rattle.gx_txn.specs.Watched.{overlap_keys, within_keys, equal_keys, covers_keys, AreByKind}

module _ {B : Type 0} where
  overlap_more : (asked : List (Query B)) (q : Query B) → overlap_keys (asked ++ q ∷ []) ≡ overlap_keys asked ++ overlap_keys (q ∷ [])
  overlap_more [] q = refl
  overlap_more (Overlap p ∷ asked) q = ap (λ ks. p ∷ ks) (overlap_more asked q)
  overlap_more (Within p ∷ asked) q = overlap_more asked q
  overlap_more (Equal p ∷ asked) q = overlap_more asked q
  overlap_more (Covers p ∷ asked) q = overlap_more asked q

  within_more : (asked : List (Query B)) (q : Query B) → within_keys (asked ++ q ∷ []) ≡ within_keys asked ++ within_keys (q ∷ [])
  within_more [] q = refl
  within_more (Overlap p ∷ asked) q = within_more asked q
  within_more (Within p ∷ asked) q = ap (λ ks. p ∷ ks) (within_more asked q)
  within_more (Equal p ∷ asked) q = within_more asked q
  within_more (Covers p ∷ asked) q = within_more asked q

  equal_more : (asked : List (Query B)) (q : Query B) → equal_keys (asked ++ q ∷ []) ≡ equal_keys asked ++ equal_keys (q ∷ [])
  equal_more [] q = refl
  equal_more (Overlap p ∷ asked) q = equal_more asked q
  equal_more (Within p ∷ asked) q = equal_more asked q
  equal_more (Equal p ∷ asked) q = ap (λ ks. p ∷ ks) (equal_more asked q)
  equal_more (Covers p ∷ asked) q = equal_more asked q

  covers_more : (asked : List (Query B)) (q : Query B) → covers_keys (asked ++ q ∷ []) ≡ covers_keys asked ++ covers_keys (q ∷ [])
  covers_more [] q = refl
  covers_more (Overlap p ∷ asked) q = covers_more asked q
  covers_more (Within p ∷ asked) q = covers_more asked q
  covers_more (Equal p ∷ asked) q = covers_more asked q
  covers_more (Covers p ∷ asked) q = ap (λ ks. p ∷ ks) (covers_more asked q)

  -- one predicate more, with its key among those of its kind
  pub with_one : (asked now : List (Query B)) (overlap within equal covers o w e c : List B) (q query : Query B) → AreByKind asked overlap within equal covers
      → now ≡ asked ++ query ∷ [] → query ≡ q → o ≡ overlap ++ overlap_keys (q ∷ []) → w ≡ within ++ within_keys (q ∷ []) → e ≡ equal ++ equal_keys (q ∷ [])
      → c ≡ covers ++ covers_keys (q ∷ []) → AreByKind now o w e c
  with_one asked now overlap within equal covers o w e c q query is put same is_o is_w is_e is_c =
      let all : now ≡ asked ++ q ∷ [] = put ∙ ap (λ x. asked ++ x ∷ []) same in
      record {
        of_overlap = is_o ∙ ap (λ ks. ks ++ overlap_keys (q ∷ [])) is.of_overlap ∙ sym (overlap_more asked q) ∙ ap overlap_keys (sym all);
        of_within = is_w ∙ ap (λ ks. ks ++ within_keys (q ∷ [])) is.of_within ∙ sym (within_more asked q) ∙ ap within_keys (sym all);
        of_equal = is_e ∙ ap (λ ks. ks ++ equal_keys (q ∷ [])) is.of_equal ∙ sym (equal_more asked q) ∙ ap equal_keys (sym all);
        of_covers = is_c ∙ ap (λ ks. ks ++ covers_keys (q ∷ [])) is.of_covers ∙ sym (covers_more asked q) ∙ ap covers_keys (sym all);
      }

  -- no kind has more than there are
  pub few_of_each : (asked : List (Query B)) → (length (overlap_keys asked) ≤ length asked) × (length (within_keys asked) ≤ length asked)
      × (length (equal_keys asked) ≤ length asked) × (length (covers_keys asked) ≤ length asked)
  few_of_each [] = (omega arith, omega arith, omega arith, omega arith)
  few_of_each (Overlap q ∷ asked) =
      let rest = few_of_each asked in
      (omega (arith, rest.0), omega (arith, rest.1), omega (arith, rest.2), omega (arith, rest.3))
  few_of_each (Within q ∷ asked) =
      let rest = few_of_each asked in
      (omega (arith, rest.0), omega (arith, rest.1), omega (arith, rest.2), omega (arith, rest.3))
  few_of_each (Equal q ∷ asked) =
      let rest = few_of_each asked in
      (omega (arith, rest.0), omega (arith, rest.1), omega (arith, rest.2), omega (arith, rest.3))
  few_of_each (Covers q ∷ asked) =
      let rest = few_of_each asked in
      (omega (arith, rest.0), omega (arith, rest.1), omega (arith, rest.2), omega (arith, rest.3))

module _ {B : Type 0} where
  -- so each kind has room for one more if there is room for one more
  pub room_of_each : (asked self : List (Query B)) (overlap within equal covers : List B) (most : ℕ) → AreByKind asked overlap within equal covers → asked ≡ self
      → length self < most → (length overlap < most) × (length within < most) × (length equal < most) × (length covers < most)
  room_of_each asked self overlap within equal covers most is view room =
      let few = few_of_each asked in
      let all : length asked ≡ length self = ap (λ (qs : List (Query B)). length qs) view in
      let one : length overlap ≡ length (overlap_keys asked) = ap (λ (ks : List B). length ks) is.of_overlap in
      let two : length within ≡ length (within_keys asked) = ap (λ (ks : List B). length ks) is.of_within in
      let three : length equal ≡ length (equal_keys asked) = ap (λ (ks : List B). length ks) is.of_equal in
      let four : length covers ≡ length (covers_keys asked) = ap (λ (ks : List B). length ks) is.of_covers in
      (omega (arith, few.0), omega (arith, few.1), omega (arith, few.2), omega (arith, few.3))

first_of_four : (p a b c d : Bool) → (p || (((a || b) || c) || d)) ≡ ((((p || a) || b) || c) || d)
first_of_four true a b c d = refl
first_of_four false a b c d = refl

second_of_four : (p a b c d : Bool) → (p || (((a || b) || c) || d)) ≡ (((a || (p || b)) || c) || d)
second_of_four true true b c d = refl
second_of_four true false b c d = refl
second_of_four false a b c d = refl

third_of_four : (p a b c d : Bool) → (p || (((a || b) || c) || d)) ≡ (((a || b) || (p || c)) || d)
third_of_four true true b c d = refl
third_of_four true false true c d = refl
third_of_four true false false c d = refl
third_of_four false a b c d = refl

fourth_of_four : (p a b c d : Bool) → (p || (((a || b) || c) || d)) ≡ (((a || b) || c) || (p || d))
fourth_of_four true true b c d = refl
fourth_of_four true false true c d = refl
fourth_of_four true false false true d = refl
fourth_of_four true false false false d = refl
fourth_of_four false a b c d = refl

module _ {B : Type 0} (k : Keys B) (e : Entry B) where
  -- what a write is tested for, against the keys of each kind
  abbrev overlapped : List B → Bool
  overlapped keys = list_any (λ q. k.overlaps e.key q) keys

  abbrev around : List B → Bool
  around keys = list_any (λ q. k.within e.key q) keys

  abbrev same : List B → Bool
  same keys = list_any (λ q. is_eq (k.cmp e.key q)) keys

  abbrev inside : List B → Bool
  inside keys = list_any (λ q. k.within q e.key) keys

  -- a write is tested kind by kind
  pub any_by_kind : (asked : List (Query B)) → list_any (λ q. matches k q e) asked
      ≡ (((overlapped (overlap_keys asked) || around (within_keys asked)) || same (equal_keys asked)) || inside (covers_keys asked))
  any_by_kind [] = refl
  any_by_kind (Overlap q ∷ asked) =
      ap (λ b. k.overlaps e.key q || b) (any_by_kind asked)
      ∙ first_of_four (k.overlaps e.key q) (overlapped (overlap_keys asked)) (around (within_keys asked)) (same (equal_keys asked)) (inside (covers_keys asked))
  any_by_kind (Within q ∷ asked) =
      ap (λ b. k.within e.key q || b) (any_by_kind asked)
      ∙ second_of_four (k.within e.key q) (overlapped (overlap_keys asked)) (around (within_keys asked)) (same (equal_keys asked)) (inside (covers_keys asked))
  any_by_kind (Equal q ∷ asked) =
      ap (λ b. is_eq (k.cmp e.key q) || b) (any_by_kind asked)
      ∙ third_of_four (is_eq (k.cmp e.key q)) (overlapped (overlap_keys asked)) (around (within_keys asked)) (same (equal_keys asked)) (inside (covers_keys asked))
  any_by_kind (Covers q ∷ asked) =
      ap (λ b. k.within q e.key || b) (any_by_kind asked)
      ∙ fourth_of_four (k.within q e.key) (overlapped (overlap_keys asked)) (around (within_keys asked)) (same (equal_keys asked)) (inside (covers_keys asked))

  -- so a write that asks kind by kind asks the predicates
  pub any_of_kinds : (asked self : List (Query B)) (overlap within equal covers one two three four : List B) (a b c d : Bool) → AreByKind asked overlap within equal covers
      → one ≡ overlap → two ≡ within → three ≡ equal → four ≡ covers → asked ≡ self → a ≡ list_any (λ q. k.overlaps e.key q) one
      → b ≡ list_any (λ q. k.within e.key q) two → c ≡ list_any (λ q. is_eq (k.cmp e.key q)) three → d ≡ list_any (λ q. k.within q e.key) four
      → (((a || b) || c) || d) ≡ list_any (λ q. matches k q e) self
  any_of_kinds asked self overlap within equal covers one two three four a b c d is same1 same2 same3 same4 view is_a is_b is_c is_d =
      let first : a ≡ overlapped (overlap_keys asked) = is_a ∙ ap (list_any (λ q. k.overlaps e.key q)) (same1 ∙ is.of_overlap) in
      let second : b ≡ around (within_keys asked) = is_b ∙ ap (list_any (λ q. k.within e.key q)) (same2 ∙ is.of_within) in
      let third : c ≡ same (equal_keys asked) = is_c ∙ ap (list_any (λ q. is_eq (k.cmp e.key q))) (same3 ∙ is.of_equal) in
      let fourth : d ≡ inside (covers_keys asked) = is_d ∙ ap (list_any (λ q. k.within q e.key)) (same4 ∙ is.of_covers) in
      ap (λ x. ((x || b) || c) || d) first ∙ ap (λ x. ((overlapped (overlap_keys asked) || x) || c) || d) second
      ∙ ap (λ x. ((overlapped (overlap_keys asked) || around (within_keys asked)) || x) || d) third
      ∙ ap (λ x. ((overlapped (overlap_keys asked) || around (within_keys asked)) || same (equal_keys asked)) || x) fourth
      ∙ sym (any_by_kind asked) ∙ ap (list_any (λ q. matches k q e)) view
