-- Items put in, taken out and divided by sides.
use Rattle.std.proofs.Common.{◌≡◌, ℕ, zero, suc, ◌+◌, ◌<◌, ◌≤◌, List, [], ◌∷◌, ◌++◌, length, map, take, drop, get_or, set, length-append, refl, sym, ap, ◌∙◌, arith, Bool, true, false, append_assoc, append-nil}
use Rattle.std.specs.List.{insert, remove, list_all}
use Rattle.std.proofs.lemmas.Bool.{and_parts, and_from}
use Rattle.std.proofs.lemmas.List.{take_more, drop_more, take_all, drop_all, length-take-le, get_or_at}
use Rattle.std.proofs.lemmas.List.Edits.{insert_end}
use Rattle.gx_node.specs.Lists.{staying}

pub put_last : (items : List (List ℕ)) (item : List ℕ) → insert items (length items) item ≡ items ++ item ∷ []
put_last items item = insert_end items item

module _ {X : Type 0} where
  -- ---- sides, element by element

  pub staying_here : (sides : List Bool) (xs : List X) (slot : ℕ) (d : X) → length sides ≡ length xs → slot < length xs → get_or sides slot false ≡ false
      → staying (drop slot sides) (drop slot xs) ≡ get_or xs slot d ∷ staying (drop (slot + 1) sides) (drop (slot + 1) xs)
  staying_here sides xs slot d long h e =
      ap (λ s. staying s (drop slot xs)) (drop_more sides slot false (omega arith) ∙ ap (λ b. b ∷ drop (slot + 1) sides) e)
      ∙ ap (staying (false ∷ drop (slot + 1) sides)) (drop_more xs slot d h)

  pub staying_past : (sides : List Bool) (xs : List X) (slot : ℕ) (d : X) → length sides ≡ length xs → slot < length xs → get_or sides slot false ≡ true
      → staying (drop slot sides) (drop slot xs) ≡ staying (drop (slot + 1) sides) (drop (slot + 1) xs)
  staying_past sides xs slot d long h e =
      ap (λ s. staying s (drop slot xs)) (drop_more sides slot false (omega arith) ∙ ap (λ b. b ∷ drop (slot + 1) sides) e)
      ∙ ap (staying (true ∷ drop (slot + 1) sides)) (drop_more xs slot d h)

  -- ---- taken out from the end

  remove_here : (xs ys : List X) (x : X) → remove (xs ++ x ∷ ys) (length xs) ≡ xs ++ ys
  remove_here [] ys x = refl
  remove_here (z ∷ xs) ys x = ap (λ l. z ∷ l) (remove_here xs ys x)

  -- of the first m the last is seen: it is kept, or taken out
  pub fall_keeps : (xs kept now : List X) (m slot : ℕ) (d : X) → slot + 1 ≡ m → m ≤ length xs → now ≡ take m xs ++ kept → now ≡ take slot xs ++ (get_or xs slot d ∷ kept)
  fall_keeps xs kept now m slot d next h is =
      is ∙ ap (λ n. take n xs ++ kept) (sym next) ∙ ap (λ l. l ++ kept) (take_more xs slot d (omega arith)) ∙ append_assoc (take slot xs) (get_or xs slot d ∷ []) kept

  pub fall_takes : (xs kept now : List X) (m slot : ℕ) (d : X) → slot + 1 ≡ m → m ≤ length xs → now ≡ take m xs ++ kept → remove now slot ≡ take slot xs ++ kept
  fall_takes xs kept now m slot d next h is =
      let long : length (take slot xs) ≡ slot = length-take-le slot xs (omega arith) in
      ap (λ l. remove l slot) (fall_keeps xs kept now m slot d next h is)
      ∙ ap (remove (take slot xs ++ (get_or xs slot d ∷ kept))) (sym long) ∙ remove_here (take slot xs) kept (get_or xs slot d)

  pub fall_reads : (xs kept now : List X) (m slot : ℕ) (d : X) → slot + 1 ≡ m → m ≤ length xs → now ≡ take m xs ++ kept → get_or now slot d ≡ get_or xs slot d
  fall_reads xs kept now m slot d next h is =
      ap (λ l. get_or l slot d) (fall_keeps xs kept now m slot d next h is)
      ∙ get_or_at (take slot xs) (get_or xs slot d) kept d slot (length-take-le slot xs (omega arith))

  pub fall_room : (xs kept now : List X) (m : ℕ) → m ≤ length xs → now ≡ take m xs ++ kept → m ≤ length now
  fall_room xs kept now m h is = omega (arith, ap length is, length-append (take m xs) kept, length-take-le m xs h)

  -- sides, seen from the end
  pub falls_staying : (sides : List Bool) (xs now : List X) (m slot : ℕ) (d : X) → length sides ≡ length xs → slot + 1 ≡ m → m ≤ length xs
      → now ≡ take m xs ++ staying (drop m sides) (drop m xs) → get_or sides slot false ≡ false → now ≡ take slot xs ++ staying (drop slot sides) (drop slot xs)
  falls_staying sides xs now m slot d long next h is e =
      fall_keeps xs (staying (drop m sides) (drop m xs)) now m slot d next h is
      ∙ ap (λ n. take slot xs ++ (get_or xs slot d ∷ staying (drop n sides) (drop n xs))) (sym next)
      ∙ ap (λ l. take slot xs ++ l) (sym (staying_here sides xs slot d long (omega arith) e))

  pub falls_going : (sides : List Bool) (xs now : List X) (m slot : ℕ) (d : X) → length sides ≡ length xs → slot + 1 ≡ m → m ≤ length xs
      → now ≡ take m xs ++ staying (drop m sides) (drop m xs) → get_or sides slot false ≡ true → remove now slot ≡ take slot xs ++ staying (drop slot sides) (drop slot xs)
  falls_going sides xs now m slot d long next h is e =
      fall_takes xs (staying (drop m sides) (drop m xs)) now m slot d next h is
      ∙ ap (λ n. take slot xs ++ staying (drop n sides) (drop n xs)) (sym next)
      ∙ ap (λ l. take slot xs ++ l) (sym (staying_past sides xs slot d long (omega arith) e))

  pub fall_begins : (sides : List Bool) (xs : List X) (m : ℕ) → m ≡ length xs → xs ≡ take m xs ++ staying (drop m sides) (drop m xs)
  fall_begins sides xs m e =
      sym (ap (λ l. take m xs ++ staying (drop m sides) l) (drop_all m xs (omega arith)) ∙ append-nil (take m xs) ∙ take_all m xs (omega arith))

  pub fall_ends : (sides : List Bool) (xs now : List X) (m : ℕ) → m ≡ 0 → now ≡ take m xs ++ staying (drop m sides) (drop m xs) → now ≡ staying sides xs
  fall_ends sides xs now zero e is = is
  fall_ends sides xs now (suc m) e is = absurd (omega arith)

  -- ---- the same of what is made of each, and tests of each

  pub map-staying : {Y : Type 0} (f : X → Y) (sides : List Bool) (xs : List X) → map f (staying sides xs) ≡ staying sides (map f xs)
  map-staying f sides [] = refl
  map-staying f [] (x ∷ xs) = refl
  map-staying f (true ∷ sides) (x ∷ xs) = map-staying f sides xs
  map-staying f (false ∷ sides) (x ∷ xs) = ap (λ l. f x ∷ l) (map-staying f sides xs)

  pub staying_pass : (test : X → Bool) (sides : List Bool) (xs : List X) → list_all test xs ≡ true → list_all test (staying sides xs) ≡ true
  staying_pass test sides [] e = refl
  staying_pass test [] (x ∷ xs) e = e
  staying_pass test (true ∷ sides) (x ∷ xs) e = staying_pass test sides xs (and_parts (test x) (list_all test xs) e).1
  staying_pass test (false ∷ sides) (x ∷ xs) e =
      let two = and_parts (test x) (list_all test xs) e in
      and_from (test x) (list_all test (staying sides xs)) two.0 (staying_pass test sides xs two.1)

  pub append_pass : (test : X → Bool) (xs : List X) (x : X) → list_all test xs ≡ true → test x ≡ true → list_all test (xs ++ x ∷ []) ≡ true
  append_pass test [] x e h = and_from (test x) true h refl
  append_pass test (y ∷ xs) x e h =
      let two = and_parts (test y) (list_all test xs) e in
      and_from (test y) (list_all test (xs ++ x ∷ [])) two.0 (append_pass test xs x two.1 h)

  pub set_pass : (test : X → Bool) (xs : List X) (slot : ℕ) (x : X) → list_all test xs ≡ true → test x ≡ true → list_all test (set xs slot x) ≡ true
  set_pass test [] slot x e h = refl
  set_pass test (y ∷ xs) zero x e h = and_from (test x) (list_all test xs) h (and_parts (test y) (list_all test xs) e).1
  set_pass test (y ∷ xs) (suc slot) x e h =
      let two = and_parts (test y) (list_all test xs) e in
      and_from (test y) (list_all test (set xs slot x)) two.0 (set_pass test xs slot x two.1 h)

  pub get_pass : (test : X → Bool) (xs : List X) (slot : ℕ) (d : X) → list_all test xs ≡ true → slot < length xs → test (get_or xs slot d) ≡ true
  get_pass test [] slot d e h = absurd (omega arith)
  get_pass test (y ∷ xs) zero d e h = (and_parts (test y) (list_all test xs) e).0
  get_pass test (y ∷ xs) (suc slot) d e h = get_pass test xs slot d (and_parts (test y) (list_all test xs) e).1 (omega arith)
