-- Pages in a list.
use Rattle.std.proofs.Common.{◌≡◌, ℕ, zero, suc, ◌-◌, ◌<◌, ◌≤◌, Bool, true, false, ◌==◌, List, [], ◌∷◌, ◌++◌, ◌+◌, length, map, drop, ◌&&◌, get_or, set, refl, sym, ap, ◌∙◌, arith}
use Rattle.std.specs.List.{list_all}
use Rattle.std.specs.Prelude.{if◌then◌else◌}
use Rattle.std.proofs.lemmas.Bool.{and_parts, and_from, eq-eqb, eqb-true}
use Rattle.std.proofs.lemmas.List.{at_drop_more, length-map}
use Rattle.gx_page.specs.Contents.{Contents}
use Rattle.gx_node.specs.Reading.{Format, leaf_of, inner_of}
use Rattle.gx_node.specs.Steps.{node_with}
use Rattle.gx_node.specs.Trees.{Node}
use Rattle.gx_node.specs.Store.{Store, Stays, node_of, node_at, numbered, blank}

pub mapped_at : {X Y : Type 0} (f : X → Y) (xs : List X) (k : ℕ) (d : X) (e : Y) → k < length xs → get_or (map f xs) k e ≡ f (get_or xs k d)
mapped_at f [] k d e h = absurd (omega arith)
mapped_at f (x ∷ xs) zero d e h = refl
mapped_at f (x ∷ xs) (suc k) d e h = mapped_at f xs k d e (omega arith)

-- the node of a page in a list, page 1 first
pub node_in : {X B : Type 0} (f : X → Node B) (xs : List X) (p : ℕ) (d : X) → 0 < p → p ≤ length xs → f (get_or xs (p - 1) d) ≡ node_at (map f xs) p
node_in f xs zero d low high = absurd (omega arith)
node_in f xs (suc p) d low high =
    let one : suc p - 1 ≡ p = omega arith in
    ap (λ n. f (get_or xs n d)) one ∙ sym (mapped_at f xs p d blank (omega arith))

-- a page that the view has is in the list
pub in_items : {B : Type 0} (f : Format B) (items : List Contents) (nodes : List (Node B)) (p : ℕ) → map (node_of f) items ≡ nodes → p ≤ length nodes → p ≤ length items
in_items f items nodes p view h =
    let long : length nodes ≡ length items = ap length (sym view) ∙ length-map items (node_of f) in
    omega (arith, long, h)

pub each_at : {X : Type 0} (test : X → Bool) (xs : List X) (k : ℕ) (d : X) → k < length xs → list_all test xs ≡ true → test (get_or xs k d) ≡ true
each_at test [] k d h e = absurd (omega arith)
each_at test (x ∷ xs) zero d h e = (and_parts (test x) (list_all test xs) e).0
each_at test (x ∷ xs) (suc k) d h e = each_at test xs k d (omega arith) (and_parts (test x) (list_all test xs) e).1

-- if what is read is what the store shows, the store doesn't change
pub same_store : {B : Type 0} (steady : Type 0) (old new : Store B) → Stays steady old new → steady → new ≡ old
same_store steady old new stays is =
    ap (λ ns. record { nodes = ns; counter = new.counter; room = new.room }) (stays.nodes is)
    ∙ ap (λ k. record { nodes = old.nodes; counter = k; room = new.room }) stays.counter
    ∙ ap (λ k. record { nodes = old.nodes; counter = old.counter; room = k }) stays.room

-- a page of level 0 is read as a leaf
pub leaf_node : {B : Type 0} (f : Format B) (page : Contents) → page.level ≡ 0 → node_of f page ≡ leaf_of f page
leaf_node f page e = ap (λ b. if b then leaf_of f page else inner_of f page) (eq-eqb page.level 0 e)

-- each passes still if one is replaced by one that does
pub all_set : {X : Type 0} (test : X → Bool) (xs : List X) (k : ℕ) (y : X) → list_all test xs ≡ true → test y ≡ true → list_all test (set xs k y) ≡ true
all_set test [] k y e h = refl
all_set test (x ∷ xs) zero y e h = and_from (test y) (list_all test xs) h (and_parts (test x) (list_all test xs) e).1
all_set test (x ∷ xs) (suc k) y e h =
    let two = and_parts (test x) (list_all test xs) e in
    and_from (test x) (list_all test (set xs k y)) two.0 (all_set test xs k y two.1 h)

-- each passes still with one more after the last that does
pub all_more : {X : Type 0} (test : X → Bool) (xs : List X) (y : X) → list_all test xs ≡ true → test y ≡ true → list_all test (xs ++ y ∷ []) ≡ true
all_more test [] y e h = and_from (test y) true h refl
all_more test (x ∷ xs) y e h =
    let two = and_parts (test x) (list_all test xs) e in
    and_from (test x) (list_all test (xs ++ y ∷ [])) two.0 (all_more test xs y two.1 h)

-- a page with another number and rightlink is read as its node with these
pub linked_node : {B : Type 0} (f : Format B) (page : Contents) (number right : ℕ)
    → node_of f (record page { nsn = number; right = right }) ≡ node_with (node_of f page) number right (node_of f page).pairs (node_of f page).children
linked_node f page number right = by_level (page.level == 0)
  where
    by_level : (b : Bool) → (if b then leaf_of f (record page { nsn = number; right = right }) else inner_of f (record page { nsn = number; right = right }))
        ≡ node_with (if b then leaf_of f page else inner_of f page) number right (if b then leaf_of f page else inner_of f page).pairs (if b then leaf_of f page else inner_of f page).children
    by_level true = refl
    by_level false = refl

-- a page in a list of numbered ones has its place's number
pub number_at : (n : ℕ) (xs : List Contents) (k : ℕ) (d : Contents) → k < length xs → numbered n xs ≡ true → (get_or xs k d).number ≡ n + k
unfolding numbered
number_at n [] k d h e = absurd (omega arith)
number_at n (x ∷ xs) zero d h e = eqb-true x.number n (and_parts (x.number == n) (numbered (suc n) xs) e).0 ∙ omega arith
number_at n (x ∷ xs) (suc k) d h e = number_at (suc n) xs k d (omega arith) (and_parts (x.number == n) (numbered (suc n) xs) e).1 ∙ omega arith

-- a numbered page in the place of another keeps all numbered
pub numbered_set : (n : ℕ) (xs : List Contents) (k : ℕ) (y : Contents) → numbered n xs ≡ true → y.number ≡ n + k → numbered n (set xs k y) ≡ true
unfolding numbered
numbered_set n [] k y e h = refl
numbered_set n (x ∷ xs) zero y e h = and_from (y.number == n) (numbered (suc n) xs) (eq-eqb y.number n (omega (arith, h))) (and_parts (x.number == n) (numbered (suc n) xs) e).1
numbered_set n (x ∷ xs) (suc k) y e h =
    let two = and_parts (x.number == n) (numbered (suc n) xs) e in
    and_from (x.number == n) (numbered (suc n) (set xs k y)) two.0 (numbered_set (suc n) xs k y two.1 (omega (arith, h)))

-- a page after the last, of the next number, keeps all numbered
pub numbered_more : (n : ℕ) (xs : List Contents) (y : Contents) → numbered n xs ≡ true → y.number ≡ n + length xs → numbered n (xs ++ y ∷ []) ≡ true
unfolding numbered
numbered_more n [] y e h = and_from (y.number == n) true (eq-eqb y.number n (omega (arith, h))) refl
numbered_more n (x ∷ xs) y e h =
    let two = and_parts (x.number == n) (numbered (suc n) xs) e in
    and_from (x.number == n) (numbered (suc n) (xs ++ y ∷ [])) two.0 (numbered_more (suc n) xs y two.1 (omega (arith, h)))

-- if the first numbers are right, the next page's and those after it decide
pub numbered_next : (n : ℕ) (xs : List Contents) (k : ℕ) (d : Contents) → k < length xs
    → numbered n (drop k xs) ≡ ((get_or xs k d).number == n) && numbered (suc n) (drop (k + 1) xs)
unfolding numbered
numbered_next n xs k d h = at_drop_more (numbered n) xs k d h
