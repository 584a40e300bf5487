-- What a sweep takes: by sides, by slots, and from the pages.
use Rattle.std.proofs.Common.{◌≡◌, ℕ, zero, suc, ◌+◌, ◌<◌, ◌≤◌, ◌==◌, Bool, true, false, List, [], ◌∷◌, ◌++◌, length, map, filter, take, set, get_or, refl, sym, ap, ◌∙◌, subst, arith, Some}
use Rattle.std.specs.Prelude.{slice_get}
use Rattle.std.proofs.lemmas.Bool.{eqb-true}
use Rattle.std.proofs.lemmas.List.{take_more_set, length-set}
use Rattle.gx_machine.specs.declared.entry.Entry.{Entry}
use Rattle.gx_node.specs.Edits.{entry_of}
use Rattle.gx_node.specs.Lists.{how_many, one_if, staying}
use Rattle.gx_node.specs.Trees.{Pair, Node}
use Rattle.gx_node.specs.Steps.{ChangesOnly, IsSweep, spares}
use Rattle.gx_node.specs.Writes.{is_sweepable}
use Rattle.gx_node.specs.Store.{Store, node_at, tree_of}
use Rattle.gx_tree.specs.Sweeping.{Planned, PlansSweep, TakesOut, slots_from, slots_of, takes_none}
use Rattle.gx_tree.specs.Writing.{Swept}
use Rattle.gx_tree.proofs.Sides.{unpassing_stay, spares_others}

-- one more side adds its slot if that element goes
pub listed_one : (n k : ℕ) (sides : List Bool) → k < length sides → get_or sides k false ≡ true
    → slots_from n (take (suc k) sides) ≡ slots_from n (take k sides) ++ (n + k) ∷ []
unfolding slots_from
listed_one n k [] h e = absurd (omega arith)
listed_one n zero (true ∷ sides) h e = let same : n ≡ n + 0 = omega arith in ap (λ (m : ℕ). m ∷ []) same
listed_one n zero (false ∷ sides) h e = cc
listed_one n (suc k) (true ∷ sides) h e =
    let same : suc n + k ≡ n + suc k = omega arith in
    ap (λ (ms : List ℕ). n ∷ ms) (listed_one (suc n) k sides (omega arith) e ∙ ap (λ (m : ℕ). slots_from (suc n) (take k sides) ++ m ∷ []) same)
listed_one n (suc k) (false ∷ sides) h e =
    let same : suc n + k ≡ n + suc k = omega arith in
    listed_one (suc n) k sides (omega arith) e ∙ ap (λ (m : ℕ). slots_from (suc n) (take k sides) ++ m ∷ []) same

pub listed_none : (n k : ℕ) (sides : List Bool) → k < length sides → get_or sides k false ≡ false
    → slots_from n (take (suc k) sides) ≡ slots_from n (take k sides)
unfolding slots_from
listed_none n k [] h e = absurd (omega arith)
listed_none n zero (true ∷ sides) h e = cc
listed_none n zero (false ∷ sides) h e = refl
listed_none n (suc k) (true ∷ sides) h e = ap (λ ms. n ∷ ms) (listed_none (suc n) k sides (omega arith) e)
listed_none n (suc k) (false ∷ sides) h e = listed_none (suc n) k sides (omega arith) e

-- the slots up to one are listed, and it goes, or stays
abbrev pub Listed : List Bool → ℕ → ℕ → List ℕ → List ℕ → Type 0
Listed sides slot gone slots before = (gone ≤ slot) × (length slots ≡ length before) × (take gone slots ≡ slots_from 0 (take slot sides))

pub listed_begin : (sides : List Bool) (slots : List ℕ) → Listed sides 0 0 slots slots
unfolding slots_from
listed_begin [] [] = (omega arith, refl, refl)
listed_begin [] (s ∷ slots) = (omega arith, refl, refl)
listed_begin (b ∷ sides) [] = (omega arith, refl, refl)
listed_begin (b ∷ sides) (s ∷ slots) = (omega arith, refl, refl)

pub listed_goes : (sides : List Bool) (slot gone next : ℕ) (slots before after : List ℕ) → slot < length sides → get_or sides slot false ≡ true
    → length sides ≤ length before → Listed sides slot gone slots before → next ≡ gone + 1 → after ≡ set slots gone slot → Listed sides (slot + 1) next after before
listed_goes sides slot gone next slots before after low goes space listed more is =
    let there : gone < length slots = omega (arith, listed.0, listed.1, low, space) in
    let same : 0 + slot ≡ slot = omega arith in
    let later : suc slot ≡ slot + 1 = omega arith in
    let one : slots_from 0 (take (suc slot) sides) ≡ slots_from 0 (take slot sides) ++ slot ∷ [] =
    listed_one 0 slot sides low goes ∙ ap (λ (m : ℕ). slots_from 0 (take slot sides) ++ m ∷ []) same in
    let all : take (gone + 1) (set slots gone slot) ≡ slots_from 0 (take (slot + 1) sides) =
    take_more_set slots gone slot there
    ∙ ap (λ (xs : List ℕ). xs ++ slot ∷ []) listed.2
    ∙ sym one
    ∙ ap (λ (m : ℕ). slots_from 0 (take m sides)) later in
    let below : gone + 1 ≤ slot + 1 = omega (arith, listed.0) in
    subst (λ n. Listed sides (slot + 1) n after before) (sym more)
    (subst (λ (xs : List ℕ). Listed sides (slot + 1) (gone + 1) xs before) (sym is) (below, length-set slots gone slot ∙ listed.1, all))

pub listed_stays : (sides : List Bool) (slot gone next : ℕ) (slots before after : List ℕ) → slot < length sides → get_or sides slot false ≡ false
    → Listed sides slot gone slots before → next ≡ gone → after ≡ slots → Listed sides (slot + 1) next after before
listed_stays sides slot gone next slots before after low stays listed same is =
    let later : suc slot ≡ slot + 1 = omega arith in
    let all : take gone slots ≡ slots_from 0 (take (slot + 1) sides) =
    listed.2 ∙ sym (listed_none 0 slot sides low stays) ∙ ap (λ (m : ℕ). slots_from 0 (take m sides)) later in
    let below : gone ≤ slot + 1 = omega (arith, listed.0) in
    subst (λ n. Listed sides (slot + 1) n after before) (sym same)
    (subst (λ (xs : List ℕ). Listed sides (slot + 1) gone xs before) (sym is) (below, listed.1, all))

-- as many slots as elements that pass
pub listed_all : {X : Type 0} (test : X → Bool) (n : ℕ) (xs : List X) → length (slots_from n (map test xs)) ≡ how_many test xs
unfolding slots_from
listed_all test n [] = refl
listed_all test n (x ∷ xs) = by_side (test x) (listed_all test (suc n) xs)
  where
    by_side : (b : Bool) → length (slots_from (suc n) (map test xs)) ≡ how_many test xs
        → length (slots_from n (b ∷ map test xs)) ≡ one_if b + how_many test xs
    by_side true rest = omega (arith, rest)
    by_side false rest = omega (arith, rest)

some_is : {a b : ℕ} → Some a ≡ Some b → b ≡ a
some_is e = cc

-- each slot is that of an element that passes
pub listed_at : {X : Type 0} (test : X → Bool) (n : ℕ) (xs : List X) (k slot : ℕ) → slice_get (slots_from n (map test xs)) k ≡ Some slot
    → (j : ℕ) × (slot ≡ n + j) × ((x : X) × (slice_get xs j ≡ Some x) × (test x ≡ true))
unfolding slots_from
listed_at test n [] k slot at = cc
listed_at {X} test n (x ∷ xs) k slot at = by_side (test x) refl k (λ i there. listed_at test (suc n) xs i slot there) at
  where
    later : (j : ℕ) × (slot ≡ suc n + j) × ((y : X) × (slice_get xs j ≡ Some y) × (test y ≡ true))
        → (j : ℕ) × (slot ≡ n + j) × ((y : X) × (slice_get (x ∷ xs) j ≡ Some y) × (test y ≡ true))
    later found = (suc found.0, omega (arith, found.1), found.2)

    by_side : (b : Bool) → test x ≡ b → (k : ℕ)
        → ((i : ℕ) → slice_get (slots_from (suc n) (map test xs)) i ≡ Some slot
        → (j : ℕ) × (slot ≡ suc n + j) × ((y : X) × (slice_get xs j ≡ Some y) × (test y ≡ true)))
        → slice_get (slots_from n (b ∷ map test xs)) k ≡ Some slot
        → (j : ℕ) × (slot ≡ n + j) × ((y : X) × (slice_get (x ∷ xs) j ≡ Some y) × (test y ≡ true))
    by_side true is zero rest at = let here : slot ≡ n + 0 = omega (arith, some_is at) in (0, here, (x, refl, is))
    by_side true is (suc k) rest at = later (rest k at)
    by_side false is k rest at = later (rest k at)

module _ {B : Type 0} (plan : Planned) where
  module _ (claimed : Entry B → Bool) where
    -- as many pairs go as the leaf has to sweep
    pub sweep_size : (node : Node B) → PlansSweep claimed node plan → length (slots_of plan) ≡ how_many (is_sweepable (λ x. claimed (entry_of x))) node.pairs
    sweep_size node plans =
        ap (λ ss. length (slots_from 0 ss)) plans.sides ∙ listed_all (is_sweepable (λ (x : Pair B). claimed (entry_of x))) 0 node.pairs

    -- what a plan takes out is the laws' sweep
    pub is_sweep : (old new : Store B) → PlansSweep claimed (node_at old.nodes plan.page) plan → TakesOut plan old new → takes_none plan ≡ false
        → IsSweep (tree_of old) (tree_of new) plan.page (λ x. claimed (entry_of x))
    is_sweep old new plans takes some =
        let stood = node_at old.nodes plan.page in
        let stays : staying plan.sides stood.pairs ≡ filter (spares (λ (x : Pair B). claimed (entry_of x))) stood.pairs =
        ap (λ bs. staying bs stood.pairs) plans.sides
        ∙ unpassing_stay (is_sweepable (λ (x : Pair B). claimed (entry_of x))) (spares (λ (x : Pair B). claimed (entry_of x)))
        (λ x. spares_others (λ y. claimed (entry_of y)) x) stood.pairs in
        record {
          leaf = plans.leaf;
          changes = subst (λ (ps : List (Pair B)). ChangesOnly (tree_of old) (tree_of new) plan.page ps stood.children) stays (takes.some some);
        }

    -- the slots are those of such pairs
    pub sweep_slots : (node : Node B) → PlansSweep claimed node plan → (k slot : ℕ) → slice_get (slots_of plan) k ≡ Some slot
        → (x : Pair B) × (slice_get node.pairs slot ≡ Some x) × (is_sweepable (λ y. claimed (entry_of y)) x ≡ true)
    sweep_slots node plans k slot at =
        let test = is_sweepable (λ (x : Pair B). claimed (entry_of x)) in
        let found = listed_at test 0 node.pairs k slot (subst (λ (ss : List Bool). slice_get (slots_from 0 ss) k ≡ Some slot) plans.sides at) in
        let same : found.0 ≡ slot = omega (arith, found.1) in
        (found.2.0, subst (λ n. slice_get node.pairs n ≡ Some found.2.0) same found.2.1, found.2.2)

    -- the store was read; nothing is swept
    pub is_unswept : (old read : Store B) → read ≡ old → PlansSweep claimed (node_at read.nodes plan.page) plan → takes_none plan ≡ true
        → Swept claimed old read plan.page false
    is_unswept old read same plans none =
        subst (λ (s : Store B). Swept claimed s read plan.page false) same (record {
          leaf = plans.leaf;
          some = λ yes. cc;
          none = λ no. (refl, sym (sweep_size (node_at read.nodes plan.page) plans) ∙ eqb-true (length (slots_of plan)) 0 none);
        })

    -- the store was read; all that is planned goes
    pub is_swept : (old read new : Store B) → read ≡ old → PlansSweep claimed (node_at read.nodes plan.page) plan → TakesOut plan read new
        → takes_none plan ≡ false → Swept claimed old new plan.page true
    is_swept old read new same plans takes some =
        let test = is_sweepable (λ (x : Pair B). claimed (entry_of x)) in
        let one : 0 < length (slots_of plan) = positive (length (slots_of plan)) some in
        subst (λ (s : Store B). Swept claimed s new plan.page true) same (record {
          leaf = plans.leaf;
          some = λ yes. (is_sweep read new plans takes some, omega (arith, one, sweep_size (node_at read.nodes plan.page) plans));
          none = λ no. cc;
        })
      where
        positive : (n : ℕ) → (n == 0) ≡ false → 0 < n
        positive zero e = cc
        positive (suc n) e = omega arith
