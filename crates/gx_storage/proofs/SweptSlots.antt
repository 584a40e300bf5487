-- The slots of a sweep: by sides, rising, and of marked pairs.
use Rattle.std.proofs.Common.{◌≡◌, ◌∙◌, sym, ap, refl, ℕ, suc, ◌+◌, ◌^◌, ◌<◌, ◌≤◌, Bool, true, false, ◌&&◌, List, [], ◌∷◌, ◌++◌, length, set, get_or, Some, arith}
use Rattle.std.specs.Prelude.{nat_le, not, replicate, slice_get}
use Rattle.std.proofs.lemmas.Bool.{and_parts, le-leb, leb-true}
use Rattle.std.proofs.lemmas.List.{append_assoc, length-append}
use Rattle.gx_machine.specs.declared.entry.Entry.{Entry}
use Rattle.gx_record.specs.Slots.{AreSlots, rise_from}
use Rattle.gx_node.specs.Lists.{Each}
use Rattle.gx_node.specs.Trees.{Node, Pair}
use Rattle.gx_node.specs.Writes.{is_sweepable}
use Rattle.gx_node.specs.Edits.{entry_of}
use Rattle.gx_node.specs.Small.{sides_of, sides_with}
use Rattle.gx_node.specs.SmallLaws.{HasMarked}
use Rattle.gx_node.specs.Store.{Store, tree_of}
use Rattle.gx_tree.specs.Sweeping.{Planned, PlansSweep, slots_from, slots_of}
use Rattle.gx_tree.proofs.Swept.{listed_at}
use Rattle.gx_storage.specs.Sweeping.{swept_slots}

-- ---- the sides of a plan's slots

-- the side after those that are done, set
side_set : (done rest : List Bool) → set (done ++ false ∷ rest) (length done) true ≡ (done ++ true ∷ []) ++ rest
side_set [] rest = refl
side_set (b ∷ done) rest = ap (λ (l : List Bool). b ∷ l) (side_set done rest)

one_done : (done : List Bool) (b : Bool) → suc (length done) ≡ length (done ++ b ∷ [])
one_done done b = omega (arith, length-append done (b ∷ []))

-- the slots from here on set the sides from here on
sides_on : (done sides : List Bool) → sides_with (done ++ replicate (length sides) false) (slots_from (length done) sides) ≡ done ++ sides
unfolding slots_from
sides_on done [] = refl
sides_on done (true ∷ sides) =
    ap (λ (l : List Bool). sides_with l (slots_from (suc (length done)) sides)) (side_set done (replicate (length sides) false))
    ∙ ap (λ n. sides_with ((done ++ true ∷ []) ++ replicate (length sides) false) (slots_from n sides)) (one_done done true)
    ∙ sides_on (done ++ true ∷ []) sides
    ∙ append_assoc done (true ∷ []) sides
sides_on done (false ∷ sides) =
    ap (λ (l : List Bool). sides_with l (slots_from (suc (length done)) sides)) (sym (append_assoc done (false ∷ []) (replicate (length sides) false)))
    ∙ ap (λ n. sides_with ((done ++ false ∷ []) ++ replicate (length sides) false) (slots_from n sides)) (one_done done false)
    ∙ sides_on (done ++ false ∷ []) sides
    ∙ append_assoc done (false ∷ []) sides

-- so the slots of sides are those of these sides alone
pub sides_back : (sides : List Bool) (count : ℕ) → count ≡ length sides → sides_of count (slots_from 0 sides) ≡ sides
sides_back sides count same = ap (λ n. sides_of n (slots_from 0 sides)) same ∙ sides_on [] sides

-- they rise
pub slots_rise : (n least : ℕ) (sides : List Bool) → least ≤ n → rise_from least (slots_from n sides) ≡ true
unfolding slots_from
slots_rise n least [] low = refl
slots_rise n least (true ∷ sides) low =
    let next : n + 1 ≤ suc n = omega arith in
    ap (λ b. b && rise_from (n + 1) (slots_from (suc n) sides)) (le-leb least n low) ∙ slots_rise (suc n) (n + 1) sides next
slots_rise n least (false ∷ sides) low = slots_rise (suc n) least sides (omega (arith, low))

-- numbers of two bytes that rise are slots
pub are_slots : (least : ℕ) (slots : List ℕ) → rise_from least slots ≡ true → ((k : ℕ) → get_or slots k 0 < 2 ^ 16) → AreSlots least slots
are_slots least [] rise fit = tt
are_slots least (slot ∷ slots) rise fit =
    let two = and_parts (nat_le least slot) (rise_from (slot + 1) slots) rise in
    (leb-true least slot two.0, fit 0, are_slots (slot + 1) slots two.1 (λ k. fit (suc k)))

-- ---- what a sweep takes

-- a plan's slots are those of the leaf before the sweep, if that was read
pub planned_slots : {B : Type 0} (plan : Planned) (test : Entry B → Bool) (read old : Store B) (page : ℕ) → read ≡ old → PlansSweep test ((tree_of read).node page) plan
    → slots_of plan ≡ swept_slots test ((tree_of old).node page)
planned_slots {B} plan test read old page same plans =
    ap (λ bs. slots_from 0 bs) plans.sides ∙ ap (λ (s : Store B). swept_slots test ((tree_of s).node page)) same

-- what holds of the item at each place holds of each item
each_at : {X : Type 0} (P : X → Type 0) (xs : List X) → ((k : ℕ) (x : X) → slice_get xs k ≡ Some x → P x) → Each P xs
each_at P [] all = tt
each_at P (x ∷ xs) all = (all 0 x refl, each_at P xs (λ k y at. all (suc k) y at))

-- each of its slots is of a marked pair
pub swept_marked : {B : Type 0} (claimed : Entry B → Bool) (node : Node B) → Each (HasMarked node.pairs) (swept_slots claimed node)
swept_marked {B} claimed node =
    let test = is_sweepable (λ (x : Pair B). claimed (entry_of x)) in
    each_at (HasMarked node.pairs) (swept_slots claimed node) (λ k slot at.
    (let found = listed_at test 0 node.pairs k slot at in
    let here : found.0 ≡ slot = omega (arith, found.1) in
    let pair = found.2.0 in
    (pair, ap (λ n. slice_get node.pairs n) (sym here) ∙ found.2.1, (and_parts pair.marked (not (claimed (entry_of pair))) found.2.2).0)))
