-- What is no session's leaves each session's call no more to do: a split, a widening, a sweep, and the log.
use Rattle.std.proofs.Common.{◌≡◌, ℕ, suc, ◌+◌, ◌-◌, ◌*◌, ◌<◌, ◌≤◌, Bool, true, false, not, ◌&&◌, ◌||◌, inl, inr, List, [], ◌∷◌, ◌++◌, map, filter, length, None, Some, refl, ap, sym, ◌∙◌, subst, arith}
use Rattle.std.specs.Prelude.{nat_lt, ◌==◌, if◌then◌else◌}
use Rattle.std.proofs.lemmas.Bool.{cases_eq, lt-ltb, ltb-true}
use Rattle.std.proofs.lemmas.List.{append-nil, append_assoc}
use Rattle.gx_machine.specs.declared.entry.Entry.{Entry}
use Rattle.gx_node.specs.Lists.{one_if}
use Rattle.gx_node.specs.Trees.{Pair, Child, Node, Tree, Used, size, times, child_pages, walk, standing}
use Rattle.gx_node.specs.Legal.{Linked, Legal}
use Rattle.gx_node.specs.Steps.{ChangesOnly, with_key, with_mark, spares, Step, Splits, SplitsRoot, Widens, Adds, Marks, Sweeps, IsStep}
use Rattle.gx_node.specs.Reach.{TraversalItem}
use Rattle.gx_node.specs.Looks.{IsLook}
use Rattle.gx_node.specs.Writes.{is_sweepable, has_place, must_restart, levels_left, descent_left}
use Rattle.gx_node.proofs.Chains.{one_at, one_off, pages_with_key, length_with_key, length_after, linked_once}
use Rattle.gx_node.proofs.Splits.{walk_split}
use Rattle.gx_node.proofs.Roots.{walk_root}
use Rattle.gx_node.proofs.Changes.{level_kept, nsn_kept, pages_kept, walk_kept}
use Rattle.gx_node.proofs.PageSteps.{standing_widened, standing_swept_plain}
use Rattle.gx_node.proofs.Levels.{level_most}
use Rattle.gx_node.proofs.Bounds.{ahead_add}
use Rattle.gx_node.proofs.SplitReach.{ahead_split}
use Rattle.gx_node.proofs.RootReach.{ahead_root}
use Rattle.gx_node.proofs.ChangeReach.{ahead_kept}
use Rattle.gx_node.proofs.DescentFalls.{others_split_falls, others_root_split_falls}
use Rattle.gx_events.specs.Slots.{Slot, Free, Working, Undoing, Waiting, slot_at}
use Rattle.gx_recovery.specs.Known.{Known}
use Rattle.gx_recovery.specs.Records.{Record}
use Rattle.gx_recovery.specs.Redo.{tree_of}
use Rattle.gx_recovery.specs.Logged.{all_records, begun, gate_synced, AgreesBeside}
use Rattle.gx_recovery.specs.Life.{AllWritten}
use Rattle.gx_recovery.specs.Renewal.{renewed}
use Rattle.gx_recovery.proofs.States.{tree_agrees}
use Rattle.gx_recovery.proofs.Tests.{and_first, and_second}
use Rattle.gx_recovery.proofs.Logs.{and_all}
use Rattle.gx_index_laws.specs.Classes.{Class, Page, IsLawful, tree_in, known_of}
use Rattle.gx_index_laws.specs.Steps.{IsPageStep}
use Rattle.gx_index_laws.specs.States.{State, Work, Rests, Looks, Descends, Seeks, tree_now}
use Rattle.gx_index_laws.specs.Working.{wants_pair, DoesWork}
use Rattle.gx_index_laws.specs.Whole.{IsWhole}
use Rattle.gx_index_laws.specs.Happening.{with_record}
use Rattle.gx_index_laws.specs.Measures.{look_left, seek_left, claims_pair, call_left, undo_left, slot_left, work_left}
use Rattle.gx_index_laws.proofs.Tools.{not_true}
use Rattle.gx_index_laws.proofs.Standing.{known_lawful, is_legal}
use Rattle.gx_index_laws.proofs.Logging.{new_tree}

-- a test that fails less often makes less begin again
wider : (x y was now : Bool) → (was ≡ true → now ≡ true) → (x || (y && not now)) ≡ true → (x || (y && not was)) ≡ true
wider true y was now h e = refl
wider false true true now h e = not_true (not now) e (ap not (h refl))
wider false true false now h e = refl
wider false false was now h e = e

levels_by : (was now : Bool) (top level then_top then_level : ℕ) → (now ≡ true → was ≡ true) → then_top ≡ top → then_level ≡ level → level ≤ top
    → (if now then suc then_top else then_level) ≤ (if was then suc top else level)
levels_by true true top level then_top then_level h same here low = omega (arith, same)
levels_by true false top level then_top then_level h same here low = omega (arith, here, low)
levels_by false true top level then_top then_level h same here low = let no : false ≡ true = h refl in let none : ⊥ = cc in absurd none
levels_by false false top level then_top then_level h same here low = omega (arith, here)

module _ {B : Type 0} (c : Class B) (l : IsLawful c) (old new : Tree B) (legal : Legal c.rules old) (room : new.used ≤ c.pages) where
  -- A look: of the page that a split takes it has no more to read than there are pages less.
  module _ (wants : Pair B → Bool) (stack : List TraversalItem) (found : List (Pair B)) (look : IsLook old wants stack found) where
    pub look_stays : (step : Step B) → IsStep c.rules old step new → look_left c new stack ≤ look_left c old stack
    look_stays (Splits n p sides left right) is =
        let same = ahead_split c.rules l.rules old new n p sides left right legal is (λ q. 1) (λ q. 1 + one_if (q == n))
        (let e = one_at n n refl in omega (arith, e)) (λ q u ne. (let e = one_off q n ne in omega (arith, e))) stack look.items in
        let add = ahead_add old (λ q. 1) (λ q. one_if (q == n)) stack in
        let once = look.once n in
        let used = is.used in
        omega (arith, same, add, once, used, room)
    look_stays (SplitsRoot sides left right) is =
        let same = ahead_root c.rules old new sides left right legal is (λ q. 1) (λ q. 1 + (one_if (q == 1) + one_if (q == 1)))
        (let e = one_at 1 1 refl in omega (arith, e)) (λ q u ne. (let e = one_off q 1 ne in omega (arith, e))) stack look.items in
        let add = ahead_add old (λ q. 1) (λ q. one_if (q == 1) + one_if (q == 1)) stack in
        let twice = ahead_add old (λ q. one_if (q == 1)) (λ q. one_if (q == 1)) stack in
        let once = look.once 1 in
        let used = is.used in
        omega (arith, same, add, twice, once, used, room)
    look_stays (Widens a x coming key) is =
        let same = ahead_kept old new a (old.node a).pairs (with_key x key (old.node a).children) is.changes (pages_with_key x key (old.node a).children) (λ q. 1) (λ q. 1) (λ q. refl) stack look.items in
        let used = is.changes.used in
        omega (arith, same, used)
    look_stays (Adds a x) is =
        let same = ahead_kept old new a ((old.node a).pairs ++ x ∷ []) (old.node a).children is.changes refl (λ q. 1) (λ q. 1) (λ q. refl) stack look.items in
        let used = is.changes.used in
        omega (arith, same, used)
    look_stays (Marks a row key mark) is =
        let same = ahead_kept old new a (with_mark c.rules row key mark (old.node a).pairs) (old.node a).children is.changes refl (λ q. 1) (λ q. 1) (λ q. refl) stack look.items in
        let used = is.changes.used in
        omega (arith, same, used)
    look_stays (Sweeps a claimed) is =
        let same = ahead_kept old new a (filter (spares claimed) (old.node a).pairs) (old.node a).children is.changes refl (λ q. 1) (λ q. 1) (λ q. refl) stack look.items in
        let used = is.changes.used in
        omega (arith, same, used)

  -- A seek: a split puts one leaf to the right of it at most.
  module _ (a : ℕ) (chain : Linked old a (walk old old.used a)) where
    seek_kept : (b : ℕ) (pairs : List (Pair B)) (children : List (Child B)) → ChangesOnly old new b pairs children → seek_left c new a ≤ seek_left c old a
    seek_kept b pairs children changes =
        let same = ap (λ (xs : List ℕ). length xs) (walk_kept old new b pairs children changes a chain) in
        let used = changes.used in
        omega (arith, same, used)

    pub seek_stays : (step : Step B) → IsStep c.rules old step new → seek_left c new a ≤ seek_left c old a
    seek_stays (Splits n p sides left right) is =
        let same = ap (λ (xs : List ℕ). length xs) (walk_split c.rules l.rules old new n p sides left right legal is a chain) in
        let long = length_after n (suc old.used) (walk old old.used a) in
        let once = linked_once old n a (walk old old.used a) chain in
        let used = is.used in
        omega (arith, same, long, once, used, room)
    seek_stays (SplitsRoot sides left right) is =
        let same = ap (λ (xs : List ℕ). length xs) (walk_root c.rules old new sides left right legal is a chain) in
        let used = is.used in
        omega (arith, same, used)
    seek_stays (Widens b x coming key) is = seek_kept b (old.node b).pairs (with_key x key (old.node b).children) is.changes
    seek_stays (Adds b x) is = seek_kept b ((old.node b).pairs ++ x ∷ []) (old.node b).children is.changes
    seek_stays (Marks b row key mark) is = seek_kept b (with_mark c.rules row key mark (old.node b).pairs) (old.node b).children is.changes
    seek_stays (Sweeps b claimed) is = seek_kept b (filter (spares claimed) (old.node b).pairs) (old.node b).children is.changes

  -- A descent: a page in use counts for more than all levels, and no level comes in any other way.
  module _ (parent : ℕ) (item : TraversalItem) (there : Used old item.page) where
    module _ (a : ℕ) (pairs : List (Pair B)) (children : List (Child B)) (changes : ChangesOnly old new a pairs children)
        (pages : map (λ (d : Child B). d.page) children ≡ child_pages (old.node a))
        (fits : 0 < times item.page (child_pages (old.node a)) → length pairs + length children ≤ size (old.node a)) where
      size_stays : 0 < times item.page (child_pages (old.node parent)) → size (new.node parent) ≤ size (old.node parent)
      size_stays named = elim (cases_eq parent a) [
        | inl e ↦
            (let less = fits (subst (λ q. 0 < times item.page (child_pages (old.node q))) e named) in
            let here = ap (λ (z : Node B). size z) changes.changed in
            subst (λ q. size (new.node q) ≤ size (old.node q)) (sym e) (omega (arith, here, less)))
        | inr ne ↦ (let same = ap (λ (z : Node B). size z) (changes.others parent ne) in omega (arith, same))
      ]

      place_stays : has_place c.rules old parent item.page ≡ true → has_place c.rules new parent item.page ≡ true
      place_stays was =
          let named : nat_lt 0 (times item.page (child_pages (old.node parent))) ≡ true =
          and_first (nat_lt 0 (times item.page (child_pages (old.node parent)))) (nat_lt (size (old.node parent)) c.rules.most) was in
          let space = ltb-true (size (old.node parent)) c.rules.most
          (and_second (nat_lt 0 (times item.page (child_pages (old.node parent)))) (nat_lt (size (old.node parent)) c.rules.most) was) in
          let less = size_stays (ltb-true 0 (times item.page (child_pages (old.node parent))) named) in
          and_all (nat_lt 0 (times item.page (child_pages (new.node parent)))) (nat_lt (size (new.node parent)) c.rules.most)
          (ap (λ (xs : List ℕ). nat_lt 0 (times item.page xs)) (pages_kept old new a pairs children changes pages parent) ∙ named)
          (lt-ltb (size (new.node parent)) c.rules.most (omega (arith, space, less)))

      restart_stays : must_restart c.rules new parent item ≡ true → must_restart c.rules old parent item ≡ true
      restart_stays now =
          wider (nat_lt item.seen (old.node item.page).nsn) (not (item.page == 1)) (has_place c.rules old parent item.page) (has_place c.rules new parent item.page) place_stays
          (ap (λ (n : ℕ). nat_lt item.seen n || (not (item.page == 1) && not (has_place c.rules new parent item.page))) (sym (nsn_kept old new a pairs children changes item.page)) ∙ now)

      levels_stay : levels_left c.rules new parent item ≤ levels_left c.rules old parent item
      levels_stay =
          levels_by (must_restart c.rules old parent item) (must_restart c.rules new parent item) (old.node 1).level (old.node item.page).level (new.node 1).level (new.node item.page).level
          restart_stays (level_kept old new a pairs children changes 1) (level_kept old new a pairs children changes item.page) (level_most c.rules old legal item.page there)

      pub descent_kept : (claimed : Pair B → Bool) → standing (is_sweepable claimed) new ≤ standing (is_sweepable claimed) old
          → descent_left c.rules new c.pages claimed parent item ≤ descent_left c.rules old c.pages claimed parent item
      descent_kept claimed stands =
          let levels = levels_stay in
          let free : (c.pages - new.used) * (c.pages + 1) ≡ (c.pages - old.used) * (c.pages + 1) = ap (λ k. (c.pages - k) * (c.pages + 1)) changes.used in
          omega (arith, levels, stands, free)

    pub leaf_fits : (a : ℕ) → Used old a → (old.node a).level ≡ 0 → {A : Type 0} → 0 < times item.page (child_pages (old.node a)) → A
    leaf_fits a u bottom named =
        let none = ap (λ (ds : List (Child B)). times item.page (map (λ (d : Child B). d.page) ds)) ((legal.pages a u).leaf bottom) in
        absurd (omega (arith, none, named))

    pub descent_stays : (claimed : Pair B → Bool) (step : Step B) → IsPageStep step → IsStep c.rules old step new
        → descent_left c.rules new c.pages claimed parent item ≤ descent_left c.rules old c.pages claimed parent item
    descent_stays claimed (Splits n p sides left right) page is =
        let falls = others_split_falls c.rules c.pages claimed l.rules old new legal parent item there n p sides left right is room in omega (arith, falls)
    descent_stays claimed (SplitsRoot sides left right) page is =
        let falls = others_root_split_falls c.rules c.pages claimed l.rules old new legal parent item there sides left right is room in omega (arith, falls)
    descent_stays claimed (Widens a x coming key) page is =
        let stands = standing_widened c.rules old new a legal l.rules x coming key is (is_sweepable claimed) in
        let long = length_with_key x key (old.node a).children in
        descent_kept a (old.node a).pairs (with_key x key (old.node a).children) is.changes (pages_with_key x key (old.node a).children) (λ named. omega (arith, long)) claimed
        (omega (arith, stands))
    descent_stays claimed (Adds a x) page is = absurd page
    descent_stays claimed (Marks a row key mark) page is = absurd page
    descent_stays claimed (Sweeps a others) page is =
        let stands = standing_swept_plain c.rules old new a legal others is (is_sweepable claimed) in
        descent_kept a (filter (spares others) (old.node a).pairs) (old.node a).children is.changes refl (λ named. leaf_fits a is.changes.there is.leaf named) claimed
        (omega (arith, stands))

-- The log goes on.
module _ {B : Type 0} (c : Class B) (old : State B) where
  abbrev k : Known (Entry B) (Page B)
  k = known_of c

  abbrev left_over : Tree B → ℕ → ℕ
  left_over tree s = slot_left c tree old.slots (slot_at s old.slots) (old.work s) (old.restored s)

  pub begun_stays : old.log.flight ≡ [] → (s : ℕ) → work_left c (record old { log = begun old.log }) s ≡ work_left c old s
  begun_stays none s =
      let same : all_records (begun old.log) ≡ all_records old.log = ap (λ x. old.log.gated ++ x) (append-nil old.log.filling ∙ sym (ap (λ x. x ++ old.log.filling) none)) in
      ap (λ x. left_over (tree_in (tree_of k old.log.area x)) s) same

  pub written_stays : IsLawful c → (area : ℕ → Page B) → AgreesBeside old.log.gated old.log.area area → (s : ℕ)
      → work_left c (record old { log = record old.log { area = area } }) s ≡ work_left c old s
  written_stays l area agrees s =
      ap (λ x. left_over (tree_in x) s) (tree_agrees k (known_lawful c l) old.log.gated (old.log.flight ++ old.log.filling) old.log.area area agrees)

  pub synced_stays : (older : List (List (Entry B))) (oldest s : ℕ) → work_left c (record old { log = gate_synced old.log; older = older; oldest = oldest }) s ≡ work_left c old s
  synced_stays older oldest s = ap (λ x. left_over (tree_in (tree_of k old.log.area x)) s) (append_assoc old.log.gated old.log.flight old.log.filling)

module _ {B : Type 0} (c : Class B) (l : IsLawful c) (old : State B) (w : IsWhole c old) where
  abbrev t : Tree B
  t = tree_now c old

  legal : Legal c.rules t
  legal = is_legal c l old w

  -- A step of the tree that is no session's.
  module _ (r : Record (Entry B) (Page B)) (step : Step B) (page : IsPageStep step) (is : IsStep c.rules t step (tree_now c (with_record r old)))
      (room : (tree_now c (with_record r old)).used ≤ c.pages) where
    abbrev then_tree : Tree B
    then_tree = tree_now c (with_record r old)

    call_stays : (slot : Slot B) (work : Work B) → DoesWork c t slot work → call_left c then_tree old.slots work ≤ call_left c t old.slots work
    call_stays slot Rests does = omega arith
    call_stays slot (Looks stack found) does =
        let stays = look_stays c l t then_tree legal room (wants_pair c slot) stack found does step is in
        omega (arith, stays)
    call_stays slot (Descends e parent item) does =
        descent_stays c l t then_tree legal room parent item does.descent.there (claims_pair c old.slots) step page is
    call_stays slot (Seeks e leaf) does = seek_stays c l t then_tree legal room leaf does.seek.chain step is

    undo_stays : (slot : Slot B) (work : Work B) → DoesWork c t slot work → undo_left c then_tree work ≤ undo_left c t work
    undo_stays slot Rests does = omega arith
    undo_stays slot (Looks stack found) does = omega arith
    undo_stays slot (Descends e parent item) does = omega arith
    undo_stays slot (Seeks e leaf) does = seek_stays c l t then_tree legal room leaf does.seek.chain step is

    pub page_step_stays : (s : ℕ) → work_left c (with_record r old) s ≤ work_left c old s
    page_step_stays s = by (slot_at s old.slots) (w.works s)
      where
        by : (slot : Slot B) → DoesWork c t slot (old.work s)
            → slot_left c then_tree old.slots slot (old.work s) (old.restored s) ≤ slot_left c t old.slots slot (old.work s) (old.restored s)
        by Free does = omega arith
        by (Working locks notes None) does = omega arith
        by (Working locks notes (Some call)) does = call_stays (Working locks notes (Some call)) (old.work s) does
        by (Undoing locks notes) does =
            let stays = undo_stays (Undoing locks notes) (old.work s) does in
            omega (arith, stays)
        by (Waiting number) does = omega arith

  pub renewed_stays : old.log.flight ≡ [] → old.log.filling ≡ [] → AllWritten old.log → (next s : ℕ)
      → work_left c (record old { log = record old.log { gated = renewed (known_of c) next old.log.gated } }) s ≡ work_left c old s
  renewed_stays no_flight no_filling written next s = ap (λ x. left_over c old (tree_in x) s) (new_tree c l old w no_flight no_filling written next)
