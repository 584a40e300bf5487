-- What another session writes leaves a session's call no more to do.
use Rattle.std.proofs.Common.{◌≡◌, ◌≢◌, ℕ, zero, suc, ◌-◌, ◌<◌, ◌≤◌, Bool, true, false, not, ◌&&◌, ◌||◌, List, [], ◌∷◌, ◌++◌, length, None, Some, refl, ap, sym, ◌∙◌, subst, arith}
use Rattle.std.specs.Prelude.{slice_set, if◌then◌else◌}
use Rattle.std.specs.List.{list_any, slice_index_or}
use Rattle.std.proofs.Math.Path.{fun_ext}
use Rattle.gx_machine.specs.declared.entry.Entry.{Entry}
use Rattle.gx_machine.specs.declared.call.Call.{Call}
use Rattle.gx_machine.specs.Sets.{has}
use Rattle.gx_machine.specs.Sessions.{Locks}
use Rattle.gx_machine.specs.Machine.{is_session}
use Rattle.gx_machine.proofs.Places.{session_bounds}
use Rattle.gx_node.specs.Lists.{one_if, how_many}
use Rattle.gx_node.specs.Trees.{Pair, Tree, Used}
use Rattle.gx_node.specs.Legal.{Legal}
use Rattle.gx_node.specs.Steps.{IsAdding, IsMarking, with_mark, Step, Adds, Marks, IsStep}
use Rattle.gx_node.specs.Reach.{TraversalItem}
use Rattle.gx_node.specs.Writes.{is_sweepable, descent_left}
use Rattle.gx_node.proofs.PageSteps.{standing_added, standing_one_marked}
use Rattle.gx_events.specs.Slots.{Note, Slot, Free, Working, Undoing, Waiting, locks_held, slot_at, with_slot}
use Rattle.gx_events.specs.Wants.{is_claimed}
use Rattle.gx_events.proofs.Places.{slot_other}
use Rattle.gx_events.proofs.Standing.{working_there}
use Rattle.gx_recovery.specs.Records.{Record}
use Rattle.gx_index_laws.specs.Classes.{Class, Page, IsLawful, entry_of, is_of}
use Rattle.gx_index_laws.specs.States.{State, Work, Rests, Looks, Descends, Seeks, tree_now, engine_of}
use Rattle.gx_index_laws.specs.Working.{wants_pair, DoesWork}
use Rattle.gx_index_laws.specs.Whole.{IsWhole}
use Rattle.gx_index_laws.specs.Happening.{changed_at, with_record, slotted, with_restored}
use Rattle.gx_index_laws.specs.Measures.{claims_pair, call_left, undo_left, slot_left, work_left}
use Rattle.gx_index_laws.proofs.Tools.{changed_beside, SomeIn, some_in}
use Rattle.gx_index_laws.proofs.Living.{pair_is}
use Rattle.gx_index_laws.proofs.Standing.{is_legal, claimed_somewhere}
use Rattle.gx_index_laws.proofs.Measuring.{on_device}
use Rattle.gx_index_laws.proofs.Meanwhile.{look_stays, seek_stays, descent_kept, leaf_fits}

-- What is listed after one place has changed, if what it lists has not.
listed_alike : {X : Type 0} (test : X → Bool) (i : ℕ) (x y : X) (xs : List X) → i < length xs → test x ≡ test (slice_index_or xs i y) → list_any test (slice_set xs i x) ≡ list_any test xs
listed_alike test i x y [] low same = absurd (omega (arith, low))
listed_alike test zero x y (z ∷ xs) low same = ap (λ b. b || list_any test xs) same
listed_alike test (suc i) x y (z ∷ xs) low same = ap (λ b. test z || b) (listed_alike test i x y xs (omega (arith, low)) same)

marked_claimed : (m b : Bool) → b ≡ true → one_if (m && not b) ≡ 0
marked_claimed true b is = ap (λ d. one_if (not d)) is
marked_claimed false b is = refl

module _ {B : Type 0} (c : Class B) (l : IsLawful c) where
  -- what is claimed, if a session has another slot with the same locks
  claims_alike : (s : ℕ) (slots : List (Slot B)) (x : Slot B) → is_session s ≡ true → length slots ≡ 8 → locks_held x ≡ locks_held (slot_at s slots)
      → claims_pair c (with_slot s x slots) ≡ claims_pair c slots
  claims_alike s slots x is eight same =
      let bounds = session_bounds s is in
      let low = bounds.0 in
      let high = bounds.1 in
      fun_ext (λ y.
      listed_alike (λ slot. has c.keys (entry_of y) (locks_held slot).claims) (s - 1) x Free slots (omega (arith, low, high, eight))
      (ap (λ (z : Locks B). has c.keys (entry_of y) z.claims) (same ∙ ap locks_held (at_place s slots is))))
    where
      at_place : (s : ℕ) (slots : List (Slot B)) → is_session s ≡ true → slot_at s slots ≡ slice_index_or slots (s - 1) Free
      at_place s slots is = ap (λ (b : Bool). if b then slice_index_or slots (s - 1) Free else Free) is

  module _ (old new : Tree B) (legal : Legal c.rules old) (room : new.used ≤ c.pages) (parent : ℕ) (item : TraversalItem) (there : Used old item.page) (claimed : Pair B → Bool) where
    descent_added : (a : ℕ) (x : Pair B) → IsAdding c.rules old new a x → x.marked ≡ false
        → descent_left c.rules new c.pages claimed parent item ≤ descent_left c.rules old c.pages claimed parent item
    descent_added a x is unmarked =
        let stands = standing_added c.rules old new a legal l.rules x is (is_sweepable claimed) in
        let none : one_if (is_sweepable claimed x) ≡ 0 = ap (λ m. one_if (m && not (claimed x))) unmarked in
        descent_kept c l old new legal room parent item there a ((old.node a).pairs ++ x ∷ []) (old.node a).children is.changes refl
        (λ named. leaf_fits c l old new legal room parent item there a is.changes.there is.leaf named) claimed (omega (arith, stands, none))

    descent_marked : (a : ℕ) (e : Entry B) (mark : Bool) → IsMarking c.rules old new a e.row e.key mark → 0 < how_many (is_of c e) (old.node a).pairs
        → ((x : Pair B) → entry_of x ≡ e → claimed x ≡ true) → descent_left c.rules new c.pages claimed parent item ≤ descent_left c.rules old c.pages claimed parent item
    descent_marked a e mark is some claims =
        let p : SomeIn (is_of c e) (old.node a).pairs = some_in (is_of c e) (old.node a).pairs some in
        let y : Pair B = p.one in
        let now : Pair B = record { row = y.row; key = y.key; marked = mark } in
        let stands = standing_one_marked c.rules e.row e.key mark old new a legal is (is_sweepable claimed) p.before p.after y p.parts p.passes in
        let none : one_if (is_sweepable claimed now) ≡ 0 = marked_claimed mark (claimed now) (claims now (pair_is c l e y p.passes)) in
        descent_kept c l old new legal room parent item there a (with_mark c.rules e.row e.key mark (old.node a).pairs) (old.node a).children is.changes refl
        (λ named. leaf_fits c l old new legal room parent item there a is.changes.there is.leaf named) claimed (omega (arith, stands, none))

  module _ (old : State B) (w : IsWhole c old) (r : Record (Entry B) (Page B)) where
    abbrev t : Tree B
    t = tree_now c old

    abbrev then_tree : Tree B
    then_tree = tree_now c (with_record r old)

    legal : Legal c.rules t
    legal = is_legal c l old w

    -- a step after which each descent has no more left leaves each call no more
    module _ (step : Step B) (is : IsStep c.rules t step then_tree) (room : then_tree.used ≤ c.pages)
        (descents : (parent : ℕ) (item : TraversalItem) → Used t item.page → descent_left c.rules then_tree c.pages (claims_pair c old.slots) parent item
        ≤ descent_left c.rules t c.pages (claims_pair c old.slots) parent item) where
      call_after : (slot : Slot B) (work : Work B) → DoesWork c t slot work → call_left c then_tree old.slots work ≤ call_left c t old.slots work
      call_after slot Rests does = omega arith
      call_after slot (Looks stack found) does = let stays = look_stays c l t then_tree legal room (wants_pair c slot) stack found does step is in omega (arith, stays)
      call_after slot (Descends e parent item) does = descents parent item does.descent.there
      call_after slot (Seeks e leaf) does = seek_stays c l t then_tree legal room leaf does.seek.chain step is

      undo_after : (slot : Slot B) (work : Work B) → DoesWork c t slot work → undo_left c then_tree work ≤ undo_left c t work
      undo_after slot Rests does = omega arith
      undo_after slot (Looks stack found) does = omega arith
      undo_after slot (Descends e parent item) does = omega arith
      undo_after slot (Seeks e leaf) does = seek_stays c l t then_tree legal room leaf does.seek.chain step is

      slot_after : (a : ℕ) → slot_left c then_tree old.slots (slot_at a old.slots) (old.work a) (old.restored a) ≤ work_left c old a
      slot_after a = by (slot_at a old.slots) (w.works a)
        where
          by : (slot : Slot B) → DoesWork c t slot (old.work a)
              → slot_left c then_tree old.slots slot (old.work a) (old.restored a) ≤ slot_left c t old.slots slot (old.work a) (old.restored a)
          by Free does = omega arith
          by (Working locks notes None) does = omega arith
          by (Working locks notes (Some call)) does = call_after (Working locks notes (Some call)) (old.work a) does
          by (Undoing locks notes) does = let stays = undo_after (Undoing locks notes) (old.work a) does in omega (arith, stays)
          by (Waiting number) does = omega arith

    claims_left : (slots then_slots : List (Slot B)) → claims_pair c then_slots ≡ claims_pair c slots → (slot : Slot B) (work : Work B) (restored : List (Entry B))
        → slot_left c then_tree then_slots slot work restored ≡ slot_left c then_tree slots slot work restored
    claims_left slots then_slots same Free work restored = refl
    claims_left slots then_slots same (Working locks notes None) work restored = refl
    claims_left slots then_slots same (Working locks notes (Some call)) work restored = by work
      where
        by : (work : Work B) → call_left c then_tree then_slots work ≡ call_left c then_tree slots work
        by Rests = refl
        by (Looks stack found) = refl
        by (Descends e parent item) = ap (λ (claimed : Pair B → Bool). descent_left c.rules then_tree c.pages claimed parent item) same
        by (Seeks e leaf) = refl
    claims_left slots then_slots same (Undoing locks notes) work restored = refl
    claims_left slots then_slots same (Waiting number) work restored = refl

    room_then : then_tree.used ≡ t.used → then_tree.used ≤ c.pages
    room_then same = let fits = on_device c l old w in omega (arith, same, fits)

    claimed_pair : (s : ℕ) (e : Entry B) → has c.keys e (locks_held (slot_at s old.slots)).claims ≡ true → (x : Pair B) → entry_of x ≡ e → claims_pair c old.slots x ≡ true
    claimed_pair s e has_it x is = subst (λ (y : Entry B). is_claimed c.keys y old.slots ≡ true) (sym is) (claimed_somewhere c e s old.slots has_it)

    -- A session's write, as another sees it.
    module _ (s a : ℕ) (ne : a ≢ s) where
      -- the session has answered, with its locks unchanged
      module _ (locks : Locks B) (notes then_notes : List (Note B)) (call : Call B) (at : slot_at s old.slots ≡ Working locks notes (Some call)) where
        abbrev answered : Slot B
        answered = Working locks then_notes None

        there : is_session s ≡ true
        there = working_there c.keys l.keys (engine_of c old) w.sound s locks notes (Some call) at

        other_left : work_left c (slotted s answered Rests (with_record r old)) a ≡ slot_left c then_tree old.slots (slot_at a old.slots) (old.work a) (old.restored a)
        other_left =
            claims_left old.slots (with_slot s answered old.slots) (claims_alike s old.slots answered there w.sound.eight (sym (ap locks_held at)))
            (slot_at a (with_slot s answered old.slots)) (changed_at s Rests old.work a) (changed_at s [] old.restored a)
            ∙ ap (λ (y : Slot B). slot_left c then_tree old.slots y (changed_at s Rests old.work a) (changed_at s [] old.restored a)) (slot_other a s old.slots answered there ne)
            ∙ ap (λ (y : Work B). slot_left c then_tree old.slots (slot_at a old.slots) y (changed_at s [] old.restored a)) (changed_beside s Rests old.work a ne)
            ∙ ap (λ (y : List (Entry B)). slot_left c then_tree old.slots (slot_at a old.slots) (old.work a) y) (changed_beside s [] old.restored a ne)

        pub others_add : (leaf : ℕ) (x : Pair B) → x.marked ≡ false → IsAdding c.rules t then_tree leaf x
            → work_left c (slotted s answered Rests (with_record r old)) a ≤ work_left c old a
        others_add leaf x unmarked is =
            let room : then_tree.used ≤ c.pages = room_then is.changes.used in
            let same = other_left in
            let after = slot_after (Adds leaf x) is room
            (λ parent item u. descent_added t then_tree legal room parent item u (claims_pair c old.slots) leaf x is unmarked) a in
            omega (arith, same, after)

        pub others_mark : (leaf : ℕ) (e : Entry B) (mark : Bool) → has c.keys e locks.claims ≡ true → 0 < how_many (is_of c e) (t.node leaf).pairs
            → IsMarking c.rules t then_tree leaf e.row e.key mark → work_left c (slotted s answered Rests (with_record r old)) a ≤ work_left c old a
        others_mark leaf e mark claimed some is =
            let room : then_tree.used ≤ c.pages = room_then is.changes.used in
            let same = other_left in
            let has_it : has c.keys e (locks_held (slot_at s old.slots)).claims ≡ true = ap (λ (y : Slot B). has c.keys e (locks_held y).claims) at ∙ claimed in
            let after = slot_after (Marks leaf e.row e.key mark) is room
            (λ parent item u. descent_marked t then_tree legal room parent item u (claims_pair c old.slots) leaf e mark is some (claimed_pair s e has_it)) a in
            omega (arith, same, after)

      -- it undoes an entry that it claims
      pub others_undo : (locks : Locks B) (notes : List (Note B)) → slot_at s old.slots ≡ Undoing locks notes → (leaf : ℕ) (e : Entry B) (mark : Bool)
          → has c.keys e locks.claims ≡ true → 0 < how_many (is_of c e) (t.node leaf).pairs → IsMarking c.rules t then_tree leaf e.row e.key mark
          → work_left c (with_restored s e (with_record r old)) a ≤ work_left c old a
      others_undo locks notes at leaf e mark claimed some is =
          let room : then_tree.used ≤ c.pages = room_then is.changes.used in
          let same : work_left c (with_restored s e (with_record r old)) a ≡ slot_left c then_tree old.slots (slot_at a old.slots) (old.work a) (old.restored a) =
          ap (λ (y : Work B). slot_left c then_tree old.slots (slot_at a old.slots) y (changed_at s (e ∷ old.restored s) old.restored a)) (changed_beside s Rests old.work a ne)
          ∙ ap (λ (y : List (Entry B)). slot_left c then_tree old.slots (slot_at a old.slots) (old.work a) y) (changed_beside s (e ∷ old.restored s) old.restored a ne) in
          let has_it : has c.keys e (locks_held (slot_at s old.slots)).claims ≡ true = ap (λ (y : Slot B). has c.keys e (locks_held y).claims) at ∙ claimed in
          let after = slot_after (Marks leaf e.row e.key mark) is room
          (λ parent item u. descent_marked t then_tree legal room parent item u (claims_pair c old.slots) leaf e mark is some (claimed_pair s e has_it)) a in
          omega (arith, same, after)
