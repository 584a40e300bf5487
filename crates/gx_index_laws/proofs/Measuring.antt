-- What an unanswered call has left falls with each of its own moves.
use Rattle.std.proofs.Common.{◌≡◌, ℕ, zero, suc, ◌+◌, ◌-◌, ◌*◌, ◌^◌, ◌<◌, ◌≤◌, Bool, true, false, not, ◌&&◌, ◌||◌, inl, inr, List, [], ◌∷◌, length, None, Some, refl, ap, sym, ◌∙◌, subst, arith}
use Rattle.std.specs.Prelude.{nat_le, is_some, if◌then◌else◌}
use Rattle.std.specs.List.{list_all, slice_index_or}
use Rattle.std.proofs.lemmas.Bool.{leb-true}
use Rattle.std.proofs.lemmas.List.Sums.{sum_by-cons}
use Rattle.std.proofs.Math.Nat.{mul-le-mul_left, mul-le-mul_right}
use Rattle.gx_machine.specs.declared.entry.Entry.{Entry}
use Rattle.gx_machine.specs.declared.call.Call.{Call}
use Rattle.gx_machine.specs.declared.call.Call.TheVariants.{Insert, Commit}
use Rattle.gx_machine.specs.Keys.{same_entry}
use Rattle.gx_machine.specs.Sets.{has}
use Rattle.gx_machine.specs.Sessions.{Locks}
use Rattle.gx_machine.specs.Machine.{is_session}
use Rattle.gx_machine.proofs.SetLaws.{same_is}
use Rattle.gx_node.specs.Lists.{one_if, how_many}
use Rattle.gx_node.specs.Trees.{Pair, Tree, Used, size, child_pages, times}
use Rattle.gx_node.specs.Legal.{Legal}
use Rattle.gx_node.specs.Steps.{IsSplit, IsRootSplit, IsWidening, IsSweep}
use Rattle.gx_node.specs.Reach.{TraversalItem, pages_ahead}
use Rattle.gx_node.specs.Looks.{IsLook, from_root, stacked}
use Rattle.gx_node.specs.Writes.{is_sweepable, must_restart, levels_left, descent_left}
use Rattle.gx_node.proofs.Bounds.{pages_most}
use Rattle.gx_node.proofs.Chains.{length_walk}
use Rattle.gx_node.proofs.DescentFalls.{restart_falls, down_falls, widened_falls, swept_falls, split_falls, root_split_falls}
use Rattle.gx_node.proofs.Levels.{level_below_used, standing_most}
use Rattle.gx_node.proofs.OwnLook.{pages_fall}
use Rattle.gx_node.proofs.SeekSteps.{seek_goes_right}
use Rattle.gx_events.specs.Slots.{Note, Slot, Free, Working, Undoing, Waiting, locks_held, slot_at, noted}
use Rattle.gx_events.specs.Engines.{HoldsItsLocks}
use Rattle.gx_events.specs.Asking.{claims_held}
use Rattle.gx_events.proofs.Noted.{noted_has}
use Rattle.gx_events.proofs.Locking.{noted_is_claimed}
use Rattle.gx_recovery.specs.Known.{Known}
use Rattle.gx_recovery.specs.Records.{Record}
use Rattle.gx_recovery.specs.Analysis.{analysis}
use Rattle.gx_recovery.specs.Damage.{touch_fits, apart, transactions}
use Rattle.gx_recovery.specs.Logged.{all_records}
use Rattle.gx_recovery.proofs.Renewals.{log_fits}
use Rattle.gx_recovery.proofs.Tests.{and_first, either_of}
use Rattle.gx_index_laws.specs.Classes.{Class, Page, IsLawful, is_of, known_of}
use Rattle.gx_index_laws.specs.States.{State, Work, Rests, Looks, Descends, Seeks, tree_now}
use Rattle.gx_index_laws.specs.Working.{wants_pair, DescendsFor, SeeksFor, DoesWork}
use Rattle.gx_index_laws.specs.Whole.{IsWhole}
use Rattle.gx_index_laws.specs.Happening.{with_record, with_work, with_restored}
use Rattle.gx_index_laws.specs.Measures.{pages_free, look_left, seek_left, claims_pair, descent_most, call_left, entries_left, undo_left, slot_left, work_left}
use Rattle.gx_index_laws.proofs.Tools.{changed_here, halves, less_pass}
use Rattle.gx_index_laws.proofs.Living.{same_refl}
use Rattle.gx_index_laws.proofs.Standing.{known_lawful, is_log, is_legal}

product : (a b c d : ℕ) → a ≤ c → b ≤ d → a * b ≤ c * d
product a b c d le me = let p = mul-le-mul_left a me in let q = mul-le-mul_right d le in omega (arith, p, q)

-- one page more for each entry that is restored
fewer_entries : (new old pages : ℕ) → new < old → new * (pages + 2) + (pages + 1) < old * (pages + 2)
fewer_entries new old pages less =
    let all : suc new * (pages + 2) ≤ old * (pages + 2) = mul-le-mul_right (pages + 2) less in
    omega (arith, all)

-- a narrower test that one of a list no longer passes
pub fewer_pass : {X : Type 0} (p q : X → Bool) → ((x : X) → q x ≡ true → p x ≡ true) → (xs : List X) → 0 < how_many (λ x. p x && not (q x)) xs → how_many q xs < how_many p xs
fewer_pass p q narrow xs some =
    let parts = halves p q xs in
    let most = less_pass q (λ x. p x && q x) (λ x is. both (p x) (q x) (narrow x is) is) xs in
    omega (arith, parts, most, some)
  where
    both : (a b : Bool) → a ≡ true → b ≡ true → (a && b) ≡ true
    both true true f s = refl
    both true false f s = s
    both false b f s = f

-- no more pass than are listed
few_pass : {X : Type 0} (p : X → Bool) (xs : List X) → how_many p xs ≤ length xs
few_pass p [] = omega arith
few_pass p (x ∷ xs) = let rest = few_pass p xs in let one = at_most_one (p x) in omega (arith, rest, one)
  where
    at_most_one : (b : Bool) → one_if b ≤ 1
    at_most_one true = omega arith
    at_most_one false = omega arith

-- a slot's claims are some of those held in all
claims_at : {B : Type 0} (i : ℕ) (slots : List (Slot B)) → length (locks_held (slice_index_or slots i Free)).claims ≤ claims_held slots
claims_at i [] = omega arith
claims_at zero (x ∷ slots) = omega (arith, sum_by-cons (λ y. length (locks_held y).claims) x slots)
claims_at (suc i) (x ∷ slots) = omega (arith, claims_at i slots, sum_by-cons (λ y. length (locks_held y).claims) x slots)

session_claims : {B : Type 0} (s : ℕ) (slots : List (Slot B)) → length (locks_held (slot_at s slots)).claims ≤ claims_held slots
session_claims s slots = by (is_session s)
  where
    by : (b : Bool) → length (locks_held (if b then slice_index_or slots (s - 1) Free else Free)).claims ≤ claims_held slots
    by true = claims_at (s - 1) slots
    by false = omega arith

module _ {B : Type 0} (c : Class B) where
  -- by a session's slot, and its work
  pub left_of : (st : State B) (s : ℕ) (slot : Slot B) (work : Work B) → slot_at s st.slots ≡ slot → st.work s ≡ work
      → work_left c st s ≡ slot_left c (tree_now c st) st.slots slot work (st.restored s)
  left_of st s slot work at is =
      ap (λ (x : Slot B). slot_left c (tree_now c st) st.slots x (st.work s) (st.restored s)) at
      ∙ ap (λ (x : Work B). slot_left c (tree_now c st) st.slots slot x (st.restored s)) is

  pub turned_left : (st : State B) (s : ℕ) (slot : Slot B) (work : Work B) → slot_at s st.slots ≡ slot
      → work_left c (with_work s work st) s ≡ slot_left c (tree_now c st) st.slots slot work (st.restored s)
  turned_left st s slot work at = left_of (with_work s work st) s slot work at (changed_here s work st.work s refl)

  module _ (l : IsLawful c) where
    -- a listed entry counts
    has_counts : (e : Entry B) (test : Entry B → Bool) → test e ≡ true → (xs : List (Entry B)) → has c.keys e xs ≡ true → 0 < how_many test xs
    has_counts e test passes [] h = let no : ⊥ = cc in absurd no
    has_counts e test passes (x ∷ xs) h =
        elim (either_of (same_entry c.keys e x) (has c.keys e xs) h) [
          | inl here ↦ (let one = ap (λ b. one_if b) (subst (λ y. test y ≡ true) (same_is c.keys l.keys e x here) passes) in omega (arith, one))
          | inr later ↦ (let rest = has_counts e test passes xs later in omega (arith, rest))
        ]

    restored_more : (a b d : Bool) → (a && not (b || d)) ≡ true → (a && not d) ≡ true
    restored_more true true d h = let no : ⊥ = cc in absurd no
    restored_more true false d h = h
    restored_more false b d h = h

    just_restored : (a b d : Bool) → a ≡ true → b ≡ true → d ≡ false → ((a && not d) && not (a && not (b || d))) ≡ true
    just_restored true true true f s t = sym t
    just_restored true true false f s t = refl
    just_restored true false d f s t = let no : ⊥ = cc in absurd no
    just_restored false b d f s t = let no : ⊥ = cc in absurd no

    module _ (old : State B) (w : IsWhole c old) where
      abbrev t : Tree B
      t = tree_now c old

      legal : Legal c.rules t
      legal = is_legal c l old w

      pub on_device : t.used ≤ c.pages
      on_device =
          let k : Known (Entry B) (Page B) = known_of c in
          let a = analysis k (all_records old.log) in
          leb-true a.used c.pages
          (and_first (nat_le a.used c.pages) (list_all (touch_fits k a.used) a.touched && (apart k a.touched && (nat_le (transactions a.touched) 8 && nat_le (length a.touched) 512)))
          (log_fits k (known_lawful c l) (all_records old.log) (is_log c l old w)))

      root_taken : Used t 1
      root_taken = let h = legal.counter in (omega arith, omega (arith, h))

      levels_most : (parent : ℕ) (item : TraversalItem) → Used t item.page → levels_left c.rules t parent item ≤ t.used
      levels_most parent item u = by (must_restart c.rules t parent item)
        where
          by : (b : Bool) → (if b then suc (t.node 1).level else (t.node item.page).level) ≤ t.used
          by true = let h = level_below_used c.rules t legal 1 root_taken in omega (arith, h)
          by false = let h = level_below_used c.rules t legal item.page u in omega (arith, h)

      pub descent_below : (slots : List (Slot B)) (parent : ℕ) (item : TraversalItem) → Used t item.page
          → descent_left c.rules t c.pages (claims_pair c slots) parent item < descent_most c
      descent_below slots parent item u =
          let levels = levels_most parent item u in
          let pairs = standing_most c.rules t legal (is_sweepable (claims_pair c slots)) in
          let room = on_device in
          let free = product (c.pages - t.used) (c.pages + 1) c.pages (c.pages + 1) (omega arith) (omega arith) in
          let marked = product t.used c.rules.most c.pages c.rules.most room (omega arith) in
          omega (arith, levels, pairs, free, marked, room)

      pub seek_below : (leaf : ℕ) → seek_left c t leaf ≤ c.pages
      seek_below leaf = let most = length_walk t t.used leaf in let room = on_device in omega (arith, most, room)

      -- A look.
      module _ (s : ℕ) (locks : Locks B) (notes : List (Note B)) (call : Call B) (at : slot_at s old.slots ≡ Working locks notes (Some call)) where
        abbrev slot : Slot B
        slot = Working locks notes (Some call)

        look_of : (stack : List TraversalItem) (found : List (Pair B)) → old.work s ≡ Looks stack found → IsLook t (wants_pair c (slot_at s old.slots)) stack found
        look_of stack found is = subst (λ (x : Work B). DoesWork c t (slot_at s old.slots) x) is (w.works s)

        look_now : (stack : List TraversalItem) (found : List (Pair B)) → old.work s ≡ Looks stack found → work_left c old s ≡ descent_most c + (pages_ahead t stack + pages_free c t)
        look_now stack found is = left_of old s slot (Looks stack found) at is

        pub look_falls : (item : TraversalItem) (stack : List TraversalItem) (found then_found : List (Pair B)) (leads : B → Bool) → old.work s ≡ Looks (item ∷ stack) found
            → work_left c (with_work s (Looks (stacked t leads item stack) then_found) old) s < work_left c old s
        look_falls item stack found then_found leads is =
            let falls = pages_fall c.rules t legal leads item stack ((look_of (item ∷ stack) found is).items).0 in
            let was = look_now (item ∷ stack) found is in
            let now : work_left c (with_work s (Looks (stacked t leads item stack) then_found) old) s ≡ descent_most c + (pages_ahead t (stacked t leads item stack) + pages_free c t) =
            turned_left old s slot (Looks (stacked t leads item stack) then_found) at in
            omega (arith, falls, was, now)

        pub look_descends_falls : (stack : List TraversalItem) (found : List (Pair B)) (e : Entry B) (parent : ℕ) (item : TraversalItem) → old.work s ≡ Looks stack found → Used t item.page
            → work_left c (with_work s (Descends e parent item) old) s < work_left c old s
        look_descends_falls stack found e parent item is u =
            let below = descent_below old.slots parent item u in
            let was = look_now stack found is in
            let now : work_left c (with_work s (Descends e parent item) old) s ≡ descent_left c.rules t c.pages (claims_pair c old.slots) parent item =
            turned_left old s slot (Descends e parent item) at in
            omega (arith, below, was, now)

        pub look_seeks_falls : (stack : List TraversalItem) (found : List (Pair B)) (e : Entry B) (leaf : ℕ) → old.work s ≡ Looks stack found
            → work_left c (with_work s (Seeks e leaf) old) s < work_left c old s
        look_seeks_falls stack found e leaf is =
            let below = seek_below leaf in
            let was = look_now stack found is in
            let now : work_left c (with_work s (Seeks e leaf) old) s ≡ seek_left c t leaf = turned_left old s slot (Seeks e leaf) at in
            omega (arith, below, was, now)

        -- A descent.
        module _ (e : Entry B) (parent : ℕ) (item : TraversalItem) (is : old.work s ≡ Descends e parent item) where
          descent_of : DescendsFor c t (slot_at s old.slots) e parent item
          descent_of = subst (λ (x : Work B). DoesWork c t (slot_at s old.slots) x) is (w.works s)

          descent_now : work_left c old s ≡ descent_left c.rules t c.pages (claims_pair c old.slots) parent item
          descent_now = left_of old s slot (Descends e parent item) at is

          then_left : (st : State B) (then_parent : ℕ) (then_item : TraversalItem) → slot_at s st.slots ≡ slot
              → work_left c (with_work s (Descends e then_parent then_item) st) s ≡ descent_left c.rules (tree_now c st) c.pages (claims_pair c st.slots) then_parent then_item
          then_left st then_parent then_item there = turned_left st s slot (Descends e then_parent then_item) there

          pub restarts : must_restart c.rules t parent item ≡ true → work_left c (with_work s (Descends e 0 (from_root t)) old) s < work_left c old s
          restarts must =
              let falls = restart_falls c.rules c.pages (claims_pair c old.slots) t legal parent item must in
              let was = descent_now in
              let now = then_left old 0 (from_root t) at in
              omega (arith, falls, was, now)

          pub goes_down : (x : ℕ) → size (t.node item.page) < c.rules.most → 0 < times x (child_pages (t.node item.page))
              → work_left c (with_work s (Descends e item.page (record { page = x; seen = t.counter })) old) s < work_left c old s
          goes_down x space named =
              let falls = down_falls c.rules c.pages (claims_pair c old.slots) t legal parent item x descent_of.descent.there space named in
              let was = descent_now in
              let now = then_left old item.page (record { page = x; seen = t.counter }) at in
              omega (arith, falls, was, now)

          -- its steps that are records
          module _ (r : Record (Entry B) (Page B)) where
            abbrev then_tree : Tree B
            then_tree = tree_now c (with_record r old)

            pub widens : (x : ℕ) (coming key : B) → IsWidening c.rules t then_tree item.page x coming key → size (t.node item.page) < c.rules.most
                → 0 < times x (child_pages (t.node item.page))
                → work_left c (with_work s (Descends e item.page (record { page = x; seen = then_tree.counter })) (with_record r old)) s < work_left c old s
            widens x coming key step space named =
                let falls = widened_falls c.rules c.pages (claims_pair c old.slots) l.rules t then_tree legal parent item x coming key step space named in
                let was = descent_now in
                let now = then_left (with_record r old) item.page (record { page = x; seen = then_tree.counter }) at in
                omega (arith, falls, was, now)

            pub sweeps : IsSweep t then_tree item.page (claims_pair c old.slots) → 0 < how_many (is_sweepable (claims_pair c old.slots)) (t.node item.page).pairs
                → work_left c (with_record r old) s < work_left c old s
            sweeps step some =
                let falls = swept_falls c.rules c.pages (claims_pair c old.slots) t then_tree legal parent item step descent_of.apart some in
                let was = descent_now in
                let now : work_left c (with_record r old) s ≡ descent_left c.rules then_tree c.pages (claims_pair c old.slots) parent item =
                left_of (with_record r old) s slot (Descends e parent item) at is in
                omega (arith, falls, was, now)

            pub splits : (n p : ℕ) (sides : List Bool) (left right : B) → IsSplit c.rules t then_tree n p sides left right → then_tree.used ≤ c.pages
                → work_left c (with_work s (Descends e 0 (from_root then_tree)) (with_record r old)) s < work_left c old s
            splits n p sides left right step room =
                let falls = split_falls c.rules c.pages (claims_pair c old.slots) l.rules t then_tree legal parent item n p sides left right step room in
                let was = descent_now in
                let now = then_left (with_record r old) 0 (from_root then_tree) at in
                omega (arith, falls, was, now)

            pub splits_root : (sides : List Bool) (left right : B) → IsRootSplit c.rules t then_tree sides left right → then_tree.used ≤ c.pages
                → work_left c (with_work s (Descends e 0 (from_root then_tree)) (with_record r old)) s < work_left c old s
            splits_root sides left right step room =
                let falls = root_split_falls c.rules c.pages (claims_pair c old.slots) l.rules t then_tree legal parent item sides left right step room in
                let was = descent_now in
                let now = then_left (with_record r old) 0 (from_root then_tree) at in
                omega (arith, falls, was, now)

      -- A seek, of an open call or of an undo.
      seek_of : (s : ℕ) (e : Entry B) (leaf : ℕ) → old.work s ≡ Seeks e leaf → SeeksFor c t (slot_at s old.slots) e leaf
      seek_of s e leaf is = subst (λ (x : Work B). DoesWork c t (slot_at s old.slots) x) is (w.works s)

      right_falls : (s : ℕ) (e : Entry B) (leaf : ℕ) → old.work s ≡ Seeks e leaf → how_many (is_of c e) (t.node leaf).pairs ≡ 0
          → seek_left c t (t.node leaf).right < seek_left c t leaf
      right_falls s e leaf is none =
          let falls = (seek_goes_right c.rules leaf e.row e.key t (seek_of s e leaf is).seek none).1 in
          omega (arith, falls)

      pub seek_falls : (s : ℕ) (locks : Locks B) (notes : List (Note B)) (call : Call B) → slot_at s old.slots ≡ Working locks notes (Some call)
          → (e : Entry B) (leaf : ℕ) → old.work s ≡ Seeks e leaf → how_many (is_of c e) (t.node leaf).pairs ≡ 0
          → work_left c (with_work s (Seeks e (t.node leaf).right) old) s < work_left c old s
      seek_falls s locks notes call at e leaf is none =
          let falls = right_falls s e leaf is none in
          let was = left_of old s (Working locks notes (Some call)) (Seeks e leaf) at is in
          let now = turned_left old s (Working locks notes (Some call)) (Seeks e (t.node leaf).right) at in
          omega (arith, falls, was, now)

      -- An undo.
      module _ (s : ℕ) (locks : Locks B) (notes : List (Note B)) (at : slot_at s old.slots ≡ Undoing locks notes) where
        abbrev entries : ℕ
        entries = entries_left c.keys notes (old.restored s) locks.claims

        undo_now : (work : Work B) → old.work s ≡ work → work_left c old s ≡ entries * (c.pages + 2) + undo_left c t work
        undo_now work is = left_of old s (Undoing locks notes) work at is

        pub undo_begins : (e : Entry B) (leaf : ℕ) → old.work s ≡ Rests → work_left c (with_work s (Seeks e leaf) old) s < work_left c old s
        undo_begins e leaf is =
            let below = seek_below leaf in
            let was = undo_now Rests is in
            let now : work_left c (with_work s (Seeks e leaf) old) s ≡ entries * (c.pages + 2) + seek_left c t leaf = turned_left old s (Undoing locks notes) (Seeks e leaf) at in
            omega (arith, below, was, now)

        pub undo_right : (e : Entry B) (leaf : ℕ) → old.work s ≡ Seeks e leaf → how_many (is_of c e) (t.node leaf).pairs ≡ 0
            → work_left c (with_work s (Seeks e (t.node leaf).right) old) s < work_left c old s
        undo_right e leaf is none =
            let falls = right_falls s e leaf is none in
            let was = undo_now (Seeks e leaf) is in
            let now : work_left c (with_work s (Seeks e (t.node leaf).right) old) s ≡ entries * (c.pages + 2) + seek_left c t (t.node leaf).right =
            turned_left old s (Undoing locks notes) (Seeks e (t.node leaf).right) at in
            omega (arith, falls, was, now)

        abbrev to_restore : List (Entry B) → Entry B → Bool
        to_restore restored e = is_some (noted c.keys e notes) && not (has c.keys e restored)

        noted_claimed : (e : Entry B) (was : Bool) → noted c.keys e notes ≡ Some was → has c.keys e locks.claims ≡ true
        noted_claimed e was is_noted =
            noted_is_claimed c.keys l.keys (Undoing locks notes) (subst (HoldsItsLocks c.keys) at (w.sound.holds s)) e (sym (noted_has c.keys e notes) ∙ ap is_some is_noted)

        pub undo_restores : (r : Record (Entry B) (Page B)) (e : Entry B) (was : Bool) → noted c.keys e notes ≡ Some was
            → has c.keys e (old.restored s) ≡ false → work_left c (with_restored s e (with_record r old)) s < work_left c old s
        undo_restores r e was is_noted anew =
            let itself : same_entry c.keys e e ≡ true = same_refl c l e in
            let less : entries_left c.keys notes (e ∷ old.restored s) locks.claims < entries =
            fewer_pass (to_restore (old.restored s)) (to_restore (e ∷ old.restored s))
            (λ x is. restored_more (is_some (noted c.keys x notes)) (same_entry c.keys x e) (has c.keys x (old.restored s)) is) locks.claims
            (has_counts e (λ x. to_restore (old.restored s) x && not (to_restore (e ∷ old.restored s) x))
            (just_restored (is_some (noted c.keys e notes)) (same_entry c.keys e e) (has c.keys e (old.restored s)) (ap is_some is_noted) itself anew) locks.claims (noted_claimed e was is_noted)) in
            let falls = fewer_entries (entries_left c.keys notes (e ∷ old.restored s) locks.claims) entries c.pages less in
            let before : work_left c old s ≡ entries * (c.pages + 2) + undo_left c t (old.work s) = undo_now (old.work s) refl in
            let now : work_left c (with_restored s e (with_record r old)) s ≡ entries_left c.keys notes (e ∷ old.restored s) locks.claims * (c.pages + 2) + (c.pages + 1) =
            left_of (with_restored s e (with_record r old)) s (Undoing locks notes) Rests at (changed_here s Rests old.work s refl)
            ∙ ap (λ (x : List (Entry B)). entries_left c.keys notes x locks.claims * (c.pages + 2) + (c.pages + 1)) (changed_here s (e ∷ old.restored s) old.restored s refl) in
            omega (arith, falls, before, now)

      -- A commit.
      pub commit_has_left : (s : ℕ) (locks : Locks B) (notes : List (Note B)) → slot_at s old.slots ≡ Working locks notes (Some Commit) → 0 < work_left c old s
      commit_has_left s locks notes at = by (old.work s) refl
        where
          by : (work : Work B) → old.work s ≡ work → 0 < work_left c old s
          by Rests is = let was = left_of old s (Working locks notes (Some Commit)) Rests at is in omega (arith, was)
          by (Looks stack found) is =
              let was : work_left c old s ≡ descent_most c + look_left c t stack = left_of old s (Working locks notes (Some Commit)) (Looks stack found) at is in
              omega (arith, was)
          by (Descends e parent item) is =
              let d : DescendsFor c t (Working locks notes (Some Commit)) e parent item =
              subst (λ (x : Slot B). DoesWork c t x (Descends e parent item)) at (subst (λ (x : Work B). DoesWork c t (slot_at s old.slots) x) is (w.works s)) in
              let no : Some Commit ≡ Some (Insert e) = d.call in cc
          by (Seeks e leaf) is =
              let f : SeeksFor c t (Working locks notes (Some Commit)) e leaf = subst (λ (x : Slot B). DoesWork c t x (Seeks e leaf)) at (seek_of s e leaf is) in
              let no : false ≡ true = f.wanted true in cc

      -- The bound.
      module _ (small : c.pages ≤ 65536) (few : c.rules.most ≤ 100) where
        most_below : descent_most c ≤ 65536 * 65537 + 65536 * 100 + 65536 + 1
        most_below =
            let free = product c.pages (c.pages + 1) 65536 65537 small (omega (arith, small)) in
            let marked = product c.pages c.rules.most 65536 100 small few in
            omega (arith, free, marked, small)

        call_below : (s : ℕ) (work : Work B) → old.work s ≡ work → call_left c t old.slots work < 2 ^ 39
        call_below s Rests is = omega arith
        call_below s (Looks stack found) is =
            let look : IsLook t (wants_pair c (slot_at s old.slots)) stack found = subst (λ (x : Work B). DoesWork c t (slot_at s old.slots) x) is (w.works s) in
            let ahead = pages_most t c.rules legal (wants_pair c (slot_at s old.slots)) stack found look in
            let room = on_device in
            let most = most_below in
            omega (arith, ahead, room, most, small)
        call_below s (Descends e parent item) is =
            let d : DescendsFor c t (slot_at s old.slots) e parent item = subst (λ (x : Work B). DoesWork c t (slot_at s old.slots) x) is (w.works s) in
            let below = descent_below old.slots parent item d.descent.there in
            let most = most_below in
            omega (arith, below, most)
        call_below s (Seeks e leaf) is = let below = seek_below leaf in omega (arith, below, small)

        undo_below : (work : Work B) → undo_left c t work ≤ c.pages + 1
        undo_below Rests = omega arith
        undo_below (Looks stack found) = omega arith
        undo_below (Descends e parent item) = omega arith
        undo_below (Seeks e leaf) = let below = seek_below leaf in omega (arith, below)

        pub left_below : (s : ℕ) → work_left c old s < 2 ^ 39
        left_below s = by (slot_at s old.slots) refl
          where
            by : (slot : Slot B) → slot_at s old.slots ≡ slot → slot_left c t old.slots slot (old.work s) (old.restored s) < 2 ^ 39
            by Free at = omega arith
            by (Working locks notes None) at = omega arith
            by (Working locks notes (Some call)) at = call_below s (old.work s) refl
            by (Undoing locks notes) at =
                let held = session_claims s old.slots in
                let here = ap (λ (x : Slot B). length (locks_held x).claims) at in
                let all = w.few in
                let some = few_pass (λ e. is_some (noted c.keys e notes) && not (has c.keys e (old.restored s))) locks.claims in
                let entries = product (entries_left c.keys notes (old.restored s) locks.claims) (c.pages + 2) 512 65538 (omega (arith, held, here, all, some)) (omega (arith, small)) in
                let rest = undo_below (old.work s) in
                omega (arith, entries, rest, small)
            by (Waiting number) at = omega arith
