-- What a session's look, descent or seek comes to.
use Rattle.std.proofs.Common.{◌≡◌, ℕ, ◌+◌, ◌<◌, ◌≤◌, Bool, true, false, not, ◌&&◌, ◌||◌, inl, inr, List, [], ◌∷◌, map, Some, None, refl, ap, sym, ◌∙◌, subst, arith}
use Rattle.std.specs.Prelude.{nat_lt}
use Rattle.std.proofs.lemmas.Bool.{lt-ltb, ltb-true}
use Rattle.gx_machine.specs.declared.entry.Entry.{Entry}
use Rattle.gx_machine.specs.declared.query.Query.{Query}
use Rattle.gx_machine.specs.declared.call.Call.{Call}
use Rattle.gx_machine.specs.declared.call.Call.TheVariants.{Insert, Delete, Search}
use Rattle.gx_machine.specs.Keys.{same_entry, matches}
use Rattle.gx_machine.specs.Sets.{has}
use Rattle.gx_machine.specs.Sessions.{Locks}
use Rattle.gx_machine.proofs.SetLaws.{same_is}
use Rattle.gx_machine.proofs.SetsByTests.{set_of_a_test_that_agrees, set_that_is_gathered}
use Rattle.gx_node.specs.Lists.{one_if, how_many, Each}
use Rattle.gx_node.specs.Trees.{Pair, Child, Tree, Used, child_pages, times, leaves, passing, standing}
use Rattle.gx_node.specs.Legal.{ChildFits, Legal}
use Rattle.gx_node.specs.Reach.{TraversalItem}
use Rattle.gx_node.specs.Looks.{IsLook, from_root, LeadsTo, stacked, found_with}
use Rattle.gx_node.proofs.Sums.{sum_over_le, each_always}
use Rattle.gx_node.proofs.OwnLook.{look_goes_on}
use Rattle.gx_node.proofs.Chains.{some_child}
use Rattle.gx_node.proofs.DescentSteps.{descent_begins, descent_goes_down}
use Rattle.gx_node.proofs.SeekSteps.{seek_begins, seek_goes_right, sought_stands}
use Rattle.gx_events.specs.Slots.{Note, Slot, Free, Working, Undoing, Waiting, notes_kept, slot_at}
use Rattle.gx_events.specs.Engines.{gathered}
use Rattle.gx_events.specs.Happenings as events
use Rattle.gx_events.specs.Happenings.{Happening, IsHappening, IsClosed}
use Rattle.gx_events.specs.Kinds.{changes_what_stood}
use Rattle.gx_events.specs.Wants.{slot_wants}
use Rattle.gx_events.proofs.Standing.{working_there}
use Rattle.gx_recovery.proofs.Tests.{true_or_false, and_first, and_second, either_of, or_second}
use Rattle.gx_recovery.proofs.Logs.{and_all}
use Rattle.gx_index_laws.specs.Classes.{Class, IsLawful, entry_of, is_of, is_live_of, is_live}
use Rattle.gx_index_laws.specs.States.{State, Work, Rests, Looks, Descends, Seeks, tree_now, engine_of}
use Rattle.gx_index_laws.specs.Working.{open_call, wants_pair, DescendsFor, SeeksFor, DoesWork}
use Rattle.gx_index_laws.specs.Whole.{is_busy, IsWhole}
use Rattle.gx_index_laws.specs.Happening.{Happens, with_work, slotted}
use Rattle.gx_index_laws.proofs.Tools.{not_true, SomeIn, some_in, less_pass, none_pass}
use Rattle.gx_index_laws.proofs.Living.{pair_is, is_pair, same_refl, in_leaf, live_by_pair}
use Rattle.gx_index_laws.proofs.Standing.{is_legal}
use Rattle.gx_index_laws.proofs.Quiet.{as_it_is, turned, quietly}

module _ {B : Type 0} (c : Class B) (l : IsLawful c) where
  -- what passes a test passes a wider one, over the leaves
  pub standing_le : (t : Tree B) (p q : Pair B → Bool) → ((x : Pair B) → p x ≡ true → q x ≡ true) → standing p t ≤ standing q t
  standing_le t p q wider =
      sum_over_le (λ a. how_many p (t.node a).pairs) (λ a. how_many q (t.node a).pairs) (leaves t)
      (each_always (λ a. how_many p (t.node a).pairs ≤ how_many q (t.node a).pairs) (λ a. less_pass p q wider (t.node a).pairs) (leaves t))

  -- a listed entry is counted, and one that is counted is listed
  has_counted : (e : Entry B) (xs : List (Pair B)) → has c.keys e (map entry_of xs) ≡ true → 0 < how_many (is_of c e) xs
  has_counted e [] h = let no : ⊥ = cc in absurd no
  has_counted e (x ∷ xs) h =
      elim (either_of (same_entry c.keys e (entry_of x)) (has c.keys e (map entry_of xs)) h) [
        | inl here ↦ (let one = ap (λ b. one_if b) (is_pair c l e x (sym (same_is c.keys l.keys e (entry_of x) here))) in omega (arith, one))
        | inr later ↦ (let rest = has_counted e xs later in omega (arith, rest))
      ]

  counted_has : (e : Entry B) (xs : List (Pair B)) → 0 < how_many (is_of c e) xs → has c.keys e (map entry_of xs) ≡ true
  counted_has e [] some = absurd (omega arith)
  counted_has e (x ∷ xs) some =
      elim (true_or_false (is_of c e x)) [
        | inl is ↦
            ap (λ b. b || has c.keys e (map entry_of xs)) (subst (λ y. same_entry c.keys e y ≡ true) (sym (pair_is c l e x is)) (same_refl c l e))
        | inr other ↦
            (let none = ap (λ b. one_if b) other in
            or_second (same_entry c.keys e (entry_of x)) (has c.keys e (map entry_of xs)) (counted_has e xs (omega (arith, none, some))))
      ]

  live_counted : (t : Tree B) (e : Entry B) → is_live c t e ≡ true → 0 < standing (is_live_of c e) t
  unfolding is_live
  live_counted t e is = ltb-true 0 (standing (is_live_of c e) t) is

  counted_live : (t : Tree B) (e : Entry B) → 0 < standing (is_live_of c e) t → is_live c t e ≡ true
  unfolding is_live
  counted_live t e some = lt-ltb 0 (standing (is_live_of c e) t) some

  pub none_live : (t : Tree B) (e : Entry B) → standing (is_live_of c e) t ≡ 0 → is_live c t e ≡ false
  unfolding is_live
  none_live t e none = ap (λ n. nat_lt 0 n) none

  both_ways : (h m v : Bool) → (h ≡ true → (m && v) ≡ true) → ((m && v) ≡ true → h ≡ true) → h ≡ (m && v)
  both_ways true m v first second = sym (first refl)
  both_ways false true true first second = second refl
  both_ways false true false first second = refl
  both_ways false false v first second = refl

  never : (a b : Bool) → ((a && false) && b) ≡ false
  never true b = refl
  never false b = refl

  never_last : (a : Bool) → (a && false) ≡ false
  never_last true = refl
  never_last false = refl

  nothing_passes : (t : Tree B) (pages : List ℕ) → passing (λ x. false) t pages ≡ 0
  nothing_passes t [] = refl
  nothing_passes t (a ∷ pages) = let here = none_pass (λ (x : Pair B). false) (λ x. refl) (t.node a).pairs in let rest = nothing_passes t pages in omega (arith, here, rest)

  standing_none : (t : Tree B) (p : Pair B → Bool) → ((x : Pair B) → p x ≡ false) → standing p t ≡ 0
  standing_none t p none =
      let less = standing_le t p (λ x. false) (λ x is. not_true (p x) is (none x)) in
      let zero_all = nothing_passes t (leaves t) in
      omega (arith, less, zero_all)

  unmatched : (query : Query B) (e : Entry B) (x : Pair B) → matches c.keys query e ≡ false → ((not x.marked && matches c.keys query (entry_of x)) && is_of c e x) ≡ false
  unmatched query e x other =
      elim (true_or_false (is_of c e x)) [
        | inl is ↦
            ap (λ b. (not x.marked && b) && is_of c e x) (subst (λ y. matches c.keys query y ≡ false) (sym (pair_is c l e x is)) other)
            ∙ never (not x.marked) (is_of c e x)
        | inr ne ↦ ap (λ b. (not x.marked && matches c.keys query (entry_of x)) && b) ne ∙ never_last (not x.marked && matches c.keys query (entry_of x))
      ]

  -- what a search's look has found is what matches and is live
  found_is_live : (t : Tree B) (query : Query B) (found : List (Pair B)) → IsLook t (λ x. not x.marked && matches c.keys query (entry_of x)) [] found → (e : Entry B)
      → has c.keys e (map entry_of found) ≡ (matches c.keys query e && is_live c t e)
  found_is_live t query found look e =
      let wanted : Pair B → Bool = λ x. (not x.marked && matches c.keys query (entry_of x)) && is_of c e x in
      let count : how_many (is_of c e) found + 0 ≡ standing wanted t = look.complete (is_of c e) in
      both_ways (has c.keys e (map entry_of found)) (matches c.keys query e) (is_live c t e)
      (λ h.
      let some = has_counted e found h in
      let live : is_live c t e ≡ true = counted_live t e
      (let more = standing_le t wanted (is_live_of c e) (λ x is.
      and_all (is_of c e x) (not x.marked) (and_second (not x.marked && matches c.keys query (entry_of x)) (is_of c e x) is)
      (and_first (not x.marked) (matches c.keys query (entry_of x)) (and_first (not x.marked && matches c.keys query (entry_of x)) (is_of c e x) is))) in
      omega (arith, some, count, more)) in
      elim (true_or_false (matches c.keys query e)) [
        | inl is ↦ and_all (matches c.keys query e) (is_live c t e) is live
        | inr other ↦
            (let none = standing_none t wanted (λ x. unmatched query e x other) in absurd (omega (arith, some, count, none)))
      ])
      (λ both.
      counted_has e found
      (let some = live_counted t e (and_second (matches c.keys query e) (is_live c t e) both) in
      let more = standing_le t (is_live_of c e) wanted (λ x is.
      let of : is_of c e x ≡ true = and_first (is_of c e x) (not x.marked) is in
      and_all (not x.marked && matches c.keys query (entry_of x)) (is_of c e x)
      (and_all (not x.marked) (matches c.keys query (entry_of x)) (and_second (is_of c e x) (not x.marked) is)
      (subst (λ y. matches c.keys query y ≡ true) (sym (pair_is c l e x of)) (and_first (matches c.keys query e) (is_live c t e) both))) of) in
      omega (arith, some, count, more)))

  module _ (old : State B) (w : IsWhole c old) where
    abbrev t : Tree B
    t = tree_now c old

    legal : Legal c.rules t
    legal = is_legal c l old w

    -- the look of a slot that is at work
    look_of : (s : ℕ) (stack : List TraversalItem) (found : List (Pair B)) → old.work s ≡ Looks stack found → IsLook t (wants_pair c (slot_at s old.slots)) stack found
    look_of s stack found at = subst (λ (x : Work B). DoesWork c t (slot_at s old.slots) x) at (w.works s)

    pub look_read : (s : ℕ) (item : TraversalItem) (stack : List TraversalItem) (found : List (Pair B)) → old.work s ≡ Looks (item ∷ stack) found → (leads : B → Bool)
        → LeadsTo c.rules t (wants_pair c (slot_at s old.slots)) leads
        → Happens c old events.Works (with_work s (Looks (stacked t leads item stack) (found_with t (wants_pair c (slot_at s old.slots)) item found)) old)
    look_read s item stack found at leads consistent =
        turned c l old w s (Looks (stacked t leads item stack) (found_with t (wants_pair c (slot_at s old.slots)) item found))
        (look_goes_on c.rules t legal leads l.rules (wants_pair c (slot_at s old.slots)) consistent item stack found (look_of s (item ∷ stack) found at))

    -- What a look turns into.

    pub look_descends : (s : ℕ) (e : Entry B) → old.work s ≡ Looks [] [] → open_call (slot_at s old.slots) ≡ Some (Insert e)
        → DescendsFor c t (slot_at s old.slots) e 0 (from_root t)
    look_descends s e at call = record { call = call; looked = look_of s [] [] at; descent = descent_begins c.rules e.key t legal; apart = λ is. (omega (arith, is)); came = inl (refl, refl) }

    -- an open insert wants each pair of its entry
    wants_insert : (slot : Slot B) (e : Entry B) → open_call slot ≡ Some (Insert e) → (live : Bool) → slot_wants c.keys slot (record { entry = e; live = live }) ≡ true
    wants_insert Free e call live = let no : ⊥ = cc in absurd no
    wants_insert (Working locks notes open_now) e call live =
        subst (λ o. slot_wants c.keys (Working locks notes o) (record { entry = e; live = live }) ≡ true) (sym call) (same_refl c l e)
    wants_insert (Undoing locks notes) e call live = let no : ⊥ = cc in absurd no
    wants_insert (Waiting number) e call live = let no : ⊥ = cc in absurd no

    wants_of : (slot : Slot B) (e : Entry B) → ((live : Bool) → slot_wants c.keys slot (record { entry = e; live = live }) ≡ true) → (x : Pair B) → is_of c e x ≡ true
        → wants_pair c slot x ≡ true
    wants_of slot e wanted x is = subst (λ y. slot_wants c.keys slot (record { entry = y; live = not x.marked }) ≡ true) (sym (pair_is c l e x is)) (wanted (not x.marked))

    -- a look that ended with nothing found says that the tree has no wanted pair
    none_stands : (slot : Slot B) (e : Entry B) (p : Pair B → Bool) → ((x : Pair B) → p x ≡ true → is_of c e x ≡ true)
        → ((live : Bool) → slot_wants c.keys slot (record { entry = e; live = live }) ≡ true) → IsLook t (wants_pair c slot) [] [] → standing p t ≡ 0
    none_stands slot e p narrow wanted look =
        let none : 0 + 0 ≡ standing (λ x. wants_pair c slot x && p x) t = look.complete p in
        let less = standing_le t p (λ x. wants_pair c slot x && p x) (λ x is. and_all (wants_pair c slot x) (p x) (wants_of slot e wanted x (narrow x is)) is) in
        omega (arith, none, less)

    pub descent_of : (s : ℕ) (e : Entry B) (parent : ℕ) (item : TraversalItem) → old.work s ≡ Descends e parent item → DescendsFor c t (slot_at s old.slots) e parent item
    descent_of s e parent item at = subst (λ (x : Work B). DoesWork c t (slot_at s old.slots) x) at (w.works s)

    -- a descent begins again at the root, and goes on to a page that its page names
    pub descent_again : (s : ℕ) (e : Entry B) (parent : ℕ) (item : TraversalItem) → old.work s ≡ Descends e parent item → DescendsFor c t (slot_at s old.slots) e 0 (from_root t)
    descent_again s e parent item at =
        let d : DescendsFor c t (slot_at s old.slots) e parent item = descent_of s e parent item at in
        record { call = d.call; looked = d.looked; descent = descent_begins c.rules e.key t legal; apart = λ is. (omega (arith, is)); came = inl (refl, refl) }

    pub descent_down : (s : ℕ) (e : Entry B) (parent : ℕ) (item : TraversalItem) (x : ℕ) → old.work s ≡ Descends e parent item → 0 < times x (child_pages (t.node item.page))
        → Each (λ (d : Child B). d.page ≡ x → c.rules.covers d.key e.key ≡ true) (t.node item.page).children
        → DescendsFor c t (slot_at s old.slots) e item.page (record { page = x; seen = t.counter })
    descent_down s e parent item x at named covers =
        let d : DescendsFor c t (slot_at s old.slots) e parent item = descent_of s e parent item at in
        let u : Used t item.page = d.descent.there in
        let pick = some_child (ChildFits c.rules t (t.node item.page).level) x (t.node item.page).children named (legal.pages item.page u).children in
        record {
          call = d.call;
          looked = d.looked;
          descent = descent_goes_down c.rules e.key t legal item.page x u named covers;
          apart = λ is. (let level = pick.1.level in let there = ap (λ q. (t.node q).level) (is ∙ sym pick.2) in omega (arith, level, there));
          came = inr (u, (let level = pick.1.level in omega (arith, level)));
        }

    pub descent_finds_none : (s : ℕ) (e : Entry B) (parent : ℕ) (item : TraversalItem) → old.work s ≡ Descends e parent item → standing (is_of c e) t ≡ 0
    descent_finds_none s e parent item at =
        let d : DescendsFor c t (slot_at s old.slots) e parent item = descent_of s e parent item at in
        none_stands (slot_at s old.slots) e (is_of c e) (λ x is. is) (wants_insert (slot_at s old.slots) e d.call) d.looked

    pub look_seeks : (s : ℕ) (e : Entry B) (leaf : ℕ) → ((live : Bool) → slot_wants c.keys (slot_at s old.slots) (record { entry = e; live = live }) ≡ true)
        → Used t leaf → (t.node leaf).level ≡ 0 → 0 < how_many (is_of c e) (t.node leaf).pairs → SeeksFor c t (slot_at s old.slots) e leaf
    look_seeks s e leaf wanted used bottom some = record { wanted = wanted; seek = seek_begins c.rules leaf e.row e.key t legal used bottom some }

    pub seek_right : (s : ℕ) (e : Entry B) (leaf : ℕ) → old.work s ≡ Seeks e leaf → how_many (is_of c e) (t.node leaf).pairs ≡ 0
        → SeeksFor c t (slot_at s old.slots) e (t.node leaf).right
    seek_right s e leaf at none =
        let f : SeeksFor c t (slot_at s old.slots) e leaf = subst (λ (x : Work B). DoesWork c t (slot_at s old.slots) x) at (w.works s) in
        record { wanted = f.wanted; seek = (seek_goes_right c.rules leaf e.row e.key t f.seek none).0 }

    -- the tree has the pair that is sought
    pub seeks_stand : (s : ℕ) (e : Entry B) (leaf : ℕ) → old.work s ≡ Seeks e leaf → standing (is_of c e) t ≡ 1
    seeks_stand s e leaf at =
        let f : SeeksFor c t (slot_at s old.slots) e leaf = subst (λ (x : Work B). DoesWork c t (slot_at s old.slots) x) at (w.works s) in
        sought_stands c.rules leaf e.row e.key t legal f.seek

    -- Answers.

    -- an open call is closed, with an event that says no more of the engine
    pub closed : (event : Happening B) (s : ℕ) (locks : Locks B) (notes : List (Note B)) (call : Call B) → old.failed ≡ false → slot_at s old.slots ≡ Working locks notes (Some call)
        → (IsClosed s call (engine_of c old) (engine_of c (slotted s (Working locks notes None) Rests old)) → IsHappening c.keys (engine_of c old) event (engine_of c (slotted s (Working locks notes None) Rests old)))
        → changes_what_stood event ≡ false → Happens c old event (slotted s (Working locks notes None) Rests old)
    closed event s locks notes call works at is stays =
        quietly c l old w s (working_there c.keys l.keys (engine_of c old) w.sound s locks notes (Some call) at) (Working locks notes None) Rests
        (sym (ap is_busy at)) (sym (ap notes_kept at)) tt event
        (is (record { works = works; locks = locks; notes = notes; asked = at; is = as_it_is (engine_of c (slotted s (Working locks notes None) Rests old)) })) stays

    pub look_answers : old.failed ≡ false → (s : ℕ) (locks : Locks B) (notes : List (Note B)) (query : Query B) (found : List (Pair B))
        → slot_at s old.slots ≡ Working locks notes (Some (Search query)) → old.work s ≡ Looks [] found
        → Happens c old (events.Finds s query (gathered c.keys (map entry_of found))) (slotted s (Working locks notes None) Rests old)
    look_answers works s locks notes query found at looks =
        let look : IsLook t (wants_pair c (Working locks notes (Some (Search query)))) [] found =
        subst (λ (x : Slot B). IsLook t (wants_pair c x) [] found) at (look_of s [] found looks) in
        closed (events.Finds s query (gathered c.keys (map entry_of found))) s locks notes (Search query) works at
        (λ is. (
          set_of_a_test_that_agrees c.keys l.keys (λ e. has c.keys e (map entry_of found)) (λ e. matches c.keys query e && is_live c t e) (gathered c.keys (map entry_of found))
              (found_is_live t query found look) (set_that_is_gathered c.keys l.keys (map entry_of found)),
          is,
        )) refl

    pub present : old.failed ≡ false → (s : ℕ) (locks : Locks B) (notes : List (Note B)) (e : Entry B) (leaf : ℕ) → slot_at s old.slots ≡ Working locks notes (Some (Insert e))
        → Used t leaf → (t.node leaf).level ≡ 0 → 0 < how_many (is_live_of c e) (t.node leaf).pairs
        → Happens c old (events.FindsPresent s e) (slotted s (Working locks notes None) Rests old)
    present works s locks notes e leaf at used bottom some =
        let all = in_leaf c l t legal (is_live_of c e) leaf used bottom in
        let live : is_live c t e ≡ true = counted_live t e (omega (arith, all, some)) in
        closed (events.FindsPresent s e) s locks notes (Insert e) works at (λ is. (live, is)) refl

    absent : old.failed ≡ false → (s : ℕ) (locks : Locks B) (notes : List (Note B)) (e : Entry B) → slot_at s old.slots ≡ Working locks notes (Some (Delete e))
        → is_live c t e ≡ false → Happens c old (events.FindsAbsent s e) (slotted s (Working locks notes None) Rests old)
    absent works s locks notes e at dead = closed (events.FindsAbsent s e) s locks notes (Delete e) works at (λ is. (dead, is)) refl

    pub absent_by_look : old.failed ≡ false → (s : ℕ) (locks : Locks B) (notes : List (Note B)) (e : Entry B) → slot_at s old.slots ≡ Working locks notes (Some (Delete e))
        → old.work s ≡ Looks [] [] → Happens c old (events.FindsAbsent s e) (slotted s (Working locks notes None) Rests old)
    absent_by_look works s locks notes e at looks =
        let look : IsLook t (wants_pair c (Working locks notes (Some (Delete e)))) [] [] = subst (λ (x : Slot B). IsLook t (wants_pair c x) [] []) at (look_of s [] [] looks) in
        absent works s locks notes e at
        (none_live t e (none_stands (Working locks notes (Some (Delete e))) e (is_live_of c e) (λ x is. and_first (is_of c e x) (not x.marked) is) (λ live. same_refl c l e) look))

    pub absent_by_mark : old.failed ≡ false → (s : ℕ) (locks : Locks B) (notes : List (Note B)) (e : Entry B) (leaf : ℕ) → slot_at s old.slots ≡ Working locks notes (Some (Delete e))
        → Used t leaf → (t.node leaf).level ≡ 0 → 0 < how_many (λ x. is_of c e x && x.marked) (t.node leaf).pairs
        → Happens c old (events.FindsAbsent s e) (slotted s (Working locks notes None) Rests old)
    absent_by_mark works s locks notes e leaf at used bottom some =
        let y : SomeIn (λ x. is_of c e x && x.marked) (t.node leaf).pairs = some_in (λ x. is_of c e x && x.marked) (t.node leaf).pairs some in
        absent works s locks notes e at
        (live_by_pair c l t legal e leaf used bottom y.before y.after y.one y.parts (and_first (is_of c e y.one) y.one.marked y.passes)
        ∙ ap not (and_second (is_of c e y.one) y.one.marked y.passes))
