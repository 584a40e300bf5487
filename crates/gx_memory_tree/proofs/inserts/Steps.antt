-- Each step of an insert goes on, or adds the pair.
use Rattle.std.proofs.Common.{◌≡◌, ◌≢◌, ◌∙◌, ◌<◌, ◌≤◌, ◌-◌, ◌^◌, ◌⊎◌, ◌==◌, ◌+◌, Bool, true, false, not, ◌&&◌, ◌||◌, List, [], ◌∷◌, ◌++◌, inl, inr, refl, sym, ap, subst, arith}
use Rattle.std.proofs.lemmas.Bool.{eq-eqb, lt-ltb}
use Rattle.gx_machine.specs.declared.entry.Entry.{Entry}
use Rattle.gx_node.specs.Lists.{one_if, how_many}
use Rattle.gx_node.specs.Trees.{Pair, Tree, Rules, IsLawful, size, standing, is_entry}
use Rattle.gx_node.specs.Legal.{Legal}
use Rattle.gx_node.specs.Steps.{Step, Splits, SplitsRoot, Sweeps, Adds, AreSteps, IsStep}
use Rattle.gx_node.specs.Writes.{has_place, must_restart}
use Rattle.gx_node.proofs.AllSteps.{descent_steps, legal_steps}
use Rattle.gx_node.proofs.DescentFalls.{restart_falls, swept_falls, split_falls, root_split_falls}
use Rattle.gx_node.proofs.DescentSteps.{descent_begins}
use Rattle.gx_node.proofs.PageSteps.{legal_added, legal_swept, standing_added, standing_swept_plain}
use Rattle.gx_node.proofs.Roots.{legal_root, standing_root}
use Rattle.gx_node.proofs.Splits.{legal_split, standing_split}
use Rattle.gx_memory_tree.specs.declared.inserts.DescentPlace.{DescentPlace}
use Rattle.gx_memory_tree.specs.Inserting.{CameFrom, GoesOn, HasAdded, HasSplit, HasSwept, IsFullAt, IsInsert, MakesRoom, MakesWay, SplitsOrNot, from_top, live_and}
use Rattle.gx_node.specs.Keyed.{AreKeys}
use Rattle.gx_tree.specs.Writing.{Appends, live}
use Rattle.gx_tree.proofs.KeysKept.{keys_step}
use Rattle.gx_tree.proofs.Marking.{adding}

module _ {K : Type 0} where
  -- no live pair is swept
  none_live : (test : Pair K → Bool) (xs : List (Pair K)) → how_many (λ x. live_and test x && (x.marked && not false)) xs ≡ 0
  none_live test [] = refl
  none_live test (x ∷ xs) = let rest = none_live test xs in let here = off x.marked (test x) in omega (arith, rest, here)
    where
      off : (m b : Bool) → one_if ((not m && b) && (m && not false)) ≡ 0
      off true b = refl
      off false true = refl
      off false false = refl

  module _ (r : Rules K) where
    steps_more : (first : List (Step K)) (a b d : Tree K) (second : List (Step K)) → AreSteps r a first b → AreSteps r b second d → AreSteps r a (first ++ second) d
    steps_more [] a b d second are more = subst (λ t. AreSteps r t second d) are more
    steps_more (step ∷ first) a b d second are more = (are.0, are.1, steps_more first are.0 b d second are.2 more)

    -- nothing is done
    pub no_way : (t : Tree K) → MakesWay r t t
    no_way t = record { steps = []; are = refl; same = λ test. refl; no_more = λ test. omega arith }

    -- one way after another
    pub way_on : (a b d : Tree K) → MakesWay r a b → MakesWay r b d → MakesWay r a d
    way_on a b d first second = record {
      steps = first.steps ++ second.steps;
      are = steps_more first.steps a b d second.steps first.are second.are;
      same = λ test. second.same test ∙ first.same test;
      no_more = λ test. (let one = first.no_more test in let two = second.no_more test in omega (arith, one, two));
    }

    -- a step that changes no pair
    pub way_by : (old new : Tree K) (step : Step K) → IsStep r old step new → ((test : Pair K → Bool) → standing test new ≡ standing test old) → MakesWay r old new
    way_by old new step is same = record {
      steps = step ∷ [];
      are = (new, is, refl);
      same = λ test. same (live_and test);
      no_more = λ test. (let alike = same test in omega (arith, alike));
    }

    pub still_absent : (old new : Tree K) (entry : Entry K) → MakesWay r old new → standing (is_entry r entry.row entry.key) old ≡ 0
        → standing (is_entry r entry.row entry.key) new ≡ 0
    still_absent old new entry way none = let fewer = way.no_more (is_entry r entry.row entry.key) in omega (arith, fewer, none)

    -- at a page that was split since, the descent begins again
    pub split_since : (t : Tree K) (place : DescentPlace) → place.item.seen < (t.node place.item.page).nsn → must_restart r t place.parent place.item ≡ true
    split_since t place since =
        ap (λ b. b || (not (place.item.page == 1) && not (has_place r t place.parent place.item.page))) (lt-ltb place.item.seen (t.node place.item.page).nsn since)

    -- a full node that is in an insert's way
    pub full_at : (IsKey : K → Type 0) (t : Tree K) (entry : Entry K) (place : DescentPlace) → IsInsert r IsKey t entry place
        → r.most ≤ size (t.node place.item.page) → IsFullAt r t place
    full_at IsKey t entry place insert full = record { legal = insert.legal; used = insert.descent.there; came = insert.came; full = full }

    module _ (law : IsLawful r) (IsKey : K → Type 0) (entry : Entry K) where
      -- an insert begins at the root
      pub begins : (t : Tree K) → Legal r t → AreKeys IsKey t → standing (is_entry r entry.row entry.key) t ≡ 0 → IsInsert r IsKey t entry (from_top t)
      begins t legal keys absent = record { legal = legal; keys = keys; absent = absent; descent = descent_begins r entry.key t legal; came = inl refl }

      -- it begins again if nothing has changed
      pub begins_again : (t : Tree K) (place : DescentPlace) → IsInsert r IsKey t entry place → must_restart r t place.parent place.item ≡ true
          → GoesOn r IsKey t t entry place (from_top t)
      begins_again t place insert must = record {
        way = no_way t;
        insert = begins t insert.legal insert.keys insert.absent;
        less = restart_falls r (2 ^ 32 - 1) (λ x. false) t insert.legal place.parent place.item must;
      }

      module _ (old new : Tree K) (place : DescentPlace) (insert : IsInsert r IsKey old entry place) where
        -- it begins again once a node was split
        split_on : HasSplit r IsKey old new place → new.used ≤ 2 ^ 32 - 1 → GoesOn r IsKey old new entry place (from_top new)
        split_on did few = elim did.split [
          | inl root ↦
              let way = way_by old new (SplitsRoot did.sides did.left did.right) root (λ test. standing_root r old new did.sides did.left did.right insert.legal root test) in
              record {
                way = way;
                insert = begins new (legal_root r old new did.sides did.left did.right insert.legal root law.two)
                    (keys_step IsKey r old new insert.legal insert.keys (SplitsRoot did.sides did.left did.right) did.keys root)
                    (still_absent old new entry way insert.absent);
                less = root_split_falls r (2 ^ 32 - 1) (λ x. false) law old new insert.legal place.parent place.item did.sides did.left did.right root few;
              }
          | inr below ↦
              let n = place.item.page in
              let p = place.parent in
              let way = way_by old new (Splits n p did.sides did.left did.right) below (λ test. standing_split r law old new n p did.sides did.left did.right insert.legal below test) in
              record {
                way = way;
                insert = begins new (legal_split r law old new n p did.sides did.left did.right insert.legal below)
                    (keys_step IsKey r old new insert.legal insert.keys (Splits n p did.sides did.left did.right) did.keys below)
                    (still_absent old new entry way insert.absent);
                less = split_falls r (2 ^ 32 - 1) (λ x. false) law old new insert.legal place.parent place.item n p did.sides did.left did.right below few;
              }
        ]

        pub split_or_not : SplitsOrNot r IsKey old new place → new.used ≤ 2 ^ 32 - 1 → GoesOn r IsKey old new entry place (from_top new)
        split_or_not (inl did) few = split_on did few
        split_or_not (inr none) few =
            subst (λ t. GoesOn r IsKey old t entry place (from_top t)) (sym none.0) (begins_again old place insert none.1)

        -- it stays once the leaf was swept
        swept_on : HasSwept old new place.item.page → GoesOn r IsKey old new entry place place
        swept_on did =
            let step = did.sweep in
            let changes = step.changes in
            let counted : (test : Pair K → Bool) → standing test new + how_many (λ x. test x && (x.marked && not false)) (old.node place.item.page).pairs ≡ standing test old =
            λ test. standing_swept_plain r old new place.item.page insert.legal (λ x. false) step test in
            let way : MakesWay r old new = record {
              steps = Sweeps place.item.page (λ x. false) ∷ [];
              are = (new, step, refl);
              same = λ test. (let all = counted (live_and test) in let none = none_live test (old.node place.item.page).pairs in omega (arith, all, none));
              no_more = λ test. (let all = counted test in omega (arith, all));
            } in
            let stands : (place.item.page ≡ 1) ⊎ CameFrom new place.parent place.item.page = elim insert.came [
              | inl top ↦ inl top
              | inr came ↦ inr (record {
                there = (came.there.0, omega (arith, came.there.1, changes.used));
                inner = (let alike = ap (λ n. n.level) (changes.others place.parent came.apart) in omega (arith, alike, came.inner));
                apart = came.apart;
              })
            ] in
            let apart : place.parent ≢ place.item.page = elim insert.came [
              | inl top ↦ (let low = ap (λ p. (old.node p).level) top in let high = insert.legal.root in absurd (omega (arith, low, step.leaf, high)))
              | inr came ↦ came.apart
            ] in
            record {
              way = way;
              insert = record {
                legal = legal_swept r old new place.item.page insert.legal (λ x. false) step;
                keys = keys_step IsKey r old new insert.legal insert.keys (Sweeps place.item.page (λ x. false)) tt step;
                absent = still_absent old new entry way insert.absent;
                descent = descent_steps r law entry.key place.item (Sweeps place.item.page (λ x. false) ∷ []) old new insert.legal (new, step, refl) insert.descent;
                came = stands;
              };
              less = swept_falls r (2 ^ 32 - 1) (λ x. false) old new insert.legal place.parent place.item step apart did.some;
            }

        -- room was made at a full leaf
        pub room_on : (next : DescentPlace) → MakesRoom r IsKey old new place next → GoesOn r IsKey old new entry place next
        room_on next (inl swept) = subst (λ n. GoesOn r IsKey old new entry place n) (sym swept.1) (swept_on swept.0)
        room_on next (inr split) = subst (λ n. GoesOn r IsKey old new entry place n) (sym split.1) (split_or_not split.0 (let few = split.2 in omega (arith, few)))

        -- the pair was added
        pub has_added : IsKey entry.key → (old.node place.item.page).nsn ≤ place.item.seen → Appends r.most old new place.item.page entry → HasAdded r IsKey old new entry
        has_added is low appends =
            let step = adding r old new insert.legal place.item.page entry appends insert.absent (insert.descent.covered low) in
            record {
              middle = old;
              way = no_way old;
              leaf = place.item.page;
              adding = step;
              legal = legal_added r old new place.item.page insert.legal law (live entry) step;
              keys = keys_step IsKey r old new insert.legal insert.keys (Adds place.item.page (live entry)) is step;
            }

      -- an insert is at its end after some way
      pub added_after : (old middle new : Tree K) → MakesWay r old middle → HasAdded r IsKey middle new entry → HasAdded r IsKey old new entry
      added_after old middle new way added = record {
        middle = added.middle;
        way = way_on old middle added.middle way added.way;
        leaf = added.leaf;
        adding = added.adding;
        legal = added.legal;
        keys = added.keys;
      }

      -- the pairs of the tree then
      module _ (old new : Tree K) (legal : Legal r old) (added : HasAdded r IsKey old new entry) where
        one_more : (test : Pair K → Bool) → standing test new ≡ standing test added.middle + one_if (test (live entry))
        one_more test =
            standing_added r added.middle new added.leaf (legal_steps r law added.way.steps old added.middle legal added.way.are) law (live entry) added.adding test

        pub live_after : (test : Pair K → Bool) → standing (live_and test) new ≡ standing (live_and test) old + one_if (test (live entry))
        live_after test = let more = one_more (live_and test) in let same = added.way.same test in omega (arith, more, same)

        pub once_after : standing (is_entry r entry.row entry.key) new ≡ 1
        once_after =
            let more = one_more (is_entry r entry.row entry.key) in
            let none = added.adding.absent in
            let is : is_entry r entry.row entry.key (live entry) ≡ true = ap (λ b. b && r.same entry.key entry.key) (eq-eqb entry.row entry.row refl) ∙ law.itself entry.key in
            let one = ap one_if is in
            omega (arith, more, none, one)
