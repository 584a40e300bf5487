-- A split that a descent makes over frames and device, as an index's: the descent then begins again.
use Rattle.std.proofs.Common.{◌≡◌, ◌≢◌, sym, subst, inl, inr, ℕ, suc, ◌+◌, ◌^◌, ◌<◌, ◌≤◌, Bool, false, ◌&&◌, ◌⊎◌, List, [], ◌∷◌, Some, arith}
use Rattle.std.specs.Prelude.{if◌then◌else◌, max, min, nat_lt}
use Rattle.std.proofs.lemmas.Bool.{cases_lt}
use Rattle.gx_machine.specs.declared.entry.Entry.{Entry}
use Rattle.gx_machine.specs.declared.call.Call.{Call}
use Rattle.gx_machine.specs.Sessions.{Locks}
use Rattle.gx_disk.specs.Device.{Device}
use Rattle.gx_disk.specs.declared.layout.TheConstants.{MAX_PAGES}
use Rattle.gx_page.specs.Contents.{Contents}
use Rattle.gx_node.specs.Legal.{Legal}
use Rattle.gx_node.specs.Lists.{Each}
use Rattle.gx_node.specs.Looks.{from_root}
use Rattle.gx_node.specs.Reach.{TraversalItem}
use Rattle.gx_node.specs.Steps.{IsRootSplit, IsSplit, Splits, SplitsRoot}
use Rattle.gx_node.specs.Trees.{Node, Tree, Used, child_pages, size, times}
use Rattle.gx_node.proofs.Splits.{split_used}
use Rattle.gx_node.specs.Reading.{Format}
use Rattle.gx_tree.specs.Splitting.{HasNoPlace}
use Rattle.gx_tree.proofs.Restarts.{restarts}
use Rattle.gx_events.specs.Slots.{Note, Working, slot_at}
use Rattle.gx_recovery.specs.Records.{Record}
use Rattle.gx_recovery.proofs.Tests.{true_or_false}
use Rattle.gx_index_laws.specs.Classes.{Class, IsLawful, Page, known_of}
use Rattle.gx_index_laws.specs.Happening.{with_record}
use Rattle.gx_index_laws.specs.States.{Descends, State, tree_now}
use Rattle.gx_index_laws.specs.Whole.{IsWhole}
use Rattle.gx_index_laws.specs.Working.{DescendsFor}
use Rattle.gx_index_laws.proofs.Answering.{descent_again}
use Rattle.gx_index_laws.proofs.Measuring.{splits, splits_root}
use Rattle.gx_index_laws.proofs.Standing.{is_legal}
use Rattle.gx_durable.specs.Spelled.{record_read}
use Rattle.gx_durable.specs.Classes.{reading_of}
use Rattle.gx_storage.specs.Giving.{pages_given, placed, rising}
use Rattle.gx_storage.specs.Keeps.{Keeps, StaysWith}
use Rattle.gx_storage.specs.Numbers.{HasOwnNumber}
use Rattle.gx_storage.specs.State.{Volume}
use Rattle.gx_storage.specs.Sweeps.{WorksWith}
use Rattle.gx_storage.proofs.Descending.{GoesTo, begins_again, its_descent}
use Rattle.gx_storage.proofs.Stepping.{given_step, given_works, shown_legal, shows, stands, stood}
use Rattle.gx_storage.proofs.Stepping as stepping

-- what holds of three pages holds of each of them by rising number
module _ (P : ℕ → Type 0) where
  placed_each : (a : ℕ) (pages : List ℕ) → P a → Each P pages → Each P (placed a pages)
  placed_each a [] one rest = (one, tt)
  placed_each a (b ∷ pages) one rest = elim (true_or_false (nat_lt a b)) [
    | inl less ↦ subst {A = Bool} (λ t. Each P (if t then a ∷ b ∷ pages else b ∷ placed a pages)) (sym less) (one, rest)
    | inr more ↦ subst {A = Bool} (λ t. Each P (if t then a ∷ b ∷ pages else b ∷ placed a pages)) (sym more) (rest.0, placed_each a pages one rest.1)
  ]

  both_each : (a b : ℕ) → P a → P b → Each P (min a b ∷ max a b ∷ [])
  both_each a b one two = elim (cases_lt a b) [
    | inl less ↦
        let low : a ≡ min a b = omega (arith, less) in
        let high : b ≡ max a b = omega (arith, less) in
        (subst P low one, (subst P high two, tt))
    | inr more ↦
        let low : b ≡ min a b = omega (arith, more) in
        let high : a ≡ max a b = omega (arith, more) in
        (subst P low two, (subst P high one, tt))
  ]

  pub rising_all : (a b c : ℕ) → P a → P b → P c → Each P (rising a b c)
  rising_all a b c one two three = placed_each c (min a b ∷ max a b ∷ []) three (both_each a b one two)

-- and what each page of a list has
each_with : (P Q : ℕ → Type 0) (pages : List ℕ) → Each P pages → Each Q pages → Each (λ p. P p × Q p) pages
each_with P Q [] one two = tt
each_with P Q (p ∷ pages) one two = ((one.0, two.0), each_with P Q pages one.1 two.1)

module _ {B D : Type 0} (c : Class B) (law : IsLawful c) (said : List ℕ → B) (f : Format B) (passes : ℕ → Contents → Bool) (d e : Device) (v w : Volume D)
    (bodies : List (List (Record (Entry B) (Page B)))) (old : State B) (whole : IsWhole c old)
    (s : ℕ) (entry : Entry B) (parent : ℕ) (item : TraversalItem) (at : old.work s ≡ Descends entry parent item)
    (locks : Locks B) (notes : List (Note B)) (call : Call B) (slot : slot_at s old.slots ≡ Working locks notes (Some call))
    (keeps : Keeps (known_of c) (reading_of said f) f passes d v bodies old.log) where
  abbrev t : Tree B
  t = tree_now c old

  abbrev shown : Tree B
  shown = stepping.shown c law said f passes d e v w bodies old whole

  abbrev shown_now : Tree B
  shown_now = stepping.shown_now c law said f passes d e v w bodies old whole

  legal : Legal c.rules t
  legal = is_legal c law old whole

  its : DescendsFor c t (slot_at s old.slots) entry parent item
  its = its_descent c law said f passes d e v w bodies old whole s entry parent item at locks notes call slot keeps

  -- below the root it came from an inner page
  from_inner : item.page ≢ 1 → Used t parent × (0 < (t.node parent).level)
  from_inner below = elim its.came [
    | inl begun ↦ absurd (below begun.1)
    | inr from ↦ from
  ]

  -- the page that it came from has no place for a split: it begins again
  pub no_place : item.page ≢ 1 → HasNoPlace c.rules shown item.page parent → GoesTo c law said f passes d e v w bodies old whole s entry parent item at locks notes call slot keeps old 0 (from_root t)
  no_place below none =
      let from = from_inner below in
      let same : shown.node parent ≡ t.node parent = (shows c law said f passes d e v w bodies old whole keeps).nodes parent from.0 in
      begins_again c law said f passes d e v w bodies old whole s entry parent item at locks notes call slot keeps
      (restarts c.rules t parent item legal its.descent.there below from.0
      (subst (λ (n : Node B). ((nat_lt 0 (times item.page (child_pages n)) && nat_lt (size n) c.rules.most) ≡ false) ⊎ (1 < times item.page (child_pages n))) same none))

  -- a split is never refused as damage
  pub split_is_sound : item.page ≢ 1 → v.shelf.pages ≤ MAX_PAGES → c.rules.most ≤ size (shown.node item.page)
      → (Legal c.rules shown → Used shown item.page → Used shown parent → item.page ≢ parent → 0 < (shown.node parent).level → c.rules.most ≤ size (shown.node item.page)
      → v.shelf.counter + 1 < 2 ^ 64 → ⊥) → ⊥
  split_is_sound below few full never =
      let from = from_inner below in
      let agree = shows c law said f passes d e v w bodies old whole keeps in
      let same : shown.node parent ≡ t.node parent = agree.nodes parent from.0 in
      let used = agree.used in
      let there = its.descent.there in
      let counter = legal.counter in
      let most : t.used ≤ MAX_PAGES = (let in_use = stood c law said f passes d e v w bodies old whole keeps in let fits = stepping.used_few c law said f passes d e v w bodies old whole keeps in
      let pages = keeps.pages in omega (arith, used, in_use, fits, pages, few)) in
      let tally : t.counter ≡ v.shelf.counter = keeps.counter in
      let small : v.shelf.counter + 1 < MAX_PAGES = omega (arith, counter, most, tally) in
      let large : MAX_PAGES ≤ 2 ^ 64 = omega arith in
      never (shown_legal c law said f passes d e v w bodies old whole keeps)
      (there.0, (let high = there.1 in omega (arith, high, used))) (from.0.0, (let high = from.0.1 in omega (arith, high, used)))
      (λ is. its.apart (sym is)) (subst (λ (n : Node B). 0 < n.level) (sym same) from.1) full (omega (arith, small, large))

  -- pages that are given, of which one at least is new
  module _ (room : w.shelf.pages ≡ v.shelf.pages) (fits : w.shelf.used ≤ w.shelf.pages) where
    few : w.shelf.used ≤ c.pages
    few = let pages = keeps.pages in omega (arith, room, fits, pages)

    -- the node was split below its parent
    module _ (sides : List Bool) (left right : B) (split : IsSplit c.rules shown shown_now item.page parent sides left right)
        (own : Each (HasOwnNumber e.seen w.shelf) (rising item.page parent (suc v.shelf.used))) where
      abbrev pages : List ℕ
      pages = rising item.page parent (suc v.shelf.used)

      abbrev pub given : Record (Entry B) (Page B)
      given = record_read (reading_of said f) (pages_given pages e.seen w.shelf)

      each : Each (λ p. ((0 < p) × (p ≤ w.shelf.used)) × HasOwnNumber e.seen w.shelf p) pages
      each =
          let before = stood c law said f passes d e v w bodies old whole keeps in
          let now = stands c law said f passes d e v w bodies old whole keeps in
          let more = split.used in
          let node : Used shown item.page = split_used c.rules law.rules shown shown_now item.page parent sides left right (shown_legal c law said f passes d e v w bodies old whole keeps) split in
          let above : Used shown parent = split.parent in
          each_with (λ p. (0 < p) × (p ≤ w.shelf.used)) (HasOwnNumber e.seen w.shelf) pages
          (rising_all (λ p. (0 < p) × (p ≤ w.shelf.used)) item.page parent (suc v.shelf.used)
          (node.0, (let high = node.1 in omega (arith, high, now, more))) (above.0, (let high = above.1 in omega (arith, high, now, more)))
          ((omega arith), (omega (arith, before, now, more)))) own

      module _ (after : StaysWith (known_of c) (reading_of said f) f passes d e w bodies old.log given) where
        pub split_works : WorksWith c (reading_of said f) f passes e w bodies old given
        split_works =
            given_works c law said f passes d e v w bodies old whole keeps pages each after few (Splits item.page parent sides left right) tt tt split

        pub split_to : GoesTo c law said f passes d e v w bodies old whole s entry parent item at locks notes call slot keeps (with_record given old) 0 (from_root (tree_now c (with_record given old)))
        split_to =
            let j : State B = with_record given old in
            let logged : IsSplit c.rules t (tree_now c j) item.page parent sides left right =
            given_step c law said f passes d e v w bodies old whole keeps pages each after (Splits item.page parent sides left right) split in
            record {
              does = descent_again c law j split_works.comes.happens.whole s entry parent item at;
              lower = splits c law old whole s locks notes call slot entry parent item at given item.page parent sides left right logged
                  (let same = after.shows.used in let now = stands c law said f passes d e v w bodies old whole keeps in let most = few in omega (arith, same, now, most));
            }

    -- the root was split
    module _ (sides : List Bool) (left right : B) (split : IsRootSplit c.rules shown shown_now sides left right)
        (own : Each (HasOwnNumber e.seen w.shelf) (1 ∷ suc v.shelf.used ∷ suc (suc v.shelf.used) ∷ [])) where
      abbrev root_pages : List ℕ
      root_pages = 1 ∷ suc v.shelf.used ∷ suc (suc v.shelf.used) ∷ []

      abbrev pub root_given : Record (Entry B) (Page B)
      root_given = record_read (reading_of said f) (pages_given root_pages e.seen w.shelf)

      root_each : Each (λ p. ((0 < p) × (p ≤ w.shelf.used)) × HasOwnNumber e.seen w.shelf p) root_pages
      root_each =
          let before = stood c law said f passes d e v w bodies old whole keeps in
          let now = stands c law said f passes d e v w bodies old whole keeps in
          let more = split.used in
          each_with (λ p. (0 < p) × (p ≤ w.shelf.used)) (HasOwnNumber e.seen w.shelf) root_pages
          (((omega arith), (omega (arith, before, now, more))), (((omega arith), (omega (arith, before, now, more))), (((omega arith), (omega (arith, before, now, more))), tt))) own

      module _ (after : StaysWith (known_of c) (reading_of said f) f passes d e w bodies old.log root_given) where
        pub root_split_works : WorksWith c (reading_of said f) f passes e w bodies old root_given
        root_split_works =
            given_works c law said f passes d e v w bodies old whole keeps root_pages root_each after few (SplitsRoot sides left right) tt tt split

        pub root_split_to : GoesTo c law said f passes d e v w bodies old whole s entry parent item at locks notes call slot keeps (with_record root_given old) 0
            (from_root (tree_now c (with_record root_given old)))
        root_split_to =
            let j : State B = with_record root_given old in
            let logged : IsRootSplit c.rules t (tree_now c j) sides left right =
            given_step c law said f passes d e v w bodies old whole keeps root_pages root_each after (SplitsRoot sides left right) split in
            record {
              does = descent_again c law j root_split_works.comes.happens.whole s entry parent item at;
              lower = splits_root c law old whole s locks notes call slot entry parent item at root_given sides left right logged
                  (let same = after.shows.used in let now = stands c law said f passes d e v w bodies old whole keeps in let most = few in omega (arith, same, now, most));
            }
