-- A step of a descent over frames and device, as an index's: where it begins again, and where it goes down.
use Rattle.std.proofs.Common.{◌≡◌, ◌≢◌, ◌∙◌, sym, ap, refl, subst, inr, ℕ, ◌<◌, ◌≤◌, Bool, true, false, not, ◌&&◌, ◌||◌, ◌==◌, List, [], ◌∷◌, length, Some, arith}
use Rattle.std.specs.Prelude.{is_some, nat_lt}
use Rattle.std.proofs.lemmas.Bool.{lt-ltb}
use Rattle.gx_machine.specs.declared.entry.Entry.{Entry}
use Rattle.gx_machine.specs.declared.call.Call.{Call}
use Rattle.gx_machine.specs.Sessions.{Locks}
use Rattle.gx_disk.specs.Device.{Device}
use Rattle.gx_page.specs.Contents.{Contents}
use Rattle.gx_node.specs.Alike.{AgreeOnUsed}
use Rattle.gx_node.specs.Legal.{ChildFits, Legal}
use Rattle.gx_node.specs.Looks.{from_root}
use Rattle.gx_node.specs.Reach.{TraversalItem}
use Rattle.gx_node.specs.Steps.{IsWidening, Widens}
use Rattle.gx_node.specs.Trees.{Child, Node, Pair, Tree, Used, child_pages, size, times}
use Rattle.gx_node.specs.Writes.{IsDescent, has_place, must_restart}
use Rattle.gx_node.proofs.AlikeLooks.{descent_too}
use Rattle.gx_node.proofs.AlikeTrees.{agree_back}
use Rattle.gx_node.proofs.Chains.{some_child}
use Rattle.gx_node.specs.Reading.{Format}
use Rattle.gx_tree.specs.Descending.{IsChoice, StepsDown}
use Rattle.gx_tree.specs.declared.descent.Descended.TheVariants.{Down, Widened}
use Rattle.gx_node.specs.Keyed.{AreKeys}
use Rattle.gx_node.specs.Store.{Store, tree_of}
use Rattle.gx_tree.proofs.Ways.{each_slot, named}
use Rattle.gx_tree.proofs.Widens.{went_down, went_widened, went_widening}
use Rattle.gx_events.specs.Slots.{Note, Working, slot_at}
use Rattle.gx_recovery.specs.Given.{change_fits, given}
use Rattle.gx_recovery.specs.Logged.{all_records}
use Rattle.gx_recovery.specs.Records.{Record}
use Rattle.gx_index_laws.specs.Classes.{Class, IsLawful, Page, known_of}
use Rattle.gx_index_laws.specs.Happening.{with_record, with_work}
use Rattle.gx_index_laws.specs.Measures.{work_left}
use Rattle.gx_index_laws.specs.States.{Descends, State, tree_now}
use Rattle.gx_index_laws.specs.Whole.{IsWhole}
use Rattle.gx_index_laws.specs.Working.{DescendsFor, DoesWork}
use Rattle.gx_index_laws.proofs.Answering.{descent_again, descent_of}
use Rattle.gx_index_laws.proofs.Measuring.{goes_down, restarts, widens}
use Rattle.gx_index_laws.proofs.Standing.{is_legal}
use Rattle.gx_durable.specs.Spelled.{record_read}
use Rattle.gx_durable.specs.Small.{SetKey}
use Rattle.gx_durable.specs.Classes.{change_of, reading_of}
use Rattle.gx_store.specs.Standing.{store_of}
use Rattle.gx_storage.specs.Imaged.{is_imaged}
use Rattle.gx_storage.specs.Keeps.{Keeps, StaysWith}
use Rattle.gx_storage.specs.Numbers.{HasOwnNumber}
use Rattle.gx_storage.specs.Small.{widen_said}
use Rattle.gx_storage.specs.State.{Volume}
use Rattle.gx_storage.specs.Sweeps.{WorksWith}
use Rattle.gx_storage.proofs.Recording.{AreNodes}
use Rattle.gx_storage.proofs.SmallSteps.{changed_step, changed_works}
use Rattle.gx_storage.proofs.SmallWidens.{widen_fits}
use Rattle.gx_storage.proofs.Stepping.{given_step, given_works, shown_legal, shows, stands, stood, used_few}
use Rattle.gx_storage.proofs.Stepping as stepping

-- what a class says of its unions
pub record IsJoin {B : Type 0} (c : Class B) (IsKey : B → Type 0) (joined : B → B → B) : Type 0 where
  pub is_key : (a b : B) → IsKey a → IsKey b → IsKey (joined a b)
  pub first : (a b : B) → IsKey a → IsKey b → c.rules.covers (joined a b) a ≡ true
  pub second : (a b : B) → IsKey a → IsKey b → c.rules.covers (joined a b) b ≡ true
  pub least : (a b x : B) → IsKey a → IsKey b → c.rules.covers x a ≡ true → c.rules.covers x b ≡ true → c.rules.covers x (joined a b) ≡ true

module _ {B D : Type 0} (c : Class B) (law : IsLawful c) (said : List ℕ → B) (f : Format B) (passes : ℕ → Contents → Bool) (d e : Device) (v w : Volume D)
    (bodies : List (List (Record (Entry B) (Page B)))) (old : State B) (whole : IsWhole c old)
    (s : ℕ) (entry : Entry B) (parent : ℕ) (item : TraversalItem) (at : old.work s ≡ Descends entry parent item)
    (locks : Locks B) (notes : List (Note B)) (call : Call B) (slot : slot_at s old.slots ≡ Working locks notes (Some call))
    (keeps : Keeps (known_of c) (reading_of said f) f passes d v bodies old.log) where
  abbrev pub t : Tree B
  t = tree_now c old

  abbrev pub shown : Tree B
  shown = stepping.shown c law said f passes d e v w bodies old whole

  abbrev pub shown_now : Tree B
  shown_now = stepping.shown_now c law said f passes d e v w bodies old whole

  agree : AgreeOnUsed t shown
  agree = shows c law said f passes d e v w bodies old whole keeps

  legal : Legal c.rules t
  legal = is_legal c law old whole

  legal_shown : Legal c.rules shown
  legal_shown = shown_legal c law said f passes d e v w bodies old whole keeps

  pub its_descent : DescendsFor c t (slot_at s old.slots) entry parent item
  its_descent = descent_of c law old whole s entry parent item at

  -- the page is the log's
  pub same_node : shown.node item.page ≡ t.node item.page
  same_node = agree.nodes item.page its_descent.descent.there

  pub shown_descent : IsDescent c.rules shown item entry.key
  shown_descent = descent_too c.rules t shown agree item entry.key its_descent.descent

  -- where an index's session descends next, and what its call then has left
  pub record GoesTo (j : State B) (from : ℕ) (next : TraversalItem) : Type 0 where
    pub does : DoesWork c (tree_now c j) (slot_at s j.slots) (Descends entry from next)
    pub lower : work_left c (with_work s (Descends entry from next) j) s < work_left c old s

  -- it begins again, since it must: its page was split since, or the page that it came from has no place for a split of it
  pub begins_again : must_restart c.rules t parent item ≡ true → GoesTo old 0 (from_root t)
  begins_again must = record {
    does = descent_again c law old whole s entry parent item at;
    lower = restarts c law old whole s locks notes call slot entry parent item at must;
  }

  pub was_split : item.seen < (shown.node item.page).nsn → GoesTo old 0 (from_root t)
  was_split later =
      let there : nat_lt item.seen (t.node item.page).nsn ≡ true = lt-ltb item.seen (t.node item.page).nsn (subst (λ (n : Node B). item.seen < n.nsn) same_node later) in
      begins_again (ap (λ b. b || (not (item.page == 1) && not (has_place c.rules t parent item.page))) there)

  -- by an entry of its page, which isn't full
  module _ (cost : B → B → ℕ × ℕ) (slot_there : ℕ) (next : TraversalItem) (bound : B) (choice : IsChoice cost c.rules.most (shown.node item.page) entry.key slot_there next.page bound) where
    inner : 0 < (t.node item.page).level
    inner = subst (λ (n : Node B). 0 < n.level) same_node choice.inner

    named_there : 0 < times next.page (child_pages (t.node item.page))
    named_there =
        subst (λ (n : Node B). 0 < times next.page (child_pages n)) same_node
        (named (shown.node item.page).children slot_there (record { key = bound; page = next.page }) choice.at)

    space : size (t.node item.page) < c.rules.most
    space =
        let none : (t.node item.page).pairs ≡ [] = ((legal.pages item.page its_descent.descent.there).inner inner).0 in
        let no_pairs = ap (λ (xs : List (Pair B)). length xs) none in
        let few = subst (λ (n : Node B). length n.children < c.rules.most) same_node choice.room in
        omega (arith, no_pairs, few)

    apart : item.page ≢ next.page
    apart is =
        let pick = some_child (ChildFits c.rules t (t.node item.page).level) next.page (t.node item.page).children named_there (legal.pages item.page its_descent.descent.there).children in
        let level = pick.1.level in
        let there = ap (λ q. (t.node q).level) (is ∙ sym pick.2) in
        omega (arith, level, there)

    -- what is shown is what all records leave, and is unchanged
    pub goes_by : next.seen ≡ v.shelf.counter → IsDescent c.rules shown next entry.key → GoesTo old item.page next
    goes_by seen descent =
        let now : t.counter ≡ next.seen = keeps.counter ∙ sym seen in
        record {
          does = record {
            call = its_descent.call;
            looked = its_descent.looked;
            descent = descent_too c.rules shown t (agree_back t shown agree) next entry.key descent;
            apart = apart;
            came = inr (its_descent.descent.there, inner);
          };
          lower =
              subst (λ n. work_left c (with_work s (Descends entry item.page (record { page = next.page; seen = n })) old) s < work_left c old s) now
              (goes_down c law old whole s locks notes call slot entry parent item at next.page space named_there);
        }

    -- its bound is widened first, with a record
    module _ (x : Record (Entry B) (Page B)) (after : StaysWith (known_of c) (reading_of said f) f passes d e w bodies old.log x)
        (works : WorksWith c (reading_of said f) f passes e w bodies old x) (key : B)
        (logged : IsWidening c.rules t (tree_now c (with_record x old)) item.page next.page entry.key key) where
      pub widens_to : next.seen ≡ v.shelf.counter → IsDescent c.rules shown_now next entry.key → GoesTo (with_record x old) item.page next
      widens_to seen descent =
          let j : State B = with_record x old in
          let then_tree : Tree B = tree_now c j in
          let then_descent : DescendsFor c then_tree (slot_at s j.slots) entry parent item = descent_of c law j works.comes.happens.whole s entry parent item at in
          let used : Used then_tree item.page =
          ((logged.changes).there.0, (let same = (logged.changes).used in let there = (logged.changes).there.1 in omega (arith, same, there))) in
          let level : (then_tree.node item.page).level ≡ (t.node item.page).level = ap (λ (n : Node B). n.level) (logged.changes).changed in
          let now : then_tree.counter ≡ next.seen = (logged.changes).counter ∙ keeps.counter ∙ sym seen in
          record {
            does = record {
              call = then_descent.call;
              looked = then_descent.looked;
              descent = descent_too c.rules shown_now then_tree (agree_back then_tree shown_now after.shows) next entry.key descent;
              apart = apart;
              came = inr (used, (let there = inner in omega (arith, level, there)));
            };
            lower =
                subst (λ n. work_left c (with_work s (Descends entry item.page (record { page = next.page; seen = n })) j) s < work_left c old s) now
                (widens c law old whole s locks notes call slot entry parent item at x next.page entry.key key logged space named_there);
          }

  -- the step that goes down, by what a class says of its unions
  module _ (IsKey : B → Type 0) (cost : B → B → ℕ × ℕ) (joined : B → B → B) (join : IsJoin c IsKey joined) (keys : AreKeys IsKey shown) (is_key : IsKey entry.key) where
    abbrev before : Store B
    before = store_of f d.seen v.shelf

    abbrev now : Store B
    now = store_of f e.seen w.shelf

    pub went_down_to : (next : TraversalItem) → StepsDown cost joined c.rules.most before now item entry.key (Down next) → GoesTo old item.page next
    went_down_to next step =
        let way = step.0.1 in
        goes_by cost step.0.0 next way.1.0 way.1.1 step.1
        (subst (λ (x : Store B). IsDescent c.rules (tree_of x) next entry.key) step.2
        (went_down c.rules IsKey cost joined join.is_key join.first join.second join.least before now item entry.key keys is_key next legal_shown shown_descent step))

    module _ (was : AreNodes f passes v.shelf) (spelling : B → List ℕ) (reads : (k : B) → IsKey k → f.reading (spelling k) ≡ Some k)
        (next : TraversalItem) (slot_there : ℕ) (key : B) (step : StepsDown cost joined c.rules.most before now item entry.key (Widened next slot_there key))
        (own : HasOwnNumber e.seen w.shelf item.page) where
      widening : IsWidening c.rules shown shown_now item.page next.page entry.key key
      widening =
          went_widening c.rules IsKey cost joined join.is_key join.first join.second join.least before now item entry.key keys is_key next slot_there key step legal_shown shown_descent

      used_then : v.shelf.used ≡ shown.used
      used_then = sym (stood c law said f passes d e v w bodies old whole keeps)

      used_now : w.shelf.used ≡ shown.used
      used_now = sym (stands c law said f passes d e v w bodies old whole keeps) ∙ (widening.changes).used

      low : 0 < item.page
      low = (widening.changes).there.0

      high_then : item.page ≤ v.shelf.used
      high_then = let there = (widening.changes).there.1 in let used = used_then in omega (arith, there, used)

      high_now : item.page ≤ w.shelf.used
      high_now = let there = (widening.changes).there.1 in let used = used_now in omega (arith, there, used)

      its_key : IsKey key
      its_key =
          let way = step.0.1 in
          let bound = each_slot (λ (x : Child B). IsKey x.key) (shown.node item.page).children slot_there (record { key = way.0; page = next.page }) (way.1).at
          (keys.children item.page shown_descent.there) in
          subst IsKey (sym way.2) (join.is_key way.0 entry.key bound is_key)

      -- what the log gives of the page takes the bound
      fits : is_imaged v.imaged item.page ≡ true → change_fits (known_of c) (change_of f (SetKey slot_there (spelling key))) (given item.page (all_records old.log)) ≡ true
      fits bit =
          let way = step.0.1 in
          widen_fits (known_of c) said f passes d v bodies old.log keeps was item.page low high_then bit slot_there (record { key = way.0; page = next.page }) (way.1).inner (way.1).at
          (spelling key) (ap is_some (reads key its_key))

      -- the record of the bound, and what it does to an index: nothing that a session sees
      abbrev pub told : Bool → Record (Entry B) (Page B)
      told small = record_read (reading_of said f) (widen_said spelling small item.page slot_there key e.seen w.shelf)

      record IsTold (small : Bool) : Type 0 where
        pub works : WorksWith c (reading_of said f) f passes e w bodies old (told small)
        pub logged : IsWidening c.rules t (tree_now c (with_record (told small) old)) item.page next.page entry.key key

      is_told : (small : Bool) → is_imaged v.imaged item.page ≡ small → StaysWith (known_of c) (reading_of said f) f passes d e w bodies old.log (told small) → IsTold small
      is_told true bit after = record {
        works =
            changed_works c law said f passes d e v w bodies old whole keeps item.page (change_of f (SetKey slot_there (spelling key))) low high_now after
            (Widens item.page next.page entry.key key) tt tt (fits bit) widening;
        logged =
            changed_step c law said f passes d e v w bodies old whole keeps item.page (change_of f (SetKey slot_there (spelling key))) low high_now after
            (Widens item.page next.page entry.key key) widening;
      }
      is_told false bit after =
          let few : w.shelf.used ≤ c.pages = (let few = used_few c law said f passes d e v w bodies old whole keeps in let before = used_then in let after = used_now in omega (arith, few, before, after)) in
          record {
            works =
                given_works c law said f passes d e v w bodies old whole keeps (item.page ∷ []) (((low, high_now), own), tt) after few (Widens item.page next.page entry.key key) tt tt widening;
            logged = given_step c law said f passes d e v w bodies old whole keeps (item.page ∷ []) (((low, high_now), own), tt) after (Widens item.page next.page entry.key key) widening;
          }

      module _ (after : StaysWith (known_of c) (reading_of said f) f passes d e w bodies old.log (told (is_imaged v.imaged item.page))) where
        its : IsTold (is_imaged v.imaged item.page)
        its = is_told (is_imaged v.imaged item.page) refl after

        pub widened_works : WorksWith c (reading_of said f) f passes e w bodies old (told (is_imaged v.imaged item.page))
        widened_works = its.works

        pub widened_to : GoesTo (with_record (told (is_imaged v.imaged item.page)) old) item.page next
        widened_to =
            let way = step.0 in
            widens_to cost slot_there next way.1.0 way.1.1 (told (is_imaged v.imaged item.page)) after its.works key its.logged step.1
            (went_widened c.rules IsKey cost joined join.is_key join.first join.second join.least before now item entry.key keys is_key next slot_there key step legal_shown shown_descent law.rules)
