-- A page record: a split, a widening or a sweep.
use Rattle.std.proofs.Common.{◌≡◌, ℕ, ◌≤◌, Bool, true, false, not, ◌&&◌, ◌||◌, List, [], ◌∷◌, ◌++◌, None, refl, ap, sym, ◌∙◌, subst, arith}
use Rattle.std.specs.Prelude.{is_some, option_map, ◌==◌}
use Rattle.std.specs.List.{list_all}
use Rattle.gx_machine.specs.declared.entry.Entry.{Entry}
use Rattle.gx_node.specs.Trees.{Tree, Rules}
use Rattle.gx_node.specs.Legal.{Legal}
use Rattle.gx_node.specs.Steps.{Step, Splits, SplitsRoot, Widens, Adds, Marks, Sweeps, IsStep, LeavesAlone}
use Rattle.gx_node.proofs.AllSteps.{legal_step}
use Rattle.gx_events.specs.Slots.{slot_at}
use Rattle.gx_events.specs.Happenings as events
use Rattle.gx_events.specs.Wants.{is_claimed}
use Rattle.gx_events.specs.Engines.{IsSame}
use Rattle.gx_recovery.specs.Known.{Known}
use Rattle.gx_recovery.specs.Records.{Image, Change, Record, Pages, Adjust, Touch, touch_of, closes, settled, any_number}
use Rattle.gx_recovery.specs.Analysis.{Analysis, analysis, read, lists}
use Rattle.gx_recovery.specs.Redo.{tree_of}
use Rattle.std.specs.Option.{option_or}
use Rattle.gx_recovery.specs.Given.{given, change_fits}
use Rattle.gx_recovery.specs.Life.{kept_of, IsMove, Stays, append_move}
use Rattle.gx_recovery.specs.Standing.{mark_before, own_before}
use Rattle.gx_recovery.specs.Damage.{is_transaction, image_fits}
use Rattle.gx_recovery.specs.Coming.{Placed, MayCome}
use Rattle.gx_recovery.specs.Logged.{Logged, all_records, appended}
use Rattle.gx_recovery.proofs.Folds.{or-none, analysis-snoc, first-snoc, settled-snoc}
use Rattle.gx_recovery.proofs.SoundRecords.{pages_may_come, change_may_come}
use Rattle.gx_recovery.proofs.Lives.{appended_healthy, appended_moves}
use Rattle.gx_index_laws.specs.Classes.{Class, Page, IsLawful, is_of, is_live, tree_in, known_of}
use Rattle.gx_index_laws.specs.Steps.{IsPageStep, SparesClaims}
use Rattle.gx_index_laws.specs.States.{State, tree_after, tree_now, engine_of}
use Rattle.gx_index_laws.specs.Whole.{HasTransaction, IsHad, IsTied, IsWhole}
use Rattle.gx_index_laws.specs.Happening.{Comes, with_record}
use Rattle.gx_index_laws.proofs.Living.{pair_is, page_step_live}
use Rattle.gx_index_laws.proofs.Leaving.{page_spares, page_leaves, work_kept}
use Rattle.gx_index_laws.proofs.Standing.{grown, each_listed, claimed_somewhere, known_lawful, placed_kept, is_log, is_good, is_legal, touched_is_held, Holds}
use Rattle.gx_index_laws.proofs.Happens.{happens, sets_stay}
use Rattle.gx_index_laws.proofs.Writing.{restored_kept}

-- no step takes the counter or the pages in use down
pub steps_rise : {B : Type 0} (r : Rules B) (old new : Tree B) (step : Step B) → IsStep r old step new → (old.counter ≤ new.counter) × (old.used ≤ new.used)
steps_rise r old new (Splits n p sides left right) is = (let a = is.counter in let b = is.used in (omega (arith, a), omega (arith, b)))
steps_rise r old new (SplitsRoot sides left right) is = (let a = is.counter in let b = is.used in (omega (arith, a), omega (arith, b)))
steps_rise r old new (Widens a x coming key) is = (let a = is.changes.counter in let b = is.changes.used in (omega (arith, a), omega (arith, b)))
steps_rise r old new (Adds a x) is = (let a = is.changes.counter in let b = is.changes.used in (omega (arith, a), omega (arith, b)))
steps_rise r old new (Marks a row key mark) is = (let a = is.changes.counter in let b = is.changes.used in (omega (arith, a), omega (arith, b)))
steps_rise r old new (Sweeps a claimed) is = (let a = is.changes.counter in let b = is.changes.used in (omega (arith, a), omega (arith, b)))

module _ {B : Type 0} (c : Class B) (l : IsLawful c) (old : State B) (w : IsWhole c old) where
  -- a log with the same transactions
  pub tied_alike : (log : Logged (Entry B) (Page B))
      → ((t : ℕ) → settled any_number t (all_records log) ≡ settled any_number t (all_records old.log))
      → ((t : ℕ) (e : Entry B) → own_before (known_of c) t e (all_records log) ≡ own_before (known_of c) t e (all_records old.log))
      → IsTied c (record old { log = log })
  tied_alike log closed own = record {
    each = λ a busy.
        let h : HasTransaction c old a = w.tied.each a busy in
        record {
          open_yet = ap (λ b. is_transaction (old.transaction a) && not b) (closed (old.transaction a)) ∙ h.open_yet;
          below = h.below;
          notes = λ e. h.notes e ∙ sym (ap (option_map not) (own (old.transaction a) e));
        };
    own = w.tied.own;
    had = λ t e open_yet some.
        let h : IsHad old t = w.tied.had t e (sym (closed t) ∙ open_yet) (ap is_some (sym (own t e)) ∙ some) in
        record { session = h.session; busy = h.busy; has = h.has };
  }

  -- A record of no transaction, whose step belongs to none.
  module _ (r : Record (Entry B) (Page B)) (touches : touch_of r ≡ None) (shuts : (t : ℕ) → closes any_number t r ≡ false)
      (same_next : (read (known_of c) (analysis (known_of c) (all_records old.log)) r).next ≡ (analysis (known_of c) (all_records old.log)).next)
      (same_move : append_move (known_of c) old.log r ≡ Stays)
      (step : Step B) (is_page : IsPageStep step) (spares : SparesClaims c old.slots step) (is_step : IsStep c.rules (tree_now c old) step (tree_now c (with_record r old))) where
    abbrev k : Known (Entry B) (Page B)
    k = known_of c

    abbrev log : List (Record (Entry B) (Page B))
    log = all_records old.log

    abbrev then_tree : Tree B
    then_tree = tree_in (tree_of k old.log.area (log ++ r ∷ []))

    legal : Legal c.rules (tree_now c old)
    legal = is_legal c l old w

    step_then : IsStep c.rules (tree_now c old) step then_tree
    step_then = subst (λ (x : List (Record (Entry B) (Page B))). IsStep c.rules (tree_now c old) step (tree_in (tree_of k old.log.area x))) (grown r old.log) is_step

    touched_spared : (x : Touch (Entry B)) → lists k x.transaction x.entry (analysis k log).touched ≡ true → LeavesAlone c.rules (is_of c x.entry) step
    touched_spared x listed =
        let h : Holds c l old w x.transaction x.entry = touched_is_held c l old w x.transaction x.entry listed in
        page_spares c l old.slots (is_of c x.entry) step is_page spares
        (λ y is marked. subst (λ z. is_claimed c.keys z old.slots ≡ true) (sym (pair_is c l x.entry y is)) (claimed_somewhere c x.entry h.had.session old.slots h.claimed))

    -- what the record owes of the tree
    live_then : (e : Entry B) → is_live c then_tree e ≡ is_live c (tree_now c old) e
    live_then e = page_step_live c l (tree_now c old) then_tree step legal step_then is_page e

    legal_then : Legal c.rules then_tree
    legal_then = legal_step c.rules l.rules (tree_now c old) then_tree step legal step_then

    placed_then : Placed k (tree_of k old.log.area (log ++ r ∷ [])) (analysis k log).touched
    placed_then =
        placed_kept c l (tree_of k old.log.area log) (tree_of k old.log.area (log ++ r ∷ [])) step (analysis k log).touched legal step_then
        (each_listed k (known_lawful c l) (λ x. LeavesAlone c.rules (is_of c x.entry) step) (analysis k log).touched touched_spared) (is_good c l old w).placed

    same_live : (e : Entry B) → is_live c (tree_after c (appended r old.log)) e ≡ is_live c (tree_now c old) e
    same_live e = page_step_live c l (tree_now c old) (tree_after c (appended r old.log)) step legal is_step is_page e

    or_false : (b : Bool) → (b || false) ≡ b
    or_false true = refl
    or_false false = refl

    pub paged_by : MayCome k old.log.area log r → Comes c old r events.Works (with_record r old)
    paged_by comes = record {
      may_come = comes;
      happens =
          (let same : IsSame (engine_of c (with_record r old)) (engine_of c old) = record { live = same_live; slots = refl; older = refl; oldest = refl; failed = refl } in
          happens c l old w events.Works (with_record r old) same (record {
            healthy = appended_healthy k (known_lawful c l) old.log w.healthy r comes;
            works = λ a. work_kept c l (tree_now c old) (tree_after c (appended r old.log)) step (slot_at a old.slots) (old.work a) legal is_step
                (page_leaves c l (engine_of c old) w.sound step is_page spares a) (w.works a);
            restored = λ a. restored_kept c (slot_at a old.slots) (is_live c (tree_now c old)) (is_live c (tree_after c (appended r old.log))) (old.restored a)
                (λ e noted. same_live e) (w.restored a);
            tied = tied_alike (appended r old.log)
                (λ t. ap (settled any_number t) (grown r old.log) ∙ settled-snoc k any_number t log r ∙ ap (λ b. settled any_number t log || b) (shuts t) ∙ or_false (settled any_number t log))
                (λ t e. ap (own_before k t e) (grown r old.log) ∙ first-snoc k (λ u. u == t) e log r
                ∙ ap (λ o. option_or (own_before k t e log) (mark_before k (λ u. u == t) e o)) touches ∙ or-none (own_before k t e log));
            next =
                (let was = w.next in let is = ap (λ (a : Analysis (Entry B)). a.next) (ap (analysis k) (grown r old.log) ∙ analysis-snoc k log r) in let stays = same_next in
                omega (arith, was, is, stays));
            sets = sets_stay c l old w events.Works (with_record r old) same refl
                (subst (λ m. IsMove (kept_of k old.log) m (kept_of k (appended r old.log))) same_move (appended_moves k (known_lawful c l) old.log w.healthy r comes)) refl refl;
          }));
    }

  -- Whole pages.
  module _ (images : List (Image (Page B))) (counter used : ℕ) (step : Step B) (is_page : IsPageStep step) (spares : SparesClaims c old.slots step)
      (on_device : used ≤ c.pages) (fitting : list_all (image_fits (known_of c) used) images ≡ true)
      (is_step : IsStep c.rules (tree_now c old) step (tree_now c (with_record (Pages images counter used) old))) where
    abbrev whole : Record (Entry B) (Page B)
    whole = Pages images counter used

    pub paged : Comes c old whole events.Works (with_record whole old)
    paged =
        let log : List (Record (Entry B) (Page B)) = all_records old.log in
        let told : analysis (known_of c) (log ++ whole ∷ []) ≡ record (analysis (known_of c) log) { counter = counter; used = used } = analysis-snoc (known_of c) log whole in
        let step_now = step_then whole refl (λ t. refl) refl refl step is_page spares is_step in
        let rise = steps_rise c.rules (tree_now c old) (tree_in (tree_of (known_of c) old.log.area (log ++ whole ∷ []))) step step_now in
        let up = ap (λ (a : Analysis (Entry B)). a.counter) told in
        let more = ap (λ (a : Analysis (Entry B)). a.used) told in
        paged_by whole refl (λ t. refl) refl refl step is_page spares is_step
        (pages_may_come (known_of c) (known_lawful c l) old.log.area log (is_log c l old w) images counter used (record {
          counter_stays = subst (λ n. (analysis (known_of c) log).counter ≤ n) up rise.0;
          used_stays = subst (λ n. (analysis (known_of c) log).used ≤ n) more rise.1;
          on_device = on_device;
          fitting = fitting;
          exact = live_then whole refl (λ t. refl) refl refl step is_page spares is_step;
          sound = legal_then whole refl (λ t. refl) refl refl step is_page spares is_step;
          placed = placed_then whole refl (λ t. refl) refl refl step is_page spares is_step;
        }))

  -- A small change of one page, if the log gives the page.
  module _ (page : ℕ) (change : Change (Page B)) (step : Step B) (is_page : IsPageStep step) (spares : SparesClaims c old.slots step)
      (fitting : change_fits (known_of c) change (given page (all_records old.log)) ≡ true)
      (is_step : IsStep c.rules (tree_now c old) step (tree_now c (with_record (Adjust page change) old))) where
    abbrev small : Record (Entry B) (Page B)
    small = Adjust page change

    pub adjusted : Comes c old small events.Works (with_record small old)
    adjusted =
        paged_by small refl (λ t. refl) refl refl step is_page spares is_step
        (change_may_come (known_of c) (known_lawful c l) old.log.area (all_records old.log) (is_log c l old w) page change (record {
          fitting = fitting;
          exact = live_then small refl (λ t. refl) refl refl step is_page spares is_step;
          sound = legal_then small refl (λ t. refl) refl refl step is_page spares is_step;
          placed = placed_then small refl (λ t. refl) refl refl step is_page spares is_step;
        }))
