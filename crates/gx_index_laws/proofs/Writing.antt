-- A write of one entry by its session: its record may come, and what the write leaves.
use Rattle.std.proofs.Common.{◌≡◌, ◌≢◌, ℕ, ◌≤◌, Bool, true, false, not, ◌&&◌, inl, inr, List, [], ◌∷◌, ◌++◌, Option, Some, None, refl, ap, sym, ◌∙◌, subst, arith}
use Rattle.std.specs.Prelude.{is_some, option_map, ◌==◌, if◌then◌else◌, nat_lt, nat_le}
use Rattle.std.specs.Option.{option_or}
use Rattle.std.proofs.lemmas.Bool.{eqb-true, eq-eqb, ne_eqb, lt-ltb, le-leb}
use Rattle.gx_machine.specs.declared.entry.Entry.{Entry}
use Rattle.gx_machine.specs.Keys.{same_entry}
use Rattle.gx_machine.specs.Sets.{has}
use Rattle.gx_node.specs.Trees.{Tree, Used}
use Rattle.gx_node.specs.Legal.{Legal}
use Rattle.gx_node.specs.Steps.{Step, IsStep, LeavesAlone}
use Rattle.gx_node.specs.Writes.{IsSeek}
use Rattle.gx_node.proofs.AllSteps.{legal_step}
use Rattle.gx_events.specs.Slots.{Slot, Free, Working, Undoing, Waiting, locks_held, notes_kept, slot_at, entries_of, noted}
use Rattle.gx_events.proofs.Noted.{has_noted}
use Rattle.gx_events.proofs.Locking.{noted_is_claimed}
use Rattle.gx_recovery.specs.Known.{Known, same}
use Rattle.gx_recovery.specs.Records.{Said, Record, Write, Touch, settled, any_number}
use Rattle.gx_recovery.specs.Analysis.{Analysis, analysis, touching, lists}
use Rattle.gx_recovery.specs.Redo.{tree_of}
use Rattle.gx_recovery.specs.Standing.{own_before}
use Rattle.gx_recovery.specs.Damage.{is_transaction}
use Rattle.gx_recovery.specs.Coming.{IsSaid, MayCome}
use Rattle.gx_recovery.specs.Logged.{all_records, appended}
use Rattle.gx_recovery.specs.Life.{kept_of, AreSame}
use Rattle.gx_recovery.proofs.Tests.{true_or_false, and_first, and_second, either_of}
use Rattle.gx_recovery.proofs.Logs.{and_all}
use Rattle.gx_recovery.proofs.Folds.{analysis-snoc, first-snoc}
use Rattle.gx_recovery.proofs.Touches.{in_order_touching, lists-touching, same_is}
use Rattle.gx_recovery.proofs.Told.{settled_shut}
use Rattle.gx_recovery.proofs.SoundRecords.{write_may_come}
use Rattle.gx_recovery.proofs.Lives.{appended_moves}
use Rattle.gx_index_laws.specs.Classes.{Class, IsLawful, Page, is_of, is_live, tree_in, known_of}
use Rattle.gx_index_laws.specs.Steps.{IsWriteOf}
use Rattle.gx_index_laws.specs.States.{State, Work, tree_after, tree_now, engine_of}
use Rattle.gx_index_laws.specs.Working.{DoesWork, AreRestored}
use Rattle.gx_index_laws.specs.Whole.{is_busy, HasTransaction, IsHad, IsTied, IsWhole}
use Rattle.gx_index_laws.proofs.Tools.{by_session, not_true}
use Rattle.gx_index_laws.proofs.Living.{other_pair}
use Rattle.gx_index_laws.proofs.Leaving.{write_spares, write_leaves, work_kept}
use Rattle.gx_index_laws.proofs.Room.{IsClaimed, claimed_has_room}
use Rattle.gx_index_laws.proofs.Standing.{grown, each_listed, known_lawful, beside_kept, is_log, is_good, is_legal, tells, busy_session, touched_is_held, one_claims, touch_is_claimed}

-- A step of the tree writes one entry: it had one mark and has another now, no other entry becomes live or dead by it,
-- and its pair is then in this leaf or to the right of it.
pub record Writes {B : Type 0} (c : Class B) (old new : Tree B) (e : Entry B) (before after : Bool) (leaf : ℕ) : Type 0 where
  pub step : Step B
  pub is_step : IsStep c.rules old step new
  pub of_entry : IsWriteOf e step
  pub was : is_live c old e ≡ not before
  pub now : is_live c new e ≡ not after
  pub others : (x : Entry B) → same_entry c.keys x e ≡ false → is_live c new x ≡ is_live c old x
  pub there : Used old leaf
  pub sought : IsSeek c.rules new leaf e.row e.key

-- what is restored stays so, if each noted entry is live exactly if it was
pub restored_kept : {B : Type 0} (c : Class B) (slot : Slot B) (old new : Entry B → Bool) (restored : List (Entry B))
    → ((e : Entry B) → has c.keys e (entries_of (notes_kept slot)) ≡ true → new e ≡ old e) → AreRestored c.keys old slot restored → AreRestored c.keys new slot restored
restored_kept c Free old new restored same are = tt
restored_kept c (Working locks notes call) old new restored same are = tt
restored_kept c (Undoing locks notes) old new restored same are = λ e was there is. same e (has_noted c.keys e notes was is) ∙ are e was there is
restored_kept c (Waiting number) old new restored same are = tt

-- what one session's write closes, touches and says
module _ {B : Type 0} (c : Class B) (l : IsLawful c) (old : State B) (w : IsWhole c old) where
  abbrev k : Known (Entry B) (Page B)
  k = known_of c

  abbrev log : List (Record (Entry B) (Page B))
  log = all_records old.log

  module _ (s : ℕ) (busy : is_busy (slot_at s old.slots) ≡ true) (e : Entry B) (before after : Bool) (leaf : ℕ) (said : Said (Page B)) where
    abbrev r : Record (Entry B) (Page B)
    r = Write (old.transaction s) e before after leaf said

    abbrev n : Touch (Entry B)
    n = record { transaction = old.transaction s; entry = e; before = before; leaf = leaf }

    has_tx : HasTransaction c old s
    has_tx = w.tied.each s busy

    module _ (claimed : has c.keys e (locks_held (slot_at s old.slots)).claims ≡ true) (of_class : c.is_key e.key ≡ true) (own : IsSaid k leaf said log) where
      room_claimed : (x : Touch (Entry B)) → lists k x.transaction x.entry (touching k n (analysis k log).touched) ≡ true → IsClaimed k (known_lawful c l) old.transaction old.slots x
      room_claimed x listed =
          elim (either_of (n.transaction == x.transaction && same k x.entry n.entry) (lists k x.transaction x.entry (analysis k log).touched)
          (sym (lists-touching k (known_lawful c l) x.transaction x.entry n (analysis k log).touched) ∙ listed)) [
            | inl here ↦
                (let at : x.entry ≡ e = same_is k (known_lawful c l) x.entry e (and_second (n.transaction == x.transaction) (same k x.entry n.entry) here) in
                record {
                  session = s;
                  there = busy_session c l old w s busy;
                  number = eqb-true n.transaction x.transaction (and_first (n.transaction == x.transaction) (same k x.entry n.entry) here);
                  claimed = subst (λ y. has c.keys y (locks_held (slot_at s old.slots)).claims ≡ true) (sym at) claimed;
                })
            | inr before_it ↦ touch_is_claimed c l old w x before_it
          ]

      module _ (wrote : Writes c (tree_now c old) (tree_after c (appended r old.log)) e before after leaf) where
        wrote_then : Writes c (tree_now c old) (tree_in (tree_of k old.log.area (log ++ r ∷ []))) e before after leaf
        wrote_then = subst (λ (x : List (Record (Entry B) (Page B))). Writes c (tree_now c old) (tree_in (tree_of k old.log.area x)) e before after leaf) (grown r old.log) wrote

        beside_left : (x : Touch (Entry B)) → same k x.entry e ≡ false → LeavesAlone c.rules (is_of c x.entry) wrote_then.step
        beside_left x ne = write_spares c l e (is_of c x.entry) wrote_then.step wrote_then.of_entry (λ y at. other_pair c l e x.entry y at ne)

        pub write_comes : MayCome k old.log.area log r
        write_comes = write_may_come k (known_lawful c l) old.log.area log (is_log c l old w) (old.transaction s) e before after leaf said (record {
          open_yet = has_tx.open_yet;
          of_class = of_class;
          alone = λ u listed.
              let h = touched_is_held c l old w u e listed in
              sym h.had.has ∙ ap old.transaction (one_claims c l old w h.had.session s e h.claimed claimed);
          own = own;
          in_use =
              (let low = wrote_then.there.0 in let high = wrote_then.there.1 in
              and_all (nat_lt 0 leaf) (nat_le leaf (analysis k log).used) (lt-ltb 0 leaf low) (le-leb leaf (analysis k log).used high));
          room = claimed_has_room k (known_lawful c l) old.transaction old.slots (touching k n (analysis k log).touched)
              (in_order_touching k (known_lawful c l) n (analysis k log).touched (tells c l old w).in_order)
              (each_listed k (known_lawful c l) (IsClaimed k (known_lawful c l) old.transaction old.slots) (touching k n (analysis k log).touched) room_claimed) w.few;
          exact = record { found = wrote_then.was; left = wrote_then.now; others = wrote_then.others };
          sound = legal_step c.rules l.rules (tree_now c old) (tree_in (tree_of k old.log.area (log ++ r ∷ []))) wrote_then.step (is_legal c l old w) wrote_then.is_step;
          placed = wrote_then.sought;
          others = beside_kept c l (tree_of k old.log.area log) (tree_of k old.log.area (log ++ r ∷ [])) wrote_then.step e (analysis k log).touched
              (is_legal c l old w) wrote_then.is_step beside_left (is_good c l old w).placed;
        })

        stays_legal : Legal c.rules (tree_now c old)
        stays_legal = is_legal c l old w

        same_closed : (t : ℕ) → settled any_number t (all_records (appended r old.log)) ≡ settled any_number t log
        same_closed t = ap (settled any_number t) (grown r old.log) ∙ settled_shut k (known_lawful c l) any_number t log r refl

        own_now : (t : ℕ) (x : Entry B) → own_before k t x (all_records (appended r old.log))
            ≡ option_or (own_before k t x log) (if old.transaction s == t && same_entry c.keys x e then Some before else None)
        own_now t x = ap (own_before k t x) (grown r old.log) ∙ first-snoc k (λ u. u == t) x log r

        or_nothing : (o : Option Bool) → option_or o None ≡ o
        or_nothing None = refl
        or_nothing (Some b) = refl

        own_other : (t : ℕ) (x : Entry B) → old.transaction s ≢ t → own_before k t x (all_records (appended r old.log)) ≡ own_before k t x log
        own_other t x ne =
            own_now t x ∙ ap (λ b. option_or (own_before k t x log) (if b && same_entry c.keys x e then Some before else None)) (ne_eqb (old.transaction s) t ne)
            ∙ or_nothing (own_before k t x log)

        own_here : (x : Entry B) → own_before k (old.transaction s) x (all_records (appended r old.log))
            ≡ option_or (own_before k (old.transaction s) x log) (if same_entry c.keys x e then Some before else None)
        own_here x =
            own_now (old.transaction s) x
            ∙ ap (λ b. option_or (own_before k (old.transaction s) x log) (if b && same_entry c.keys x e then Some before else None)) (eq-eqb (old.transaction s) (old.transaction s) refl)

        -- What a write leaves: the session has another slot, which is busy too and has noted the entry with the mark that it had,
        -- unless it had noted it; and other work.
        module _ (slots : List (Slot B)) (work : ℕ → Work B) (restored : ℕ → List (Entry B)) (others : (a : ℕ) → a ≢ s → slot_at a slots ≡ slot_at a old.slots)
            (still : is_busy (slot_at s slots) ≡ true)
            (noting : (x : Entry B) → noted c.keys x (notes_kept (slot_at s slots))
            ≡ option_or (noted c.keys x (notes_kept (slot_at s old.slots))) (if same_entry c.keys x e then Some (not before) else None)) where
          abbrev log_then : List (Record (Entry B) (Page B))
          log_then = all_records (appended r old.log)

          busy_before : (a : ℕ) → is_busy (slot_at a slots) ≡ true → is_busy (slot_at a old.slots) ≡ true
          busy_before = by_session (λ a. is_busy (slot_at a slots) ≡ true → is_busy (slot_at a old.slots) ≡ true) s (λ now. busy) (λ a ne now. ap is_busy (sym (others a ne)) ∙ now)

          busy_after : (a : ℕ) → is_busy (slot_at a old.slots) ≡ true → is_busy (slot_at a slots) ≡ true
          busy_after = by_session (λ a. is_busy (slot_at a old.slots) ≡ true → is_busy (slot_at a slots) ≡ true) s (λ was. still) (λ a ne was. ap is_busy (others a ne) ∙ was)

          note_marks : (own noted_before noted_after : Option Bool) (at : Bool) → noted_before ≡ option_map not own
              → noted_after ≡ option_or noted_before (if at then Some (not before) else None)
              → noted_after ≡ option_map not (option_or own (if at then Some before else None))
          note_marks None noted_before noted_after true is now_is = now_is ∙ ap (λ o. option_or o (Some (not before))) is
          note_marks None noted_before noted_after false is now_is = now_is ∙ ap (λ o. option_or o None) is
          note_marks (Some b) noted_before noted_after at is now_is = now_is ∙ ap (λ o. option_or o (if at then Some (not before) else None)) is

          each_tied : (a : ℕ) → is_busy (slot_at a slots) ≡ true → HasTransaction c (record old { log = appended r old.log; slots = slots; work = work; restored = restored }) a
          each_tied a now =
              let had : HasTransaction c old a = w.tied.each a (busy_before a now) in
              record {
                open_yet = ap (λ b. is_transaction (old.transaction a) && not b) (same_closed (old.transaction a)) ∙ had.open_yet;
                below = had.below;
                notes = λ x. notes_by a now x;
              }
            where
              notes_by : (a : ℕ) → is_busy (slot_at a slots) ≡ true → (x : Entry B) → noted c.keys x (notes_kept (slot_at a slots)) ≡ option_map not (own_before k (old.transaction a) x log_then)
              notes_by = by_session (λ a. is_busy (slot_at a slots) ≡ true → (x : Entry B) → noted c.keys x (notes_kept (slot_at a slots)) ≡ option_map not (own_before k (old.transaction a) x log_then)) s
                  (λ now x.
                  note_marks (own_before k (old.transaction s) x log) (noted c.keys x (notes_kept (slot_at s old.slots))) (noted c.keys x (notes_kept (slot_at s slots)))
                  (same_entry c.keys x e) (has_tx.notes x) (noting x)
                  ∙ sym (ap (option_map not) (own_here x)))
                  (λ a ne now x.
                  ap (λ (y : Slot B). noted c.keys x (notes_kept y)) (others a ne) ∙ (w.tied.each a (busy_before a now)).notes x
                  ∙ sym (ap (option_map not) (own_other (old.transaction a) x (λ p. ne (w.tied.own a s (busy_before a now) busy (sym p))))))

          had_by : (t : ℕ) (x : Entry B) (mine : Bool) → (old.transaction s == t) ≡ mine → settled any_number t log_then ≡ false → is_some (own_before k t x log_then) ≡ true
              → IsHad (record old { log = appended r old.log; slots = slots; work = work; restored = restored }) t
          had_by t x true at open_yet some = record { session = s; busy = still; has = eqb-true (old.transaction s) t at }
          had_by t x false at open_yet some =
              let ne : old.transaction s ≢ t = λ p. not_true (old.transaction s == t) (eq-eqb (old.transaction s) t p) at in
              let had : IsHad old t = w.tied.had t x (sym (same_closed t) ∙ open_yet) (ap is_some (sym (own_other t x ne)) ∙ some) in
              record { session = had.session; busy = busy_after had.session had.busy; has = had.has }

          pub written_tied : IsTied c (record old { log = appended r old.log; slots = slots; work = work; restored = restored })
          written_tied = record {
            each = each_tied;
            own = λ a b first second same. w.tied.own a b (busy_before a first) (busy_before b second) same;
            had = λ t x open_yet some. had_by t x (old.transaction s == t) refl open_yet some;
          }

          pub written_sets : AreSame (kept_of k old.log) (kept_of k (appended r old.log))
          written_sets = appended_moves k (known_lawful c l) old.log w.healthy r write_comes

          pub next_covers : (analysis k log_then).next ≤ old.next
          next_covers =
              let below = has_tx.below in
              let was = w.next in
              subst (λ (a : Analysis (Entry B)). a.next ≤ old.next) (sym (ap (analysis k) (grown r old.log) ∙ analysis-snoc k log r)) (omega (arith, below, was))

          unclaimed_there : (a : ℕ) → a ≢ s → (x : Entry B) → has c.keys x (entries_of (notes_kept (slot_at a old.slots))) ≡ true → is_live c (tree_after c (appended r old.log)) x ≡ is_live c (tree_now c old) x
          unclaimed_there a ne x is =
              elim (true_or_false (same_entry c.keys x e)) [
                | inl at ↦
                    (let there : has c.keys x (locks_held (slot_at a old.slots)).claims ≡ true = noted_is_claimed c.keys l.keys (slot_at a old.slots) (w.sound.holds a) x is in
                    absurd (ne (one_claims c l old w a s e (subst (λ y. has c.keys y (locks_held (slot_at a old.slots)).claims ≡ true) (same_is k (known_lawful c l) x e at) there) claimed)))
                | inr other ↦ wrote.others x other
              ]

          pub written_works : DoesWork c (tree_after c (appended r old.log)) (slot_at s slots) (work s) → ((a : ℕ) → a ≢ s → work a ≡ old.work a)
              → (a : ℕ) → DoesWork c (tree_after c (appended r old.log)) (slot_at a slots) (work a)
          written_works own_work rest =
              by_session (λ a. DoesWork c (tree_after c (appended r old.log)) (slot_at a slots) (work a)) s own_work
              (λ a ne. subst (λ (x : Slot B). DoesWork c (tree_after c (appended r old.log)) x (work a)) (sym (others a ne))
              (subst (λ (x : Work B). DoesWork c (tree_after c (appended r old.log)) (slot_at a old.slots) x) (sym (rest a ne))
              (work_kept c l (tree_now c old) (tree_after c (appended r old.log)) wrote.step (slot_at a old.slots) (old.work a) stays_legal wrote.is_step
              (write_leaves c l (engine_of c old) w.sound s e wrote.step wrote.of_entry claimed a ne) (w.works a))))

          pub written_restored : AreRestored c.keys (is_live c (tree_after c (appended r old.log))) (slot_at s slots) (restored s) → ((a : ℕ) → a ≢ s → restored a ≡ old.restored a)
              → (a : ℕ) → AreRestored c.keys (is_live c (tree_after c (appended r old.log))) (slot_at a slots) (restored a)
          written_restored own_restored rest =
              by_session (λ a. AreRestored c.keys (is_live c (tree_after c (appended r old.log))) (slot_at a slots) (restored a)) s own_restored
              (λ a ne. subst (λ (x : Slot B). AreRestored c.keys (is_live c (tree_after c (appended r old.log))) x (restored a)) (sym (others a ne))
              (subst (λ (x : List (Entry B)). AreRestored c.keys (is_live c (tree_after c (appended r old.log))) (slot_at a old.slots) x) (sym (rest a ne))
              (restored_kept c (slot_at a old.slots) (is_live c (tree_now c old)) (is_live c (tree_after c (appended r old.log))) (old.restored a) (unclaimed_there a ne) (w.restored a))))
