-- Writes: an adding and a marking each write one entry, and so each write's record may come, and its event happens.
use Rattle.std.proofs.Common.{◌≡◌, ◌≢◌, ℕ, ◌<◌, ◌≤◌, Bool, true, false, not, ◌&&◌, ◌||◌, inl, inr, List, [], ◌∷◌, ◌++◌, Some, None, refl, ap, sym, ◌∙◌, subst, arith}
use Rattle.std.specs.Prelude.{if◌then◌else◌}
use Rattle.std.specs.Option.{option_or}
use Rattle.gx_machine.specs.declared.entry.Entry.{Entry}
use Rattle.gx_machine.specs.declared.call.Call.{Call}
use Rattle.gx_machine.specs.declared.call.Call.TheVariants.{Insert, Delete}
use Rattle.gx_machine.specs.Keys.{same_entry}
use Rattle.gx_machine.specs.Sets.{has}
use Rattle.gx_machine.specs.Sessions.{Locks}
use Rattle.gx_machine.specs.Machine.{is_session}
use Rattle.gx_machine.proofs.SetLaws.{same_is}
use Rattle.gx_node.specs.Lists.{one_if, how_many}
use Rattle.gx_node.specs.Trees.{Pair, Tree, Used, is_entry}
use Rattle.gx_node.specs.Legal.{Legal}
use Rattle.gx_node.specs.Steps.{IsAdding, IsMarking, Adds, Marks, with_mark}
use Rattle.gx_node.proofs.AllSteps.{legal_step}
use Rattle.gx_node.proofs.SeekSteps.{seek_begins, seek_marked}
use Rattle.gx_events.specs.Slots.{Note, Slot, Free, Working, Undoing, Waiting, locks_held, notes_kept, slot_at, with_slot, noted, WithNote}
use Rattle.gx_events.specs.Engines.{HoldsItsLocks}
use Rattle.gx_events.specs.Happenings as events
use Rattle.gx_events.specs.Happenings.{Happening, IsHappening, marked}
use Rattle.gx_events.specs.Kinds.{changes_what_stood}
use Rattle.gx_events.proofs.Noted.{has_noted}
use Rattle.gx_events.proofs.Standing.{working_there}
use Rattle.gx_recovery.specs.Coming.{IsSaid}
use Rattle.gx_recovery.specs.Logged.{all_records, appended}
use Rattle.gx_recovery.specs.Records.{Said, Record, Write}
use Rattle.gx_recovery.proofs.Tests.{true_or_false, and_first, and_second}
use Rattle.gx_recovery.proofs.Logs.{untrue}
use Rattle.gx_recovery.proofs.Folds.{or-none}
use Rattle.gx_recovery.proofs.Lives.{appended_healthy}
use Rattle.gx_index_laws.specs.Classes.{Class, Page, IsLawful, is_of, is_live_of, is_live, known_of}
use Rattle.gx_index_laws.specs.States.{State, Work, Rests, tree_after, tree_now, engine_of}
use Rattle.gx_index_laws.specs.Working.{DoesWork, AreRestored}
use Rattle.gx_index_laws.specs.Whole.{is_busy, IsWhole}
use Rattle.gx_index_laws.specs.Happening.{Comes, changed_at, with_record, slotted, with_restored, write_of}
use Rattle.gx_index_laws.proofs.Tools.{changed_here, changed_beside, SomeIn, some_in, counted_in}
use Rattle.gx_index_laws.proofs.Living.{is_pair, live_by_pair, added_others, marked_others}
use Rattle.gx_index_laws.proofs.Answering.{standing_le, none_live}
use Rattle.gx_index_laws.proofs.Standing.{known_lawful, is_legal}
use Rattle.gx_index_laws.proofs.Happens.{happens, sets_stay}
use Rattle.gx_index_laws.proofs.Quiet.{here, beside, none_restored}
use Rattle.gx_index_laws.proofs.Writing.{Writes, write_comes, written_tied, written_sets, next_covers, written_works, written_restored}

module _ {B : Type 0} (c : Class B) (l : IsLawful c) where
  -- An adding writes its entry.
  added_writes : (old new : Tree B) (e : Entry B) (leaf : ℕ) → Legal c.rules old → IsAdding c.rules old new leaf (record { row = e.row; key = e.key; marked = false })
      → Writes c old new e true false leaf
  added_writes old new e leaf legal step =
      let x : Pair B = record { row = e.row; key = e.key; marked = false } in
      let legal_then : Legal c.rules new = legal_step c.rules l.rules old new (Adds leaf x) legal step in
      let is : is_of c e x ≡ true = is_pair c l e x refl in
      let used : Used new leaf = (step.changes.there.0, subst (λ n. leaf ≤ n) (sym step.changes.used) step.changes.there.1) in
      let level : (new.node leaf).level ≡ 0 = ap (λ n. n.level) step.changes.changed ∙ step.leaf in
      let pairs : (new.node leaf).pairs ≡ (old.node leaf).pairs ++ x ∷ [] = ap (λ n. n.pairs) step.changes.changed in
      record {
        step = Adds leaf x;
        is_step = step;
        of_entry = refl;
        was = none_live c l old e
            (let none = step.absent in
            let less = standing_le c l old (is_live_of c e) (is_of c e) (λ y live. and_first (is_of c e y) (not y.marked) live) in
            omega (arith, none, less));
        now = live_by_pair c l new legal_then e leaf used level (old.node leaf).pairs [] x pairs is;
        others = λ other ne. added_others c l old new leaf x legal step other ne;
        there = step.changes.there;
        sought = seek_begins c.rules leaf e.row e.key new legal_then used level
            (let counts = counted_in (is_of c e) (old.node leaf).pairs [] x in
            let one = ap (λ b. one_if b) is in
            let same = ap (λ xs. how_many (is_of c e) xs) pairs in
            omega (arith, counts, one, same));
      }

  -- A marking writes its entry, if a pair of it is in the leaf.
  mark_if : (e : Entry B) (mark : Bool) (y : Pair B) → is_of c e y ≡ true
      → (if is_entry c.rules e.row e.key y then record { row = y.row; key = y.key; marked = mark } else y) ≡ (record { row = y.row; key = y.key; marked = mark })
  mark_if e mark y is = ap (λ b. if b then record { row = y.row; key = y.key; marked = mark } else y) is

  mark_parts : (e : Entry B) (mark : Bool) (before after : List (Pair B)) (y : Pair B) → is_of c e y ≡ true
      → with_mark c.rules e.row e.key mark (before ++ y ∷ after)
      ≡ with_mark c.rules e.row e.key mark before ++ (record { row = y.row; key = y.key; marked = mark }) ∷ with_mark c.rules e.row e.key mark after
  mark_parts e mark [] after y is = ap (λ z. z ∷ with_mark c.rules e.row e.key mark after) (mark_if e mark y is)
  mark_parts e mark (x ∷ before) after y is =
      ap (λ zs. (if is_entry c.rules e.row e.key x then record { row = x.row; key = x.key; marked = mark } else x) ∷ zs) (mark_parts e mark before after y is)

  marked_writes : (old new : Tree B) (e : Entry B) (leaf : ℕ) (was mark : Bool) → Legal c.rules old → IsMarking c.rules old new leaf e.row e.key mark
      → is_live c old e ≡ not was → SomeIn (is_of c e) (old.node leaf).pairs → Writes c old new e was mark leaf
  marked_writes old new e leaf was mark legal step lived y =
      let y_then : Pair B = record { row = y.one.row; key = y.one.key; marked = mark } in
      let legal_then : Legal c.rules new = legal_step c.rules l.rules old new (Marks leaf e.row e.key mark) legal step in
      let is : is_of c e y_then ≡ true = y.passes in
      let used : Used new leaf = (step.changes.there.0, subst (λ n. leaf ≤ n) (sym step.changes.used) step.changes.there.1) in
      let level : (new.node leaf).level ≡ 0 = ap (λ n. n.level) step.changes.changed ∙ step.leaf in
      let pairs : (new.node leaf).pairs ≡ with_mark c.rules e.row e.key mark y.before ++ y_then ∷ with_mark c.rules e.row e.key mark y.after =
      ap (λ n. n.pairs) step.changes.changed ∙ ap (with_mark c.rules e.row e.key mark) y.parts ∙ mark_parts e mark y.before y.after y.one y.passes in
      record {
        step = Marks leaf e.row e.key mark;
        is_step = step;
        of_entry = (refl, refl);
        was = lived;
        now = live_by_pair c l new legal_then e leaf used level (with_mark c.rules e.row e.key mark y.before) (with_mark c.rules e.row e.key mark y.after) y_then pairs is;
        others = λ other ne. marked_others c l old new leaf e mark legal step y.before y.after y.one y.parts y.passes other ne;
        there = step.changes.there;
        sought = seek_marked c.rules leaf e.row e.key old new leaf e.row e.key mark step
            (seek_begins c.rules leaf e.row e.key old legal step.changes.there step.leaf
            (let counts = counted_in (is_of c e) y.before y.after y.one in
            let one = ap (λ b. one_if b) y.passes in
            let same = ap (λ xs. how_many (is_of c e) xs) y.parts in
            omega (arith, counts, one, same)));
      }

  -- a pair of an entry with this mark, as a pair of the entry
  abbrev some_of : (e : Entry B) (m : Pair B → Bool) (xs : List (Pair B)) → SomeIn (λ x. is_of c e x && m x) xs → SomeIn (is_of c e) xs
  some_of e m xs y = record { before = y.before; one = y.one; after = y.after; parts = y.parts; passes = and_first (is_of c e y.one) (m y.one) y.passes }

  live_of : (t : Tree B) → Legal c.rules t → (e : Entry B) (leaf : ℕ) → Used t leaf → (t.node leaf).level ≡ 0 → (y : SomeIn (is_of c e) (t.node leaf).pairs)
      → (m : Bool) → y.one.marked ≡ m → is_live c t e ≡ not m
  live_of t legal e leaf used level y m at = live_by_pair c l t legal e leaf used level y.before y.after y.one y.parts y.passes ∙ ap not at

  -- what is live after a write is what was, but for the entry
  live_marked : (old new : Entry B → Bool) (e : Entry B) (now : Bool) → new e ≡ now → ((x : Entry B) → same_entry c.keys x e ≡ false → new x ≡ old x)
      → (x : Entry B) → new x ≡ marked c.keys e now old x
  live_marked old new e now at others x =
      elim (true_or_false (same_entry c.keys x e)) [
        | inl is ↦ subst (λ y. new y ≡ now) (sym (same_is c.keys l.keys x e is)) at ∙ sym (ap (λ b. if b then now else old x) is)
        | inr ne ↦ others x ne ∙ sym (ap (λ b. if b then now else old x) ne)
      ]

  module _ (old : State B) (w : IsWhole c old) where
    legal : Legal c.rules (tree_now c old)
    legal = is_legal c l old w

    -- What any write leaves, by the slots, the work and what is restored afterwards.
    module _ (s : ℕ) (busy : is_busy (slot_at s old.slots) ≡ true) (e : Entry B) (before after : Bool) (leaf : ℕ) (said : Said (Page B))
        (claimed : has c.keys e (locks_held (slot_at s old.slots)).claims ≡ true) (of_class : c.is_key e.key ≡ true) (own : IsSaid (known_of c) leaf said (all_records old.log))
        (wrote : Writes c (tree_now c old) (tree_after c (appended (Write (old.transaction s) e before after leaf said) old.log)) e before after leaf)
        (slots : List (Slot B)) (work : ℕ → Work B) (restored : ℕ → List (Entry B)) (others : (a : ℕ) → a ≢ s → slot_at a slots ≡ slot_at a old.slots)
        (still : is_busy (slot_at s slots) ≡ true)
        (noting : (x : Entry B) → noted c.keys x (notes_kept (slot_at s slots))
        ≡ option_or (noted c.keys x (notes_kept (slot_at s old.slots))) (if same_entry c.keys x e then Some (not before) else None))
        (does : DoesWork c (tree_after c (appended (Write (old.transaction s) e before after leaf said) old.log)) (slot_at s slots) (work s))
        (rest : (a : ℕ) → a ≢ s → work a ≡ old.work a)
        (own_restored : AreRestored c.keys (is_live c (tree_after c (appended (Write (old.transaction s) e before after leaf said) old.log))) (slot_at s slots) (restored s))
        (rest_restored : (a : ℕ) → a ≢ s → restored a ≡ old.restored a) where
      abbrev r : Record (Entry B) (Page B)
      r = Write (old.transaction s) e before after leaf said

      abbrev new : State B
      new = record old { log = appended r old.log; slots = slots; work = work; restored = restored }

      comes : (event : Happening B) → IsHappening c.keys (engine_of c old) event (engine_of c new) → changes_what_stood event ≡ false → Comes c old r event new
      comes event is stays = record {
        may_come = write_comes c l old w s busy e before after leaf said claimed of_class own wrote;
        happens = happens c l old w event new is (record {
          healthy = appended_healthy (known_of c) (known_lawful c l) old.log w.healthy r (write_comes c l old w s busy e before after leaf said claimed of_class own wrote);
          works = written_works c l old w s busy e before after leaf said claimed of_class own wrote slots work restored others still noting does rest;
          restored = written_restored c l old w s busy e before after leaf said claimed of_class own wrote slots work restored others still noting own_restored rest_restored;
          tied = written_tied c l old w s busy e before after leaf said claimed of_class own wrote slots work restored others still noting;
          next = next_covers c l old w s busy e before after leaf said claimed of_class own wrote slots work restored others still noting;
          sets = sets_stay c l old w event new is stays (written_sets c l old w s busy e before after leaf said claimed of_class own wrote slots work restored others still noting) refl refl;
        });
      }

    -- A call's write: its slot is at work, and has noted the entry.
    module _ (works : old.failed ≡ false) (s : ℕ) (locks : Locks B) (notes then_notes : List (Note B)) (call : Call B) (e : Entry B) (now : Bool) (leaf : ℕ) (said : Said (Page B))
        (at : slot_at s old.slots ≡ Working locks notes (Some call)) (of_class : c.is_key e.key ≡ true) (own : IsSaid (known_of c) leaf said (all_records old.log))
        (with_note : WithNote c.keys e (not now) notes then_notes)
        (claim : HoldsItsLocks c.keys (Working locks notes (Some call)) → has c.keys e locks.claims ≡ true)
        (wrote : Writes c (tree_now c old) (tree_after c (appended (Write (old.transaction s) e now (not now) leaf said) old.log)) e now (not now) leaf) where
      there : is_session s ≡ true
      there = working_there c.keys l.keys (engine_of c old) w.sound s locks notes (Some call) at

      claimed : has c.keys e (locks_held (slot_at s old.slots)).claims ≡ true
      claimed =
          ap (λ (x : Slot B). has c.keys e (locks_held x).claims) at
          ∙ claim (subst (HoldsItsLocks c.keys) at (w.sound.holds s))

      abbrev later : Slot B
      later = Working locks then_notes None

      noting : (x : Entry B) → noted c.keys x (notes_kept (slot_at s (with_slot s later old.slots)))
          ≡ option_or (noted c.keys x (notes_kept (slot_at s old.slots))) (if same_entry c.keys x e then Some (not now) else None)
      noting x =
          ap (λ (y : Slot B). noted c.keys x (notes_kept y)) (here c l old w s there later Rests) ∙ with_note x
          ∙ sym (ap (λ (y : Slot B). option_or (noted c.keys x (notes_kept y)) (if same_entry c.keys x e then Some (not now) else None)) at)

      call_written : (event : Happening B) → IsHappening c.keys (engine_of c old) event (engine_of c (slotted s later Rests (with_record (write_of old s e now (not now) leaf said) old)))
          → changes_what_stood event ≡ false
          → Comes c old (write_of old s e now (not now) leaf said) event (slotted s later Rests (with_record (write_of old s e now (not now) leaf said) old))
      call_written event is stays =
          comes s (ap is_busy at) e now (not now) leaf said claimed of_class own wrote (with_slot s later old.slots) (changed_at s Rests old.work) (changed_at s [] old.restored)
          (beside c l old w s there later Rests) (ap is_busy (here c l old w s there later Rests)) noting
          (subst (λ (x : Work B). DoesWork c (tree_after c (appended (Write (old.transaction s) e now (not now) leaf said) old.log)) (slot_at s (with_slot s later old.slots)) x)
          (sym (changed_here s Rests old.work s refl)) tt)
          (λ a ne. changed_beside s Rests old.work a ne)
          (subst (λ (x : List (Entry B)). AreRestored c.keys (is_live c (tree_after c (appended (Write (old.transaction s) e now (not now) leaf said) old.log))) (slot_at s (with_slot s later old.slots)) x)
          (sym (changed_here s [] old.restored s refl))
          (none_restored c (is_live c (tree_after c (appended (Write (old.transaction s) e now (not now) leaf said) old.log))) (slot_at s (with_slot s later old.slots))))
          (λ a ne. changed_beside s [] old.restored a ne)
          event is stays

    module _ (works : old.failed ≡ false) (s : ℕ) (locks : Locks B) (notes then_notes : List (Note B)) (e : Entry B) (leaf : ℕ) (said : Said (Page B))
        (of_class : c.is_key e.key ≡ true) (own : IsSaid (known_of c) leaf said (all_records old.log)) where
      inserted : slot_at s old.slots ≡ Working locks notes (Some (Insert e)) → WithNote c.keys e false notes then_notes
          → Writes c (tree_now c old) (tree_now c (with_record (write_of old s e true false leaf said) old)) e true false leaf
          → Comes c old (write_of old s e true false leaf said) (events.Inserts s e) (slotted s (Working locks then_notes None) Rests (with_record (write_of old s e true false leaf said) old))
      inserted at with_note wrote =
          call_written works s locks notes then_notes (Insert e) e true leaf said at of_class own with_note (λ held. held.1) wrote (events.Inserts s e)
          (record {
            works = works;
            locks = locks;
            notes = notes;
            asked = at;
            was = wrote.was;
            then_notes = then_notes;
            with_note = with_note;
            is = record {
              live = live_marked (is_live c (tree_now c old)) (is_live c (tree_now c (with_record (write_of old s e true false leaf said) old))) e true wrote.now wrote.others;
              slots = refl;
              older = refl;
              oldest = refl;
              failed = refl;
            };
          }) refl

      pub insert_adds : slot_at s old.slots ≡ Working locks notes (Some (Insert e)) → WithNote c.keys e false notes then_notes
          → IsAdding c.rules (tree_now c old) (tree_now c (with_record (write_of old s e true false leaf said) old)) leaf (record { row = e.row; key = e.key; marked = false })
          → Comes c old (write_of old s e true false leaf said) (events.Inserts s e) (slotted s (Working locks then_notes None) Rests (with_record (write_of old s e true false leaf said) old))
      insert_adds at with_note step =
          inserted at with_note (added_writes (tree_now c old) (tree_now c (with_record (write_of old s e true false leaf said) old)) e leaf legal step)

      pub insert_clears : slot_at s old.slots ≡ Working locks notes (Some (Insert e)) → WithNote c.keys e false notes then_notes
          → 0 < how_many (λ x. is_of c e x && x.marked) ((tree_now c old).node leaf).pairs
          → IsMarking c.rules (tree_now c old) (tree_now c (with_record (write_of old s e true false leaf said) old)) leaf e.row e.key false
          → Comes c old (write_of old s e true false leaf said) (events.Inserts s e) (slotted s (Working locks then_notes None) Rests (with_record (write_of old s e true false leaf said) old))
      insert_clears at with_note some step =
          let y : SomeIn (λ x. is_of c e x && x.marked) ((tree_now c old).node leaf).pairs = some_in (λ x. is_of c e x && x.marked) ((tree_now c old).node leaf).pairs some in
          let pair = some_of e (λ x. x.marked) ((tree_now c old).node leaf).pairs y in
          inserted at with_note (marked_writes (tree_now c old) (tree_now c (with_record (write_of old s e true false leaf said) old)) e leaf true false legal step
          (live_of (tree_now c old) legal e leaf step.changes.there step.leaf pair true (and_second (is_of c e y.one) y.one.marked y.passes)) pair)

      pub delete_marks : slot_at s old.slots ≡ Working locks notes (Some (Delete e)) → WithNote c.keys e true notes then_notes
          → 0 < how_many (λ x. is_of c e x && not x.marked) ((tree_now c old).node leaf).pairs
          → IsMarking c.rules (tree_now c old) (tree_now c (with_record (write_of old s e false true leaf said) old)) leaf e.row e.key true
          → Comes c old (write_of old s e false true leaf said) (events.Deletes s e) (slotted s (Working locks then_notes None) Rests (with_record (write_of old s e false true leaf said) old))
      delete_marks at with_note some step =
          let y : SomeIn (λ x. is_of c e x && not x.marked) ((tree_now c old).node leaf).pairs = some_in (λ x. is_of c e x && not x.marked) ((tree_now c old).node leaf).pairs some in
          let pair = some_of e (λ x. not x.marked) ((tree_now c old).node leaf).pairs y in
          let wrote : Writes c (tree_now c old) (tree_now c (with_record (write_of old s e false true leaf said) old)) e false true leaf =
          marked_writes (tree_now c old) (tree_now c (with_record (write_of old s e false true leaf said) old)) e leaf false true legal step
          (live_of (tree_now c old) legal e leaf step.changes.there step.leaf pair false (untrue y.one.marked (and_second (is_of c e y.one) (not y.one.marked) y.passes))) pair in
          call_written works s locks notes then_notes (Delete e) e false leaf said at of_class own with_note (λ held. held.1) wrote (events.Deletes s e)
          (record {
            works = works;
            locks = locks;
            notes = notes;
            asked = at;
            was = wrote.was;
            then_notes = then_notes;
            with_note = with_note;
            is = record {
              live = live_marked (is_live c (tree_now c old)) (is_live c (tree_now c (with_record (write_of old s e false true leaf said) old))) e false wrote.now wrote.others;
              slots = refl;
              older = refl;
              oldest = refl;
              failed = refl;
            };
          }) refl

    -- An undo's write.
    module _ (works : old.failed ≡ false) (s : ℕ) (locks : Locks B) (notes : List (Note B)) (e : Entry B) (was before : Bool) (leaf : ℕ) (said : Said (Page B))
        (at : slot_at s old.slots ≡ Undoing locks notes) (is_noted : noted c.keys e notes ≡ Some was) (of_class : c.is_key e.key ≡ true) (own : IsSaid (known_of c) leaf said (all_records old.log)) where
      abbrev then_log : State B
      then_log = with_record (write_of old s e before (not was) leaf said) old

      undo_noting : (x : Entry B) → noted c.keys x (notes_kept (slot_at s old.slots))
          ≡ option_or (noted c.keys x (notes_kept (slot_at s old.slots))) (if same_entry c.keys x e then Some (not before) else None)
      undo_noting x =
          elim (true_or_false (same_entry c.keys x e)) [
            | inl is ↦
                (let some : noted c.keys x (notes_kept (slot_at s old.slots)) ≡ Some was =
                ap (λ (y : Slot B). noted c.keys x (notes_kept y)) at ∙ ap (λ y. noted c.keys y notes) (same_is c.keys l.keys x e is) ∙ is_noted in
                some ∙ sym (ap (λ o. option_or o (if same_entry c.keys x e then Some (not before) else None)) some))
            | inr ne ↦ sym (ap (λ b. option_or (noted c.keys x (notes_kept (slot_at s old.slots))) (if b then Some (not before) else None)) ne ∙ or-none (noted c.keys x (notes_kept (slot_at s old.slots))))
          ]

      twice_not : (b : Bool) → not (not b) ≡ b
      twice_not true = refl
      twice_not false = refl

      restored_more : (slot : Slot B) (live later : Entry B → Bool) (more : List (Entry B)) → slot ≡ Undoing locks notes → later e ≡ was
          → ((x : Entry B) → same_entry c.keys x e ≡ false → later x ≡ live x) → AreRestored c.keys live slot more → AreRestored c.keys later slot (e ∷ more)
      restored_more Free live later more is now others are = tt
      restored_more (Working locks2 notes2 call) live later more is now others are = tt
      restored_more (Undoing locks2 notes2) live later more is now others are = λ x was2 listed noted_x.
          elim (true_or_false (same_entry c.keys x e)) [
            | inl same ↦
                (let one : x ≡ e = same_is c.keys l.keys x e same in
                let notes_are : notes2 ≡ notes = cc in
                let both : Some was ≡ Some was2 = sym is_noted ∙ ap (λ y. noted c.keys y notes) (sym one) ∙ ap (noted c.keys x) (sym notes_are) ∙ noted_x in
                let alike : was ≡ was2 = cc in
                ap later one ∙ now ∙ alike)
            | inr other ↦ others x other ∙ are x was2 (sym (ap (λ b. b || has c.keys x more) other) ∙ listed) noted_x
          ]
      restored_more (Waiting number) live later more is now others are = tt

      pub undo_restores : is_live c (tree_now c old) e ≡ not before → 0 < how_many (is_of c e) ((tree_now c old).node leaf).pairs
          → IsMarking c.rules (tree_now c old) (tree_now c then_log) leaf e.row e.key (not was)
          → Comes c old (write_of old s e before (not was) leaf said) (events.Undoes s e) (with_restored s e then_log)
      undo_restores lived some step =
          let claimed : has c.keys e (locks_held (slot_at s old.slots)).claims ≡ true =
          ap (λ (x : Slot B). has c.keys e (locks_held x).claims) at ∙ subst (HoldsItsLocks c.keys) at (w.sound.holds s) e (has_noted c.keys e notes was is_noted) in
          let wrote : Writes c (tree_now c old) (tree_now c then_log) e before (not was) leaf =
          marked_writes (tree_now c old) (tree_now c then_log) e leaf before (not was) legal step lived (some_in (is_of c e) ((tree_now c old).node leaf).pairs some) in
          let now : is_live c (tree_now c then_log) e ≡ was = wrote.now ∙ twice_not was in
          comes s (ap is_busy at) e before (not was) leaf said claimed of_class own wrote old.slots (changed_at s Rests old.work) (changed_at s (e ∷ old.restored s) old.restored)
          (λ a ne. refl) (ap is_busy at) undo_noting
          (subst (λ (x : Work B). DoesWork c (tree_now c then_log) (slot_at s old.slots) x) (sym (changed_here s Rests old.work s refl)) tt)
          (λ a ne. changed_beside s Rests old.work a ne)
          (subst (λ (x : List (Entry B)). AreRestored c.keys (is_live c (tree_now c then_log)) (slot_at s old.slots) x) (sym (changed_here s (e ∷ old.restored s) old.restored s refl))
          (restored_more (slot_at s old.slots) (is_live c (tree_now c old)) (is_live c (tree_now c then_log)) (old.restored s) at now wrote.others (w.restored s)))
          (λ a ne. changed_beside s (e ∷ old.restored s) old.restored a ne)
          (events.Undoes s e)
          (record {
            works = works;
            locks = locks;
            notes = notes;
            aborts = at;
            was_live = was;
            was_noted = is_noted;
            is = record {
              live = live_marked (is_live c (tree_now c old)) (is_live c (tree_now c then_log)) e was now wrote.others;
              slots = refl;
              older = refl;
              oldest = refl;
              failed = refl;
            };
          }) refl
