-- The moves of an undo, as an index's events and as what its sessions come to.
use Rattle.std.proofs.Common.{◌≡◌, ◌≢◌, ◌∙◌, sym, ap, refl, subst, ℕ, zero, suc, ◌+◌, ◌-◌, ◌<◌, ◌≤◌, Bool, true, false, not, cond, List, [], ◌∷◌, ◌++◌, Option, Some, map, option_map, length}
use Rattle.std.specs.Prelude.{◌==◌, filter, slice_get}
use Rattle.std.specs.List.{slice_index_or}
use Rattle.std.proofs.lemmas.List.{set-get_or}
use Rattle.std.proofs.lemmas.Option.{slice_get-map, slice_get_within, get_or_from_slice_get}
use Rattle.gx_machine.specs.declared.entry.Entry.{Entry}
use Rattle.gx_machine.specs.Sets.{InOrder}
use Rattle.gx_machine.specs.Machine.{is_session}
use Rattle.gx_node.specs.Lists.{how_many}
use Rattle.gx_node.specs.Steps.{IsMarking}
use Rattle.gx_node.proofs.SeekSteps.{seek_goes_right}
use Rattle.gx_recovery.specs.Known.{Known}
use Rattle.gx_recovery.specs.Analysis.{Analysis, analysis, read, touching, without}
use Rattle.gx_recovery.specs.Coming.{IsSaid, MayCome}
use Rattle.gx_recovery.specs.Records.{Record, Said, Touch, Write}
use Rattle.gx_recovery.specs.Records as records
use Rattle.gx_recovery.specs.Logged.{all_records, appended, durable}
use Rattle.gx_recovery.proofs.Folds.{analysis-snoc}
use Rattle.gx_events.specs.Slots as slots
use Rattle.gx_events.specs.Slots.{Slot, Undoing, slot_at, with_slot}
use Rattle.gx_events.specs.Happenings.{EndsUndo, Undoes, Works}
use Rattle.gx_index_laws.specs.Classes.{Class, IsLawful, Page, is_live, is_of, known_of}
use Rattle.gx_index_laws.specs.Happening.{Happens, changed_at, slotted, with_record, with_restored, with_work}
use Rattle.gx_index_laws.specs.Measures.{work_left}
use Rattle.gx_index_laws.specs.States as index
use Rattle.gx_index_laws.specs.States.{tree_after, tree_now}
use Rattle.gx_index_laws.specs.Whole.{IsWhole, is_busy}
use Rattle.gx_index_laws.specs.Working.{DoesWork, SeeksFor}
use Rattle.gx_index_laws.proofs.Closing.{ended}
use Rattle.gx_index_laws.proofs.Entering.{undo_restores}
use Rattle.gx_index_laws.proofs.Measuring as measuring
use Rattle.gx_index_laws.proofs.Noting.{note_seeks}
use Rattle.gx_index_laws.proofs.Quiet.{turned}
use Rattle.gx_index_laws.proofs.Standing.{grown, known_lawful, tells}
use Rattle.gx_index_laws.proofs.Tools.{changed_beside, changed_here}
use Rattle.gx_txn.specs.declared.note.Note.{Note}
use Rattle.gx_txn.specs.Notes.{entries_of}
use Rattle.gx_txn.specs.Tables.{Held, nothing_held, with_held, with_notes}
use Rattle.gx_phases.specs.declared.phase.Phase.{Phase}
use Rattle.gx_phases.specs.declared.phase.Phase.TheVariants as phase
use Rattle.gx_phases.specs.Indexes.{AreOf}
use Rattle.gx_phases.specs.Moves.{ended_state, moved, restored_state, transaction_of}
use Rattle.gx_phases.specs.States.{State, IsKept, held_at, note_of, phase_at, slot_of, slots_of, with_phase, with_phase_of}
use Rattle.gx_phases.proofs.Keeping.{low}
use Rattle.gx_phases.proofs.Moved.{set_map}
use Rattle.gx_phases.proofs.Slots.{slots_at}
use Rattle.gx_phases.proofs.Undoing.{IsNoted, each_noted}
use Rattle.gx_engine.specs.declared.work.Work.{Work}
use Rattle.gx_engine.specs.declared.work.Work.TheVariants.{Descends, Looks, Rests, Seeks}
use Rattle.gx_engine.specs.Holds.{AreDone, IsAt, Sits, UndoIsAt}
use Rattle.gx_engine.specs.Noted.{has_transaction, touch_by, touched_by}
use Rattle.gx_engine.specs.Undoing.{leaf_of}
use Rattle.gx_engine.proofs.Noting.{busy_slot, told_set, without_others}
use Rattle.gx_engine.proofs.Restored.{all_done, moved_done, not_done, one_more_done, written_again}
use Rattle.gx_engine.proofs.Serving.{held_as_it_is, session_at, session_of, session_slots, slot_is}
use Rattle.gx_engine.proofs.Touching.{touching_notes, touching_other, touching_own}

-- an item is in a list, between these others
record StandsIn {X : Type 0} (x : X) (xs : List X) : Type 0 where
  before : List X
  after : List X
  parts : xs ≡ before ++ x ∷ after

later : {X : Type 0} (x y : X) (ys : List X) → StandsIn x ys → StandsIn x (y ∷ ys)
later {X} x y ys p = record { before = y ∷ p.before; after = p.after; parts = ap (λ (zs : List X). y ∷ zs) p.parts }

kept_by : {X : Type 0} (kept ys : List X) (x y : X) (b : Bool) (i : ℕ) → ((j : ℕ) → slice_get kept j ≡ Some x → StandsIn x ys)
    → slice_get (cond b (y ∷ kept) kept) i ≡ Some x → StandsIn x (y ∷ ys)
kept_by {X} kept ys x y true zero rest at = let same : y ≡ x = cc in record { before = []; after = ys; parts = ap (λ (z : X). z ∷ ys) same }
kept_by kept ys x y true (suc i) rest at = later x y ys (rest i at)
kept_by kept ys x y false i rest at = later x y ys (rest i at)

kept_stands : {X : Type 0} (test : X → Bool) (xs : List X) (i : ℕ) (x : X) → slice_get (filter test xs) i ≡ Some x → StandsIn x xs
kept_stands test [] i x at = let no : ⊥ = cc in absurd no
kept_stands test (y ∷ ys) i x at = kept_by (filter test ys) ys x y (test y) i (λ j there. kept_stands test ys j x there) at

twice_not : (b : Bool) → not (not b) ≡ b
twice_not true = refl
twice_not false = refl

-- One of them undoes.
module _ {B : Type 0} (c : Class B) (l : IsLawful c) (old : State B (Work B)) (kept : IsKept c.keys old) (works : old.failed ≡ false) (s : ℕ) (is : is_session s ≡ true)
    (restored : ℕ) (was : Work B) (at : phase_at (s - 1) old.phases ≡ phase.Undoing restored was) (i : index.State B) (whole : IsWhole c i) (h : Sits c old i) where
  abbrev k : Known (Entry B) (Page B)
  k = known_of c

  abbrev held : Held B
  held = held_at (s - 1) old.table

  abbrev its_slot : Slot B
  its_slot = Undoing held.locks (map note_of held.notes)

  abbrev t : ℕ
  t = transaction_of s old

  abbrev touches : List (Touch (Entry B))
  touches = (analysis k (all_records i.log)).touched

  its_number : i.transaction s ≡ t
  its_number = h.of.transactions s is

  slot_now : slot_at s i.slots ≡ its_slot
  slot_now = slot_is c.keys old i kept h.of s is ∙ ap (λ (p : Phase B (Work B)). slot_of p held) at

  place_now : slice_index_or i.slots (s - 1) slots.Free ≡ its_slot
  place_now =
      ap (λ (xs : List (Slot B)). slice_index_or xs (s - 1) slots.Free) h.of.slots ∙ slots_at old.phases old.table (s - 1) (kept.phases ∙ sym kept.table)
      ∙ ap (λ (p : Phase B (Work B)). slot_of p held) at

  is_at : UndoIsAt held.notes restored was (i.work s) × AreDone c.keys held.notes restored (i.restored s)
  is_at = subst (λ (p : Phase B (Work B)). IsAt c.keys p held.notes (i.work s) (i.restored s)) at (h.at s is)

  in_order : InOrder c.keys (entries_of held.notes)
  in_order = (kept.placed (s - 1) (low c.keys old kept s is)).in_order

  own_touches : touched_by t touches ≡ map (touch_by t) held.notes
  own_touches = h.told s is (ap (λ (p : Phase B (Work B)). has_transaction p) at)

  -- another session's transaction is another
  apart : (a : ℕ) → is_session a ≡ true → a ≢ s → has_transaction (phase_at (a - 1) old.phases) ≡ true → transaction_of a old ≢ t
  apart a there ne busy same =
      ne (whole.tied.own a s
      (ap is_busy (slot_is c.keys old i kept h.of a there) ∙ busy_slot (phase_at (a - 1) old.phases) (held_at (a - 1) old.table) busy)
      (ap is_busy slot_now) (h.of.transactions a there ∙ same ∙ sym its_number))

  -- the log's touches with a record more
  grown_touches : (x : Record (Entry B) (Page B)) → analysis k (all_records (appended x i.log)) ≡ read k (analysis k (all_records i.log)) x
  grown_touches x = ap (λ (rs : List (Record (Entry B) (Page B))). analysis k rs) (grown x i.log) ∙ analysis-snoc k (all_records i.log) x

  -- If no note is left, the undo ends.
  module _ (past : length held.notes ≤ restored) where
    abbrev ends : ℕ → Record (Entry B) (Page B)
    ends n = records.End n

    abbrev ended_index : index.State B
    ended_index = slotted s slots.Free index.Rests (with_record (ends t) i)

    pub end_comes : MayCome k i.log.area (all_records i.log) (ends t) × Happens c i (EndsUndo s) ended_index
    end_comes =
        let comes = ended c l i whole (h.of.failed ∙ works) s held.locks (map note_of held.notes) slot_now (all_done c.keys held.notes restored (i.restored s) past is_at.1) in
        let P : ℕ → Type 0 = λ n. MayCome k i.log.area (all_records i.log) (ends n) × Happens c i (EndsUndo s) (slotted s slots.Free index.Rests (with_record (ends n) i)) in
        subst P its_number (comes.may_come, comes.happens)

    pub end_sits : Sits c (ended_state s old) ended_index
    end_sits =
        let new : State B (Work B) = ended_state s old in
        let of = session_of c.keys old new i kept h.of s phase.Free nothing_held refl refl index.Rests refl refl refl refl in
        let rest : (analysis k (all_records ended_index.log)).touched ≡ without t touches = ap (λ (a : Analysis (Entry B)). a.touched) (grown_touches (ends t)) in
        record {
          of = record { slots = of.slots; transactions = of.transactions; next = of.next; oldest = of.oldest; failed = of.failed };
          at = session_at c.keys old new i ended_index kept s is phase.Free nothing_held refl refl
              (λ a ne. changed_beside s index.Rests i.work a ne) (λ a ne. changed_beside s [] i.restored a ne) tt h.at;
          told = told_set c.keys old new touches (analysis k (all_records ended_index.log)).touched kept s is phase.Free nothing_held refl refl
              (λ a there ne busy. ap (λ (xs : List (Touch (Entry B))). touched_by (transaction_of a old) xs) rest
              ∙ without_others t (transaction_of a old) touches (apart a there ne busy))
              (λ a there ne. refl) (λ busy. let no : ⊥ = cc in absurd no) h.told;
        }

  -- The session still undoes, with notes that say the same.
  module _ (many : ℕ) (now : Work B) (notes : List (Note B)) (same_notes : map note_of notes ≡ map note_of held.notes) (new : State B (Work B))
      (phases : new.phases ≡ with_phase s (phase.Undoing many now) old.phases) (table : new.table ≡ with_held s (with_notes notes held) old.table) where
    slots_stay : i.slots ≡ slots_of new.phases new.table
    slots_stay =
        sym (session_slots c.keys old new i kept h.of s (phase.Undoing many now) (with_notes notes held) phases table
        ∙ ap (λ (x : Slot B). with_slot s x i.slots) (ap (λ ns. Undoing held.locks ns) same_notes ∙ sym place_now) ∙ set-get_or i.slots (s - 1) slots.Free)

    of_going : (j : index.State B) → j.slots ≡ i.slots → j.transaction ≡ i.transaction → j.next ≡ i.next → j.oldest ≡ i.oldest → j.failed ≡ i.failed
        → new.transactions ≡ old.transactions → new.next ≡ old.next → new.durable ≡ old.durable → new.failed ≡ old.failed → AreOf new j
    of_going j same transaction next oldest failed numbers new_next durable new_failed = record {
      slots = same ∙ slots_stay;
      transactions = λ a there. ap (λ (n : ℕ → ℕ). n a) transaction ∙ h.of.transactions a there ∙ ap (λ (xs : List ℕ). slice_index_or xs (a - 1) 0) (sym numbers);
      next = next ∙ h.of.next ∙ sym new_next;
      oldest = oldest ∙ h.of.oldest ∙ sym durable;
      failed = failed ∙ h.of.failed ∙ sym new_failed;
    }

  -- The note that is next.
  module _ (n : Note B) (next : slice_get held.notes restored ≡ Some n) where
    note_is : IsNoted c.keys n held.notes
    note_is =
        subst (λ (x : Note B). IsNoted c.keys x held.notes) (get_or_from_slice_get held.notes restored n n next)
        (each_noted c.keys l.keys held.notes restored n in_order (slice_get_within held.notes restored n next))

    -- if its undo has not begun, its leaf is the one in the log
    from_its_leaf : SeeksFor c (tree_now c i) (slot_at s i.slots) n.entry n.leaf
    from_its_leaf =
        let there : slice_get (touched_by t touches) restored ≡ Some (touch_by t n) =
        ap (λ (xs : List (Touch (Entry B))). slice_get xs restored) own_touches ∙ slice_get-map (touch_by t) held.notes restored ∙ ap (λ (o : Option (Note B)). option_map (touch_by t) o) next in
        let stands = kept_stands (λ (x : Touch (Entry B)). x.transaction == t) touches restored (touch_by t n) there in
        note_seeks c l i whole s held.locks (map note_of held.notes) slot_now stands.before stands.after (touch_by t n) stands.parts (sym its_number)

    seeks_by : (work : Work B) → was ≡ work → UndoIsAt held.notes restored work (i.work s) → SeeksFor c (tree_now c i) (slot_at s i.slots) n.entry (leaf_of n work)
    seeks_by Rests its now = from_its_leaf
    seeks_by (Looks look) its now = absurd now
    seeks_by (Descends parent item) its now = absurd now
    seeks_by (Seeks leaf) its now =
        let same : now.0 ≡ n = (let both : Some now.0 ≡ Some n = sym now.1 ∙ next in cc) in
        subst (λ (x : Note B). SeeksFor c (tree_now c i) (slot_at s i.slots) x.entry leaf) same
        (subst (λ (x : index.Work B). DoesWork c (tree_now c i) (slot_at s i.slots) x) now.2 (whole.works s))

    -- the pair is in its leaf or to the right of it
    pub seeks_now : SeeksFor c (tree_now c i) (slot_at s i.slots) n.entry (leaf_of n was)
    seeks_now = seeks_by was refl is_at.0

    -- It isn't in this leaf, so it is to the right.
    module _ (none : how_many (is_of c n.entry) ((tree_now c i).node (leaf_of n was)).pairs ≡ 0) where
      abbrev right : ℕ
      right = ((tree_now c i).node (leaf_of n was)).right

      seeks_right : SeeksFor c (tree_now c i) (slot_at s i.slots) n.entry right
      seeks_right = record {
        wanted = seeks_now.wanted;
        seek = (seek_goes_right c.rules (leaf_of n was) n.entry.row n.entry.key (tree_now c i) seeks_now.seek none).0;
      }

      right_by : (work : Work B) → UndoIsAt held.notes restored work (i.work s) → leaf_of n work ≡ leaf_of n was
          → work_left c (with_work s (index.Seeks n.entry right) i) s < work_left c i s
      right_by Rests now same = measuring.undo_begins c l i whole s held.locks (map note_of held.notes) slot_now n.entry right now
      right_by (Looks look) now same = absurd now
      right_by (Descends parent item) now same = absurd now
      right_by (Seeks leaf) now same =
          let its : now.0 ≡ n = (let both : Some now.0 ≡ Some n = sym now.1 ∙ next in cc) in
          let at_leaf : i.work s ≡ index.Seeks n.entry (leaf_of n was) = now.2 ∙ ap (λ (x : Note B). index.Seeks x.entry leaf) its ∙ ap (λ m. index.Seeks n.entry m) same in
          measuring.undo_right c l i whole s held.locks (map note_of held.notes) slot_now n.entry (leaf_of n was) at_leaf none

      -- and less is left
      pub right_lowers : work_left c (with_work s (index.Seeks n.entry right) i) s < work_left c i s
      right_lowers = right_by was is_at.0 refl

      abbrev right_index : index.State B
      right_index = with_work s (index.Seeks n.entry right) i

      pub right_happens : Happens c i Works right_index
      right_happens = turned c l i whole s (index.Seeks n.entry right) seeks_right

      pub right_sits : Sits c (with_phase_of s (phase.Undoing restored (Seeks right)) old) right_index
      right_sits =
          let new : State B (Work B) = with_phase_of s (phase.Undoing restored (Seeks right)) old in
          let work : index.Work B = index.Seeks n.entry right in
          record {
            of = of_going restored (Seeks right) held.notes refl new refl (held_as_it_is s old.table) right_index refl refl refl refl refl refl refl refl refl;
            at = session_at c.keys old new i right_index kept s is (phase.Undoing restored (Seeks right)) held refl (held_as_it_is s old.table)
                (λ a ne. changed_beside s work i.work a ne) (λ a ne. refl) ((n, next, changed_here s work i.work s refl), is_at.1) h.at;
            told = told_set c.keys old new touches touches kept s is (phase.Undoing restored (Seeks right)) held refl (held_as_it_is s old.table)
                (λ a there ne busy. refl) (λ a there ne. refl) (λ busy. own_touches) h.told;
          }

    -- It is in the leaf, whose write is logged.
    module _ (before : Bool) (leaf : ℕ) (told : Said (Page B)) (of_class : c.is_key n.entry.key ≡ true) (own : IsSaid k leaf told (all_records i.log))
        (lived : is_live c (tree_now c i) n.entry ≡ not before) (some : 0 < how_many (is_of c n.entry) ((tree_now c i).node leaf).pairs)
        (step : IsMarking c.rules (tree_now c i) (tree_after c (appended (Write t n.entry before n.before leaf told) i.log)) leaf n.entry.row n.entry.key n.before) where
      abbrev writes : ℕ → Bool → Record (Entry B) (Page B)
      writes number mark = Write number n.entry before mark leaf told

      abbrev x : Record (Entry B) (Page B)
      x = writes t n.before

      abbrev restored_index : index.State B
      restored_index = with_restored s n.entry (with_record x i)

      pub restored_comes : MayCome k i.log.area (all_records i.log) x × Happens c i (Undoes s n.entry) (with_restored s n.entry (with_record x i))
      restored_comes =
          let P : ℕ → Bool → Type 0 = λ number mark. IsMarking c.rules (tree_now c i) (tree_after c (appended (writes number mark) i.log)) leaf n.entry.row n.entry.key mark
          → MayCome k i.log.area (all_records i.log) (writes number mark) × Happens c i (Undoes s n.entry) (with_restored s n.entry (with_record (writes number mark) i)) in
          subst (λ number. P number n.before) its_number
          (subst (λ mark. P (i.transaction s) mark) (twice_not n.before)
          (λ marks. (let comes = undo_restores c l i whole (h.of.failed ∙ works) s held.locks (map note_of held.notes) n.entry (not n.before) before leaf told
          slot_now note_is.was of_class own lived some marks in (comes.may_come, comes.happens)))) step

      -- and less is left
      pub restored_lowers : work_left c (with_restored s n.entry (with_record x i)) s < work_left c i s
      restored_lowers =
          measuring.undo_restores c l i whole s held.locks (map note_of held.notes) slot_now x n.entry (not n.before) note_is.was
          (not_done c.keys l.keys held.notes restored n (i.restored s) in_order next is_at.1)

      pub restored_sits : Sits c (restored_state s restored n leaf Rests old) restored_index
      restored_sits =
          let new : State B (Work B) = restored_state s restored n leaf Rests old in
          let notes : List (Note B) = moved restored n leaf held.notes in
          let p : Phase B (Work B) = phase.Undoing (restored + 1) Rests in
          let rest : (analysis k (all_records restored_index.log)).touched ≡ touching k (touch_by t (record n { before = before; leaf = leaf })) touches =
          ap (λ (a : Analysis (Entry B)). a.touched) (grown_touches x) in
          record {
            of = of_going (restored + 1) Rests notes (set_map note_of held.notes restored n (record n { leaf = leaf }) next refl) new refl refl restored_index refl refl refl refl refl refl refl refl refl;
            at = session_at c.keys old new i restored_index kept s is p (with_notes notes held) refl refl
                (λ a ne. changed_beside s index.Rests i.work a ne) (λ a ne. changed_beside s (n.entry ∷ i.restored s) i.restored a ne)
                (changed_here s index.Rests i.work s refl, done_now) h.at;
            told = told_set c.keys old new touches (analysis k (all_records restored_index.log)).touched kept s is p (with_notes notes held) refl refl
                (λ a there ne busy. ap (λ (xs : List (Touch (Entry B))). touched_by (transaction_of a old) xs) rest
                ∙ touching_other k (known_lawful c l) (transaction_of a old) (touch_by t (record n { before = before; leaf = leaf })) touches (λ same. apart a there ne busy (sym same)))
                (λ a there ne. refl)
                (λ busy. ap (λ (xs : List (Touch (Entry B))). touched_by t xs) rest ∙ own_now) h.told;
          }
        where
          done_now : AreDone c.keys (moved restored n leaf held.notes) (restored + 1) (changed_at s (n.entry ∷ i.restored s) i.restored s)
          done_now =
              subst (λ (es : List (Entry B)). AreDone c.keys (moved restored n leaf held.notes) (restored + 1) es) (sym (changed_here s (n.entry ∷ i.restored s) i.restored s refl))
              (moved_done c.keys held.notes restored (restored + 1) n leaf (n.entry ∷ i.restored s) next (one_more_done c.keys held.notes restored n (i.restored s) next is_at.1))

          own_now : touched_by t (touching k (touch_by t (record n { before = before; leaf = leaf })) touches) ≡ map (touch_by t) (moved restored n leaf held.notes)
          own_now =
              touching_own k (known_lawful c l) t (touch_by t (record n { before = before; leaf = leaf })) touches refl (tells c l i whole).in_order
              ∙ ap (λ (xs : List (Touch (Entry B))). touching k (touch_by t (record n { before = before; leaf = leaf })) xs) own_touches
              ∙ touching_notes c.keys k refl t (record n { before = before; leaf = leaf }) held.notes
              ∙ ap (λ (ns : List (Note B)). map (touch_by t) ns) (written_again c.keys l.keys held.notes restored n (record n { before = before; leaf = leaf }) in_order next refl)
