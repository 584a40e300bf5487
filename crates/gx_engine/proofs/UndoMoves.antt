-- An undo's moves: what they come to, and what they do to an index that the engine holds.
use Rattle.std.proofs.Common.{◌≡◌, ◌≢◌, ◌∙◌, ap, sym, subst, refl, inl, inr, ℕ, ◌-◌, ◌+◌, ◌<◌, ◌≤◌, ◌==◌, ◌&&◌, Bool, true, false, Option, None, Some, List, [], ◌∷◌, length, get_or, arith}
use Rattle.std.specs.Prelude.{if◌then◌else◌, nat_lt, slice_get, Result, Ok, Err, IfOk, IfErr, OnErr}
use Rattle.std.specs.Ordering.{is_eq}
use Rattle.std.proofs.lemmas.Bool.{ltb-false, ltb-true}
use Rattle.std.proofs.lemmas.List.{get_or-set_same}
use Rattle.std.proofs.lemmas.Option.{slice_get_read}
use Rattle.gx_geom.specs.declared.refusal.Refusal.TheVariants as refusal
use Rattle.gx_machine.specs.declared.entry.Entry.{Entry}
use Rattle.gx_machine.specs.declared.reply.Reply.TheVariants.{Aborted, Refused as RefusedCall}
use Rattle.gx_machine.specs.Keys.{Keys, Members, keys_of}
use Rattle.gx_machine.specs.Machine.{is_session}
use Rattle.gx_machine.proofs.Places.{session_bounds}
use Rattle.gx_disk.specs.Device.{Device}
use Rattle.gx_disk.proofs.Leaving.{nothing_leaves}
use Rattle.gx_page.specs.Contents.{Contents}
use Rattle.gx_pool.specs.Bringing.{OnlyRead}
use Rattle.gx_node.specs.Reading.{Format}
use Rattle.gx_record.specs.Rec as rec
use Rattle.gx_node.specs.Alike.{AgreeOnUsed}
use Rattle.gx_node.specs.Lists.{how_many}
use Rattle.gx_node.specs.Trees.{Node, Pair, Tree, Used}
use Rattle.gx_node.proofs.SeekSteps.{seek_at_leaf}
use Rattle.gx_node.specs.Keyed.{AreKeys}
use Rattle.gx_node.specs.Owner.{IsWhy, IsWhyOfSplit}
use Rattle.gx_tree.specs.Writing.{SetsMark}
use Rattle.gx_node.specs.declared.fault.StepFault.{StepFault}
use Rattle.gx_node.specs.declared.fault.StepFault.TheVariants as step
use Rattle.gx_node.specs.declared.fault.SplitFault.{SplitFault}
use Rattle.gx_node.specs.declared.fault.SplitFault.TheVariants as split
use Rattle.gx_tree.specs.declared.seek.Sought.{Sought}
use Rattle.gx_tree.specs.declared.seek.Sought.TheVariants.{Here, Right}
use Rattle.gx_recovery.specs.Known as known
use Rattle.gx_recovery.specs.Known.{Known, Limits}
use Rattle.gx_recovery.specs.Logged.{Logged, all_records}
use Rattle.gx_recovery.specs.Records as records
use Rattle.gx_recovery.specs.Coming.{IsSaid}
use Rattle.gx_recovery.specs.Records.{Record, Said, Write}
use Rattle.gx_events.specs.Happenings.{Happening, EndsUndo, RefusesCall, Undoes, Works}
use Rattle.gx_events.specs.Slots as slots
use Rattle.gx_events.specs.Slots.{Slot, is_unanswered, slot_at}
use Rattle.gx_index_laws.specs.Classes.{Class, IsLawful, Page, is_of, known_of}
use Rattle.gx_index_laws.specs.Happening.{slotted, with_record, with_restored, with_work}
use Rattle.gx_index_laws.specs.Measures.{work_left}
use Rattle.gx_index_laws.specs.States as index
use Rattle.gx_index_laws.specs.States.{tree_now}
use Rattle.gx_index_laws.specs.Working.{SeeksFor}
use Rattle.gx_index_laws.proofs.Standing.{is_legal, known_lawful}
use Rattle.gx_durable.specs.Spelled.{Reading, record_read}
use Rattle.gx_durable.specs.Standing.{Stands}
use Rattle.gx_durable.specs.Classes.{class_of, known_at, reading_of}
use Rattle.gx_events.specs.declared.outcome.Outcome.{Outcome}
use Rattle.gx_events.specs.declared.outcome.Outcome.TheVariants.{Replied, More, Help}
use Rattle.gx_events.specs.declared.outcome.Need.{Need}
use Rattle.gx_txn.specs.declared.note.Note.{Note}
use Rattle.gx_txn.specs.Tables.{held_by}
use Rattle.gx_phases.specs.declared.phase.Phase.{Phase}
use Rattle.gx_phases.specs.declared.phase.Phase.TheVariants as phase
use Rattle.gx_phases.specs.Moves as moves
use Rattle.gx_phases.specs.Moves.{RestoredOne, before_last, ended_state, failed_state, is_undoing, next_of, restored_by, restored_state, transaction_of}
use Rattle.gx_phases.specs.States.{State, IsKept, held_at, phase_at, slot_of, with_phase, with_phase_of}
use Rattle.gx_store.specs.declared.fault.StoreFault.{StoreFault}
use Rattle.gx_store.specs.declared.fault.StoreFault.TheVariants as fault
use Rattle.gx_store.specs.Faults as faults
use Rattle.gx_store.specs.Standing.{store_of}
use Rattle.gx_store.specs.State.{IsInOrder, IsSteady}
use Rattle.gx_storage.specs.Changes.{IsUnlogged, MarkIsLogged, begun}
use Rattle.gx_storage.specs.Imaged.{is_imaged}
use Rattle.gx_storage.specs.Marks.{MarksEntry}
use Rattle.gx_storage.specs.Small.{mark_room, mark_said}
use Rattle.gx_storage.proofs.Recording.{AreNodes}
use Rattle.gx_storage.proofs.SmallMarks.{ReadsMarks, mark_is_said, mark_read, mark_told}
use Rattle.gx_storage.specs.Flushing.{KeepsRecord}
use Rattle.gx_storage.specs.Keeps.{Keeps, KeepsTheSame, ShowsKeys, ShowsTheLogs, StaysSame, StaysWith, tree_shown}
use Rattle.gx_storage.specs.Numbers.{OwnWhereSet}
use Rattle.gx_storage.specs.State.{Volume}
use Rattle.gx_engine.specs.declared.work.Work.{Work}
use Rattle.gx_engine.specs.declared.work.Work.TheVariants.{Rests, Seeks}
use Rattle.gx_engine.specs.Holds.{Holds, Sits}
use Rattle.gx_engine.specs.Moves.{Moved, MovesSo, left_by}
use Rattle.gx_engine.specs.Refusals.{IsRefused}
use Rattle.gx_engine.specs.States.{Parts, is_due}
use Rattle.gx_engine.specs.Undoing.{AreUndoing, IsNext, IsNoLeaf, PairIsSought, RestoreComes, Seeking, UndoBy, UndoComes, next_leaf, sought_state, undo_work}
use Rattle.gx_engine.proofs.Waiting.{fails_led, sits_of, waits_led}
use Rattle.gx_engine.proofs.Flushing.{nothing_led}
use Rattle.gx_engine.proofs.Growing.{grown_led, stayed_led}
use Rattle.gx_engine.proofs.Marking.{here_counts, here_live, marks_too, right_none}
use Rattle.gx_engine.proofs.Serving.{FliesOn, flies_on, is_calm, not_due, of_reads, slot_is}
use Rattle.gx_engine.proofs.Undoing as undoing

-- An undo's phase: so many are restored, and this is its work.

-- if a note is left
left_by_test : (m n x : ℕ) (b : Bool) → (if b then Some m else None) ≡ Some x → m ≡ x
left_by_test m n x true is = let both : ◌≡◌ {A = Option ℕ} (Some m) (Some x) = is in cc
left_by_test m n x false is = absurd (let no : ◌≡◌ {A = Option ℕ} None (Some x) = is in cc)

next_by : {B : Type 0} (p : Phase B (Work B)) (notes m : ℕ) → before_last notes (restored_by p) ≡ Some m → p ≡ phase.Undoing m (undo_work p)
next_by phase.Free notes m is = absurd (let no : ◌≡◌ {A = Option ℕ} None (Some m) = is in cc)
next_by phase.Working notes m is = absurd (let no : ◌≡◌ {A = Option ℕ} None (Some m) = is in cc)
next_by (phase.Open call work) notes m is = absurd (let no : ◌≡◌ {A = Option ℕ} None (Some m) = is in cc)
next_by {B} (phase.Undoing restored work) notes m is =
    ap (λ (x : ℕ). (let p : Phase B (Work B) = phase.Undoing x work in p)) (left_by_test restored notes m (nat_lt restored notes) is)
next_by (phase.Waiting number) notes m is = absurd (let no : ◌≡◌ {A = Option ℕ} None (Some m) = is in cc)

low_by_test : (m n x : ℕ) (b : Bool) → nat_lt m n ≡ b → (if b then Some m else None) ≡ Some x → x < n
low_by_test m n x true is at = let same = left_by_test m n x true at in let low = ltb-true m n is in omega (arith, same, low)
low_by_test m n x false is at = absurd (let no : ◌≡◌ {A = Option ℕ} None (Some x) = at in cc)

low_by : {B : Type 0} (p : Phase B (Work B)) (notes m : ℕ) → before_last notes (restored_by p) ≡ Some m → m < notes
low_by phase.Free notes m is = absurd (let no : ◌≡◌ {A = Option ℕ} None (Some m) = is in cc)
low_by phase.Working notes m is = absurd (let no : ◌≡◌ {A = Option ℕ} None (Some m) = is in cc)
low_by (phase.Open call work) notes m is = absurd (let no : ◌≡◌ {A = Option ℕ} None (Some m) = is in cc)
low_by (phase.Undoing restored work) notes m is = low_by_test restored notes m (nat_lt restored notes) refl is
low_by (phase.Waiting number) notes m is = absurd (let no : ◌≡◌ {A = Option ℕ} None (Some m) = is in cc)

-- and if none is left
record IsPast {B : Type 0} (p : Phase B (Work B)) (notes : ℕ) : Type 0 where
  restored : ℕ
  is : p ≡ phase.Undoing restored (undo_work p)
  past : notes ≤ restored

past_by_test : (m n : ℕ) (b : Bool) → nat_lt m n ≡ b → (if b then Some m else None) ≡ None → n ≤ m
past_by_test m n true is none = absurd (let no : ◌≡◌ {A = Option ℕ} (Some m) None = none in cc)
past_by_test m n false is none = ltb-false m n is

past_by : {B : Type 0} (p : Phase B (Work B)) (notes : ℕ) → is_undoing p ≡ true → before_last notes (restored_by p) ≡ None → IsPast p notes
past_by phase.Free notes undoes none = let no : ⊥ = cc in absurd no
past_by phase.Working notes undoes none = let no : ⊥ = cc in absurd no
past_by (phase.Open call work) notes undoes none = let no : ⊥ = cc in absurd no
past_by (phase.Undoing restored work) notes undoes none =
    record { restored = restored; is = refl; past = past_by_test restored notes (nat_lt restored notes) refl none }
past_by (phase.Waiting number) notes undoes none = let no : ⊥ = cc in absurd no

module _ {B : Type 0} (s : ℕ) (sessions : State B (Work B)) (n : Note B) (next : IsNext s sessions n) where
  -- so many notes are restored
  pub undo_at : phase_at (s - 1) sessions.phases ≡ phase.Undoing next.restored (undo_work (phase_at (s - 1) sessions.phases))
  undo_at = next_by (phase_at (s - 1) sessions.phases) (length (held_by s sessions.table).notes) next.restored next.place

  -- the place of the note is the only one
  pub one_place : (m : ℕ) → next_of s sessions ≡ Some m → next.restored ≡ m
  one_place m is = let both : ◌≡◌ {A = Option ℕ} (Some next.restored) (Some m) = sym next.place ∙ is in cc

  -- it is restored
  pub restored_is : (leaf : ℕ) (new : State B (Work B)) → RestoredOne (next_of s sessions) s leaf Rests sessions new → new ≡ restored_state s next.restored n leaf Rests sessions
  restored_is leaf new did =
      let one = subst (λ (o : Option ℕ). RestoredOne o s leaf Rests sessions new) next.place did in
      let same : one.0 ≡ n = (let both : ◌≡◌ {A = Option (Note B)} (Some one.0) (Some n) = sym one.1 ∙ next.note in cc) in
      one.2 ∙ ap (λ (x : Note B). restored_state s next.restored x leaf Rests sessions) same

  -- it is sought in another leaf
  pub sought_is : (leaf : ℕ) (new : State B (Work B)) → new ≡ with_phase_of s (moves.with_work (Seeks leaf) (phase_at (s - 1) sessions.phases)).1 sessions
      → new ≡ with_phase_of s (phase.Undoing next.restored (Seeks leaf)) sessions
  sought_is leaf new did = did ∙ ap (λ (p : Phase B (Work B)). with_phase_of s (moves.with_work (Seeks leaf) p).1 sessions) undo_at

-- What an undo has left is what its index has left for it.
left_now : {B : Type 0} (k : Keys B) (sessions : State B (Work B)) → IsKept k sessions → (s : ℕ) → is_session s ≡ true → (restored : ℕ) (work : Work B) (left : ℕ)
    → left_by (phase_at (s - 1) (with_phase s (phase.Undoing restored work) sessions.phases)) left ≡ left
left_now {B} k sessions kept s is restored work left =
    let bounds : (0 < s) × (s < 9) = session_bounds s is in
    ap (λ (p : Phase B (Work B)). left_by p left)
    (get_or-set_same sessions.phases (s - 1) (phase.Undoing restored work) phase.Free (omega (arith, bounds.0, bounds.1, kept.phases)))

left_then : {B : Type 0} (p : Phase B (Work B)) (restored : ℕ) (work : Work B) → p ≡ phase.Undoing restored work → (left : ℕ) → left_by p left ≡ left
left_then {B} p restored work is left = ap (λ (q : Phase B (Work B)). left_by q left) is

lower_by : (old new was is : ℕ) → old ≡ was → new ≡ is → is < was → new < old
lower_by old new was is one other low = omega (arith, one, other, low)

-- An engine that may log, one of whose sessions undoes.
module _ {B D : Type 0} (c : Class B) (lawful : 4 ≤ c.rules.most → IsLawful c) (r : Reading (Entry B) (Page B)) (f : Format B) (passes : ℕ → Contents → Bool)
    (d e : Device) (old : Parts B D) (kept : IsKept c.keys old.sessions) (works : old.sessions.failed ≡ false) (s : ℕ) (is : is_session s ≡ true) (early : is_due old ≡ false)
    (w : Volume D) (most : w.most ≡ old.volume.most) where
  -- No note is left.
  pub end_moves : is_undoing (phase_at (s - 1) old.sessions.phases) ≡ true → next_of s old.sessions ≡ None → FliesOn old.volume.log w.log
      → (t : ℕ) → t ≡ transaction_of s old.sessions → KeepsRecord (known_of c) r f passes d old.volume w (rec.End t)
      → MovesSo c r f passes d d s old (record old { volume = w; sessions = ended_state s old.sessions }) (Replied Aborted) (AreUndoing s old.sessions (Replied Aborted))
  end_moves undoes none flies t its keeps bodies i h =
      let l = lawful h.some in
      let past = past_by (phase_at (s - 1) old.sessions.phases) (length (held_by s old.sessions.table).notes) undoes none in
      let was : Work B = undo_work (phase_at (s - 1) old.sessions.phases) in
      let sits = sits_of c r f passes d old bodies i h in
      let own : ℕ = transaction_of s old.sessions in
      let kept_record : KeepsRecord (known_of c) r f passes d old.volume w (rec.End own) = subst (λ (x : ℕ). KeepsRecord (known_of c) r f passes d old.volume w (rec.End x)) its keeps in
      let comes = undoing.end_comes c l old.sessions kept works s is past.restored was past.is i h.whole sits past.past in
      let j : index.State B = slotted s slots.Free index.Rests (with_record (records.End own) i) in (
        EndsUndo s ∷ [],
        refl,
        record {
          led =
              grown_led c r f passes d d old bodies i h (is_calm old.checkpoint (not_due old early).0) w most flies (nothing_leaves (Stands (known_of c) r i.log) d)
              (records.End own) (kept_record.keeps bodies i.log (known_lawful c l) comes.0 h.keeps) (EndsUndo s ∷ []) j (j, comes.1, refl) comes.1.whole refl refl refl
              (ended_state s old.sessions) (undoing.end_sits c l old.sessions kept works s is past.restored was past.is i h.whole sits past.past) refl (λ works. works);
          lowers = tt;
        },
      )

  -- The next note.
  module _ (n : Note B) (next : IsNext s old.sessions n) (leaf : ℕ) (its_leaf : leaf ≡ next_leaf s old.sessions n) where
    abbrev was : Work B
    was = undo_work (phase_at (s - 1) old.sessions.phases)

    abbrev m : ℕ
    m = next.restored

    at : phase_at (s - 1) old.sessions.phases ≡ phase.Undoing m was
    at = undo_at s old.sessions n next

    module _ (bodies : List (List (Record (Entry B) (Page B)))) (i : index.State B) (h : Holds c r f passes d old bodies i) where
      abbrev l : IsLawful c
      l = lawful h.some

      abbrev one : Tree B
      one = tree_now c i

      abbrev other : Tree B
      other = tree_shown (known_of c) r f passes d old.volume

      sits : Sits c old.sessions i
      sits = sits_of c r f passes d old bodies i h

      -- its pair is in the leaf or to the right of it
      seeks : SeeksFor c one (slot_at s i.slots) n.entry leaf
      seeks =
          subst (λ (q : ℕ). SeeksFor c one (slot_at s i.slots) n.entry q) (sym its_leaf)
          (undoing.seeks_now c l old.sessions kept works s is m was at i h.whole sits n next.note)

      unanswered : is_unanswered (slot_at s i.slots) ≡ true
      unanswered =
          ap (λ (x : Slot B). is_unanswered x)
          (slot_is c.keys old.sessions i kept h.sessions s is ∙ ap (λ (p : Phase B (Work B)). slot_of p (held_at (s - 1) old.sessions.table)) at)

      module _ (agree : AgreeOnUsed one other) where
        leaf_used : Used other leaf
        leaf_used =
            let here = seek_at_leaf c.rules leaf n.entry.row n.entry.key one seeks.seek in
            (here.0.0, subst (λ (u : ℕ). leaf ≤ u) (sym agree.used) here.0.1)

        -- so its page is a leaf that is taken
        pub a_leaf : Used other leaf × ((other.node leaf).level ≡ 0)
        a_leaf =
            let here = seek_at_leaf c.rules leaf n.entry.row n.entry.key one seeks.seek in
            (leaf_used, ap (λ (x : Node B). x.level) (agree.nodes leaf here.0) ∙ here.1)

    -- so its page isn't refused as none that is a leaf
    pub never_moves : ShowsTheLogs (known_of c) r f passes d old.volume
        → (IsSteady d old.volume.shelf.frames → Used (tree_shown (known_of c) r f passes d old.volume) leaf → ((tree_shown (known_of c) r f passes d old.volume).node leaf).level ≢ 0)
        → (later : Device) (new : Parts B D) (o : Outcome B) → MovesSo c r f passes d later s old new o (AreUndoing s old.sessions o)
    never_moves shows none later new o bodies i h =
        let there = a_leaf bodies i h (shows bodies i.log h.keeps) in
        absurd (none h.keeps.steady there.0 there.1)

    -- Nothing is logged, and pages may have been brought.
    module _ (same_log : w.log ≡ old.volume.log) (reads : OnlyRead d e) (keeps : KeepsTheSame (known_of c) r f passes d e old.volume w) where
      stays : (bodies : List (List (Record (Entry B) (Page B)))) (i : index.State B) → Holds c r f passes d old bodies i → StaysSame (known_of c) r f passes d e w bodies i.log
      stays bodies i h = keeps bodies i.log (known_lawful c (lawful h.some)) h.keeps

      pub waits_moves : (need : Need) → MovesSo c r f passes d e s old (record old { volume = w }) (Help need) (AreUndoing s old.sessions (Help need))
      waits_moves need bodies i h = ([], refl, record { led = waits_led c r f passes d e old bodies i h w most same_log reads (stays bodies i h); lowers = tt })

      pub fails_moves : MovesSo c r f passes d e s old (record old { volume = w; sessions = failed_state old.sessions }) (Replied (RefusedCall refusal.Device))
          (AreUndoing s old.sessions (Replied (RefusedCall refusal.Device)))
      fails_moves bodies i h = (
        RefusesCall s refusal.Device ∷ [],
        refl,
        record { led = fails_led c r f passes d e old bodies i h w most same_log reads (stays bodies i h) (lawful h.some) works s (unanswered bodies i h); lowers = tt },
      )

      -- its pair isn't in the leaf
      module _ (IsKey : B → Type 0) (shows : ShowsTheLogs (known_of c) r f passes d old.volume) (keyed : ShowsKeys (known_of c) r f passes IsKey d old.volume)
          (order : IsInOrder (passes old.volume.shelf.pages) d.sectors old.volume.shelf.frames old.volume.shelf.used old.volume.shelf.pages)
          (wants : Pair B → Bool) (wanted : (x : Pair B) → IsKey x.key → wants x ≡ ((x.row == n.entry.row) && is_eq (c.keys.cmp x.key n.entry.key))) (page : ℕ)
          (sets : IsSteady d old.volume.shelf.frames → SetsMark wants (store_of f d.seen old.volume.shelf) (store_of f e.seen w.shelf) leaf n.before (Right page)) where
        pub right_moves : MovesSo c r f passes d e s old (record old { volume = w; sessions = with_phase_of s (phase.Undoing m (Seeks page)) old.sessions }) More (AreUndoing s old.sessions More)
        unfolding stayed_led
        right_moves bodies i h =
            let tree : Tree B = one bodies i h in
            let agree : AgreeOnUsed tree (other bodies i h) = shows bodies i.log h.keeps in
            let keys : AreKeys IsKey (other bodies i h) = keyed bodies i.log h.keeps order in
            let none = right_none c (l bodies i h) IsKey tree (other bodies i h) agree keys leaf (leaf_used bodies i h agree) n.entry wants wanted page (sets h.keeps.steady).0 in
            let absent : how_many (is_of c n.entry) (tree.node (next_leaf s old.sessions n)).pairs ≡ 0 = subst (λ (q : ℕ). how_many (is_of c n.entry) (tree.node q).pairs ≡ 0) its_leaf none.0 in
            let right : ℕ = (tree.node (next_leaf s old.sessions n)).right in
            let here : right ≡ page = ap (λ (q : ℕ). (tree.node q).right) (sym its_leaf) ∙ sym none.1 in
            let j : index.State B = with_work s (index.Seeks n.entry right) i in
            let happens = undoing.right_happens c (l bodies i h) old.sessions kept works s is m was at i h.whole (sits bodies i h) n next.note absent in
            let lowers = undoing.right_lowers c (l bodies i h) old.sessions kept works s is m was at i h.whole (sits bodies i h) n next.note absent in
            let past = left_then (phase_at (s - 1) old.sessions.phases) m was at (work_left c i s) in
            let now = left_now c.keys old.sessions kept s is m (Seeks right) (work_left c j s) in
            subst (λ (q : ℕ). (events : List (Happening B)) × AreUndoing s old.sessions More events
            × Moved c r f passes d e s old (record old { volume = w; sessions = with_phase_of s (phase.Undoing m (Seeks q)) old.sessions }) More i events) here (
              Works ∷ [],
              inl refl,
              record {
                led =
                    stayed_led c r f passes d e old bodies i h w most same_log (of_reads d e reads h.keeps.steady.honest) (stays bodies i h) (Works ∷ []) j (j, happens, refl) happens.whole refl
                    (with_phase_of s (phase.Undoing m (Seeks right)) old.sessions)
                    (undoing.right_sits c (l bodies i h) old.sessions kept works s is m was at i h.whole (sits bodies i h) n next.note absent) refl (λ works. works);
                lowers = lower_by _ _ _ _ past now lowers;
              },
            )

    -- Its pair is in the leaf, and the write is logged.
    module _ (IsKey : B → Type 0) (shows : ShowsTheLogs (known_of c) r f passes d old.volume) (keyed : ShowsKeys (known_of c) r f passes IsKey d old.volume)
        (order : IsInOrder (passes old.volume.shelf.pages) d.sectors old.volume.shelf.frames old.volume.shelf.used old.volume.shelf.pages)
        (wants : Pair B → Bool) (wanted : (x : Pair B) → IsKey x.key → wants x ≡ ((x.row == n.entry.row) && is_eq (c.keys.cmp x.key n.entry.key)))
        (slot : ℕ) (before : Bool) (told : Said (Page B)) (of_class : c.is_key n.entry.key ≡ true)
        (own : (bodies : List (List (Record (Entry B) (Page B)))) (log : Logged (Entry B) (Page B)) → Keeps (known_of c) r f passes d old.volume bodies log → IsSaid (known_of c) leaf told (all_records log))
        (sets : IsSteady d old.volume.shelf.frames → SetsMark wants (store_of f d.seen old.volume.shelf) (store_of f e.seen w.shelf) leaf n.before (Here slot before))
        (flies : FliesOn old.volume.log w.log)
        (keeps : (bodies : List (List (Record (Entry B) (Page B)))) (log : Logged (Entry B) (Page B)) → known.IsLawful (known_of c)
        → Keeps (known_of c) r f passes d old.volume bodies log
        → StaysWith (known_of c) r f passes d e w bodies log (Write (transaction_of s old.sessions) n.entry before n.before leaf told)) where
      abbrev x : Record (Entry B) (Page B)
      x = Write (transaction_of s old.sessions) n.entry before n.before leaf told

      pub here_moves : MovesSo c r f passes d e s old (record old { volume = w; sessions = restored_state s m n leaf Rests old.sessions }) More (AreUndoing s old.sessions More)
      unfolding grown_led
      here_moves bodies i h =
          let tree : Tree B = one bodies i h in
          let law : IsLawful c = l bodies i h in
          let agree : AgreeOnUsed tree (other bodies i h) = shows bodies i.log h.keeps in
          let keys : AreKeys IsKey (other bodies i h) = keyed bodies i.log h.keeps order in
          let legal = is_legal c law i h.whole in
          let used = leaf_used bodies i h agree in
          let set = sets h.keeps.steady in
          let after = keeps bodies i.log (known_lawful c law) h.keeps in
          let t : ℕ = transaction_of s old.sessions in
          let marks = marks_too c law r f passes IsKey d e old.volume w i.log t n.entry before n.before leaf told legal agree keys after.shows wants wanted slot set in
          let lived = here_live c law IsKey tree (other bodies i h) agree keys leaf used n.entry wants wanted slot before set.0 legal in
          let some = here_counts c law IsKey tree (other bodies i h) agree keys leaf used n.entry wants wanted slot before set.0 (is_of c n.entry) (λ y is_its at. is_its) in
          let comes = undoing.restored_comes c law old.sessions kept works s is m was at i h.whole (sits bodies i h) n next.note before leaf told of_class (own bodies i.log h.keeps) lived some marks in
          let lowers = undoing.restored_lowers c law old.sessions kept works s is m was at i h.whole (sits bodies i h) n next.note before leaf told of_class (own bodies i.log h.keeps) lived some marks in
          let j : index.State B = with_restored s n.entry (with_record x i) in
          let past = left_then (phase_at (s - 1) old.sessions.phases) m was at (work_left c i s) in
          let now = left_now c.keys old.sessions kept s is (m + 1) Rests (work_left c j s) in (
            Undoes s n.entry ∷ [],
            inr (n, next, refl),
            record {
              led =
                  grown_led c r f passes d e old bodies i h (is_calm old.checkpoint (not_due old early).0) w most flies after.leaves x (after.keeps comes.0)
                  (Undoes s n.entry ∷ []) j (j, comes.1, refl) comes.1.whole refl refl refl (restored_state s m n leaf Rests old.sessions)
                  (undoing.restored_sits c law old.sessions kept works s is m was at i h.whole (sits bodies i h) n next.note before leaf told of_class (own bodies i.log h.keeps) lived some marks) refl (λ works. works);
              lowers = lower_by _ _ _ _ past now lowers;
            },
          )

-- A checkpoint has to come first.
pub due_moves : {B D : Type 0} (c : Class B) (r : Reading (Entry B) (Page B)) (f : Format B) (passes : ℕ → Contents → Bool) (d : Device) (old : Parts B D) (s : ℕ) (need : Need)
    → MovesSo c r f passes d d s old old (Help need) (AreUndoing s old.sessions (Help need))
due_moves c r f passes d old s need bodies i h = ([], refl, record { led = nothing_led c r f passes d old bodies i h; lowers = tt })

-- pages that a step was refused say why
pub why_pages : {F : Type 0} (P : F → Type 0) (whole : StepFault F) (x : F) → whole ≡ step.Pages x → IsWhy P whole → P x
why_pages {F} P whole x is why = subst (λ (y : StepFault F). IsWhy P y) is why

-- and so do those that a split was refused
pub why_split_pages : {F : Type 0} (P : F → Type 0) (whole : SplitFault F) (fault : StepFault F) (x : F) → whole ≡ split.Step fault → fault ≡ step.Pages x → IsWhyOfSplit P whole → P x
why_split_pages {F} P whole fault x of is why = why_pages P fault x is (subst (λ (y : SplitFault F). IsWhyOfSplit P y) of why)

-- Pages were refused.
module _ {B D : Type 0} (c : Class B) (lawful : 4 ≤ c.rules.most → IsLawful c) (r : Reading (Entry B) (Page B)) (f : Format B) (passes : ℕ → Contents → Bool)
    (state : D → Device) (d : Device) (old : Parts B D) (kept : IsKept c.keys old.sessions) (works : old.sessions.failed ≡ false) (s : ℕ) (is : is_session s ≡ true) (early : is_due old ≡ false)
    (w : Volume D) (most : w.most ≡ old.volume.most) (n : Note B) (next : IsNext s old.sessions n) (leaf : ℕ) (its_leaf : leaf ≡ next_leaf s old.sessions n)
    (same_log : w.log ≡ old.volume.log) (reads : OnlyRead d (state w.shelf.disk)) (keeps : KeepsTheSame (known_of c) r f passes d (state w.shelf.disk) old.volume w) where
  abbrev Moving : Parts B D → Outcome B → Type 0
  Moving new o = MovesSo c r f passes d (state new.volume.shelf.disk) s old new o (AreUndoing s old.sessions o)

  moving : (new there : Parts B D) (o given : Outcome B) → o ≡ given → new ≡ there → Moving there given → Moving new o
  moving new there o given one other it = subst (λ (y : Outcome B). Moving new y) (sym one) (subst (λ (x : Parts B D). Moving x given) (sym other) it)

  abbrev e : Device
  e = state w.shelf.disk

  pub refused_moves : (size : ℕ) (refused : StoreFault) → faults.IsWhy passes d e (begun old.volume size) w.shelf refused → (new : Parts B D) (o : Outcome B)
      → IsRefused refused (record old { volume = w }) new o → Moving new o
  refused_moves size fault.NoRoom why new o is_so =
      moving new _ o _ is_so.2 is_so.3 (waits_moves c lawful r f passes d e old kept works s is early w most n next leaf its_leaf same_log reads keeps _)
  refused_moves size (fault.TooFewFrames frames) why new o is_so =
      moving new _ o _ is_so.2 is_so.3 (waits_moves c lawful r f passes d e old kept works s is early w most n next leaf its_leaf same_log reads keeps _)
  refused_moves size fault.Device why new o is_so =
      moving new _ o _ is_so.0 is_so.1 (fails_moves c lawful r f passes d e old kept works s is early w most n next leaf its_leaf same_log reads keeps)
  refused_moves size fault.Damaged why new o is_so = λ bodies i h. absurd (why h.keeps.steady h.keeps.readable)

-- What a refused move comes to.
module _ {B D : Type 0} (known : Limits → Known (Entry B) (Page B)) (r : Reading (Entry B) (Page B)) (f : Format B) (passes : ℕ → Contents → Bool) (IsKey : B → Type 0) (k : Keys B)
    (spelling : B → List ℕ) (key : ℕ) (state : D → Device) (d : Device) (s restored : ℕ) (n : Note B) (leaf : ℕ) (old : Parts B D) (w : Volume D) where
  abbrev Comes : Parts B D → Outcome B → Type 0
  Comes new o = RestoreComes known r f passes IsKey k spelling key d (state new.volume.shelf.disk) s restored n leaf old new o

  coming : (new there : Parts B D) (o given : Outcome B) → o ≡ given → new ≡ there → Comes there given → Comes new o
  coming new there o given one other it = subst (λ (y : Outcome B). Comes new y) (sym one) (subst (λ (x : Parts B D). Comes x given) (sym other) it)

  module _ (unlogged : IsUnlogged known r f passes (begun old.volume (mark_room (is_imaged old.volume.imaged leaf) key)) d (state w.shelf.disk) old.volume w) where
    pub refused_comes : (refused : StoreFault) → faults.IsWhy passes d (state w.shelf.disk) (begun old.volume (mark_room (is_imaged old.volume.imaged leaf) key)) w.shelf refused → (new : Parts B D) (o : Outcome B)
        → IsRefused refused (record old { volume = w }) new o → Comes new o
    refused_comes fault.NoRoom why new o is =
        coming new _ o _ is.2 is.3 (unlogged, record { fault = fault.NoRoom; can = tt; why = why; help = is.0; helps = is.1; is = refl; stamps = λ page. (unlogged.since page).same.stamp }, refl)
    refused_comes (fault.TooFewFrames frames) why new o is =
        coming new _ o _ is.2 is.3 (unlogged, record { fault = fault.TooFewFrames frames; can = tt; why = why; help = is.0; helps = is.1; is = refl; stamps = λ page. (unlogged.since page).same.stamp }, refl)
    refused_comes fault.Device why new o is = coming new _ o _ is.0 is.1 (unlogged, why, refl)
    refused_comes fault.Damaged why new o is = coming new _ o _ is.0 is.1 (unlogged, (λ steady readable. absurd (why steady readable)), refl)

    pub never_comes : (IsSteady d old.volume.shelf.frames → IsNoLeaf known r f passes IsKey k spelling key d old.volume leaf) → (new : Parts B D) (o : Outcome B)
        → o ≡ Replied (RefusedCall refusal.Damaged) → new ≡ record old { volume = w; sessions = failed_state old.sessions } → Comes new o
    never_comes none new o one other =
        coming new (record old { volume = w; sessions = failed_state old.sessions }) o (Replied (RefusedCall refusal.Damaged)) one other (unlogged, (λ steady readable. none steady), refl)

-- What was noted of a seek.
module _ {B D : Type 0} (s : ℕ) (old mid new : Parts B D) (only : mid ≡ record old { volume = mid.volume }) (n : Note B) (next : IsNext s old.sessions n) (leaf : ℕ) (sought : Sought)
    (noted : (x : Note B) (place : IsNext s mid.sessions x) → new ≡ record mid { sessions = sought_state s place.restored x leaf sought mid.sessions }) where
  abbrev its_end : Parts B D
  its_end = record old { volume = mid.volume; sessions = sought_state s next.restored n leaf sought old.sessions }

  pub noted_is : new ≡ its_end
  noted_is =
      subst (λ (m : Parts B D). ((x : Note B) (place : IsNext s m.sessions x) → new ≡ record m { sessions = sought_state s place.restored x leaf sought m.sessions }) → new ≡ its_end) (sym only)
      (λ all. all n next) noted

  module _ (outcome : Outcome B) (more : outcome ≡ More) where
    -- so it comes to what was sought
    pub sought_comes : (known : Limits → Known (Entry B) (Page B)) (r : Reading (Entry B) (Page B)) (f : Format B) (passes : ℕ → Contents → Bool) (IsKey : B → Type 0) (k : Keys B)
        (spelling : B → List ℕ) (key : ℕ) (state : D → Device) (d : Device)
        → PairIsSought known r f passes IsKey k spelling key d (state mid.volume.shelf.disk) old.volume mid.volume (transaction_of s old.sessions) n leaf sought
        → (restored : ℕ) → next_of s old.sessions ≡ Some restored
        → RestoreComes known r f passes IsKey k spelling key d (state new.volume.shelf.disk) s restored n leaf old new outcome
    sought_comes known r f passes IsKey k spelling key state d found restored place =
        subst (λ (m : ℕ). RestoreComes known r f passes IsKey k spelling key d (state new.volume.shelf.disk) s m n leaf old new outcome) (one_place s old.sessions n next restored place)
        (coming known r f passes IsKey k spelling key state d s next.restored n leaf old mid.volume new its_end outcome More more noted_is (sought, found, refl))

    -- and what was sought is an event
    pub noted_moves : (c : Class B) (r : Reading (Entry B) (Page B)) (f : Format B) (passes : ℕ → Contents → Bool) (state : D → Device) (d : Device)
        → MovesSo c r f passes d (state mid.volume.shelf.disk) s old its_end More (AreUndoing s old.sessions More)
        → MovesSo c r f passes d (state new.volume.shelf.disk) s old new outcome (AreUndoing s old.sessions outcome)
    noted_moves c r f passes state d it =
        subst (λ (o : Outcome B). MovesSo c r f passes d (state new.volume.shelf.disk) s old new o (AreUndoing s old.sessions o)) (sym more)
        (subst (λ (x : Parts B D). MovesSo c r f passes d (state x.volume.shelf.disk) s old x More (AreUndoing s old.sessions More)) (sym noted_is) it)

-- A pair that was sought in its leaf is restored or is to the right of it.
module _ {B D : Type 0} (shape : Members B) (proper : B → Bool) (limits : Limits) (lawful : 4 ≤ limits.most → IsLawful (class_of shape proper limits)) (said : List ℕ → B) (f : Format B)
    (passes : ℕ → Contents → Bool) (IsKey : B → Type 0) (spelling : B → List ℕ) (key : ℕ) (d e : Device) (old : Parts B D) (kept : IsKept (keys_of shape) old.sessions)
    (works : old.sessions.failed ≡ false) (s : ℕ) (is : is_session s ≡ true) (early : is_due old ≡ false) (n : Note B) (next : IsNext s old.sessions n) (leaf : ℕ)
    (its_leaf : leaf ≡ next_leaf s old.sessions n) (w : Volume D) where
  abbrev c : Class B
  c = class_of shape proper limits

  abbrev r : Reading (Entry B) (Page B)
  r = reading_of said f

  pub sought_moves : ShowsTheLogs (known_of c) r f passes d old.volume → ShowsKeys (known_of c) r f passes IsKey d old.volume
      → IsInOrder (passes old.volume.shelf.pages) d.sectors old.volume.shelf.frames old.volume.shelf.used old.volume.shelf.pages
      → AreNodes f passes old.volume.shelf → (most : ℕ) → ReadsMarks IsKey spelling f shape most → IsKey n.entry.key → said (spelling n.entry.key) ≡ n.entry.key → proper n.entry.key ≡ true
      → (sought : Sought) → PairIsSought (known_at shape proper) r f passes IsKey (keys_of shape) spelling key d e old.volume w (transaction_of s old.sessions) n leaf sought
      → MovesSo c r f passes d e s old (record old { volume = w; sessions = sought_state s next.restored n leaf sought old.sessions }) More (AreUndoing s old.sessions More)
  sought_moves shows keyed order nodes most reads is_key back of_class (Here slot before) found =
      let small = is_imaged old.volume.imaged leaf in
      let told : Said (Page B) = mark_told spelling f small n.entry n.before leaf e.seen w.shelf in
      let t : ℕ = transaction_of s old.sessions in
      let same : record_read r (mark_said spelling small t n.entry.row n.entry.key before n.before leaf e.seen w.shelf) ≡ Write t n.entry before n.before leaf told =
      mark_read said spelling f small t n.entry before n.before leaf e.seen w.shelf back in
      here_moves c lawful r f passes d e old kept works s is early w found.logged.most n next leaf its_leaf IsKey shows keyed order found.wants found.wanted slot before told of_class
      (λ bodies log keeps. mark_is_said shape (known_of c) said f passes d old.volume bodies log keeps nodes IsKey spelling most reads n.entry is_key
      found.wants found.wanted leaf slot before n.before e.seen w.shelf found.own (store_of f e.seen w.shelf) (found.sets keeps.steady))
      found.sets (flies_on old.volume.log w.log found.logged.logs)
      (λ bodies log lawful_log keeps. subst (λ (y : Record (Entry B) (Page B)). StaysWith (known_of c) r f passes d e w bodies log y) same (found.logged.keeps limits bodies log lawful_log keeps))
  sought_moves shows keyed order nodes most reads is_key back of_class (Right page) found =
      right_moves c lawful r f passes d e old kept works s is early w found.logged.most n next leaf its_leaf found.logged.log (found.logged.since 0).goes_on.device (found.logged.keeps limits)
      IsKey shows keyed order found.wants found.wanted page found.sets

-- the note that an undo restores next, read of its place
pub is_next : {B : Type 0} (s : ℕ) (sessions : State B (Work B)) (m : ℕ) → next_of s sessions ≡ Some m → (notes : List (Note B)) → notes ≡ (held_by s sessions.table).notes
    → (n : Note B) → n ≡ get_or notes m n → IsNext s sessions n
is_next {B} s sessions m place notes its_notes n at =
    let own : List (Note B) = (held_by s sessions.table).notes in
    let low : m < length own = low_by (phase_at (s - 1) sessions.phases) (length own) m place in
    record { restored = m; place = place; note = slice_get_read own (length own) m n refl low (at ∙ ap (λ (ns : List (Note B)). get_or ns m n) its_notes) }

-- What a move comes to if a note is left.
pub some_comes : {B D : Type 0} (known : Limits → Known (Entry B) (Page B)) (r : Reading (Entry B) (Page B)) (f : Format B) (passes : ℕ → Contents → Bool) (IsKey : B → Type 0) (k : Keys B)
    (spelling : B → List ℕ) (key : ℕ) (d e : Device) (s : ℕ) (old new : Parts B D) (outcome : Outcome B) → is_due old ≡ false → (m : ℕ) → next_of s old.sessions ≡ Some m
    → (notes : List (Note B)) → notes ≡ (held_by s old.sessions.table).notes → (n : Note B) → n ≡ get_or notes m n → (leaf : ℕ) → leaf ≡ next_leaf s old.sessions n
    → ((restored : ℕ) → next_of s old.sessions ≡ Some restored → RestoreComes known r f passes IsKey k spelling key d e s restored n leaf old new outcome)
    → UndoComes known r f passes IsKey k spelling key d e s old new outcome
some_comes {B} {D} known r f passes IsKey k spelling key d e s old new outcome early m place notes its_notes n at leaf its_leaf comes =
    let own : List (Note B) = (held_by s old.sessions.table).notes in
    let low : m < length own = low_by (phase_at (s - 1) old.sessions.phases) (length own) m place in
    let here : slice_get own m ≡ Some n = slice_get_read own (length own) m n refl low (at ∙ ap (λ (ns : List (Note B)). get_or ns m n) its_notes) in
    subst (λ (b : Bool). UndoBy known r f passes IsKey k spelling key b (next_of s old.sessions) d e s old new outcome) (sym early)
    (subst (λ (next : Option ℕ). UndoBy known r f passes IsKey k spelling key false next d e s old new outcome) (sym place)
    (n, here, subst (λ (q : ℕ). RestoreComes known r f passes IsKey k spelling key d e s m n q old new outcome) its_leaf (comes m place)))

-- What a call that sets a mark says, as the result of a seek.
pub seeking : {B D : Type 0} (known : Limits → Known (Entry B) (Page B)) (r : Reading (Entry B) (Page B)) (f : Format B) (passes : ℕ → Contents → Bool) (IsKey : B → Type 0) (shape : Members B)
    (spelling : B → List ℕ) (key : ℕ) (d e : Device) (v w : Volume D) (t : ℕ) (n : Note B) (leaf : ℕ)
    → (result : Result Sought (StepFault StoreFault)) → IfOk result (MarkIsLogged known r f passes spelling key t n.entry leaf n.before d e v w)
    → OnErr result (IsUnlogged known r f passes (begun v (mark_room (is_imaged v.imaged leaf) key)) d e v w)
    → MarksEntry IsKey shape n.entry leaf n.before result (IsSteady d v.shelf.frames) (store_of f d.seen v.shelf) (store_of f e.seen w.shelf) → IfOk result (OwnWhereSet e.seen w.shelf leaf)
    → IfErr result (IsWhy (faults.IsWhy passes d e (begun v (mark_room (is_imaged v.imaged leaf) key)) w.shelf))
    → Seeking known r f passes IsKey (keys_of shape) spelling key d e v w t n leaf result
seeking known r f passes IsKey shape spelling key d e v w t n leaf (Ok sought) logged unlogged marks own why =
    record { wants = marks.wants; wanted = marks.wanted; logged = logged; sets = marks.tells.marked; own = own }
seeking known r f passes IsKey shape spelling key d e v w t n leaf (Err fault) logged unlogged marks own why =
    let result : StepFault StoreFault → Result Sought (StepFault StoreFault) = λ x. Err x in
    record {
      unlogged = unlogged;
      why = why;
      damaged = λ steady is. marks.tells.damaged steady (ap result is);
    }
