-- The moves of a write whose pair is in a leaf, as an index's events: it seeks further to the right, finds the mark
-- that it wants, or sets it.
use Rattle.std.proofs.Common.{◌≡◌, ◌≢◌, ◌∙◌, sym, ap, refl, subst, ℕ, ◌-◌, ◌<◌, ◌≤◌, ◌==◌, ◌&&◌, Bool, true, false, not, Some, None, List, [], ◌∷◌, map, arith}
use Rattle.std.specs.Ordering.{is_eq}
use Rattle.gx_geom.specs.declared.refusal.Refusal.TheVariants as refusal
use Rattle.gx_machine.specs.declared.entry.Entry.{Entry}
use Rattle.gx_machine.specs.declared.call.Call.{Call}
use Rattle.gx_machine.specs.declared.reply.Reply.TheVariants as reply
use Rattle.gx_machine.specs.Keys.{Members, keys_of}
use Rattle.gx_machine.specs.Machine.{is_session}
use Rattle.gx_disk.specs.Device.{Device}
use Rattle.gx_disk.proofs.Leaving.{leaves_joined}
use Rattle.gx_page.specs.Contents.{Contents}
use Rattle.gx_pool.specs.Bringing.{OnlyRead}
use Rattle.gx_node.specs.Reading.{Format}
use Rattle.gx_node.specs.Alike.{AgreeOnUsed}
use Rattle.gx_node.specs.Lists.{how_many}
use Rattle.gx_node.specs.Steps.{IsMarking}
use Rattle.gx_node.specs.Trees.{Node, Pair, Tree, Used}
use Rattle.gx_node.proofs.SeekSteps.{seek_at_leaf}
use Rattle.gx_node.specs.Keyed.{AreKeys}
use Rattle.gx_tree.specs.Writing.{SetsMark}
use Rattle.gx_tree.specs.declared.seek.Sought.{Sought}
use Rattle.gx_tree.specs.declared.seek.Sought.TheVariants.{Here, Right}
use Rattle.gx_recovery.specs.Analysis.{Analysis, analysis, touching}
use Rattle.gx_recovery.specs.Coming.{IsSaid, MayCome}
use Rattle.gx_recovery.specs.Known as known
use Rattle.gx_recovery.specs.Known.{Known, Limits}
use Rattle.gx_recovery.specs.Logged.{Logged, all_records, appended}
use Rattle.gx_recovery.specs.Records.{Record, Said, Touch, Write}
use Rattle.gx_recovery.proofs.Folds.{analysis-snoc}
use Rattle.gx_events.specs.Happenings.{Happening, Deletes, FindsAbsent, FindsPresent, Inserts, RefusesCall, Works}
use Rattle.gx_events.specs.Slots.{WithNote, Working, slot_at}
use Rattle.gx_index_laws.specs.Classes.{Class, IsLawful, Page, is_live, is_live_of, is_of, known_of}
use Rattle.gx_index_laws.specs.Happening.{Comes, Happens, slotted, with_record}
use Rattle.gx_index_laws.specs.States as index
use Rattle.gx_index_laws.specs.States.{tree_after, tree_now}
use Rattle.gx_index_laws.specs.Whole.{IsWhole, is_busy}
use Rattle.gx_index_laws.specs.Working.{DoesWork, SeeksFor}
use Rattle.gx_index_laws.proofs.Answering.{absent_by_mark, present, seek_right}
use Rattle.gx_index_laws.proofs.Entering.{delete_marks, insert_clears}
use Rattle.gx_index_laws.proofs.Measuring.{seek_falls}
use Rattle.gx_index_laws.proofs.Standing.{grown, is_legal, known_lawful, tells}
use Rattle.gx_index_laws.proofs.Tools.{changed_beside}
use Rattle.gx_durable.specs.Spelled.{Reading, record_read}
use Rattle.gx_durable.specs.Standing.{Stands}
use Rattle.gx_durable.specs.Classes.{class_of, known_at, reading_of}
use Rattle.gx_events.specs.declared.outcome.Need.{Need}
use Rattle.gx_events.specs.declared.outcome.Outcome.{Outcome}
use Rattle.gx_events.specs.declared.outcome.Outcome.TheVariants.{Replied, More, Help, Nothing, Refused}
use Rattle.gx_txn.specs.declared.note.Note.{Note}
use Rattle.gx_txn.specs.Notes.{noting}
use Rattle.gx_txn.specs.Tables.{Held, with_notes}
use Rattle.gx_phases.specs.declared.phase.Phase.{Phase}
use Rattle.gx_phases.specs.declared.phase.Phase.TheVariants as phase
use Rattle.gx_phases.specs.Moves.{answered_state, failed_state, transaction_of, written_state}
use Rattle.gx_phases.specs.States.{State, IsKept, held_at, note_of, phase_at, slot_of}
use Rattle.gx_phases.proofs.Keeping.{low}
use Rattle.gx_phases.proofs.Noting.{noting_notes}
use Rattle.gx_store.specs.declared.fault.StoreFault.{StoreFault}
use Rattle.gx_store.specs.declared.fault.StoreFault.TheVariants as fault
use Rattle.gx_store.specs.Faults as faults
use Rattle.gx_store.specs.State.{IsInOrder, IsSteady}
use Rattle.gx_store.specs.Standing.{store_of}
use Rattle.gx_storage.specs.Changes.{begun}
use Rattle.gx_storage.specs.Imaged.{is_imaged}
use Rattle.gx_storage.specs.Small.{mark_said}
use Rattle.gx_storage.proofs.Recording.{AreNodes}
use Rattle.gx_storage.proofs.SmallMarks.{ReadsMarks, mark_is_said, mark_read, mark_told}
use Rattle.gx_storage.specs.Keeps.{Keeps, KeepsTheSame, ShowsKeys, ShowsTheLogs, StaysSame, StaysWith, tree_shown}
use Rattle.gx_storage.specs.State.{Volume}
use Rattle.gx_engine.specs.declared.work.Work.{Work}
use Rattle.gx_engine.specs.declared.work.Work.TheVariants.{Seeks}
use Rattle.gx_engine.specs.Holds.{CallIsAt, CallSeeks, Holds, IsAt, Sits}
use Rattle.gx_engine.specs.Moves.{Lowers, Moved, Moves, calling}
use Rattle.gx_engine.specs.Noted.{has_transaction, touch_by, touched_by}
use Rattle.gx_engine.specs.Refusals.{IsRefused}
use Rattle.gx_engine.specs.Seeks.{IsSought, set_outcome, set_state, standing_refusal, write_call, written_reply}
use Rattle.gx_engine.specs.States.{Parts, is_due}
use Rattle.gx_engine.specs.Undoing.{PairIsSought}
use Rattle.gx_engine.specs.Writes.{write_events}
use Rattle.gx_engine.proofs.Growing.{grown_led}
use Rattle.gx_engine.proofs.LookMoves.{answers, as_it_stays, fails, goes_on, held, slot_now, waits}
use Rattle.gx_engine.proofs.Marking.{here_counts, here_live, marks_too, right_none}
use Rattle.gx_engine.proofs.Noting.{busy_slot, told_set}
use Rattle.gx_engine.proofs.Serving.{FliesOn, StaysSettled, flies_on, is_calm, not_due, of_reads, same_device, session_at, session_of, slot_is}
use Rattle.gx_engine.proofs.Touching.{touching_notes, touching_other, touching_own}
use Rattle.gx_engine.proofs.Waiting.{sits_of, waits_led}

-- the event of a write that was made, by the mark that it gave
abbrev written_event : {B : Type 0} → ℕ → Entry B → Bool → Happening B
written_event s entry true = Deletes s entry
written_event s entry false = Inserts s entry

written_told : {B : Type 0} (s : ℕ) (entry : Entry B) (m : Bool) → write_events s (write_call m entry) (Replied (written_reply m)) ≡ written_event s entry m ∷ []
written_told s entry true = refl
written_told s entry false = refl

help_told : {B : Type 0} (s : ℕ) (entry : Entry B) (m : Bool) (n : Need) → write_events s (write_call m entry) (Help n) ≡ []
help_told s entry true n = refl
help_told s entry false n = refl

device_told : {B : Type 0} (s : ℕ) (entry : Entry B) (m : Bool) → write_events s (write_call m entry) (Replied (reply.Refused refusal.Device)) ≡ RefusesCall s refusal.Device ∷ []
device_told s entry true = refl
device_told s entry false = refl

seeks_by : {B : Type 0} (entry : Entry B) (m : Bool) (leaf : ℕ) (now : index.Work B) → CallSeeks (write_call m entry) leaf now → now ≡ index.Seeks entry leaf
seeks_by entry true leaf now is = is
seeks_by entry false leaf now is = is

seeks_there : {B : Type 0} (entry : Entry B) (m : Bool) (leaf : ℕ) → CallSeeks (write_call m entry) leaf (index.Seeks entry leaf)
seeks_there entry true leaf = refl
seeks_there entry false leaf = refl

both : (a b : Bool) → a ≡ true → b ≡ true → (a && b) ≡ true
both true b first second = second
both false b first second = first

not_alike : (a b : Bool) → not a ≡ not b → a ≡ b
not_alike true true is = refl
not_alike true false is = absurd (let no : false ≡ true = is in cc)
not_alike false true is = absurd (let no : true ≡ false = is in cc)
not_alike false false is = refl

-- A write whose mark was set, as its index's event.
module _ {B : Type 0} (c : Class B) (l : IsLawful c) (old : State B (Work B)) (kept : IsKept c.keys old) (works : old.failed ≡ false) (s : ℕ) (is : is_session s ≡ true)
    (entry : Entry B) (leaf : ℕ) (marked before : Bool) (same : before ≡ not marked) (at : phase_at (s - 1) old.phases ≡ phase.Open (write_call marked entry) (Seeks leaf))
    (i : index.State B) (whole : IsWhole c i) (h : Sits c old i) (told : Said (Page B)) where
  abbrev k : Known (Entry B) (Page B)
  k = known_of c

  abbrev held_then : Held B
  held_then = held_at (s - 1) old.table

  abbrev t : ℕ
  t = transaction_of s old

  abbrev touches : List (Touch (Entry B))
  touches = (analysis k (all_records i.log)).touched

  abbrev n : Note B
  n = record { entry = entry; before = before; leaf = leaf }

  abbrev notes : List (Note B)
  notes = noting c.keys n held_then.notes

  abbrev write_by : ℕ → Bool → Bool → Record (Entry B) (Page B)
  write_by number b m = Write number entry b m leaf told

  abbrev notes_by : Bool → List (Note B)
  notes_by b = noting c.keys (record { entry = entry; before = b; leaf = leaf }) held_then.notes

  abbrev index_by : ℕ → Bool → Bool → index.State B
  index_by number b m = slotted s (Working held_then.locks (map note_of (notes_by b)) None) index.Rests (with_record (write_by number b m) i)

  abbrev written_index : index.State B
  written_index = index_by t before marked

  its_number : i.transaction s ≡ t
  its_number = h.of.transactions s is

  slot_then : slot_at s i.slots ≡ Working held_then.locks (map note_of held_then.notes) (Some (write_call marked entry))
  slot_then = slot_is c.keys old i kept h.of s is ∙ ap (λ (p : Phase B (Work B)). slot_of p held_then) at

  module _ (of_class : c.is_key entry.key ≡ true) (own : IsSaid k leaf told (all_records i.log))
      (counts : (test : Pair B → Bool) → ((x : Pair B) → is_of c entry x ≡ true → x.marked ≡ before → test x ≡ true) → 0 < how_many test ((tree_now c i).node leaf).pairs)
      (step : IsMarking c.rules (tree_now c i) (tree_after c (appended (write_by t before marked) i.log)) leaf entry.row entry.key marked) where
    with_note : (b : Bool) → WithNote c.keys entry (not b) (map note_of held_then.notes) (map note_of (notes_by b))
    with_note b = noting_notes c.keys l.keys (record { entry = entry; before = b; leaf = leaf }) held_then.notes (kept.placed (s - 1) (low c.keys old kept s is)).in_order

    comes_by : (m b : Bool) → b ≡ not m → slot_at s i.slots ≡ Working held_then.locks (map note_of held_then.notes) (Some (write_call m entry))
        → ((test : Pair B → Bool) → ((x : Pair B) → is_of c entry x ≡ true → x.marked ≡ b → test x ≡ true) → 0 < how_many test ((tree_now c i).node leaf).pairs)
        → IsMarking c.rules (tree_now c i) (tree_after c (appended (write_by (i.transaction s) b m) i.log)) leaf entry.row entry.key m
        → Comes c i (write_by (i.transaction s) b m) (written_event s entry m) (index_by (i.transaction s) b m)
    comes_by true true is slot counts step = absurd (let no : true ≡ false = is in cc)
    comes_by true false is slot counts step =
        delete_marks c l i whole (h.of.failed ∙ works) s held_then.locks (map note_of held_then.notes) (map note_of (notes_by false)) entry leaf told of_class own slot (with_note false)
        (counts (λ x. is_of c entry x && not x.marked) (λ x is_its has. both (is_of c entry x) (not x.marked) is_its (ap not has))) step
    comes_by false true is slot counts step =
        insert_clears c l i whole (h.of.failed ∙ works) s held_then.locks (map note_of held_then.notes) (map note_of (notes_by true)) entry leaf told of_class own slot (with_note true)
        (counts (λ x. is_of c entry x && x.marked) (λ x is_its has. both (is_of c entry x) x.marked is_its has)) step
    comes_by false false is slot counts step = absurd (let no : false ≡ true = is in cc)

    pub written_comes : MayCome k i.log.area (all_records i.log) (write_by t before marked) × Happens c i (written_event s entry marked) written_index
    written_comes =
        let P : ℕ → Type 0 = λ number. IsMarking c.rules (tree_now c i) (tree_after c (appended (write_by number before marked) i.log)) leaf entry.row entry.key marked
        → MayCome k i.log.area (all_records i.log) (write_by number before marked) × Happens c i (written_event s entry marked) (index_by number before marked) in
        subst P its_number (λ marks. (let comes = comes_by marked before same slot_then counts marks in (comes.may_come, comes.happens))) step

  -- another session's transaction is another
  apart : (a : ℕ) → is_session a ≡ true → a ≢ s → has_transaction (phase_at (a - 1) old.phases) ≡ true → transaction_of a old ≢ t
  apart a there ne busy alike =
      ne (whole.tied.own a s
      (ap is_busy (slot_is c.keys old i kept h.of a there) ∙ busy_slot (phase_at (a - 1) old.phases) (held_at (a - 1) old.table) busy)
      (ap is_busy slot_then) (h.of.transactions a there ∙ alike ∙ sym its_number))

  pub written_sits : Sits c (written_state c.keys s n old) written_index
  written_sits =
      let new : State B (Work B) = written_state c.keys s n old in
      let x : Record (Entry B) (Page B) = write_by t before marked in
      let of = session_of c.keys old new i kept h.of s phase.Working (with_notes notes held_then) refl refl index.Rests refl refl refl refl in
      let rest : (analysis k (all_records written_index.log)).touched ≡ touching k (touch_by t n) touches =
      ap (λ (a : Analysis (Entry B)). a.touched) (ap (λ (rs : List (Record (Entry B) (Page B))). analysis k rs) (grown x i.log) ∙ analysis-snoc k (all_records i.log) x) in
      record {
        of = record { slots = of.slots; transactions = of.transactions; next = of.next; oldest = of.oldest; failed = of.failed };
        at = session_at c.keys old new i written_index kept s is phase.Working (with_notes notes held_then) refl refl
            (λ a ne. changed_beside s index.Rests i.work a ne) (λ a ne. changed_beside s [] i.restored a ne) tt h.at;
        told = told_set c.keys old new touches (analysis k (all_records written_index.log)).touched kept s is phase.Working (with_notes notes held_then) refl refl
            (λ a there ne busy. ap (λ (xs : List (Touch (Entry B))). touched_by (transaction_of a old) xs) rest
            ∙ touching_other k (known_lawful c l) (transaction_of a old) (touch_by t n) touches (λ alike. apart a there ne busy (sym alike)))
            (λ a there ne. refl)
            (λ busy. ap (λ (xs : List (Touch (Entry B))). touched_by t xs) rest ∙ own_now) h.told;
      }
    where
      own_touches : touched_by t touches ≡ map (touch_by t) held_then.notes
      own_touches = h.told s is (ap (λ (p : Phase B (Work B)). has_transaction p) at)

      own_now : touched_by t (touching k (touch_by t n) touches) ≡ map (touch_by t) notes
      own_now =
          touching_own k (known_lawful c l) t (touch_by t n) touches refl (tells c l i whole).in_order
          ∙ ap (λ (xs : List (Touch (Entry B))). touching k (touch_by t n) xs) own_touches
          ∙ touching_notes c.keys k refl t n held_then.notes

-- An engine that works, one of whose sessions writes an entry whose pair it seeks.
module _ {B D : Type 0} (c : Class B) (lawful : 4 ≤ c.rules.most → IsLawful c) (r : Reading (Entry B) (Page B)) (f : Format B) (passes : ℕ → Contents → Bool) (d : Device) (old : Parts B D)
    (kept : IsKept c.keys old.sessions) (works : old.sessions.failed ≡ false) (s : ℕ) (is : is_session s ≡ true) (entry : Entry B) (leaf : ℕ) (marked : Bool)
    (at : phase_at (s - 1) old.sessions.phases ≡ phase.Open (write_call marked entry) (Seeks leaf)) where
  abbrev call : Call B
  call = write_call marked entry

  module _ (bodies : List (List (Record (Entry B) (Page B)))) (i : index.State B) (h : Holds c r f passes d old bodies i) where
    abbrev law : IsLawful c
    law = lawful h.some

    abbrev one : Tree B
    one = tree_now c i

    abbrev its : Held B
    its = held c law r f passes d old kept s is call (Seeks leaf) at bodies i h

    slot : slot_at s i.slots ≡ Working its.locks (map note_of its.notes) (Some call)
    slot = slot_now c law r f passes d old kept s is call (Seeks leaf) at bodies i h

    -- the index seeks it too
    work_is : i.work s ≡ index.Seeks entry leaf
    work_is =
        let now : CallIsAt call (Seeks leaf) (i.work s) = subst (λ (p : Phase B (Work B)). IsAt c.keys p its.notes (i.work s) (i.restored s)) at (h.at s is) in
        seeks_by entry marked leaf (i.work s) now

    seeks : SeeksFor c one (slot_at s i.slots) entry leaf
    seeks = subst (λ (x : index.Work B). DoesWork c one (slot_at s i.slots) x) work_is (h.whole.works s)

    -- so its page is a leaf that is taken
    leaf_here : Used one leaf × ((one.node leaf).level ≡ 0)
    leaf_here = seek_at_leaf c.rules leaf entry.row entry.key one seeks.seek

    leaf_in : (other : Tree B) → AgreeOnUsed one other → Used other leaf × ((other.node leaf).level ≡ 0)
    leaf_in other agree = (
      (leaf_here.0.0, subst (λ (u : ℕ). leaf ≤ u) (sym agree.used) leaf_here.0.1),
      ap (λ (x : Node B). x.level) (agree.nodes leaf leaf_here.0) ∙ leaf_here.1,
    )

  -- its page isn't refused as none that is a leaf
  pub never_set : ShowsTheLogs (known_of c) r f passes d old.volume
      → (IsSteady d old.volume.shelf.frames → Used (tree_shown (known_of c) r f passes d old.volume) leaf → ((tree_shown (known_of c) r f passes d old.volume).node leaf).level ≢ 0)
      → (later : Device) (new : Parts B D) (o : Outcome B) (events : List (Happening B)) → Moves c r f passes d later s old new o events
  never_set shows none later new o events bodies i h =
      let there = leaf_in bodies i h (tree_shown (known_of c) r f passes d old.volume) (shows bodies i.log h.keeps) in
      absurd (none h.keeps.steady there.0 there.1)

  -- Pages were refused.
  module _ (state : D → Device) (w : Volume D) (most : w.most ≡ old.volume.most) (same_log : w.log ≡ old.volume.log) (reads : OnlyRead d (state w.shelf.disk))
      (keeps : KeepsTheSame (known_of c) r f passes d (state w.shelf.disk) old.volume w) where
    abbrev e : Device
    e = state w.shelf.disk

    stays : (bodies : List (List (Record (Entry B) (Page B)))) (i : index.State B) → Holds c r f passes d old bodies i → StaysSame (known_of c) r f passes d e w bodies i.log
    stays bodies i h = keeps bodies i.log (known_lawful c (lawful h.some)) h.keeps

    settled : (bodies : List (List (Record (Entry B) (Page B)))) (i : index.State B) → Holds c r f passes d old bodies i → StaysSettled d e
    settled bodies i h = of_reads d e reads h.keeps.steady.honest

    abbrev Moving : Parts B D → Outcome B → Type 0
    Moving new o = Moves c r f passes d (state new.volume.shelf.disk) s old new o (write_events s call o)

    moving : (new there : Parts B D) (o given : Outcome B) → o ≡ given → new ≡ there → Moving there given → Moving new o
    moving new there o given one other it = subst (λ (y : Outcome B). Moving new y) (sym one) (subst (λ (x : Parts B D). Moving x given) (sym other) it)

    waits_moves : (n : Need) → Moving (record old { volume = w }) (Help n)
    waits_moves n =
        subst (λ (events : List (Happening B)). Moves c r f passes d e s old (record old { volume = w }) (Help n) events) (sym (help_told s entry marked n))
        (λ bodies i h. waits c (lawful h.some) r f passes d old kept s is call (Seeks leaf) at bodies i h e w most same_log (settled bodies i h) (stays bodies i h) n)

    fails_moves : Moving (record old { volume = w; sessions = failed_state old.sessions }) (Replied (reply.Refused refusal.Device))
    fails_moves =
        subst (λ (events : List (Happening B)). Moves c r f passes d e s old (record old { volume = w; sessions = failed_state old.sessions }) (Replied (reply.Refused refusal.Device)) events)
        (sym (device_told s entry marked))
        (λ bodies i h. fails c (lawful h.some) r f passes d old kept s is call (Seeks leaf) at bodies i h e w most same_log (settled bodies i h) (stays bodies i h) works)

    pub refused_moves : (size : ℕ) (refused : StoreFault) → faults.IsWhy passes d e (begun old.volume size) w.shelf refused → (new : Parts B D) (o : Outcome B)
        → IsRefused refused (record old { volume = w }) new o → Moves c r f passes d (state new.volume.shelf.disk) s old new o (write_events s call o)
    refused_moves size fault.NoRoom why new o is_so = moving new _ o _ is_so.2 is_so.3 (waits_moves _)
    refused_moves size (fault.TooFewFrames frames) why new o is_so = moving new _ o _ is_so.2 is_so.3 (waits_moves _)
    refused_moves size fault.Device why new o is_so = moving new _ o _ is_so.0 is_so.1 fails_moves
    refused_moves size fault.Damaged why new o is_so = λ bodies i h. absurd (why h.keeps.steady h.keeps.readable)

    -- nor is it once pages were brought
    pub never_moves : ShowsTheLogs (known_of c) r f passes e w
        → (Used (tree_shown (known_of c) r f passes e w) leaf → ((tree_shown (known_of c) r f passes e w).node leaf).level ≢ 0)
        → (later : Device) (new : Parts B D) (o : Outcome B) (events : List (Happening B)) → Moves c r f passes d later s old new o events
    never_moves shows none later new o events bodies i h =
        let there = leaf_in bodies i h (tree_shown (known_of c) r f passes e w) (shows bodies i.log (stays bodies i h).keeps) in
        absurd (none there.0 there.1)

    -- What a part does that begins with pages that may have been brought, the whole does.
    module _ (new : Parts B D) (later : Device) where
      lowers_on : (o : Outcome B) (i j : index.State B) → Lowers c r f passes s o (record old { volume = w }) new i j → Lowers c r f passes s o old new i j
      lowers_on More i j less = less
      lowers_on (Replied x) i j less = tt
      lowers_on (Help n) i j less = tt
      lowers_on Nothing i j less = tt
      lowers_on (Refused why) i j less = tt

      pub moves_on : (o : Outcome B) (events : List (Happening B)) → Moves c r f passes e later s (record old { volume = w }) new o events → Moves c r f passes d later s old new o events
      moves_on o events moves bodies i h =
          let led = waits_led c r f passes d e old bodies i h w most same_log reads (stays bodies i h) in
          let moved : Moved c r f passes e later s (record old { volume = w }) new o i events =
          subst (λ (j : index.State B). Moved c r f passes e later s (record old { volume = w }) new o j events) led.happening (moves led.bodies led.index led.holds) in
          record {
            led = record {
              bodies = moved.led.bodies;
              index = moved.led.index;
              happening = moved.led.happening;
              holds = moved.led.holds;
              leaves = leaves_joined (Stands (known_of c) r i.log) d e later led.leaves moved.led.leaves;
            };
            lowers = lowers_on o i moved.led.index moved.lowers;
          }

  -- The pair was sought in the tree that is shown.
  module _ (IsKey : B → Type 0) (shows : ShowsTheLogs (known_of c) r f passes d old.volume) (keyed : ShowsKeys (known_of c) r f passes IsKey d old.volume)
      (order : IsInOrder (passes old.volume.shelf.pages) d.sectors old.volume.shelf.frames old.volume.shelf.used old.volume.shelf.pages) where
    module _ (bodies : List (List (Record (Entry B) (Page B)))) (i : index.State B) (h : Holds c r f passes d old bodies i) where
      abbrev other : Tree B
      other = tree_shown (known_of c) r f passes d old.volume

      agree : AgreeOnUsed (one bodies i h) other
      agree = shows bodies i.log h.keeps

      keys : AreKeys IsKey other
      keys = keyed bodies i.log h.keeps order

      used : Used other leaf
      used = (leaf_in bodies i h other agree).0

      -- it isn't in this leaf
      none_here : (page : ℕ) → IsSought f IsKey c.keys d old.volume entry leaf (Right page)
          → (how_many (is_of c entry) ((one bodies i h).node leaf).pairs ≡ 0) × (page ≡ ((one bodies i h).node leaf).right)
      none_here page found =
          right_none c (law bodies i h) IsKey (one bodies i h) other agree keys leaf used entry found.wants found.wanted page found.seeks

      -- it is in this leaf, with this mark
      counts : (spot : ℕ) (before : Bool) → IsSought f IsKey c.keys d old.volume entry leaf (Here spot before) → (test : Pair B → Bool)
          → ((x : Pair B) → is_of c entry x ≡ true → x.marked ≡ before → test x ≡ true) → 0 < how_many test ((one bodies i h).node leaf).pairs
      counts spot before found = here_counts c (law bodies i h) IsKey (one bodies i h) other agree keys leaf used entry found.wants found.wanted spot before found.seeks

      lives : (spot : ℕ) (before : Bool) → IsSought f IsKey c.keys d old.volume entry leaf (Here spot before) → is_live c (one bodies i h) entry ≡ not before
      lives spot before found =
          here_live c (law bodies i h) IsKey (one bodies i h) other agree keys leaf used entry found.wants found.wanted spot before found.seeks (is_legal c (law bodies i h) i h.whole)

      -- and it is answered if it has the mark already
      module _ (spot : ℕ) (found : IsSought f IsKey c.keys d old.volume entry leaf (Here spot marked)) where
        its_slot : (m : Bool) → marked ≡ m → slot_at s i.slots ≡ Working (its bodies i h).locks (map note_of (its bodies i h).notes) (Some (write_call m entry))
        its_slot m same = slot bodies i h ∙ ap (λ (b : Bool). Working (its bodies i h).locks (map note_of (its bodies i h).notes) (Some (write_call b entry))) same

        stands_by : (m : Bool) → marked ≡ m → Moved c r f passes d d s old (record old { sessions = answered_state s old.sessions }) (Replied (reply.Refused (standing_refusal m))) i
            (write_events s (write_call m entry) (Replied (reply.Refused (standing_refusal m))))
        stands_by true same =
            answers c (law bodies i h) r f passes d old kept s is call (Seeks leaf) at bodies i h d old.volume refl refl (same_device d)
            (as_it_stays c (law bodies i h) r f passes d old kept s is call (Seeks leaf) at bodies i h) (reply.Refused refusal.Absent) (FindsAbsent s entry)
            (absent_by_mark c (law bodies i h) i h.whole (h.sessions.failed ∙ works) s (its bodies i h).locks (map note_of (its bodies i h).notes) entry leaf (its_slot true same)
            (leaf_here bodies i h).0 (leaf_here bodies i h).1
            (counts spot marked found (λ x. is_of c entry x && x.marked) (λ x is_its has. both (is_of c entry x) x.marked is_its (has ∙ same))))
        stands_by false same =
            answers c (law bodies i h) r f passes d old kept s is call (Seeks leaf) at bodies i h d old.volume refl refl (same_device d)
            (as_it_stays c (law bodies i h) r f passes d old kept s is call (Seeks leaf) at bodies i h) (reply.Refused refusal.Present) (FindsPresent s entry)
            (present c (law bodies i h) i h.whole (h.sessions.failed ∙ works) s (its bodies i h).locks (map note_of (its bodies i h).notes) entry leaf (its_slot false same)
            (leaf_here bodies i h).0 (leaf_here bodies i h).1
            (counts spot marked found (is_live_of c entry) (λ x is_its has. both (is_of c entry x) (not x.marked) is_its (ap not (has ∙ same)))))

    -- it is sought further to the right
    pub right_moves : (page : ℕ) → IsSought f IsKey c.keys d old.volume entry leaf (Right page) → Moves c r f passes d d s old (calling s call (Seeks page) old) More (Works ∷ [])
    right_moves page found bodies i h =
        let l = law bodies i h in
        let none = none_here bodies i h page found in
        let right : ℕ = ((one bodies i h).node leaf).right in
        subst (λ (q : ℕ). Moved c r f passes d d s old (calling s call (Seeks q) old) More i (Works ∷ [])) (sym none.1)
        (goes_on c l r f passes d old kept s is call (Seeks leaf) at bodies i h d old.volume refl refl (same_device d)
        (as_it_stays c l r f passes d old kept s is call (Seeks leaf) at bodies i h) (Seeks right) (index.Seeks entry right) (seeks_there entry marked right)
        (seek_right c l i h.whole s entry leaf (work_is bodies i h) none.0)
        (seek_falls c l i h.whole s (its bodies i h).locks (map note_of (its bodies i h).notes) call (slot bodies i h) entry leaf (work_is bodies i h) none.0))

    -- the pair has the mark already
    pub stands_moves : (spot : ℕ) → IsSought f IsKey c.keys d old.volume entry leaf (Here spot marked)
        → Moves c r f passes d d s old (record old { sessions = answered_state s old.sessions }) (Replied (reply.Refused (standing_refusal marked)))
        (write_events s call (Replied (reply.Refused (standing_refusal marked))))
    stands_moves spot found bodies i h = stands_by bodies i h spot found marked refl

    -- The pair has the other mark, and this one was set, or is sought further to the right.
    module _ (early : is_due old ≡ false) (spot : ℕ) (found : IsSought f IsKey c.keys d old.volume entry leaf (Here spot (not marked))) (e : Device) (w : Volume D) (most : w.most ≡ old.volume.most)
        (wants : Pair B → Bool) (wanted : (x : Pair B) → IsKey x.key → wants x ≡ ((x.row == entry.row) && is_eq (c.keys.cmp x.key entry.key))) where
      -- if it was found it isn't missed
      pub right_never : (page : ℕ) → (IsSteady d old.volume.shelf.frames → SetsMark wants (store_of f d.seen old.volume.shelf) (store_of f e.seen w.shelf) leaf marked (Right page))
          → (later : Device) (new : Parts B D) (o : Outcome B) (events : List (Happening B)) → Moves c r f passes d later s old new o events
      right_never page sets later new o events bodies i h =
          let found_none = none_here bodies i h page (record { wants = wants; wanted = wanted; seeks = (sets h.keeps.steady).0 }) in
          let some = counts bodies i h spot (not marked) found (is_of c entry) (λ x is_its has. is_its) in
          let none = found_none.0 in
          absurd (omega (arith, none, some))

      module _ (at_slot : ℕ) (before : Bool) (told : Said (Page B)) (of_class : c.is_key entry.key ≡ true)
          (own : (bodies : List (List (Record (Entry B) (Page B)))) (log : Logged (Entry B) (Page B)) → Keeps (known_of c) r f passes d old.volume bodies log
          → IsSaid (known_of c) leaf told (all_records log))
          (sets : IsSteady d old.volume.shelf.frames → SetsMark wants (store_of f d.seen old.volume.shelf) (store_of f e.seen w.shelf) leaf marked (Here at_slot before))
          (flies : FliesOn old.volume.log w.log)
          (keeps : (bodies : List (List (Record (Entry B) (Page B)))) (log : Logged (Entry B) (Page B)) → known.IsLawful (known_of c)
          → Keeps (known_of c) r f passes d old.volume bodies log
          → StaysWith (known_of c) r f passes d e w bodies log (Write (transaction_of s old.sessions) entry before marked leaf told)) where
        abbrev new : State B (Work B)
        new = written_state c.keys s (record { entry = entry; before = before; leaf = leaf }) old.sessions

        pub here_moves : Moves c r f passes d e s old (record old { volume = w; sessions = new }) (Replied (written_reply marked)) (write_events s call (Replied (written_reply marked)))
        unfolding grown_led
        here_moves bodies i h =
            let tree : Tree B = one bodies i h in
            let l = law bodies i h in
            let sits = sits_of c r f passes d old bodies i h in
            let set = sets h.keeps.steady in
            let after = keeps bodies i.log (known_lawful c l) h.keeps in
            let t : ℕ = transaction_of s old.sessions in
            let x : Record (Entry B) (Page B) = Write t entry before marked leaf told in
            let there : IsSought f IsKey c.keys d old.volume entry leaf (Here at_slot before) = record { wants = wants; wanted = wanted; seeks = set.0 } in
            let same : before ≡ not marked =
            not_alike before (not marked) (sym (lives bodies i h at_slot before there) ∙ lives bodies i h spot (not marked) found) in
            let marks = marks_too c l r f passes IsKey d e old.volume w i.log t entry before marked leaf told (is_legal c l i h.whole) (agree bodies i h) (keys bodies i h) after.shows
            wants wanted at_slot set in
            let comes = written_comes c l old.sessions kept works s is entry leaf marked before same at i h.whole sits told of_class (own bodies i.log h.keeps) (counts bodies i h at_slot before there) marks in
            let j : index.State B = written_index c l old.sessions kept works s is entry leaf marked before same at i h.whole sits told in
            subst (λ (events : List (Happening B)). Moved c r f passes d e s old (record old { volume = w; sessions = new }) (Replied (written_reply marked)) i events) (sym (written_told s entry marked))
            (record {
              led =
                  grown_led c r f passes d e old bodies i h (is_calm old.checkpoint (not_due old early).0) w most flies after.leaves x (after.keeps comes.0)
                  (written_event s entry marked ∷ []) j (j, comes.1, refl) comes.1.whole refl refl refl new
                  (written_sits c l old.sessions kept works s is entry leaf marked before same at i h.whole sits told) refl (λ works. works);
              lowers = tt;
            })

-- A mark was set in the leaf, or its pair is sought further to the right.
module _ {B D : Type 0} (shape : Members B) (proper : B → Bool) (limits : Limits) (lawful : 4 ≤ limits.most → IsLawful (class_of shape proper limits)) (said : List ℕ → B) (f : Format B)
    (passes : ℕ → Contents → Bool) (IsKey : B → Type 0) (spelling : B → List ℕ) (key : ℕ) (d e : Device) (old : Parts B D) (kept : IsKept (keys_of shape) old.sessions)
    (works : old.sessions.failed ≡ false) (s : ℕ) (is : is_session s ≡ true) (early : is_due old ≡ false) (entry : Entry B) (leaf : ℕ) (marked : Bool)
    (at : phase_at (s - 1) old.sessions.phases ≡ phase.Open (write_call marked entry) (Seeks leaf)) (w : Volume D) where
  abbrev its_class : Class B
  its_class = class_of shape proper limits

  abbrev its_reading : Reading (Entry B) (Page B)
  its_reading = reading_of said f

  pub set_moves : ShowsTheLogs (known_of its_class) its_reading f passes d old.volume → ShowsKeys (known_of its_class) its_reading f passes IsKey d old.volume
      → IsInOrder (passes old.volume.shelf.pages) d.sectors old.volume.shelf.frames old.volume.shelf.used old.volume.shelf.pages
      → AreNodes f passes old.volume.shelf → (most : ℕ) → ReadsMarks IsKey spelling f shape most → IsKey entry.key → said (spelling entry.key) ≡ entry.key → proper entry.key ≡ true → (spot : ℕ) → IsSought f IsKey (keys_of shape) d old.volume entry leaf (Here spot (not marked))
      → (sought : Sought)
      → PairIsSought (known_at shape proper) its_reading f passes IsKey (keys_of shape) spelling key d e old.volume w (transaction_of s old.sessions) (record { entry = entry; before = marked; leaf = leaf }) leaf sought
      → Moves its_class its_reading f passes d e s old (record old { volume = w; sessions = set_state (keys_of shape) s entry leaf marked sought old.sessions }) (set_outcome marked sought)
      (write_events s (write_call marked entry) (set_outcome marked sought))
  set_moves shows keyed order nodes most reads is_key back of_class spot found (Here slot before) set =
      let small = is_imaged old.volume.imaged leaf in
      let told : Said (Page B) = mark_told spelling f small entry marked leaf e.seen w.shelf in
      let t : ℕ = transaction_of s old.sessions in
      let same : record_read its_reading (mark_said spelling small t entry.row entry.key before marked leaf e.seen w.shelf) ≡ Write t entry before marked leaf told =
      mark_read said spelling f small t entry before marked leaf e.seen w.shelf back in
      here_moves its_class lawful its_reading f passes d old kept works s is entry leaf marked at IsKey shows keyed order early spot found e w set.logged.most set.wants
      set.wanted slot before told of_class
      (λ bodies log keeps. mark_is_said shape (known_of its_class) said f passes d old.volume bodies log keeps nodes IsKey spelling most reads entry is_key
      set.wants set.wanted leaf slot before marked e.seen w.shelf set.own (store_of f e.seen w.shelf) (set.sets keeps.steady))
      set.sets (flies_on _ _ set.logged.logs)
      (λ bodies log lawful_log keeps. subst (λ (y : Record (Entry B) (Page B)). StaysWith (known_of its_class) its_reading f passes d e w bodies log y) same
      (set.logged.keeps limits bodies log lawful_log keeps))
  set_moves shows keyed order nodes most reads is_key back of_class spot found (Right page) set =
      right_never its_class lawful its_reading f passes d old kept works s is entry leaf marked at IsKey shows keyed order early spot found e w
      (set.logged.most) set.wants set.wanted page set.sets e
      (record old { volume = w; sessions = set_state (keys_of shape) s entry leaf marked (Right page) old.sessions }) More (write_events s (write_call marked entry) More)
