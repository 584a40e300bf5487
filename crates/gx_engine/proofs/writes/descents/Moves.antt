-- The moves of an insert's descent: what its steps' contracts say, and what they do to an index.
use Rattle.std.proofs.Common.{◌≡◌, ◌≢◌, ◌∙◌, ap, sym, refl, subst, ℕ, suc, ◌+◌, ◌-◌, ◌^◌, ◌<◌, ◌≤◌, Bool, true, false, Option, None, Some, Result, Ok, Err, IfOk, IfErr, IfSome, OnErr, OnOk, List, [], ◌∷◌, length, map}
use Rattle.gx_machine.specs.declared.call.Call.{Call}
use Rattle.gx_machine.specs.declared.call.Call.TheVariants.{Insert}
use Rattle.gx_machine.specs.declared.entry.Entry.{Entry}
use Rattle.gx_machine.specs.Machine.{is_session}
use Rattle.gx_disk.specs.Device.{Device}
use Rattle.gx_disk.specs.Moments.{Leaves}
use Rattle.gx_page.specs.Contents.{Contents}
use Rattle.gx_pool.specs.Bringing.{OnlyRead}
use Rattle.gx_node.specs.Reading.{Format}
use Rattle.gx_node.specs.declared.items.TheConstants.{MAX_ENTRIES}
use Rattle.gx_node.specs.Legal.{Legal}
use Rattle.gx_node.specs.Lists.{Each}
use Rattle.gx_node.specs.Reach.{TraversalItem}
use Rattle.gx_node.specs.Trees.{Rules, Used, size}
use Rattle.gx_tree.specs.declared.descent.Descended.{Descended}
use Rattle.gx_tree.specs.declared.descent.Descended.TheVariants.{Down, Widened}
use Rattle.gx_node.specs.declared.fault.StepFault.{StepFault}
use Rattle.gx_node.specs.declared.fault.StepFault.TheVariants as step
use Rattle.gx_node.specs.declared.fault.SplitFault.{SplitFault}
use Rattle.gx_node.specs.declared.fault.SplitFault.TheVariants as split
use Rattle.gx_tree.specs.Descending.{StepsDown, is_widened}
use Rattle.gx_tree.specs.declared.split.Split.{Split}
use Rattle.gx_tree.specs.declared.split_root.RootSplit.{RootSplit}
use Rattle.gx_node.specs.Owner.{IsWhy, IsWhyOfSplit}
use Rattle.gx_tree.specs.Splitting.{DidSplitRoot, Splits, has_split}
use Rattle.gx_tree.specs.Writing.{Swept}
use Rattle.gx_node.specs.Store.{tree_of}
use Rattle.gx_recovery.specs.Analysis.{Analysis, analysis, read}
use Rattle.gx_recovery.specs.Known.{Known, Limits}
use Rattle.gx_recovery.specs.Logged.{Logged, all_records, appended}
use Rattle.gx_recovery.specs.Records.{Record, Touch}
use Rattle.gx_recovery.proofs.Folds.{analysis-snoc}
use Rattle.gx_events.specs.Happenings.{Works}
use Rattle.gx_events.specs.Slots.{Working, slot_at}
use Rattle.gx_index_laws.specs.Classes.{Class, IsLawful, Page, known_of}
use Rattle.gx_index_laws.specs.Happening.{Happens, with_record, with_work}
use Rattle.gx_index_laws.specs.Measures.{work_left}
use Rattle.gx_index_laws.specs.States as index
use Rattle.gx_index_laws.specs.States.{tree_now}
use Rattle.gx_index_laws.specs.Working.{DoesWork}
use Rattle.gx_index_laws.proofs.Quiet.{turned}
use Rattle.gx_index_laws.proofs.Standing.{grown, known_lawful}
use Rattle.gx_index_laws.proofs.Tools.{changed_beside, changed_here}
use Rattle.gx_durable.specs.Spelled.{Reading, record_read}
use Rattle.gx_durable.specs.Standing.{Stands}
use Rattle.gx_durable.specs.Classes.{reading_of}
use Rattle.gx_events.specs.declared.outcome.Outcome.TheVariants.{More}
use Rattle.gx_txn.specs.Tables.{Held}
use Rattle.gx_phases.specs.declared.phase.Phase.{Phase}
use Rattle.gx_phases.specs.declared.phase.Phase.TheVariants as phase
use Rattle.gx_phases.specs.States.{State, IsKept, held_at, note_of, phase_at, with_phase_of}
use Rattle.gx_store.specs.declared.fault.StoreFault.{StoreFault}
use Rattle.gx_store.specs.Faults as faults
use Rattle.gx_store.specs.Standing.{store_of}
use Rattle.gx_store.specs.State.{IsInOrder, IsSteady, Shelf}
use Rattle.gx_record.specs.declared.sizes.TheConstants.{SPLIT_RECORD}
use Rattle.gx_storage.specs.Changes.{DescentIsLogged, IsLogged, IsLoggedIf, IsUnlogged, begun}
use Rattle.gx_storage.specs.Imaged.{is_imaged}
use Rattle.gx_storage.specs.Giving.{pages_given, rising}
use Rattle.gx_storage.specs.Keeps.{KeepsTheSame, KeepsWith, ShowsKeys}
use Rattle.gx_storage.specs.Numbers.{HasOwnNumber}
use Rattle.gx_storage.specs.Small.{widen_room, widen_said}
use Rattle.gx_storage.specs.State.{Volume}
use Rattle.gx_storage.specs.Sweeping.{SweepIsLogged, SweepIsRefused}
use Rattle.gx_storage.specs.Sweeps.{WorksWith}
use Rattle.gx_storage.proofs.Recording.{AreNodes}
use Rattle.gx_storage.proofs.Descending.{GoesTo, IsJoin, was_split, went_down_to, widened_to, widened_works}
use Rattle.gx_engine.specs.declared.checkpoint.Checkpoint.TheVariants.{Turning}
use Rattle.gx_engine.specs.declared.work.Work.{Work}
use Rattle.gx_engine.specs.declared.work.Work.TheVariants.{Descends}
use Rattle.gx_engine.specs.Descents.{LeafSweeping, RootSplitting, Splitting, Stepping}
use Rattle.gx_engine.specs.Holds.{CallIsAt, Holds}
use Rattle.gx_engine.specs.Moves.{Moved, Moves, calling, left, left_by}
use Rattle.gx_engine.specs.Noted.{AreTold}
use Rattle.gx_engine.specs.States.{Parts, is_due}
use Rattle.gx_engine.proofs.Growing.{grown_led}
use Rattle.gx_engine.proofs.LookMoves.{goes_on, its_work, left_now, of_working, put_there, slot_now, told_at}
use Rattle.gx_engine.proofs.Serving.{FliesOn, held_as_it_is, is_calm, not_due, of_reads, session_at}

-- what storage's contract says of a step, as the engine has it
pub stepping : {B D : Type 0} (known : Limits → Known (Entry B) (Page B)) (r : Reading (Entry B) (Page B)) (f : Format B) (passes : ℕ → Contents → Bool)
    (cost : B → B → ℕ × ℕ) (joined : B → B → B) (spelling : B → List ℕ) (key : ℕ) (d e : Device) (v w : Volume D) (item : TraversalItem) (coming : B)
    (result : Result (Descended B) (StepFault StoreFault))
    → IfOk result (DescentIsLogged known r f passes spelling key item.page d e v w)
    → OnErr result (IsUnlogged known r f passes (begun v (widen_room (is_imaged v.imaged item.page) key)) d e v w)
    → (IsSteady d v.shelf.frames → IfOk result (StepsDown cost joined v.most (store_of f d.seen v.shelf) (store_of f e.seen w.shelf) item coming))
    → IfOk result (λ did. is_widened did ≡ true → HasOwnNumber e.seen w.shelf item.page) → IfErr result (IsWhy (faults.IsWhy passes d e (begun v (widen_room (is_imaged v.imaged item.page) key)) w.shelf))
    → (IsSteady d v.shelf.frames → result ≡ Err step.Damaged → Used (tree_of (store_of f d.seen v.shelf)) item.page
    → (0 < ((tree_of (store_of f d.seen v.shelf)).node item.page).level) × (length ((tree_of (store_of f d.seen v.shelf)).node item.page).children ≡ 0))
    → Stepping known r f passes cost joined spelling key d e v w item coming result
stepping known r f passes cost joined spelling key d e v w item coming (Ok did) logged unlogged steps own why damaged = record { logged = logged; steps = steps; own = own }
stepping {B} known r f passes cost joined spelling key d e v w item coming (Err fault) logged unlogged steps own why damaged =
    let result : StepFault StoreFault → Result (Descended B) (StepFault StoreFault) = λ x. Err x in
    record {
      stops = record { unlogged = unlogged; why = why };
      damaged = λ steady is. damaged steady (ap result is);
    }

-- A record changes no note.
pub untouched : {E P : Type 0} (k : Known E P) (x : Record E P) (log : Logged E P) → ((a : Analysis E) → (read k a x).touched ≡ a.touched)
    → (analysis k (all_records (appended x log))).touched ≡ (analysis k (all_records log)).touched
untouched {E} {P} k x log quiet =
    ap (λ (a : Analysis E). a.touched) (ap (λ (rs : List (Record E P)). analysis k rs) (grown x log) ∙ analysis-snoc k (all_records log) x) ∙ quiet (analysis k (all_records log))

-- So a widened bound's doesn't.
quiet_widen : {B D : Type 0} (k : Known (Entry B) (Page B)) (said : List ℕ → B) (f : Format B) (spelling : B → List ℕ) (small : Bool) (page slot : ℕ) (key : B) (seen : List ℕ) (s : Shelf D)
    → (a : Analysis (Entry B)) → (read k a (record_read (reading_of said f) (widen_said spelling small page slot key seen s))).touched ≡ a.touched
quiet_widen k said f spelling true page slot key seen s a = refl
quiet_widen k said f spelling false page slot key seen s a = refl

-- An engine's session has a call open, and a record was logged that no session notices.
module _ {B D : Type 0} (c : Class B) (l : IsLawful c) (r : Reading (Entry B) (Page B)) (f : Format B) (passes : ℕ → Contents → Bool) (d e : Device) (old : Parts B D)
    (kept : IsKept c.keys old.sessions) (s : ℕ) (is : is_session s ≡ true) (call : Call B) (was : Work B) (at : phase_at (s - 1) old.sessions.phases ≡ phase.Open call was)
    (bodies : List (List (Record (Entry B) (Page B)))) (i : index.State B) (h : Holds c r f passes d old bodies i) (calm : old.checkpoint ≢ Turning)
    (w : Volume D) (most : w.most ≡ old.volume.most) (flies : FliesOn old.volume.log w.log) (leaves : Leaves (Stands (known_of c) r i.log) d e)
    (x : Record (Entry B) (Page B)) (quiet : (a : Analysis (Entry B)) → (read (known_of c) a x).touched ≡ a.touched) (with : WorksWith c r f passes e w bodies i x) where
  abbrev mid : index.State B
  mid = with_record x i

  same_touched : (analysis (known_of c) (all_records mid.log)).touched ≡ (analysis (known_of c) (all_records i.log)).touched
  same_touched = untouched (known_of c) x i.log quiet

  -- the call goes on with other work
  pub logged_on : (now : Work B) (its : index.Work B) → CallIsAt call now its → DoesWork c (tree_now c mid) (slot_at s i.slots) its
      → left_by (phase.Open call now) (work_left c (with_work s its mid) s) < left_by (phase.Open call was) (work_left c i s)
      → Moved c r f passes d e s old (calling s call now (record old { volume = w })) More i (Works ∷ [])
  unfolding grown_led
  logged_on now its is_at does less =
      let j : index.State B = with_work s its mid in
      let first = with.comes.happens in
      let turns = turned c l mid first.whole s its does in
      let both : Happens c i Works j = record { is_event = first.is_event; steps = first.steps; whole = turns.whole } in
      let new : State B (Work B) = with_phase_of s (phase.Open call now) old.sessions in
      let of = of_working c l r f passes d old kept s is call was at bodies i h now i refl refl refl refl refl in
      record {
        led =
            grown_led c r f passes d e old bodies i h calm w most flies leaves x with.keeps (Works ∷ []) j (j, both, refl) turns.whole refl refl refl new
            (record {
              of = record { slots = of.slots; transactions = of.transactions; next = of.next; oldest = of.oldest; failed = of.failed };
              at = session_at c.keys old.sessions new i j kept s is (phase.Open call now) (held_at (s - 1) old.sessions.table) refl (held_as_it_is s old.sessions.table)
                  (λ a ne. changed_beside s its i.work a ne) (λ a ne. refl) (subst (λ (y : index.Work B). CallIsAt call now y) (sym (changed_here s its i.work s refl)) is_at) h.at;
              told = subst (λ (xs : List (Touch (Entry B))). AreTold new xs) (sym same_touched) (told_at c l r f passes d old kept s is call was at bodies i h (phase.Open call now));
            })
            refl (λ go. go);
        lowers =
            subst (λ (m : ℕ). m < left c r f passes s old i)
            (sym (ap (λ (p : Phase B (Work B)). left_by p (work_left c j s)) (put_there c.keys old.sessions kept s is (phase.Open call now))))
            (subst (λ (m : ℕ). left_by (phase.Open call now) (work_left c j s) < m) (sym (left_now c l r f passes d old kept s is call was at bodies i h)) less);
      }

  -- or with the work that it had
  pub logged_yet : left_by (phase.Open call was) (work_left c mid s) < left_by (phase.Open call was) (work_left c i s)
      → Moved c r f passes d e s old (record old { volume = w }) More i (Works ∷ [])
  unfolding grown_led
  logged_yet less = record {
    led =
        grown_led c r f passes d e old bodies i h calm w most flies leaves x with.keeps (Works ∷ []) mid (mid, with.comes.happens, refl) with.comes.happens.whole refl refl refl old.sessions
        (record {
          of = record { slots = h.sessions.slots; transactions = h.sessions.transactions; next = h.sessions.next; oldest = h.sessions.oldest; failed = h.sessions.failed };
          at = h.at;
          told = subst (λ (xs : List (Touch (Entry B))). AreTold old.sessions xs) (sym same_touched) h.told;
        })
        refl (λ go. go);
    lowers =
        subst (λ (m : ℕ). m < left c r f passes s old i) (sym (ap (λ (p : Phase B (Work B)). left_by p (work_left c mid s)) at))
        (subst (λ (m : ℕ). left_by (phase.Open call was) (work_left c mid s) < m) (sym (left_now c l r f passes d old kept s is call was at bodies i h)) less);
  }

-- An insert's descent has made a step.
module _ {B D : Type 0} (c : Class B) (lawful : 4 ≤ c.rules.most → IsLawful c) (said : List ℕ → B) (f : Format B) (passes : ℕ → Contents → Bool) (d e : Device)
    (old : Parts B D) (kept : IsKept c.keys old.sessions) (s : ℕ) (is : is_session s ≡ true) (early : is_due old ≡ false)
    (entry : Entry B) (parent : ℕ) (item : TraversalItem) (at : phase_at (s - 1) old.sessions.phases ≡ phase.Open (Insert entry) (Descends parent item))
    (w : Volume D) (most : w.most ≡ old.volume.most) where
  abbrev r : Reading (Entry B) (Page B)
  r = reading_of said f

  abbrev call : Call B
  call = Insert entry

  module _ (bodies : List (List (Record (Entry B) (Page B)))) (i : index.State B) (h : Holds c r f passes d old bodies i) where
    abbrev held : Held B
    held = held_at (s - 1) old.sessions.table

    abbrev l : IsLawful c
    l = lawful h.some

    abbrev slot : slot_at s i.slots ≡ Working held.locks (map note_of held.notes) (Some call)
    slot = slot_now c l r f passes d old kept s is call (Descends parent item) at bodies i h

    abbrev work : i.work s ≡ index.Descends entry parent item
    work = its_work c l r f passes d old kept s is call (Descends parent item) at bodies i h

    -- if a step over frames and device leads an index
    abbrev pub Goes : index.State B → ℕ → TraversalItem → Type 0
    Goes j from next = GoesTo c l said f passes d e old.volume w bodies i h.whole s entry parent item work held.locks (map note_of held.notes) call slot h.keeps j from next

  -- nothing is logged, and the descent is elsewhere
  module _ (same_log : w.log ≡ old.volume.log) (reads : OnlyRead d e) (keeps : KeepsTheSame (known_of c) r f passes d e old.volume w) where
    pub quiet_moves : (from : ℕ) (next : TraversalItem) → ((bodies : List (List (Record (Entry B) (Page B)))) (i : index.State B) (h : Holds c r f passes d old bodies i) → Goes bodies i h i from next)
        → Moves c r f passes d e s old (calling s call (Descends from next) (record old { volume = w })) More (Works ∷ [])
    quiet_moves from next to bodies i h =
        let l = lawful h.some in
        let goes = to bodies i h in
        goes_on c l r f passes d old kept s is call (Descends parent item) at bodies i h e w most same_log (of_reads d e reads h.keeps.steady.honest) (keeps bodies i.log (known_lawful c l) h.keeps)
        (Descends from next) (index.Descends entry from next) refl goes.does goes.lower

    -- it begins again at the root, since its page was split
    pub again_moves : (IsSteady d old.volume.shelf.frames → item.seen < ((tree_of (store_of f d.seen old.volume.shelf)).node item.page).nsn)
        → Moves c r f passes d e s old (calling s call (Descends 0 (record { page = 1; seen = w.shelf.counter })) (record old { volume = w })) More (Works ∷ [])
    again_moves later =
        quiet_moves 0 (record { page = 1; seen = w.shelf.counter })
        (λ bodies i h. subst (λ (n : ℕ). Goes bodies i h i 0 (record { page = 1; seen = n })) (keeps bodies i.log (known_lawful c (lawful h.some)) h.keeps).keeps.counter
        (was_split c (lawful h.some) said f passes d e old.volume w bodies i h.whole s entry parent item (work bodies i h) (held bodies i h).locks (map note_of (held bodies i h).notes) call
        (slot bodies i h) h.keeps (later h.keeps.steady)))

    -- it goes down
    pub down_moves : (IsKey : B → Type 0) (cost : B → B → ℕ × ℕ) (joined : B → B → B) → IsJoin c IsKey joined → IsKey entry.key
        → ShowsKeys (known_of c) r f passes IsKey d old.volume → IsInOrder (passes old.volume.shelf.pages) d.sectors old.volume.shelf.frames old.volume.shelf.used old.volume.shelf.pages
        → (next : TraversalItem)
        → (IsSteady d old.volume.shelf.frames → StepsDown cost joined old.volume.most (store_of f d.seen old.volume.shelf) (store_of f e.seen w.shelf) item entry.key (Down next))
        → Moves c r f passes d e s old (calling s call (Descends item.page next) (record old { volume = w })) More (Works ∷ [])
    down_moves IsKey cost joined join is_key keyed order next steps =
        quiet_moves item.page next
        (λ bodies i h. went_down_to c (lawful h.some) said f passes d e old.volume w bodies i h.whole s entry parent item (work bodies i h) (held bodies i h).locks
        (map note_of (held bodies i h).notes) call (slot bodies i h) h.keeps IsKey cost joined join (keyed bodies i.log h.keeps order) is_key next
        (subst (λ m. StepsDown cost joined m (store_of f d.seen old.volume.shelf) (store_of f e.seen w.shelf) item entry.key (Down next)) h.most (steps h.keeps.steady)))

  -- a record is logged
  module _ (flies : FliesOn old.volume.log w.log) where
    pub widened_moves : (IsKey : B → Type 0) (cost : B → B → ℕ × ℕ) (joined : B → B → B) → IsJoin c IsKey joined → IsKey entry.key
        → ShowsKeys (known_of c) r f passes IsKey d old.volume → IsInOrder (passes old.volume.shelf.pages) d.sectors old.volume.shelf.frames old.volume.shelf.used old.volume.shelf.pages
        → AreNodes f passes old.volume.shelf → (spelling : B → List ℕ) → ((k : B) → IsKey k → f.reading (spelling k) ≡ Some k)
        → (next : TraversalItem) (place : ℕ) (key : B)
        → (IsSteady d old.volume.shelf.frames → StepsDown cost joined old.volume.most (store_of f d.seen old.volume.shelf) (store_of f e.seen w.shelf) item entry.key (Widened next place key))
        → HasOwnNumber e.seen w.shelf item.page
        → KeepsWith (known_of c) r f passes d e old.volume w (widen_said spelling (is_imaged old.volume.imaged item.page) item.page place key e.seen w.shelf)
        → Moves c r f passes d e s old (calling s call (Descends item.page next) (record old { volume = w })) More (Works ∷ [])
    widened_moves IsKey cost joined join is_key keyed order was spelling reads next place key steps own keeps bodies i h =
        let l = lawful h.some in
        let after = keeps bodies i.log (known_lawful c l) h.keeps in
        let keys = keyed bodies i.log h.keeps order in
        let step = subst (λ m. StepsDown cost joined m (store_of f d.seen old.volume.shelf) (store_of f e.seen w.shelf) item entry.key (Widened next place key)) h.most (steps h.keeps.steady) in
        let its = held bodies i h in
        let with = widened_works c l said f passes d e old.volume w bodies i h.whole s entry parent item (work bodies i h) its.locks (map note_of its.notes) call (slot bodies i h) h.keeps
        IsKey cost joined join keys is_key was spelling reads next place key step own after in
        let goes = widened_to c l said f passes d e old.volume w bodies i h.whole s entry parent item (work bodies i h) its.locks (map note_of its.notes) call (slot bodies i h) h.keeps
        IsKey cost joined join keys is_key was spelling reads next place key step own after in
        logged_on c l r f passes d e old kept s is call (Descends parent item) at bodies i h (is_calm old.checkpoint (not_due old early).0) w most flies after.leaves
        (record_read r (widen_said spelling (is_imaged old.volume.imaged item.page) item.page place key e.seen w.shelf))
        (quiet_widen (known_of c) said f spelling (is_imaged old.volume.imaged item.page) item.page place key e.seen w.shelf) with (Descends item.page next) (index.Descends entry item.page next) refl goes.does goes.lower

-- What storage's contracts say of a sweep and of a split, as the engine has it.
module _ {B D : Type 0} (known : Limits → Known (Entry B) (Page B)) (r : Reading (Entry B) (Page B)) (f : Format B) (passes : ℕ → Contents → Bool) (d e : Device) (v w : Volume D) where
  pub leaf_sweeping : (IsTest : (Entry B → Bool) → Type 0) (claimed : Entry B → Bool) → IsTest claimed → (page : ℕ) (result : Result Bool (StepFault StoreFault))
      → IfOk result (SweepIsLogged known r f passes IsTest d e v w page) → IfErr result (SweepIsRefused known r f passes IsTest d e v w page)
      → (IsSteady d v.shelf.frames → IfOk result (Swept claimed (store_of f d.seen v.shelf) (store_of f e.seen w.shelf) page))
      → IfOk result (λ any. any ≡ true → HasOwnNumber e.seen w.shelf page)
      → (IsSteady d v.shelf.frames → result ≡ Err step.Damaged → Used (tree_of (store_of f d.seen v.shelf)) page
      → ((tree_of (store_of f d.seen v.shelf)).node page).level ≡ 0 → MAX_ENTRIES < length ((tree_of (store_of f d.seen v.shelf)).node page).pairs)
      → LeafSweeping known r f passes claimed d e v w page result
  leaf_sweeping IsTest claimed test page (Ok true) logged refused swept own damaged =
      record { slots = logged.slots; taken = λ steady. logged.exact steady claimed test; logged = logged.logged; swept = swept; own = own refl }
  leaf_sweeping IsTest claimed test page (Ok false) logged refused swept own damaged =
      record { slots = logged.slots; taken = λ steady. logged.exact steady claimed test; unlogged = logged.logged; same = λ steady. ((swept steady).none refl).0; none = λ steady. ((swept steady).none refl).1 }
  leaf_sweeping IsTest claimed test page (Err fault) logged refused swept own damaged =
      let result : StepFault StoreFault → Result Bool (StepFault StoreFault) = λ x. Err x in
      record {
        slots = refused.slots;
        taken = λ no_room steady. refused.exact no_room steady claimed test;
        few = refused.few;
        stops = record { unlogged = refused.unlogged; why = refused.why };
        damaged = λ steady is. damaged steady (ap result is);
      }

  module _ (rules : ℕ → Rules B) (sides_of : List B → ℕ → List Bool) where
    pub splitting : (page parent : ℕ) (result : Result (Option (Split B)) (SplitFault StoreFault))
        → IfOk result (λ did. IsLoggedIf known r f passes SPLIT_RECORD d e v w (pages_given (rising page parent (suc v.shelf.used)) e.seen w.shelf) (has_split did))
        → OnErr result (IsUnlogged known r f passes (begun v SPLIT_RECORD) d e v w)
        → (IsSteady d v.shelf.frames → IfOk result (Splits (rules v.most) sides_of (store_of f d.seen v.shelf) (store_of f e.seen w.shelf) page parent))
        → IfOk result (λ did. IfSome did (λ some. Each (HasOwnNumber e.seen w.shelf) (rising page parent (suc v.shelf.used))))
        → IfErr result (IsWhyOfSplit (faults.IsWhy passes d e (begun v SPLIT_RECORD) w.shelf))
        → (IsSteady d v.shelf.frames → result ≡ Err split.PagesFull → v.shelf.pages ≤ v.shelf.used)
        → (IsSteady d v.shelf.frames → result ≡ Err (split.Step step.Damaged) → Legal (rules v.most) (tree_of (store_of f d.seen v.shelf)) → Used (tree_of (store_of f d.seen v.shelf)) page
        → Used (tree_of (store_of f d.seen v.shelf)) parent → page ≢ parent → 0 < ((tree_of (store_of f d.seen v.shelf)).node parent).level
        → v.most ≤ size ((tree_of (store_of f d.seen v.shelf)).node page) → v.shelf.counter + 1 < 2 ^ 64 → ⊥)
        → Splitting known r f passes rules sides_of d e v w page parent result
    splitting page parent (Ok (Some did)) logged unlogged split own why full damaged = record { logged = logged; split = split; own = own }
    splitting page parent (Ok None) logged unlogged split own why full damaged = record { unlogged = logged; none = λ steady. (split steady).1 }
    splitting page parent (Err fault) logged unlogged split own why full damaged =
        let result : SplitFault StoreFault → Result (Option (Split B)) (SplitFault StoreFault) = λ x. Err x in
        record {
          unlogged = unlogged;
          why = why;
          full = λ steady is. full steady (ap result is);
          damaged = λ steady is. damaged steady (ap result is);
        }

    pub root_splitting : (result : Result (RootSplit B) (SplitFault StoreFault))
        → OnOk result (IsLogged known r f passes SPLIT_RECORD d e v w (pages_given (1 ∷ suc v.shelf.used ∷ suc (suc v.shelf.used) ∷ []) e.seen w.shelf))
        → OnErr result (IsUnlogged known r f passes (begun v SPLIT_RECORD) d e v w)
        → (IsSteady d v.shelf.frames → IfOk result (DidSplitRoot (rules v.most) sides_of (store_of f d.seen v.shelf) (store_of f e.seen w.shelf)))
        → OnOk result (Each (HasOwnNumber e.seen w.shelf) (1 ∷ suc v.shelf.used ∷ suc (suc v.shelf.used) ∷ []))
        → IfErr result (IsWhyOfSplit (faults.IsWhy passes d e (begun v SPLIT_RECORD) w.shelf))
        → (IsSteady d v.shelf.frames → result ≡ Err split.PagesFull → v.shelf.pages < v.shelf.used + 2)
        → (IsSteady d v.shelf.frames → result ≡ Err (split.Step step.Damaged) → Legal (rules v.most) (tree_of (store_of f d.seen v.shelf))
        → v.most ≤ size ((tree_of (store_of f d.seen v.shelf)).node 1) → ((tree_of (store_of f d.seen v.shelf)).node 1).level + 1 < 2 ^ 16 → ⊥)
        → RootSplitting known r f passes rules sides_of d e v w result
    root_splitting (Ok did) logged unlogged split own why full damaged = record { logged = logged; split = split; own = own }
    root_splitting (Err fault) logged unlogged split own why full damaged =
        let result : SplitFault StoreFault → Result (RootSplit B) (SplitFault StoreFault) = λ x. Err x in
        record {
          unlogged = unlogged;
          why = why;
          full = λ steady is. full steady (ap result is);
          damaged = λ steady is. damaged steady (ap result is);
        }
