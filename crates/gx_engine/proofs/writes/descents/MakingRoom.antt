-- A descent makes room: its full leaf is swept, or its node is split.
use Rattle.std.proofs.Common.{◌≡◌, ◌≢◌, ne_eqb, if◌then◌else◌, ◌∙◌, ap, sym, refl, subst, inl, inr, ℕ, suc, ◌+◌, ◌-◌, ◌^◌, ◌<◌, ◌≤◌, Bool, true, false, Option, None, Some, Ok, List, [], ◌∷◌, length, map, arith}
use Rattle.std.proofs.lemmas.List.{set-get_or}
use Rattle.gx_geom.specs.declared.refusal.Refusal.{Refusal}
use Rattle.gx_geom.specs.declared.refusal.Refusal.TheVariants as refusal
use Rattle.gx_machine.specs.declared.call.Call.{Call}
use Rattle.gx_machine.specs.declared.call.Call.TheVariants.{Insert}
use Rattle.gx_machine.specs.declared.entry.Entry.{Entry}
use Rattle.gx_machine.specs.declared.reply.Reply.TheVariants.{Refused as RefusedCall}
use Rattle.gx_machine.specs.Keys.{Keys, Members, keys_of}
use Rattle.gx_machine.specs.Machine.{is_session}
use Rattle.gx_class.specs.declared.class.TheConstants.{MAX_KEY}
use Rattle.gx_disk.specs.Device.{Device}
use Rattle.gx_disk.specs.declared.layout.TheConstants.{MAX_PAGES}
use Rattle.gx_page.specs.Contents.{Contents}
use Rattle.gx_pool.specs.Bringing.{OnlyRead}
use Rattle.gx_node.specs.Reading.{Format}
use Rattle.gx_node.specs.SmallLaws.{RemovalsMean}
use Rattle.gx_node.specs.declared.items.TheConstants.{MAX_ENTRIES}
use Rattle.gx_node.specs.Legal.{Legal}
use Rattle.gx_node.specs.Lists.{Each}
use Rattle.gx_node.specs.Reach.{TraversalItem}
use Rattle.gx_node.specs.Trees.{Pair, Rules, Used, size}
use Rattle.gx_node.proofs.Levels.{root_below_used}
use Rattle.gx_tree.specs.declared.split.Split.{Split}
use Rattle.gx_tree.specs.declared.split_root.RootSplit.{RootSplit}
use Rattle.gx_tree.specs.Splitting.{DidSplit, DidSplitRoot, HasNoPlace}
use Rattle.gx_node.specs.Store.{tree_of}
use Rattle.gx_tree.specs.Writing.{Swept}
use Rattle.gx_node.specs.Keyed.{rules_of}
use Rattle.gx_recovery.specs.Known.{Limits}
use Rattle.gx_recovery.specs.Records.{Record}
use Rattle.gx_events.specs.Happenings.{Closes, Happening, Works}
use Rattle.gx_events.specs.Slots.{Working, slot_at}
use Rattle.gx_events.specs.Wants.{is_claimed}
use Rattle.gx_index_laws.specs.Classes.{Class, IsLawful, Page, known_of}
use Rattle.gx_index_laws.specs.Happening.{with_record}
use Rattle.gx_index_laws.specs.States as index
use Rattle.gx_index_laws.proofs.Answering.{closed}
use Rattle.gx_index_laws.proofs.Standing.{known_lawful}
use Rattle.gx_durable.specs.Spelled.{Reading, record_read}
use Rattle.gx_durable.specs.Classes.{class_of, known_at, reading_of}
use Rattle.gx_events.specs.declared.outcome.Outcome.{Outcome}
use Rattle.gx_events.specs.declared.outcome.Outcome.TheVariants.{More, Replied, Help}
use Rattle.gx_txn.specs.Tables.{Held}
use Rattle.gx_phases.specs.declared.phase.Phase.{Phase}
use Rattle.gx_phases.specs.declared.phase.Phase.TheVariants as phase
use Rattle.gx_phases.specs.Moves.{answered_state}
use Rattle.gx_phases.specs.States.{State, IsKept, held_at, note_of, phase_at, with_phase_of}
use Rattle.gx_store.specs.Standing.{store_of}
use Rattle.gx_store.specs.State.{IsSteady}
use Rattle.gx_record.specs.declared.sizes.TheConstants.{SPLIT_RECORD}
use Rattle.gx_storage.specs.Giving.{pages_given, rising}
use Rattle.gx_storage.specs.Imaged.{is_imaged}
use Rattle.gx_storage.specs.Keeps.{KeepsTheSame, KeepsWith}
use Rattle.gx_storage.specs.Numbers.{HasOwnNumber}
use Rattle.gx_storage.specs.Small.{add_room, widen_room}
use Rattle.gx_storage.specs.State.{Volume}
use Rattle.gx_storage.proofs.Descending.{GoesTo, shown_descent}
use Rattle.gx_storage.proofs.LeafSweeps.{sweep_lowers, sweep_works}
use Rattle.gx_storage.proofs.Recording.{AreNodes}
use Rattle.gx_storage.proofs.SmallSweeps.{swept_fits, sweep_quiet}
use Rattle.gx_storage.proofs.SoundSplits.{no_place, root_split_to, root_split_works, split_is_sound, split_to, split_works}
use Rattle.gx_storage.proofs.Stepping.{shown_legal, stood, used_few}
use Rattle.gx_engine.specs.declared.work.Work.{Work}
use Rattle.gx_engine.specs.declared.work.Work.TheVariants.{Descends}
use Rattle.gx_engine.specs.Descents.{HasSplitRoot, Splitting}
use Rattle.gx_engine.specs.Holds.{Holds}
use Rattle.gx_engine.specs.Moves.{Moves, calling}
use Rattle.gx_engine.specs.States.{Parts, is_due}
use Rattle.gx_engine.specs.Sweeping.{AreTaken, is_held, slots_said}
use Rattle.gx_engine.specs.Writes.{AsksHere, AsksRoom, HasNoneToSweep, HasPlace, IsFull, IsToSplit, LacksPages, LeftFew, WriteBy, pages_split}
use Rattle.gx_engine.proofs.Brought.{as_brought}
use Rattle.gx_engine.proofs.Claimed.{claimed_alike}
use Rattle.gx_engine.proofs.writes.descents.Moves.{logged_on, logged_yet, quiet_moves}
use Rattle.gx_engine.proofs.LookMoves.{answers, its_work, slot_now}
use Rattle.gx_engine.proofs.Serving.{FliesOn, flies_on, is_calm, not_due, of_reads}

-- a session that is put in the phase that it is in
pub phase_yet : {B W : Type 0} (s : ℕ) (sessions : State B W) (p : Phase B W) → phase_at (s - 1) sessions.phases ≡ p → with_phase_of s p sessions ≡ sessions
phase_yet {B} {W} s sessions p at =
    ap (λ (q : Phase B W). with_phase_of s q sessions) (sym at)
    ∙ ap (λ (ps : List (Phase B W)). record sessions { phases = ps }) (set-get_or sessions.phases (s - 1) phase.Free)

-- A call goes on with other work, after its pages were changed or read.
module _ {B D : Type 0} (s : ℕ) (call : Call B) (from : ℕ) (next : TraversalItem) (old mid new : Parts B D) (only : mid ≡ record old { volume = mid.volume })
    (there : new ≡ calling s call (Descends from next) mid) (o : Outcome B) (one : o ≡ More) where
  abbrev its_end : Parts B D
  its_end = calling s call (Descends from next) (record old { volume = mid.volume })

  pub on_is : (P : Parts B D → Outcome B → Type 0) → P its_end More → P new o
  on_is P at_end =
      let is_end : new ≡ its_end = there ∙ ap (λ (x : Parts B D). calling s call (Descends from next) x) only in
      subst (λ (y : Outcome B). P new y) (sym one) (subst (λ (x : Parts B D). P x More) (sym is_end) at_end)

  pub on_comes : (Asks : ℕ → Type 0) (Lacks : Type 0) (Goes : Device → Parts B D → Type 0) (k : Keys B) (passes : ℕ → Contents → Bool) (state : D → Device) → mid.volume.most ≡ old.volume.most
      → Goes (state mid.volume.shelf.disk) its_end → WriteBy Asks Lacks Goes k passes (state old.volume.shelf.disk) (state new.volume.shelf.disk) s call old new o
  on_comes Asks Lacks Goes k passes state most goes =
      on_is (λ x y. WriteBy Asks Lacks Goes k passes (state old.volume.shelf.disk) (state x.volume.shelf.disk) s call old x y) (Descends from next, refl, most, goes)

-- or with the work that it had
pub yet_comes : {B D : Type 0} (Asks : ℕ → Type 0) (Lacks : Type 0) (Goes : Device → Parts B D → Type 0) (k : Keys B) (passes : ℕ → Contents → Bool) (d e : Device) (s : ℕ) (call : Call B) (was : Work B) (old mid : Parts B D) → mid ≡ record old { volume = mid.volume }
    → mid.volume.most ≡ old.volume.most → phase_at (s - 1) old.sessions.phases ≡ phase.Open call was → Goes e mid → WriteBy Asks Lacks Goes k passes d e s call old mid More
yet_comes {B} Asks Lacks Goes k passes d e s call was old mid only most at goes = (
  was,
  only ∙ sym (ap (λ (x : State B (Work B)). record old { volume = mid.volume; sessions = x }) (phase_yet s old.sessions (phase.Open call was) at)),
  most,
  goes,
)

module _ {B D : Type 0} (c : Class B) (lawful : 4 ≤ c.rules.most → IsLawful c) (said : List ℕ → B) (f : Format B) (passes : ℕ → Contents → Bool) (d e : Device)
    (old : Parts B D) (kept : IsKept c.keys old.sessions) (works : old.sessions.failed ≡ false) (s : ℕ) (is : is_session s ≡ true) (early : is_due old ≡ false)
    (entry : Entry B) (parent : ℕ) (item : TraversalItem) (at : phase_at (s - 1) old.sessions.phases ≡ phase.Open (Insert entry) (Descends parent item))
    (w : Volume D) (most : w.most ≡ old.volume.most) where
  abbrev r : Reading (Entry B) (Page B)
  r = reading_of said f

  abbrev call : Call B
  call = Insert entry

  abbrev v : Volume D
  v = old.volume

  module _ (bodies : List (List (Record (Entry B) (Page B)))) (i : index.State B) (h : Holds c r f passes d old bodies i) where
    abbrev held : Held B
    held = held_at (s - 1) old.sessions.table

    abbrev l : IsLawful c
    l = lawful h.some

    abbrev slot : slot_at s i.slots ≡ Working held.locks (map note_of held.notes) (Some call)
    slot = slot_now c l r f passes d old kept s is call (Descends parent item) at bodies i h

    abbrev work : i.work s ≡ index.Descends entry parent item
    work = its_work c l r f passes d old kept s is call (Descends parent item) at bodies i h

    its_page : Used (tree_of (store_of f d.seen v.shelf)) item.page
    its_page = (shown_descent c l said f passes d e v w bodies i h.whole s entry parent item work held.locks (map note_of held.notes) call slot h.keeps).there

    legal : Legal c.rules (tree_of (store_of f d.seen v.shelf))
    legal = shown_legal c l said f passes d e v w bodies i h.whole h.keeps

  -- its leaf was swept
  pub swept_moves : AreNodes f passes v.shelf → RemovalsMean f → (slots : List ℕ) → AreTaken (is_held c.keys old) f d v item.page slots → FliesOn v.log w.log → (IsSteady d v.shelf.frames → Swept (is_held c.keys old) (store_of f d.seen v.shelf) (store_of f e.seen w.shelf) item.page true)
      → HasOwnNumber e.seen w.shelf item.page → KeepsWith (known_of c) r f passes d e v w (slots_said v item.page slots e w)
      → Moves c r f passes d e s old (record old { volume = w }) More (Works ∷ [])
  swept_moves nodes means slots taken flies swept own keeps bodies i h =
      let l = lawful h.some in
      let its = held bodies i h in
      let after = keeps bodies i.log (known_lawful c l) h.keeps in
      let test : Entry B → Bool = is_held c.keys old in
      let claims : (x : Entry B) → test x ≡ is_claimed c.keys x i.slots = claimed_alike c.keys old.sessions i kept h.sessions in
      let small = is_imaged v.imaged item.page in
      let fits = λ (bit : small ≡ true). swept_fits (known_of c) said f passes d v bodies i.log h.keeps nodes means item.page test slots (store_of f e.seen w.shelf) (taken h.keeps.steady)
      (swept h.keeps.steady) bit in
      logged_yet c l r f passes d e old kept s is call (Descends parent item) at bodies i h (is_calm old.checkpoint (not_due old early).0) w most flies after.leaves
      (record_read r (slots_said v item.page slots e w)) (sweep_quiet (known_of c) said f small item.page slots e.seen w.shelf)
      (sweep_works c l said f passes d e v w bodies i h.whole s entry parent item (work bodies i h) its.locks (map note_of its.notes) call (slot bodies i h) h.keeps test claims
      (swept h.keeps.steady) own small slots after fits)
      (sweep_lowers c l said f passes d e v w bodies i h.whole s entry parent item (work bodies i h) its.locks (map note_of its.notes) call (slot bodies i h) h.keeps test claims
      (swept h.keeps.steady) own small slots after fits)

  -- no leaf has more pairs than fit
  pub never_swept : v.most ≤ MAX_ENTRIES → (IsSteady d v.shelf.frames → ((tree_of (store_of f d.seen v.shelf)).node item.page).level ≡ 0)
      → (IsSteady d v.shelf.frames → Used (tree_of (store_of f d.seen v.shelf)) item.page → ((tree_of (store_of f d.seen v.shelf)).node item.page).level ≡ 0
      → MAX_ENTRIES < length ((tree_of (store_of f d.seen v.shelf)).node item.page).pairs)
      → (new : Parts B D) (o : Outcome B) (events : List (Happening B)) → Moves c r f passes d e s old new o events
  never_swept fits leaf damaged new o events bodies i h =
      let there = its_page bodies i h in
      let more = damaged h.keeps.steady there (leaf h.keeps.steady) in
      let room = ((legal bodies i h).pages item.page there).room in
      let same = h.most in
      absurd (omega (arith, fits, more, room, same))

  -- no page is left: the call is closed
  module _ (same_log : w.log ≡ v.log) (reads : OnlyRead d e) (keeps : KeepsTheSame (known_of c) r f passes d e v w) where
    pub full_moves : Moves c r f passes d e s old (record old { volume = w; sessions = answered_state s old.sessions }) (Replied (RefusedCall refusal.PagesFull)) (Closes s call refusal.PagesFull ∷ [])
    full_moves bodies i h =
        let l = lawful h.some in
        let its = held bodies i h in
        answers c l r f passes d old kept s is call (Descends parent item) at bodies i h e w most same_log (of_reads d e reads h.keeps.steady.honest) (keeps bodies i.log (known_lawful c l) h.keeps)
        (RefusedCall refusal.PagesFull) (Closes s call refusal.PagesFull)
        (closed c l i h.whole (Closes s call refusal.PagesFull) s its.locks (map note_of its.notes) call (h.sessions.failed ∙ works) (slot bodies i h) (λ it. (refl, it)) refl)

    -- the parent has no place for a split: the descent begins again
    module _ (rules : ℕ → Rules B) (its_rules : rules c.rules.most ≡ c.rules) (below : item.page ≢ 1) where
      pub none_moves : (IsSteady d v.shelf.frames → HasNoPlace (rules v.most) (tree_of (store_of f d.seen v.shelf)) item.page parent)
          → Moves c r f passes d e s old (calling s call (Descends 0 (record { page = 1; seen = w.shelf.counter })) (record old { volume = w })) More (Works ∷ [])
      none_moves none =
          quiet_moves c lawful said f passes d e old kept s is early entry parent item at w most same_log reads keeps 0 (record { page = 1; seen = w.shelf.counter })
          (λ bodies i h.
          let l = lawful h.some in
          let its = held bodies i h in
          let counter = (keeps bodies i.log (known_lawful c l) h.keeps).keeps.counter in
          subst (λ (n : ℕ). GoesTo c l said f passes d e v w bodies i h.whole s entry parent item (work bodies i h) its.locks (map note_of its.notes) call (slot bodies i h) h.keeps i 0
          (record { page = 1; seen = n })) counter
          (no_place c l said f passes d e v w bodies i h.whole s entry parent item (work bodies i h) its.locks (map note_of its.notes) call (slot bodies i h) h.keeps below
          (subst (λ (x : Rules B). HasNoPlace x (tree_of (store_of f d.seen v.shelf)) item.page parent) (ap rules h.most ∙ its_rules) (none h.keeps.steady))))

  module _ (flies : FliesOn v.log w.log) (room : w.shelf.pages ≡ v.shelf.pages) (fits : w.shelf.used ≤ w.shelf.pages) (rules : ℕ → Rules B) (its_rules : rules c.rules.most ≡ c.rules)
      (sides_of : List B → ℕ → List Bool) where
    -- its node was split: the descent begins again
    pub split_moves : (did : Split B) → (IsSteady d v.shelf.frames → DidSplit (rules v.most) sides_of (store_of f d.seen v.shelf) (store_of f e.seen w.shelf) item.page parent did)
        → Each (HasOwnNumber e.seen w.shelf) (rising item.page parent (suc v.shelf.used))
        → KeepsWith (known_of c) r f passes d e v w (pages_given (rising item.page parent (suc v.shelf.used)) e.seen w.shelf)
        → Moves c r f passes d e s old (calling s call (Descends 0 (record { page = 1; seen = w.shelf.counter })) (record old { volume = w })) More (Works ∷ [])
    split_moves did split own keeps bodies i h =
        let l = lawful h.some in
        let its = held bodies i h in
        let after = keeps bodies i.log (known_lawful c l) h.keeps in
        let done = subst (λ (x : Rules B). DidSplit x sides_of (store_of f d.seen v.shelf) (store_of f e.seen w.shelf) item.page parent did) (ap rules h.most ∙ its_rules) (split h.keeps.steady) in
        let x : Record (Entry B) (Page B) = record_read r (pages_given (rising item.page parent (suc v.shelf.used)) e.seen w.shelf) in
        let with = split_works c l said f passes d e v w bodies i h.whole s entry parent item (work bodies i h) its.locks (map note_of its.notes) call (slot bodies i h) h.keeps room fits
        _ did.left did.right done.split own after in
        let goes = split_to c l said f passes d e v w bodies i h.whole s entry parent item (work bodies i h) its.locks (map note_of its.notes) call (slot bodies i h) h.keeps room fits
        _ did.left did.right done.split own after in
        let root = subst (λ (n : ℕ). GoesTo c l said f passes d e v w bodies i h.whole s entry parent item (work bodies i h) its.locks (map note_of its.notes) call (slot bodies i h) h.keeps
        (with_record x i) 0 (record { page = 1; seen = n })) with.keeps.counter goes in
        logged_on c l r f passes d e old kept s is call (Descends parent item) at bodies i h (is_calm old.checkpoint (not_due old early).0) w most flies after.leaves x (λ a. refl) with
        (Descends 0 (record { page = 1; seen = w.shelf.counter })) (index.Descends entry 0 (record { page = 1; seen = w.shelf.counter })) refl root.does root.lower

    -- the root was
    pub root_moves : (did : RootSplit B) → (IsSteady d v.shelf.frames → DidSplitRoot (rules v.most) sides_of (store_of f d.seen v.shelf) (store_of f e.seen w.shelf) did)
        → Each (HasOwnNumber e.seen w.shelf) (1 ∷ suc v.shelf.used ∷ suc (suc v.shelf.used) ∷ [])
        → KeepsWith (known_of c) r f passes d e v w (pages_given (1 ∷ suc v.shelf.used ∷ suc (suc v.shelf.used) ∷ []) e.seen w.shelf)
        → Moves c r f passes d e s old (calling s call (Descends 0 (record { page = 1; seen = w.shelf.counter })) (record old { volume = w })) More (Works ∷ [])
    root_moves did split own keeps bodies i h =
        let l = lawful h.some in
        let its = held bodies i h in
        let after = keeps bodies i.log (known_lawful c l) h.keeps in
        let done = subst (λ (x : Rules B). DidSplitRoot x sides_of (store_of f d.seen v.shelf) (store_of f e.seen w.shelf) did) (ap rules h.most ∙ its_rules) (split h.keeps.steady) in
        let x : Record (Entry B) (Page B) = record_read r (pages_given (1 ∷ suc v.shelf.used ∷ suc (suc v.shelf.used) ∷ []) e.seen w.shelf) in
        let with = root_split_works c l said f passes d e v w bodies i h.whole s entry parent item (work bodies i h) its.locks (map note_of its.notes) call (slot bodies i h) h.keeps room fits
        _ did.left did.right done.split own after in
        let goes = root_split_to c l said f passes d e v w bodies i h.whole s entry parent item (work bodies i h) its.locks (map note_of its.notes) call (slot bodies i h) h.keeps room fits
        _ did.left did.right done.split own after in
        let root = subst (λ (n : ℕ). GoesTo c l said f passes d e v w bodies i h.whole s entry parent item (work bodies i h) its.locks (map note_of its.notes) call (slot bodies i h) h.keeps
        (with_record x i) 0 (record { page = 1; seen = n })) with.keeps.counter goes in
        logged_on c l r f passes d e old kept s is call (Descends parent item) at bodies i h (is_calm old.checkpoint (not_due old early).0) w most flies after.leaves x (λ a. refl) with
        (Descends 0 (record { page = 1; seen = w.shelf.counter })) (index.Descends entry 0 (record { page = 1; seen = w.shelf.counter })) refl root.does root.lower

  -- a split isn't refused as damage
  module _ (rules : ℕ → Rules B) (its_rules : rules c.rules.most ≡ c.rules) (small : v.shelf.pages ≤ MAX_PAGES)
      (full : IsSteady d v.shelf.frames → v.most ≤ size ((tree_of (store_of f d.seen v.shelf)).node item.page)) where
    pub never_split : item.page ≢ 1
        → (IsSteady d v.shelf.frames → Legal (rules v.most) (tree_of (store_of f d.seen v.shelf)) → Used (tree_of (store_of f d.seen v.shelf)) item.page
        → Used (tree_of (store_of f d.seen v.shelf)) parent → item.page ≢ parent → 0 < ((tree_of (store_of f d.seen v.shelf)).node parent).level
        → v.most ≤ size ((tree_of (store_of f d.seen v.shelf)).node item.page) → v.shelf.counter + 1 < 2 ^ 64 → ⊥)
        → (new : Parts B D) (o : Outcome B) (events : List (Happening B)) → Moves c r f passes d e s old new o events
    never_split below damaged new o events bodies i h =
        let its = held bodies i h in
        let same : c.rules ≡ rules v.most = sym (ap rules h.most ∙ its_rules) in
        let steady = h.keeps.steady in
        absurd (split_is_sound c (lawful h.some) said f passes d e v w bodies i h.whole s entry parent item (work bodies i h) its.locks (map note_of its.notes) call (slot bodies i h) h.keeps below small
        (subst (λ n. n ≤ size ((tree_of (store_of f d.seen v.shelf)).node item.page)) h.most (full steady))
        (λ legal its_node above apart inner most low.
        damaged steady (subst (λ (x : Rules B). Legal x (tree_of (store_of f d.seen v.shelf))) same legal) its_node above apart inner (full steady) low))

    pub never_split_root : item.page ≡ 1
        → (IsSteady d v.shelf.frames → Legal (rules v.most) (tree_of (store_of f d.seen v.shelf)) → v.most ≤ size ((tree_of (store_of f d.seen v.shelf)).node 1)
        → ((tree_of (store_of f d.seen v.shelf)).node 1).level + 1 < 2 ^ 16 → ⊥)
        → (new : Parts B D) (o : Outcome B) (events : List (Happening B)) → Moves c r f passes d e s old new o events
    never_split_root root damaged new o events bodies i h =
        let law = lawful h.some in
        let t = tree_of (store_of f d.seen v.shelf) in
        let its_legal = legal bodies i h in
        let same : c.rules ≡ rules v.most = sym (ap rules h.most ∙ its_rules) in
        let steady = h.keeps.steady in
        let its_full : v.most ≤ size (t.node 1) = subst (λ q. v.most ≤ size (t.node q)) root (full steady) in
        let there : Used t 1 = subst (λ q. Used t q) root (its_page bodies i h) in
        let no_pairs : length (t.node 1).pairs ≡ 0 = ap (λ (xs : List (Pair B)). length xs) ((its_legal.pages 1 there).inner its_legal.root).0 in
        let enough = h.some in
        let same_most = h.most in
        let two : 2 ≤ length (t.node 1).children = omega (arith, its_full, no_pairs, enough, same_most) in
        let below = root_below_used c.rules t its_legal there two in
        let before = stood c law said f passes d e v w bodies i h.whole h.keeps in
        let few = used_few c law said f passes d e v w bodies i h.whole h.keeps in
        let pages = h.keeps.pages in
        let large : MAX_PAGES ≤ 2 ^ 16 = omega arith in
        absurd (damaged steady (subst (λ (x : Rules B). Legal x t) same its_legal) its_full (omega (arith, below, before, few, pages, small, large)))

-- A split below the root takes a page, and the root's takes two.
pub few_below : {B D : Type 0} (d : Device) (old : Parts B D) (page : ℕ) → page ≢ 1
    → (IsSteady d old.volume.shelf.frames → old.volume.shelf.pages ≤ old.volume.shelf.used) → LeftFew d old page
few_below d old page below none steady =
    let one : pages_split page ≡ 1 = ap (λ (b : Bool). if b then 2 else 1) (ne_eqb page 1 below) in
    let low = none steady in
    omega (arith, low, one)

pub few_top : {B D : Type 0} (d : Device) (old : Parts B D) (page : ℕ) → page ≡ 1
    → (IsSteady d old.volume.shelf.frames → old.volume.shelf.pages < old.volume.shelf.used + 2) → LeftFew d old page
few_top d old page top few steady =
    let two : pages_split page ≡ 2 = ap (λ (n : ℕ). pages_split n) top in
    let low = few steady in
    omega (arith, low, two)

-- The outcome of a move that may ask for fewer records, and that is refused in fewer cases because too few pages are
-- left.
module _ {B D : Type 0} (k : Keys B) (passes : ℕ → Contents → Bool) (d e : Device) (s : ℕ) (call : Call B) (old new : Parts B D)
    (Asks Asks' : ℕ → Type 0) (asks : (size : ℕ) → Asks size → Asks' size) (Lacks Lacks' : Type 0) (lacks : Lacks → Lacks') (Goes Goes' : Device → Parts B D → Type 0) (goes : Goes e new → Goes' e new) where
  refused_more : (why : Refusal) → WriteBy Asks Lacks Goes k passes d e s call old new (Replied (RefusedCall why))
      → WriteBy Asks' Lacks' Goes' k passes d e s call old new (Replied (RefusedCall why))
  refused_more refusal.PagesFull comes = (lacks comes.0, comes.1)
  refused_more why comes = comes

  pub comes_more : (o : Outcome B) → WriteBy Asks Lacks Goes k passes d e s call old new o → WriteBy Asks' Lacks' Goes' k passes d e s call old new o
  comes_more More comes = (comes.0, comes.1, comes.2, goes comes.3)
  comes_more (Replied (RefusedCall why)) comes = refused_more why comes
  comes_more (Help n) comes = ((comes.0.0, asks comes.0.0 comes.0.1, comes.0.2, comes.0.3), comes.1)
  comes_more o comes = comes

-- the record of a widened bound is no longer than a split's, and is some bytes long
pub widen_is_short : (small : Bool) (key : ℕ) → key ≤ MAX_KEY → widen_room small key ≤ SPLIT_RECORD
widen_is_short true key short = omega (arith, short)
widen_is_short false key short = omega arith

pub widen_is_some : (small : Bool) (key : ℕ) → 1 ≤ widen_room small key
widen_is_some true key = omega arith
widen_is_some false key = omega arith

-- A descent's parts ask for what the descent may ask for.
module _ {B D : Type 0} (k : Keys B) (f : Format B) (key : ℕ) (d : Device) (s : ℕ) (entry : Entry B) (parent : ℕ) (item : TraversalItem) (old : Parts B D)
    (at : phase_at (s - 1) old.sessions.phases ≡ phase.Open (Insert entry) (Descends parent item)) where
  pub asks_widen : (size : ℕ) → size ≡ widen_room (is_imaged old.volume.imaged item.page) key → AsksRoom k f key d s (Insert entry) old size
  asks_widen size is = record { work = Descends parent item; at = at; asks = inl is }

  -- for an added pair's by the leaf's bit, if no bit has changed since
  pub asks_add : HasPlace f d old item.page → (imaged : List Bool) → imaged ≡ old.volume.imaged → (size : ℕ)
      → size ≡ add_room (is_imaged imaged item.page) key → AsksRoom k f key d s (Insert entry) old size
  asks_add place imaged same size is = record {
    work = Descends parent item;
    at = at;
    asks = inr (inl (is ∙ ap (λ (bits : List Bool). add_room (is_imaged bits item.page) key) same, place));
  }

  module _ (full : IsFull f d old item.page) where
    pub asks_sweep : (size : ℕ) → AsksHere k f d old item.page size → AsksRoom k f key d s (Insert entry) old size
    asks_sweep size asks = record { work = Descends parent item; at = at; asks = inr (inr (asks, full)) }

    pub asks_split : (size : ℕ) → size ≡ SPLIT_RECORD → AsksRoom k f key d s (Insert entry) old size
    asks_split size is = asks_sweep size (inr is)

    pub to_split : HasNoneToSweep k f d old item.page → IsToSplit k f d s (Insert entry) old
    to_split none = record { entry = entry; inserts = refl; parent = parent; item = item; descends = at; full = full; none = none }

    pub lacks_pages : HasNoneToSweep k f d old item.page → LeftFew d old item.page → LacksPages k f d s (Insert entry) old
    lacks_pages none few =
        record { splits = record { entry = entry; inserts = refl; parent = parent; item = item; descends = at; full = full; none = none }; few = few }

-- No page is left, and the call is closed.
module _ {B D : Type 0} (s : ℕ) (old mid new : Parts B D) (only : mid ≡ record old { volume = mid.volume })
    (shut : new ≡ record mid { sessions = answered_state s mid.sessions }) (o : Outcome B) (one : o ≡ Replied (RefusedCall refusal.PagesFull)) where
  pub full_is : (P : Parts B D → Outcome B → Type 0) → P (record old { volume = mid.volume; sessions = answered_state s old.sessions }) (Replied (RefusedCall refusal.PagesFull)) → P new o
  full_is P at_end =
      let is_end : new ≡ record old { volume = mid.volume; sessions = answered_state s old.sessions } = shut ∙ ap (λ (x : Parts B D). record x { sessions = answered_state s x.sessions }) only in
      subst (λ (y : Outcome B). P new y) (sym one) (subst (λ (x : Parts B D). P x (Replied (RefusedCall refusal.PagesFull))) (sym is_end) at_end)

  pub full_comes : (Asks : ℕ → Type 0) (Lacks : Type 0) (Goes : Device → Parts B D → Type 0) (k : Keys B) (passes : ℕ → Contents → Bool) (state : D → Device) (call : Call B) → mid.volume.most ≡ old.volume.most → mid.volume.log ≡ old.volume.log
      → mid.volume.imaged ≡ old.volume.imaged
      → Lacks → WriteBy Asks Lacks Goes k passes (state old.volume.shelf.disk) (state new.volume.shelf.disk) s call old new o
  full_comes Asks Lacks Goes k passes state call most log imaged lacks =
      full_is (λ x y. WriteBy Asks Lacks Goes k passes (state old.volume.shelf.disk) (state x.volume.shelf.disk) s call old x y)
      (lacks, as_brought old mid.volume (answered_state s old.sessions) log most imaged)

-- A split that was made, or for which there was no place.
module _ {B D : Type 0} (shape : Members B) (proper : B → Bool) (said : List ℕ → B) (f : Format B) (passes : ℕ → Contents → Bool) (sides_of : List B → ℕ → List Bool)
    (d e : Device) (old : Parts B D) (w : Volume D) (parent : ℕ) (item : TraversalItem) where
  pub split_most : (did : Option (Split B)) → Splitting (known_at shape proper) (reading_of said f) f passes (rules_of shape) sides_of d e old.volume w item.page parent (Ok did)
      → w.most ≡ old.volume.most
  split_most (Some did) has = has.logged.most
  split_most None has = has.unlogged.most

  module _ (limits : Limits) (lawful : 4 ≤ limits.most → IsLawful (class_of shape proper limits)) (kept : IsKept (keys_of shape) old.sessions) (works : old.sessions.failed ≡ false)
      (s : ℕ) (is : is_session s ≡ true) (early : is_due old ≡ false) (entry : Entry B)
      (at : phase_at (s - 1) old.sessions.phases ≡ phase.Open (Insert entry) (Descends parent item)) (fits : w.shelf.used ≤ w.shelf.pages) where
    abbrev Begins : Type 0
    Begins =
        Moves (class_of shape proper limits) (reading_of said f) f passes d e s old
        (calling s (Insert entry) (Descends 0 (record { page = 1; seen = w.shelf.counter })) (record old { volume = w })) More (Works ∷ [])

    pub split_any : item.page ≢ 1 → (did : Option (Split B))
        → Splitting (known_at shape proper) (reading_of said f) f passes (rules_of shape) sides_of d e old.volume w item.page parent (Ok did) → Begins
    split_any below (Some did) has =
        split_moves (class_of shape proper limits) lawful said f passes d e old kept works s is early entry parent item at w has.logged.most (flies_on _ _ has.logged.logs)
        has.logged.goes_on.pages fits (rules_of shape) refl sides_of did has.split has.own (has.logged.keeps limits)
    split_any below None has =
        none_moves (class_of shape proper limits) lawful said f passes d e old kept works s is early entry parent item at w has.unlogged.most has.unlogged.log
        (has.unlogged.since 0).goes_on.device (has.unlogged.keeps limits) (rules_of shape) refl below has.none

    pub root_any : (did : RootSplit B) → HasSplitRoot (known_at shape proper) (reading_of said f) f passes (rules_of shape) sides_of d e old.volume w did → Begins
    root_any did has =
        root_moves (class_of shape proper limits) lawful said f passes d e old kept works s is early entry parent item at w has.logged.most (flies_on _ _ has.logged.logs)
        has.logged.goes_on.pages fits (rules_of shape) refl sides_of did has.split has.own (has.logged.keeps limits)
