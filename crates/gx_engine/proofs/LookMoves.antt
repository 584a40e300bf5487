-- The moves of a call that looks, as an index's events.
use Rattle.std.proofs.Common.{◌≡◌, ◌∙◌, sym, ap, refl, subst, ℕ, ◌-◌, ◌<◌, ◌≤◌, Bool, true, false, List, [], ◌∷◌, map, None, Some, arith}
use Rattle.std.specs.List.{slice_index_or}
use Rattle.std.proofs.lemmas.List.{get_or-set_same, set-get_or, set-set}
use Rattle.gx_geom.specs.declared.refusal.Refusal.TheVariants.{Device as DeviceRefusal, Memory}
use Rattle.gx_machine.specs.declared.entry.Entry.{Entry}
use Rattle.gx_machine.specs.declared.call.Call.{Call}
use Rattle.gx_machine.specs.declared.reply.Reply.{Reply}
use Rattle.gx_machine.specs.declared.reply.Reply.TheVariants.{Refused as RefusedCall}
use Rattle.gx_machine.specs.Keys.{Keys}
use Rattle.gx_machine.specs.Machine.{is_session}
use Rattle.gx_machine.proofs.Places.{session_bounds}
use Rattle.gx_disk.specs.Device.{Device}
use Rattle.gx_disk.proofs.Leaving.{nothing_leaves}
use Rattle.gx_disk.specs.declared.layout.TheConstants.{MAX_PAGES}
use Rattle.gx_page.specs.Contents.{Contents}
use Rattle.gx_node.specs.Reading.{Format}
use Rattle.gx_node.specs.Trees.{Pair, Tree}
use Rattle.gx_node.specs.Reach.{TraversalItem}
use Rattle.gx_node.specs.Looks.{IsLook, from_root}
use Rattle.gx_node.proofs.OwnLook.{look_begins}
use Rattle.gx_tree.specs.declared.found.Found.{Found}
use Rattle.gx_tree.specs.declared.look.Look.{Look}
use Rattle.gx_tree.specs.Found.{pairs_found}
use Rattle.gx_glog.specs.State.{Log}
use Rattle.gx_recovery.specs.Records.{Record}
use Rattle.gx_recovery.specs.Analysis.{analysis}
use Rattle.gx_recovery.specs.Logged.{Logged, all_records}
use Rattle.gx_recovery.specs.Logged as logged
use Rattle.gx_events.specs.Slots.{Slot, Working, slot_at, with_slot, is_unanswered}
use Rattle.gx_events.specs.Slots as slots
use Rattle.gx_events.specs.Happenings.{Happening, Works, Closes, RefusesCall}
use Rattle.gx_index_laws.specs.Classes.{Class, IsLawful, Page, known_of}
use Rattle.gx_index_laws.specs.Measures.{work_left}
use Rattle.gx_index_laws.specs.States as index
use Rattle.gx_index_laws.specs.States.{tree_now}
use Rattle.gx_index_laws.specs.Whole.{IsWhole}
use Rattle.gx_index_laws.specs.Working.{DoesWork, wants_pair}
use Rattle.gx_index_laws.specs.Happening as happening
use Rattle.gx_index_laws.specs.Happening.{AreHappening, slotted, with_work}
use Rattle.gx_index_laws.proofs.Answering.{closed}
use Rattle.gx_index_laws.proofs.AskedCalls.{faulted}
use Rattle.gx_index_laws.proofs.Measuring.{left_below}
use Rattle.gx_index_laws.proofs.Quiet.{as_it_is, turned}
use Rattle.gx_index_laws.proofs.Standing.{is_legal}
use Rattle.gx_index_laws.proofs.Tools.{changed_beside, changed_here}
use Rattle.gx_durable.specs.Spelled.{Reading}
use Rattle.gx_durable.specs.Standing.{Stands}
use Rattle.gx_txn.specs.Tables.{Held}
use Rattle.gx_events.specs.declared.outcome.Need.{Need}
use Rattle.gx_events.specs.declared.outcome.Outcome.{Outcome}
use Rattle.gx_events.specs.declared.outcome.Outcome.TheVariants.{Replied, More, Help}
use Rattle.gx_phases.specs.declared.phase.Phase.{Phase}
use Rattle.gx_phases.specs.declared.phase.Phase.TheVariants as phase
use Rattle.gx_phases.specs.Indexes.{AreOf}
use Rattle.gx_phases.specs.Moves as moves
use Rattle.gx_phases.specs.Moves.{answered_state, failed_state}
use Rattle.gx_phases.specs.States.{State, IsKept, held_at, note_of, phase_at, slot_of, slots_of, with_phase, with_phase_of}
use Rattle.gx_phases.proofs.Moving.{work_kept}
use Rattle.gx_phases.proofs.Slots.{slots_at}
use Rattle.gx_storage.specs.Keeps.{Keeps, StaysSame}
use Rattle.gx_storage.specs.State.{Volume}
use Rattle.gx_engine.specs.declared.work.Work.{Work}
use Rattle.gx_engine.specs.declared.work.Work.TheVariants.{Rests, Looks}
use Rattle.gx_engine.specs.States.{Parts}
use Rattle.gx_engine.specs.Holds.{AreAt, CallIsAt, Holds, IsAt, KnowsFlight, MayHaveFound, MayRenewBy}
use Rattle.gx_engine.specs.Moves.{Lowers, Moved, Moves, MovesOn, calling, left, left_by}
use Rattle.gx_engine.specs.Noted.{AreTold, has_transaction}
use Rattle.gx_engine.proofs.Noting.{told_phase}
use Rattle.gx_engine.proofs.Growing.{SameLog}
use Rattle.gx_engine.proofs.Serving.{StaysSettled, held_as_it_is, renews_still, same_device, session_at, session_of, session_slots, slot_is}

-- a session's phase is what it was put in
pub put_there : {B : Type 0} (k : Keys B) (sessions : State B (Work B)) (kept : IsKept k sessions) (s : ℕ) (is : is_session s ≡ true) (p : Phase B (Work B))
    → phase_at (s - 1) (with_phase_of s p sessions).phases ≡ p
put_there k sessions kept s is p =
    let bounds : (0 < s) × (s < 9) = session_bounds s is in
    get_or-set_same sessions.phases (s - 1) p phase.Free (omega (arith, bounds.0, bounds.1, kept.phases))

-- An engine that holds an index, one of whose sessions has a call open.
module _ {B D : Type 0} (c : Class B) (l : IsLawful c) (r : Reading (Entry B) (Page B)) (f : Format B) (passes : ℕ → Contents → Bool)
    (d : Device) (old : Parts B D) (kept : IsKept c.keys old.sessions) (s : ℕ) (is : is_session s ≡ true) (call : Call B) (was : Work B)
    (at : phase_at (s - 1) old.sessions.phases ≡ phase.Open call was)
    (bodies : List (List (Record (Entry B) (Page B)))) (i : index.State B) (h : Holds c r f passes d old bodies i) where
  abbrev pub held : Held B
  held = held_at (s - 1) old.sessions.table

  abbrev pub its_slot : Slot B
  its_slot = Working held.locks (map note_of held.notes) (Some call)

  pub slot_now : slot_at s i.slots ≡ its_slot
  slot_now = slot_is c.keys old.sessions i kept h.sessions s is ∙ ap (λ (p : Phase B (Work B)). slot_of p held) at

  place_now : slice_index_or i.slots (s - 1) slots.Free ≡ its_slot
  place_now =
      ap (λ (xs : List (Slot B)). slice_index_or xs (s - 1) slots.Free) h.sessions.slots ∙ slots_at old.sessions.phases old.sessions.table (s - 1) (kept.phases ∙ sym kept.table)
      ∙ ap (λ (p : Phase B (Work B)). slot_of p held) at

  -- the session's work is another, and the index's work too
  abbrev pub working : Work B → State B (Work B)
  working now = with_phase_of s (phase.Open call now) old.sessions

  slots_stay : (now : Work B) → i.slots ≡ slots_of (working now).phases old.sessions.table
  slots_stay now =
      sym (session_slots c.keys old.sessions (working now) i kept h.sessions s (phase.Open call now) held refl (held_as_it_is s old.sessions.table)
      ∙ ap (λ (x : Slot B). with_slot s x i.slots) (sym place_now) ∙ set-get_or i.slots (s - 1) slots.Free)

  pub of_working : (now : Work B) (j : index.State B) → j.slots ≡ i.slots → j.transaction ≡ i.transaction → j.next ≡ i.next → j.oldest ≡ i.oldest → j.failed ≡ i.failed → AreOf (working now) j
  of_working now j same transaction next oldest failed = record {
    slots = same ∙ slots_stay now;
    transactions = λ a there. ap (λ (t : ℕ → ℕ). t a) transaction ∙ h.sessions.transactions a there;
    next = next ∙ h.sessions.next;
    oldest = oldest ∙ h.sessions.oldest;
    failed = failed ∙ h.sessions.failed;
  }

  -- whatever phase follows, its notes are the same
  pub told_at : (p : Phase B (Work B)) → AreTold (with_phase_of s p old.sessions) (analysis (known_of c) (all_records i.log)).touched
  told_at p =
      told_phase c.keys old.sessions kept s is (analysis (known_of c) (all_records i.log)).touched p
      (λ busy. ap (λ (q : Phase B (Work B)). has_transaction q) at) h.told

  -- what the call is at
  pub its_work : CallIsAt call was (i.work s)
  its_work = subst (λ (p : Phase B (Work B)). IsAt c.keys p held.notes (i.work s) (i.restored s)) at (h.at s is)

  its_look : (look : Look B) → was ≡ Looks look → CallIsAt call (Looks look) (i.work s)
  its_look look here = subst (λ (w : Work B). CallIsAt call w (i.work s)) here its_work

  pub looks_at : (look : Look B) → was ≡ Looks look → i.work s ≡ index.Looks look.stack.items (pairs_found look.found.items)
  looks_at look here = (its_look look here).0

  pub may_have_found : (look : Look B) → was ≡ Looks look → MayHaveFound call (pairs_found look.found.items)
  may_have_found look here = (its_look look here).1

  -- what it has left
  pub left_now : left c r f passes s old i ≡ left_by (phase.Open call was) (work_left c i s)
  left_now = ap (λ (p : Phase B (Work B)). left_by p (work_left c i s)) at

  -- the pages may have been brought meanwhile
  module _ (e : Device) (w : Volume D) (same_most : w.most ≡ old.volume.most) (same_log : w.log ≡ old.volume.log) (settled : StaysSettled d e)
      (stays : StaysSame (known_of c) r f passes d e w bodies i.log) where
    goes : (outcome : Outcome B) (events : List (Happening B)) (j : index.State B) → AreHappening c i events j → IsWhole c j → SameLog i j → (new : State B (Work B)) → AreOf new j → AreAt c.keys new j
        → AreTold new (analysis (known_of c) (all_records i.log)).touched → new.latest ≡ old.sessions.latest → (new.failed ≡ false → old.sessions.failed ≡ false)
        → Lowers c r f passes s outcome old (record old { volume = w; sessions = new }) i j → Moved c r f passes d e s old (record old { volume = w; sessions = new }) outcome i events
    goes outcome events j are whole as_it_was new of is_at told latest working_yet lowers =
        let log : j.log ≡ i.log = ap (λ (x : Logged (Entry B) (Page B) × ℕ). x.0) as_it_was in
        let next : j.next ≡ i.next = ap (λ (x : Logged (Entry B) (Page B) × ℕ). x.1) as_it_was in record {
          led = record {
            bodies = bodies;
            index = j;
            happening = are;
            holds = record {
              most = same_most ∙ h.most;
              some = h.some;
              keeps = subst (λ (x : Logged (Entry B) (Page B)). Keeps (known_of c) r f passes e w bodies x) (sym log) stays.keeps;
              whole = whole;
              sessions = of;
              at = is_at;
              told = subst (λ (x : Logged (Entry B) (Page B)). AreTold new (analysis (known_of c) (all_records x)).touched) (sym log) told;
              latest = latest ∙ h.latest ∙ ap (λ (x : Logged (Entry B) (Page B)). logged.latest (known_of c) x) (sym log);
              flying = λ works.
                  subst (λ (x : Logged (Entry B) (Page B)). KnowsFlight w.log.stage old.in_flight (logged.durable (known_of c) (logged.gate_synced x))) (sym log)
                  (subst (λ x. KnowsFlight x.stage old.in_flight (logged.durable (known_of c) (logged.gate_synced i.log))) (sym same_log) (h.flying (working_yet works)));
              bare = λ works calm idle. ap (λ (x : Log). x.flight) same_log ∙ h.bare (working_yet works) calm (sym (ap (λ (x : Log). x.stage) same_log) ∙ idle);
              turns = λ works turning.
                  let by = renews_still (known_of c) r i.next j.next old.volume.log.flight d e i.log settled (omega (arith, next)) (h.turns (working_yet works) turning) in
                  subst (λ (x : Logged (Entry B) (Page B)). MayRenewBy (known_of c) r j.next w.log.flight e.sectors e.pending x) (sym log)
                  (subst (λ (x : Log). MayRenewBy (known_of c) r j.next x.flight e.sectors e.pending i.log) (sym same_log) by);
            };
            leaves = stays.leaves;
          };
          lowers = lowers;
        }

    -- the call waits for another event
    pub waits : (n : Need) → Moved c r f passes d e s old (record old { volume = w }) (Help n) i []
    waits n = goes (Help n) [] i refl h.whole refl old.sessions h.sessions h.at h.told refl (λ works. works) tt

    -- the call is at other work, with less left
    pub goes_on : (now : Work B) (its : index.Work B) → CallIsAt call now its → DoesWork c (tree_now c i) (slot_at s i.slots) its
        → left_by (phase.Open call now) (work_left c (with_work s its i) s) < left_by (phase.Open call was) (work_left c i s)
        → Moved c r f passes d e s old (calling s call now (record old { volume = w })) More i (Works ∷ [])
    goes_on now its is_at does less =
        let j : index.State B = with_work s its i in
        let turns = turned c l i h.whole s its does in
        goes More (Works ∷ []) j (j, turns, refl) turns.whole refl (working now) (of_working now j refl refl refl refl refl)
        (session_at c.keys old.sessions (working now) i j kept s is (phase.Open call now) held refl (held_as_it_is s old.sessions.table)
        (λ a ne. changed_beside s its i.work a ne) (λ a ne. refl) (subst (λ (x : index.Work B). CallIsAt call now x) (sym (changed_here s its i.work s refl)) is_at) h.at)
        (told_at (phase.Open call now)) refl (λ works. works)
        (let here = put_there c.keys old.sessions kept s is (phase.Open call now) in
        subst (λ (m : ℕ). m < left c r f passes s old i) (sym (ap (λ (p : Phase B (Work B)). left_by p (work_left c j s)) here))
        (subst (λ (m : ℕ). left_by (phase.Open call now) (work_left c j s) < m) (sym left_now) less))

    -- the log's state is unchanged
    pub moves_on : (now : Work B) (its : index.Work B) → CallIsAt call now its → DoesWork c (tree_now c i) (slot_at s i.slots) its
        → left_by (phase.Open call now) (work_left c (with_work s its i) s) < left_by (phase.Open call was) (work_left c i s)
        → (moved : Moved c r f passes d e s old (calling s call now (record old { volume = w })) More i (Works ∷ [])) × (moved.led.index.log ≡ i.log)
    unfolding goes_on goes
    moves_on now its is_at does less = (goes_on now its is_at does less, refl)

    -- the call is answered or closed
    abbrev pub answered_index : index.State B
    answered_index = slotted s (Working held.locks (map note_of held.notes) None) index.Rests i

    pub answers : (reply : Reply B) (event : Happening B) → happening.Happens c i event answered_index
        → Moved c r f passes d e s old (record old { volume = w; sessions = answered_state s old.sessions }) (Replied reply) i (event ∷ [])
    answers reply event now =
        let of = session_of c.keys old.sessions (answered_state s old.sessions) i kept h.sessions s phase.Working held refl (held_as_it_is s old.sessions.table) index.Rests refl refl refl refl in
        goes (Replied reply) (event ∷ []) answered_index (answered_index, now, refl) now.whole refl (answered_state s old.sessions) of
        (session_at c.keys old.sessions (answered_state s old.sessions) i answered_index kept s is phase.Working held refl (held_as_it_is s old.sessions.table)
        (λ a ne. changed_beside s index.Rests i.work a ne) (λ a ne. changed_beside s [] i.restored a ne) tt h.at)
        (told_at phase.Working)
        refl (λ works. works) tt

    pub closes : old.sessions.failed ≡ false
        → Moved c r f passes d e s old (record old { volume = w; sessions = answered_state s old.sessions }) (Replied (RefusedCall Memory)) i (Closes s call Memory ∷ [])
    closes works =
        answers (RefusedCall Memory) (Closes s call Memory)
        (closed c l i h.whole (Closes s call Memory) s held.locks (map note_of held.notes) call (h.sessions.failed ∙ works) slot_now (λ is. (refl, is)) refl)

    -- a fault has ended the engine
    pub fails : old.sessions.failed ≡ false
        → Moved c r f passes d e s old (record old { volume = w; sessions = failed_state old.sessions }) (Replied (RefusedCall DeviceRefusal)) i (RefusesCall s DeviceRefusal ∷ [])
    fails works =
        let j : index.State B = happening.failed_state i in
        let unanswered : is_unanswered (slot_at s i.slots) ≡ true = ap (λ (x : Slot B). is_unanswered x) slot_now in
        let now = faulted c l i h.whole (RefusesCall s DeviceRefusal) (unanswered, (h.sessions.failed ∙ works, as_it_is (index.engine_of c j))) refl in
        goes (Replied (RefusedCall DeviceRefusal)) (RefusesCall s DeviceRefusal ∷ []) j (j, now, refl) now.whole refl (failed_state old.sessions)
        (record { slots = h.sessions.slots; transactions = h.sessions.transactions; next = h.sessions.next; oldest = h.sessions.oldest; failed = refl })
        h.at h.told refl (λ works. absurd (let never : true ≡ false = works in cc)) tt

  -- nothing of the pages has changed
  pub as_it_stays : StaysSame (known_of c) r f passes d d old.volume bodies i.log
  as_it_stays = record { keeps = h.keeps; leaves = nothing_leaves (Stands (known_of c) r i.log) d }

  -- a look from the root
  root_looks : (look : Look B) → look.stack.items ≡ record { page = 1; seen = old.volume.shelf.counter } ∷ [] → look.found.items ≡ []
      → DoesWork c (tree_now c i) (slot_at s i.slots) (index.Looks look.stack.items (pairs_found look.found.items))
  root_looks look stack found =
      let t : Tree B = tree_now c i in
      let w : Pair B → Bool = wants_pair c (slot_at s i.slots) in
      let root : look.stack.items ≡ from_root t ∷ [] = stack ∙ ap (λ (n : ℕ). (record { page = 1; seen = n }) ∷ []) (sym h.keeps.counter) in
      subst (λ (xs : List TraversalItem). IsLook t w xs (pairs_found look.found.items)) (sym root)
      (subst (λ (fs : List (Found B)). IsLook t w (from_root t ∷ []) (pairs_found fs)) (sym found) (look_begins c.rules t (is_legal c l i h.whole) w))

  -- it leaves less than a call that rests
  pub begins : was ≡ Rests → MayHaveFound call [] → old.volume.shelf.pages ≤ MAX_PAGES → old.volume.most ≤ 100
      → (look : Look B) → look.stack.items ≡ record { page = 1; seen = old.volume.shelf.counter } ∷ [] → look.found.items ≡ []
      → (moved : Moved c r f passes d d s old (calling s call (Looks look) old) More i (Works ∷ [])) × (moved.led.index.log ≡ i.log)
  begins rests may small few look stack found =
      let its : index.Work B = index.Looks look.stack.items (pairs_found look.found.items) in
      let does = root_looks look stack found in
      let turns = turned c l i h.whole s its does in
      let pages = h.keeps.pages in
      let most = h.most in
      let below = left_below c l (with_work s its i) turns.whole (omega (arith, pages, small)) (omega (arith, most, few)) s in
      moves_on d old.volume refl refl (same_device d) as_it_stays (Looks look) its
      (refl, subst (λ (fs : List (Found B)). MayHaveFound call (pairs_found fs)) (sym found) may) does
      (subst (λ (x : Work B). work_left c (with_work s its i) s < left_by (phase.Open call x) (work_left c i s)) (sym rests) below)

-- What these come to, whatever index the engine holds.
module _ {B D : Type 0} (c : Class B) (lawful : 4 ≤ c.rules.most → IsLawful c) (r : Reading (Entry B) (Page B)) (f : Format B) (passes : ℕ → Contents → Bool)
    (d : Device) (old : Parts B D) (kept : IsKept c.keys old.sessions) (s : ℕ) (is : is_session s ≡ true) (call : Call B) (was : Work B)
    (at : phase_at (s - 1) old.sessions.phases ≡ phase.Open call was) where
  pub begins_moves : was ≡ Rests → MayHaveFound call [] → old.volume.shelf.pages ≤ MAX_PAGES → old.volume.most ≤ 100
      → (look : Look B) → look.stack.items ≡ record { page = 1; seen = old.volume.shelf.counter } ∷ [] → look.found.items ≡ []
      → MovesOn c r f passes d d s old (calling s call (Looks look) old)
  begins_moves rests may small few look stack found bodies i h =
      begins c (lawful h.some) r f passes d old kept s is call was at bodies i h rests may small few look stack found

  pub closes_moves : old.sessions.failed ≡ false → Moves c r f passes d d s old (record old { sessions = answered_state s old.sessions }) (Replied (RefusedCall Memory)) (Closes s call Memory ∷ [])
  closes_moves works bodies i h =
      let l = lawful h.some in
      closes c l r f passes d old kept s is call was at bodies i h d old.volume refl refl (same_device d) (as_it_stays c l r f passes d old kept s is call was at bodies i h) works

-- the same events in another form
pub same_events : {B D : Type 0} (c : Class B) (r : Reading (Entry B) (Page B)) (f : Format B) (passes : ℕ → Contents → Bool) (d e : Device) (s : ℕ) (old new : Parts B D) (outcome : Outcome B)
    (events told : List (Happening B)) → events ≡ told → Moves c r f passes d e s old new outcome told → Moves c r f passes d e s old new outcome events
same_events {B} {D} c r f passes d e s old new outcome events told are moves = subst (λ (xs : List (Happening B)). Moves c r f passes d e s old new outcome xs) (sym are) moves

-- a call's work is replaced
pub replaced : {B : Type 0} (s : ℕ) (call : Call B) (was now : Work B) (old new : State B (Work B)) → phase_at (s - 1) old.phases ≡ phase.Open call was
    → new ≡ with_phase_of s (moves.with_work now (phase_at (s - 1) old.phases)).1 old → new ≡ with_phase_of s (phase.Open call now) old
replaced {B} s call was now old new at is = is ∙ ap (λ (p : Phase B (Work B)). with_phase_of s (moves.with_work now p).1 old) at

-- The engine with a session's call at its work, which is at hand meanwhile.
module _ {B D : Type 0} (k : Keys B) (e : Parts B D) (kept : IsKept k e.sessions) (s : ℕ) (is : is_session s ≡ true) (call : Call B) (rest : Work B)
    (at : phase_at (s - 1) e.sessions.phases ≡ phase.Open call rest) (work : Work B) where
  abbrev pub put : State B (Work B)
  put = with_phase_of s (phase.Open call work) e.sessions

  pub put_kept : IsKept k put
  put_kept =
      work_kept k e.sessions e.sessions refl kept s is (with_phase s (phase.Open call work) e.sessions.phases) work
      (sym (ap (λ (p : Phase B (Work B)). with_phase s (moves.with_work work p).1 e.sessions.phases) at))

  pub at_work : phase_at (s - 1) put.phases ≡ phase.Open call work
  at_work = put_there k e.sessions kept s is (phase.Open call work)

  -- whatever the session then comes to, it comes to
  pub phase_again : (p : Phase B (Work B)) → with_phase_of s p put ≡ with_phase_of s p e.sessions
  phase_again p = ap (λ (ps : List (Phase B (Work B))). record e.sessions { phases = ps }) (set-set e.sessions.phases (s - 1) (phase.Open call work) p)

  pub answered_again : answered_state s e.sessions ≡ answered_state s put
  answered_again = sym (phase_again phase.Working)
