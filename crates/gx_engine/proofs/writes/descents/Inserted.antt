-- An insert's pair that is added to the leaf to which it has descended, and noted, as an index's event.
use Rattle.std.proofs.Common.{◌≡◌, ◌≢◌, ◌∙◌, ap, sym, refl, subst, ℕ, ◌-◌, ◌≤◌, ◌<◌, Bool, true, false, List, [], ◌∷◌, length, map, None, Some, arith}
use Rattle.gx_machine.specs.declared.entry.Entry.{Entry}
use Rattle.gx_machine.specs.declared.call.Call.TheVariants.{Insert}
use Rattle.gx_machine.specs.declared.reply.Reply.TheVariants as reply
use Rattle.gx_machine.specs.Keys.{Keys}
use Rattle.gx_machine.specs.Machine.{is_session}
use Rattle.gx_disk.specs.Device.{Device}
use Rattle.gx_page.specs.Contents.{Contents}
use Rattle.gx_node.specs.Reading.{Format}
use Rattle.gx_node.specs.Reach.{TraversalItem}
use Rattle.gx_node.specs.Trees.{Rules, Used}
use Rattle.gx_node.specs.SmallLaws.{PairsMean}
use Rattle.gx_node.specs.Store.{tree_of}
use Rattle.gx_tree.specs.Writing.{Appends}
use Rattle.gx_recovery.specs.Known.{Known}
use Rattle.gx_recovery.specs.Analysis.{Analysis, analysis, touching}
use Rattle.gx_recovery.specs.Logged.{all_records}
use Rattle.gx_recovery.specs.Records.{Record, Said, Touch}
use Rattle.gx_recovery.proofs.Folds.{analysis-snoc}
use Rattle.gx_events.specs.Happenings.{Happening, Inserts}
use Rattle.gx_events.specs.Slots.{Working}
use Rattle.gx_index_laws.specs.Classes.{Class, IsLawful, Page, known_of}
use Rattle.gx_index_laws.specs.Happening as happening
use Rattle.gx_index_laws.specs.Happening.{slotted, with_record}
use Rattle.gx_index_laws.specs.States as index
use Rattle.gx_index_laws.specs.Whole.{IsWhole, is_busy}
use Rattle.gx_index_laws.proofs.Standing.{grown, known_lawful, tells}
use Rattle.gx_index_laws.proofs.Tools.{changed_beside}
use Rattle.gx_durable.specs.Spelled.{Reading}
use Rattle.gx_durable.specs.Classes.{reading_of}
use Rattle.gx_events.specs.declared.outcome.Outcome.{Outcome}
use Rattle.gx_events.specs.declared.outcome.Outcome.TheVariants.{Replied}
use Rattle.gx_txn.specs.declared.note.Note.{Note}
use Rattle.gx_txn.specs.Notes.{noting}
use Rattle.gx_txn.specs.Tables.{Held, with_notes}
use Rattle.gx_phases.specs.declared.phase.Phase.{Phase}
use Rattle.gx_phases.specs.declared.phase.Phase.TheVariants as phase
use Rattle.gx_phases.specs.Moves.{transaction_of, written_state}
use Rattle.gx_phases.specs.States.{State, IsKept, held_at, note_of, phase_at}
use Rattle.gx_phases.proofs.Keeping.{low}
use Rattle.gx_phases.proofs.Noting.{noting_notes}
use Rattle.gx_class.specs.declared.class.TheConstants.{MAX_KEY}
use Rattle.gx_record.specs.declared.sizes.TheConstants.{SPLIT_RECORD}
use Rattle.gx_store.specs.Standing.{store_of}
use Rattle.gx_store.specs.State.{IsSteady}
use Rattle.gx_storage.specs.Imaged.{is_imaged}
use Rattle.gx_storage.specs.Keeps.{KeepsWith, StaysWith}
use Rattle.gx_storage.specs.Numbers.{HasOwnNumber}
use Rattle.gx_storage.specs.Small.{IsSpelled, add_room, add_said}
use Rattle.gx_storage.specs.State.{Volume}
use Rattle.gx_storage.proofs.Adding.{absent, inserted}
use Rattle.gx_storage.proofs.Descending.{shown_descent}
use Rattle.gx_storage.proofs.Recording.{AreNodes}
use Rattle.gx_storage.proofs.SmallAdds.{add_is_said, add_read, add_told}
use Rattle.gx_storage.proofs.Stepping.{shown_legal, stood}
use Rattle.gx_engine.specs.declared.work.Work.{Work}
use Rattle.gx_engine.specs.declared.work.Work.TheVariants.{Descends}
use Rattle.gx_engine.specs.Holds.{Sits}
use Rattle.gx_engine.specs.Moves.{Moves}
use Rattle.gx_engine.specs.Noted.{has_transaction, touch_by, touched_by}
use Rattle.gx_engine.specs.States.{Parts, is_due}
use Rattle.gx_engine.specs.Writes.{WriteBy}
use Rattle.gx_engine.proofs.Growing.{grown_led}
use Rattle.gx_engine.proofs.LookMoves.{its_work, slot_now}
use Rattle.gx_engine.proofs.Noting.{busy_slot, told_set}
use Rattle.gx_engine.proofs.Serving.{FliesOn, is_calm, not_due, session_at, session_of, slot_is}
use Rattle.gx_engine.proofs.Touching.{touching_notes, touching_other, touching_own}

-- One of an index's sessions has written an entry, with a note of it.
module _ {B : Type 0} (c : Class B) (l : IsLawful c) (old : State B (Work B)) (kept : IsKept c.keys old) (s : ℕ) (is : is_session s ≡ true)
    (busy : has_transaction (phase_at (s - 1) old.phases) ≡ true) (i : index.State B) (whole : IsWhole c i) (h : Sits c old i) (n : Note B) where
  abbrev k : Known (Entry B) (Page B)
  k = known_of c

  abbrev held : Held B
  held = held_at (s - 1) old.table

  abbrev t : ℕ
  t = transaction_of s old

  abbrev touches : List (Touch (Entry B))
  touches = (analysis k (all_records i.log)).touched

  abbrev then_notes : List (Note B)
  then_notes = noting c.keys n held.notes

  abbrev new : State B (Work B)
  new = written_state c.keys s n old

  its_number : i.transaction s ≡ t
  its_number = h.of.transactions s is

  -- another session's transaction is another
  apart : (a : ℕ) → is_session a ≡ true → a ≢ s → has_transaction (phase_at (a - 1) old.phases) ≡ true → transaction_of a old ≢ t
  apart a there ne its same =
      ne (whole.tied.own a s
      (ap is_busy (slot_is c.keys old i kept h.of a there) ∙ busy_slot (phase_at (a - 1) old.phases) (held_at (a - 1) old.table) its)
      (ap is_busy (slot_is c.keys old i kept h.of s is) ∙ busy_slot (phase_at (s - 1) old.phases) held busy)
      (h.of.transactions a there ∙ same ∙ sym its_number))

  pub written_sits : (j : index.State B) → j.slots ≡ (slotted s (Working held.locks (map note_of then_notes) None) index.Rests i).slots → j.work ≡ happening.changed_at s index.Rests i.work
      → j.restored ≡ happening.changed_at s [] i.restored → j.transaction ≡ i.transaction → j.next ≡ i.next → j.oldest ≡ i.oldest → j.failed ≡ i.failed
      → (analysis k (all_records j.log)).touched ≡ touching k (touch_by (i.transaction s) n) touches → Sits c new j
  written_sits j j_slots j_work j_restored numbers next oldest failed rest_of =
      let of = session_of c.keys old new i kept h.of s phase.Working (with_notes then_notes held) refl refl index.Rests refl refl refl refl in
      let rest : (analysis k (all_records j.log)).touched ≡ touching k (touch_by t n) touches = rest_of ∙ ap (λ q. touching k (touch_by q n) touches) its_number in
      record {
        of = record {
          slots = j_slots ∙ of.slots;
          transactions = λ a there. ap (λ (x : ℕ → ℕ). x a) numbers ∙ of.transactions a there;
          next = next ∙ of.next;
          oldest = oldest ∙ of.oldest;
          failed = failed ∙ of.failed;
        };
        at = session_at c.keys old new i j kept s is phase.Working (with_notes then_notes held) refl refl
            (λ a ne. ap (λ (x : ℕ → index.Work B). x a) j_work ∙ changed_beside s index.Rests i.work a ne)
            (λ a ne. ap (λ (x : ℕ → List (Entry B)). x a) j_restored ∙ changed_beside s [] i.restored a ne) tt h.at;
        told = told_set c.keys old new touches (analysis k (all_records j.log)).touched kept s is phase.Working (with_notes then_notes held) refl refl
            (λ a there ne its. ap (λ (xs : List (Touch (Entry B))). touched_by (transaction_of a old) xs) rest
            ∙ touching_other k (known_lawful c l) (transaction_of a old) (touch_by t n) touches (λ same. apart a there ne its (sym same)))
            (λ a there ne. refl)
            (λ its. ap (λ (xs : List (Touch (Entry B))). touched_by t xs) rest ∙ own_now) h.told;
      }
    where
      own_now : touched_by t (touching k (touch_by t n) touches) ≡ map (touch_by t) then_notes
      own_now =
          touching_own k (known_lawful c l) t (touch_by t n) touches refl (tells c l i whole).in_order
          ∙ ap (λ (xs : List (Touch (Entry B))). touching k (touch_by t n) xs) (h.told s is busy)
          ∙ touching_notes c.keys k refl t n held.notes

module _ {B D : Type 0} (c : Class B) (lawful : 4 ≤ c.rules.most → IsLawful c) (said : List ℕ → B) (f : Format B) (passes : ℕ → Contents → Bool) (d e : Device)
    (old : Parts B D) (kept : IsKept c.keys old.sessions) (works : old.sessions.failed ≡ false) (s : ℕ) (is : is_session s ≡ true) (early : is_due old ≡ false)
    (entry : Entry B) (parent : ℕ) (item : TraversalItem) (at : phase_at (s - 1) old.sessions.phases ≡ phase.Open (Insert entry) (Descends parent item))
    (w : Volume D) (most : w.most ≡ old.volume.most) (flies : FliesOn old.volume.log w.log) where
  abbrev r : Reading (Entry B) (Page B)
  r = reading_of said f

  abbrev note : Note B
  note = record { entry = entry; before = true; leaf = item.page }

  pub added_moves : (IsSteady d old.volume.shelf.frames → ((tree_of (store_of f d.seen old.volume.shelf)).node item.page).nsn ≤ item.seen)
      → (IsSteady d old.volume.shelf.frames → Appends old.volume.most (tree_of (store_of f d.seen old.volume.shelf)) (tree_of (store_of f e.seen w.shelf)) item.page entry)
      → (t : ℕ) → t ≡ transaction_of s old.sessions → (spelling : B → List ℕ) → said (spelling entry.key) ≡ entry.key → c.is_key entry.key ≡ true
      → AreNodes f passes old.volume.shelf → (rules : ℕ → Rules B) → rules c.rules.most ≡ c.rules → PairsMean f (rules old.volume.most)
      → IsSpelled spelling entry.row entry.key → f.reading (spelling entry.key) ≡ Some entry.key
      → KeepsWith (known_of c) r f passes d e old.volume w (add_said spelling (is_imaged old.volume.imaged item.page) t entry.row entry.key item.page e.seen w.shelf)
      → HasOwnNumber e.seen w.shelf item.page
      → Moves c r f passes d e s old (record old { volume = w; sessions = written_state c.keys s note old.sessions }) (Replied reply.Inserted) (Inserts s entry ∷ [])
  added_moves calm adds t its spelling back of_class nodes rules its_rules means spelled reads keeps own bodies i h =
      let l = lawful h.some in
      let held = held_at (s - 1) old.sessions.table in
      let slot = slot_now c l r f passes d old kept s is (Insert entry) (Descends parent item) at bodies i h in
      let work = its_work c l r f passes d old kept s is (Insert entry) (Descends parent item) at bodies i h in
      let after = keeps bodies i.log (known_lawful c l) h.keeps in
      let number : t ≡ i.transaction s = its ∙ sym (h.sessions.transactions s is) in
      let notes : List (Note B) = noting c.keys note held.notes in
      let appends = subst (λ m. Appends m (tree_of (store_of f d.seen old.volume.shelf)) (tree_of (store_of f e.seen w.shelf)) item.page entry) h.most (adds h.keeps.steady) in
      let with_note = noting_notes c.keys l.keys note held.notes (kept.placed (s - 1) (low c.keys old.sessions kept s is)).in_order in
      let small = is_imaged old.volume.imaged item.page in
      let told : Said (Page B) = add_told spelling f small entry item.page e.seen w.shelf in
      let there = (shown_descent c l said f passes d e old.volume w bodies i h.whole s entry parent item work held.locks (map note_of held.notes) (Insert entry) slot h.keeps).there in
      let high : item.page ≤ old.volume.shelf.used =
      (let many = stood c l said f passes d e old.volume w bodies i h.whole h.keeps in let in_use = there.1 in omega (arith, many, in_use)) in
      let is_said = add_is_said (known_of c) said f passes d old.volume bodies i.log h.keeps nodes item.page there (let some = there.0 in omega (arith, some)) high
      c.rules (subst (λ (x : Rules B). PairsMean f x) (ap rules h.most ∙ its_rules) means)
      (shown_legal c l said f passes d e old.volume w bodies i h.whole h.keeps) appends.leaf spelling entry e.seen w.shelf spelled.row_fits
      (record { are = spelled.key_bytes; read = reads })
      (absent c l said f passes d e old.volume w bodies i h.whole s entry parent item work held.locks (map note_of held.notes) slot h.keeps) appends.room own in
      let x : Record (Entry B) (Page B) = happening.write_of i s entry true false item.page told in
      let written = subst (λ (y : Record (Entry B) (Page B)). StaysWith (known_of c) r f passes d e w bodies i.log y)
      (add_read said spelling f small t (i.transaction s) entry item.page e.seen w.shelf number back) after in
      let done = inserted c l said f passes d e old.volume w bodies i h.whole s entry parent item work held.locks (map note_of held.notes) slot h.keeps (calm h.keeps.steady) appends
      told is_said written (h.sessions.failed ∙ works) of_class (map note_of notes) with_note in
      let j : index.State B = slotted s (Working held.locks (map note_of notes) None) index.Rests (with_record x i) in
      let touched : (analysis (known_of c) (all_records j.log)).touched ≡ touching (known_of c) (touch_by (i.transaction s) note) (analysis (known_of c) (all_records i.log)).touched =
      ap (λ (a : Analysis (Entry B)). a.touched)
      (ap (λ (rs : List (Record (Entry B) (Page B))). analysis (known_of c) rs) (grown x i.log) ∙ analysis-snoc (known_of c) (all_records i.log) x) in
      record {
        led =
            grown_led c r f passes d e old bodies i h (is_calm old.checkpoint (not_due old early).0) w most flies after.leaves x done.kept (Inserts s entry ∷ []) j
            (j, done.comes.happens, refl) done.comes.happens.whole refl refl refl (written_state c.keys s note old.sessions)
            (written_sits c l old.sessions kept s is (ap (λ (p : Phase B (Work B)). has_transaction p) at) i h.whole (record { of = h.sessions; at = h.at; told = h.told }) note j
            refl refl refl refl refl refl refl touched) refl (λ go. go);
        lowers = tt;
      }

-- the record of an added pair is no longer than a split's
pub add_is_short : (small : Bool) (key : ℕ) → key ≤ MAX_KEY → add_room small key ≤ SPLIT_RECORD
add_is_short true key short = omega (arith, short)
add_is_short false key short = omega (arith, short)

-- A pair was added and noted.
module _ {B D : Type 0} (s : ℕ) (entry : Entry B) (k : Keys B) (leaf : ℕ) (old mid new : Parts B D) (only : mid ≡ record old { volume = mid.volume })
    (noted : new ≡ record mid { sessions = written_state k s (record { entry = entry; before = true; leaf = leaf }) mid.sessions }) (o : Outcome B) (one : o ≡ Replied reply.Inserted) where
  abbrev its_end : Parts B D
  its_end = record old { volume = mid.volume; sessions = written_state k s (record { entry = entry; before = true; leaf = leaf }) old.sessions }

  pub added_is : (P : Parts B D → Outcome B → Type 0) → P its_end (Replied reply.Inserted) → P new o
  added_is P at_end =
      let note : Note B = record { entry = entry; before = true; leaf = leaf } in
      let is_end : new ≡ its_end = noted ∙ ap (λ (x : Parts B D). record x { sessions = written_state k s note x.sessions }) only in
      subst (λ (y : Outcome B). P new y) (sym one) (subst (λ (x : Parts B D). P x (Replied reply.Inserted)) (sym is_end) at_end)

  pub added_comes : (Asks : ℕ → Type 0) (Lacks : Type 0) (Goes : Device → Parts B D → Type 0) (passes : ℕ → Contents → Bool) (state : D → Device) → mid.volume.most ≡ old.volume.most
      → WriteBy Asks Lacks Goes k passes (state old.volume.shelf.disk) (state new.volume.shelf.disk) s (Insert entry) old new o
  added_comes Asks Lacks Goes passes state most =
      added_is (λ x y. WriteBy Asks Lacks Goes k passes (state old.volume.shelf.disk) (state x.volume.shelf.disk) s (Insert entry) old x y)
      (record { entry = entry; before = true; leaf = leaf }, refl, refl, most)

-- the leaf to which an insert has descended is refused as none, or as a full one: that is impossible
pub never_added : {B D : Type 0} (c : Class B) (lawful : 4 ≤ c.rules.most → IsLawful c) (said : List ℕ → B) (f : Format B) (passes : ℕ → Contents → Bool) (d e : Device)
    (old : Parts B D) (kept : IsKept c.keys old.sessions) (s : ℕ) (is : is_session s ≡ true) (entry : Entry B) (parent : ℕ) (item : TraversalItem)
    (at : phase_at (s - 1) old.sessions.phases ≡ phase.Open (Insert entry) (Descends parent item))
    → (IsSteady d old.volume.shelf.frames → (((tree_of (store_of f d.seen old.volume.shelf)).node item.page).level ≡ 0)
    × (length ((tree_of (store_of f d.seen old.volume.shelf)).node item.page).pairs < old.volume.most))
    → (IsSteady d old.volume.shelf.frames → Used (tree_of (store_of f d.seen old.volume.shelf)) item.page
    → ((tree_of (store_of f d.seen old.volume.shelf)).node item.page).level ≡ 0 → old.volume.most ≤ length ((tree_of (store_of f d.seen old.volume.shelf)).node item.page).pairs)
    → (new : Parts B D) (o : Outcome B) (events : List (Happening B)) → Moves c (reading_of said f) f passes d e s old new o events
never_added c lawful said f passes d e old kept s is entry parent item at leaf damaged new o events bodies i h =
    let l = lawful h.some in
    let r = reading_of said f in
    let held = held_at (s - 1) old.sessions.table in
    let slot = slot_now c l r f passes d old kept s is (Insert entry) (Descends parent item) at bodies i h in
    let work = its_work c l r f passes d old kept s is (Insert entry) (Descends parent item) at bodies i h in
    let descent = shown_descent c l said f passes d d old.volume old.volume bodies i h.whole s entry parent item work held.locks (map note_of held.notes) (Insert entry) slot h.keeps in
    let there = leaf h.keeps.steady in
    let full = damaged h.keeps.steady descent.there there.0 in
    let room = there.1 in
    absurd (omega (arith, full, room))
