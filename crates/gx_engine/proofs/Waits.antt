-- A move that waits: why, and what the event that it names has to do.
use Rattle.std.proofs.Common.{◌≡◌, ◌⊎◌, inl, inr, ℕ, zero, suc, ◌+◌, ◌<◌, ◌≤◌, Bool, true, false, Option, None, Some, List, [], ◌∷◌, ◌++◌, length, length-append, refl, ap, sym, ◌∙◌, subst, arith}
use Rattle.std.specs.Prelude.{◌-◌, ◌||◌, ◌&&◌, nat_le, nat_lt}
use Rattle.std.proofs.lemmas.Bool.{leb-false, le-leb, lt-ltb}
use Rattle.std.proofs.lemmas.List.{append-nil}
use Rattle.gx_class.specs.Traits.{traits_of}
use Rattle.gx_class.specs.declared.class.KeyClass.{Ghosts}
use Rattle.gx_disk.specs.Device.{Device}
use Rattle.gx_glog.specs.declared.stage.Stage.{Stage}
use Rattle.gx_glog.specs.declared.stage.Stage.TheVariants.{Body, BodySync, Gate, GateSync, Idle}
use Rattle.gx_glog.specs.State.{Log, in_flight, turning}
use Rattle.gx_glog.specs.declared.extent.TheConstants.{BODY_ROOM, PLACES}
use Rattle.gx_machine.specs.declared.call.Call.{Call}
use Rattle.gx_machine.specs.declared.call.Call.TheVariants.{Abort, Begin, Commit, Delete, Insert, Search}
use Rattle.gx_machine.specs.declared.entry.Entry.{Entry}
use Rattle.gx_machine.specs.Keys.{Keys, Members, keys_of}
use Rattle.gx_machine.specs.Machine.{is_session}
use Rattle.gx_node.specs.Reading.{Format, format_of, is_node}
use Rattle.gx_page.specs.Contents.{Contents}
use Rattle.gx_pool.specs.Marks.{is_gated}
use Rattle.gx_pool.specs.State.{State as Frames, IsWritable, NoneDirty, clean_count, kept, stamp_of}
use Rattle.gx_pool.proofs.Numbers.{all_but_held, no_more_dirty, none_dirty_zero}
use Rattle.gx_record.specs.Bytes.{u64_bytes}
use Rattle.gx_record.specs.Format.{spelling}
use Rattle.gx_record.specs.Rec.{Rec}
use Rattle.gx_record.specs.Rec as rec
use Rattle.gx_record.proofs.Numbers.{length-u64_bytes}
use Rattle.gx_record.specs.Writing.{write_record}
use Rattle.gx_recovery.specs.Analysis.{number_of}
use Rattle.gx_recovery.specs.Known.{Known, Limits}
use Rattle.gx_recovery.specs.Logged.{Logged, durable, latest}
use Rattle.gx_recovery.specs.Records.{Record}
use Rattle.gx_durable.specs.Spelled.{AreRecords, Reading}
use Rattle.gx_durable.specs.Standing.{batch_of}
use Rattle.gx_durable.proofs.Spellings.{none_are, one_way}
use Rattle.gx_index_laws.specs.Classes.{Class, Page, known_of}
use Rattle.gx_index_laws.specs.Happening.{AreHappening}
use Rattle.gx_index_laws.specs.States as index
use Rattle.gx_index_laws.specs.Measures.{work_left}
use Rattle.gx_index_laws.specs.declared.TheConstants.{CHECKPOINT_AT}
use Rattle.gx_durable.specs.Classes.{class_of, known_at, reading_of}
use Rattle.gx_store.specs.declared.fault.StoreFault.{StoreFault}
use Rattle.gx_store.specs.declared.fault.StoreFault.TheVariants as fault
use Rattle.gx_store.specs.Faults as faults
use Rattle.gx_store.specs.State.{Shelf}
use Rattle.gx_storage.specs.Bringing.{bringing}
use Rattle.gx_storage.specs.Changes.{begun, has_room}
use Rattle.gx_storage.specs.Flushing.{HasNoRoom, Helps, IsLeastWritable, frame_by}
use Rattle.gx_storage.specs.Imaged.{is_imaged}
use Rattle.gx_storage.specs.Keeps.{Keeps}
use Rattle.gx_storage.specs.Small.{mark_room}
use Rattle.gx_storage.specs.State.{Volume}
use Rattle.gx_events.specs.declared.event.Event.TheVariants.{Move}
use Rattle.gx_events.specs.declared.outcome.Need.{Need}
use Rattle.gx_events.specs.declared.outcome.Need.TheVariants as need
use Rattle.gx_events.specs.declared.outcome.Outcome.TheVariants.{Help}
use Rattle.gx_phases.specs.declared.phase.Phase.{Phase}
use Rattle.gx_phases.specs.declared.phase.Phase.TheVariants as phase
use Rattle.gx_phases.specs.Moves.{next_of, transaction_of}
use Rattle.gx_events.specs.Happenings.{Happening}
use Rattle.gx_phases.specs.States.{State as Sessions, WaitsForSealed, phase_at}
use Rattle.gx_engine.specs.declared.checkpoint.Checkpoint.{Checkpoint}
use Rattle.gx_engine.specs.declared.checkpoint.Checkpoint.TheVariants.{Off, Running, Turning}
use Rattle.gx_engine.specs.declared.work.Work.{Work}
use Rattle.gx_engine.specs.Comes.{CallMoves, MovesAt, MovesBy, MoveComes}
use Rattle.gx_engine.specs.Holds.{Holds}
use Rattle.gx_engine.specs.Moves.{left_by}
use Rattle.gx_engine.specs.Refusals.{CanBeHelped, IsEarly, IsHelp, StampsStay, log_need, need_of}
use Rattle.gx_engine.specs.Commits.{AcknowledgeBy, SealComes, commit_of}
use Rattle.gx_engine.specs.States.{AreFrames, IsOrderly, Parts, StandsIn, is_due, runs}
use Rattle.gx_engine.specs.Stepping.{has_call}
use Rattle.gx_engine.specs.Undoing.{EndComes, UndoBy, end_of, next_leaf}
use Rattle.gx_engine.specs.Writes.{IsDelayed, brought}
use Rattle.gx_engine.specs.Backlog.{backlog, checkpoint_left, fillings, flight_left, log_left}
use Rattle.gx_engine.specs.Helping.{HasWork, NamesWork, PageNamesWork, WaitingLeavesAll}
use Rattle.gx_engine.specs.Made.{Makes}
use Rattle.gx_engine.proofs.Lessening.{one_fills}

-- ---- why a move waits

-- if a record has no room, something fills
fills_by : (n used size : ℕ) → (nat_lt used PLACES && nat_le (n + size) BODY_ROOM) ≡ false → used < PLACES → size ≤ BODY_ROOM → 1 ≤ n
fills_by zero used size none place small =
    let a : nat_lt used PLACES ≡ true = lt-ltb used PLACES place in
    let b : nat_le (zero + size) BODY_ROOM ≡ true = le-leb (zero + size) BODY_ROOM (omega (arith, small)) in
    let both : (nat_lt used PLACES && nat_le (zero + size) BODY_ROOM) ≡ true = ap (λ x. x && nat_le (zero + size) BODY_ROOM) a ∙ b in
    let clash : true ≡ false = sym both ∙ none in
    let no : ⊥ = cc in absurd no
fills_by (suc n) used size none place small = omega arith

not_due : (run : Bool) (used : ℕ) → (run || nat_le CHECKPOINT_AT used) ≡ false → (run ≡ false) × (used < CHECKPOINT_AT)
not_due true used is = let no : ⊥ = cc in absurd no
not_due false used is = (refl, leb-false CHECKPOINT_AT used is)

commit_short : (transaction number : ℕ) → length (spelling (rec.Commit transaction number)) ≤ BODY_ROOM
commit_short transaction number =
    let a = length-u64_bytes transaction in
    let b = length-u64_bytes number in
    let both = length-append (u64_bytes transaction) (u64_bytes number) in
    omega (arith, a, b, both)

end_short : (transaction : ℕ) → length (spelling (rec.End transaction)) ≤ BODY_ROOM
end_short transaction = let a = length-u64_bytes transaction in omega (arith, a)

module _ {B D : Type 0} where
  -- a checkpoint is due
  abbrev WaitsForCheckpoint : Parts B D → Need → Type 0
  WaitsForCheckpoint old n = (n ≡ need.Checkpoint) × (is_due old ≡ true)

  -- the log has no room, so that something fills
  abbrev WaitsForRoom : Parts B D → Need → Type 0
  WaitsForRoom old n = (n ≡ log_need (runs old.checkpoint)) × (runs old.checkpoint ≡ false → 1 ≤ length old.volume.log.filling)

  -- fewer than two frames are clean
  abbrev WaitsForFrames : Parts B D → Parts B D → Need → Type 0
  WaitsForFrames old new n =
      (least : Option ℕ) × IsLeastWritable new.volume.shelf.frames least × (n ≡ need_of (runs old.checkpoint) (Some (frame_by least))) × (clean_count new.volume.shelf.frames < 2)

  -- a commit isn't durable
  abbrev WaitsForCommit : ℕ → Parts B D → Need → Type 0
  WaitsForCommit s old n =
      (n ≡ log_need (runs old.checkpoint)) × ((number : ℕ) × (phase_at (s - 1) old.sessions.phases ≡ phase.Waiting number) × (nat_le number old.sessions.durable ≡ false))

  abbrev Why : ℕ → Parts B D → Parts B D → Need → Type 0
  Why s old new n = WaitsForCheckpoint old n ⊎ (WaitsForRoom old n ⊎ (WaitsForFrames old new n ⊎ WaitsForCommit s old n))

  -- A move waits: pages may have been brought, none got a change, and nothing else has changed.
  pub record Waits (s : ℕ) (old new : Parts B D) (n : Need) : Type 0 where
    pub sessions : new.sessions ≡ old.sessions
    pub checkpoint : new.checkpoint ≡ old.checkpoint
    pub log : new.volume.log ≡ old.volume.log
    pub stamps : StampsStay old.volume.shelf new.volume.shelf
    pub why : Why s old new n

  stays : (s : ℕ) (old new : Parts B D) (n : Need) → new ≡ old → Why s old new n → Waits s old new n
  stays s old new n same why = record {
    sessions = ap (λ (x : Parts B D). x.sessions) same;
    checkpoint = ap (λ (x : Parts B D). x.checkpoint) same;
    log = ap (λ (x : Parts B D). x.volume.log) same;
    stamps = λ page. ap (λ (x : Parts B D). stamp_of (kept x.volume.shelf.frames page)) same;
    why = why;
  }

  brings : (s : ℕ) (old new : Parts B D) (n : Need) → new ≡ brought old new → StampsStay old.volume.shelf new.volume.shelf → Why s old new n → Waits s old new n
  brings s old new n same stamps why = record {
    sessions = ap (λ (x : Parts B D). x.sessions) same;
    checkpoint = ap (λ (x : Parts B D). x.checkpoint) same;
    log = ap (λ (x : Parts B D). x.volume.log) same;
    stamps = stamps;
    why = why;
  }

  -- what fills if a record finds no room, and no checkpoint is due
  fills : (e : Parts B D) (size : ℕ) → size ≤ BODY_ROOM → is_due e ≡ false → has_room e.volume.log size ≡ false → 1 ≤ length e.volume.log.filling
  fills e size small early none =
      let due = (not_due (runs e.checkpoint) e.volume.log.used early).1 in
      fills_by (length e.volume.log.filling) e.volume.log.used size none (omega (arith, due)) small

  helped : (passes : ℕ → Contents → Bool) (d e : Device) (old new : Parts B D) (n : Need) (shelf : Shelf D) (early : StoreFault → Type 0) (why : StoreFault) (named : Option Need)
      → (early fault.NoRoom → shelf.has_room ≡ false → 1 ≤ length old.volume.log.filling) → CanBeHelped why → faults.IsWhy passes d e shelf new.volume.shelf why → early why
      → Helps new.volume.shelf why named → n ≡ need_of (runs old.checkpoint) named → WaitsForRoom old n ⊎ WaitsForFrames old new n
  helped passes d e old new n shelf early fault.NoRoom named room can why is helps names =
      inl (names ∙ ap (need_of (runs old.checkpoint)) helps, λ off. room is why)
  helped passes d e old new n shelf early (fault.TooFewFrames wanted) named room can why is helps names =
      let few = helps.few why.more in
      let more = why.more in
      let two = why.two in
      inr (few.0, few.1, names ∙ ap (need_of (runs old.checkpoint)) few.2, omega (arith, more, two))
  helped passes d e old new n shelf early fault.Device named room can why is helps names = absurd can
  helped passes d e old new n shelf early fault.Damaged named room can why is helps names = absurd can

  why_helped : (s : ℕ) (old new : Parts B D) (n : Need) → WaitsForRoom old n ⊎ WaitsForFrames old new n → Why s old new n
  why_helped s old new n (inl room) = inr (inl room)
  why_helped s old new n (inr frames) = inr (inr (inl frames))

  -- what only brings pages wants no room
  brought_waits : (passes : ℕ → Contents → Bool) (d e : Device) (old new : Parts B D) (n : Need) → IsHelp passes d e (runs old.checkpoint) (bringing old.volume) new.volume.shelf n
      → WaitsForRoom old n ⊎ WaitsForFrames old new n
  brought_waits passes d e old new n h =
      helped passes d e old new n (bringing old.volume) (λ f. Unit {0}) h.fault h.help (λ any none. let no : ⊥ = cc in absurd no) h.can h.why tt h.helps h.is

  why_brought : (passes : ℕ → Contents → Bool) (d e : Device) (s : ℕ) (old new : Parts B D) (n : Need) → IsHelp passes d e (runs old.checkpoint) (bringing old.volume) new.volume.shelf n
      → Why s old new n
  why_brought passes d e s old new n h = why_helped s old new n (brought_waits passes d e old new n h)

  -- one that would log a change does, of so many bytes
  why_begun : (passes : ℕ → Contents → Bool) (d e : Device) (s : ℕ) (old new : Parts B D) (n : Need) (size : ℕ) → size ≤ BODY_ROOM
      → (h : IsHelp passes d e (runs old.checkpoint) (begun old.volume size) new.volume.shelf n) → IsEarly h.fault (is_due old) → Why s old new n
  why_begun passes d e s old new n size small h early =
      why_helped s old new n
      (helped passes d e old new n (begun old.volume size) (λ f. IsEarly f (is_due old)) h.fault h.help (λ is none. fills old size small is none) h.can h.why early h.helps h.is)

  why_delayed : (Asks : ℕ → Type 0) (passes : ℕ → Contents → Bool) (d e : Device) (s : ℕ) (old new : Parts B D) (n : Need) → IsDelayed Asks passes d e old new n → Why s old new n
  why_delayed Asks passes d e s old new n (size, asks, small, inl due) = inl (due.0, due.1)
  why_delayed Asks passes d e s old new n (size, asks, small, inr h) = why_begun passes d e s old new n size (omega (arith, small)) h.0 h.1

  delayed_stamps : (Asks : ℕ → Type 0) (passes : ℕ → Contents → Bool) (d e : Device) (old new : Parts B D) (n : Need) → IsDelayed Asks passes d e old new n → StampsStay old.volume.shelf new.volume.shelf
  delayed_stamps Asks passes d e old new n (size, asks, small, inl due) = due.3
  delayed_stamps Asks passes d e old new n (size, asks, small, inr h) = h.0.stamps

  no_turn : (c : Checkpoint) (e : Parts B D) → runs c ≡ false → StandsIn c e.volume → 1 ≤ turning e.volume.log.turn → ⊥
  no_turn Off e off stands turns = let none = ap turning stands in omega (arith, none, turns)
  no_turn Running e off stands turns = cc
  no_turn Turning e off stands turns = cc

  -- a short record found no room, and no turn is under way
  short_fills : (x : Rec) (e : Parts B D) → length (spelling x) ≤ BODY_ROOM → runs e.checkpoint ≡ false → StandsIn e.checkpoint e.volume → HasNoRoom x e.volume.log
      → 1 ≤ length e.volume.log.filling
  short_fills x e short off stands (inl full) = omega (arith, short, full)
  short_fills x e short off stands (inr turns) = absurd (no_turn e.checkpoint e off stands turns)

  why_short : (x : Rec) (s : ℕ) (old new : Parts B D) → length (spelling x) ≤ BODY_ROOM → is_due old ≡ false → StandsIn old.checkpoint old.volume → HasNoRoom x old.volume.log
      → Why s old new need.Log
  why_short x s old new short early stands none =
      let off = (not_due (runs old.checkpoint) old.volume.log.used early).0 in
      inr (inl (sym (ap log_need off), λ run. short_fills x old short off stands none))

  seal_waits : (s : ℕ) (old new : Parts B D) (n : Need) → StandsIn old.checkpoint old.volume → SealComes s old new (Help n) → Waits s old new n
  seal_waits s old new need.Log stands comes = stays s old new need.Log comes.2 (why_short (commit_of s old) s old new (commit_short (transaction_of s old.sessions) (old.sessions.latest + 1)) comes.0 stands comes.1)
  seal_waits s old new need.Checkpoint stands comes = stays s old new need.Checkpoint comes.1 (inl (refl, comes.0))
  seal_waits s old new (need.Write page) stands never = absurd never

  end_waits : (s : ℕ) (old new : Parts B D) (n : Need) → is_due old ≡ false → StandsIn old.checkpoint old.volume → EndComes s old new (Help n) → Waits s old new n
  end_waits s old new need.Log early stands comes = stays s old new need.Log comes.1 (why_short (end_of s old) s old new (end_short (transaction_of s old.sessions)) early stands comes.0)
  end_waits s old new need.Checkpoint early stands never = absurd never
  end_waits s old new (need.Write page) early stands never = absurd never

  acknowledge_waits : (s number : ℕ) (old new : Parts B D) (n : Need) (is : Bool) → nat_le number old.sessions.durable ≡ is → phase_at (s - 1) old.sessions.phases ≡ phase.Waiting number
      → AcknowledgeBy is s number old new (Help n) → Waits s old new n
  acknowledge_waits s number old new n true is at comes = let names = comes.0 in let no : ⊥ = cc in absurd no
  acknowledge_waits s number old new n false is at comes =
      let names = comes.0 in
      let named : n ≡ log_need (runs old.checkpoint) = cc in
      stays s old new n comes.1 (inr (inr (inr (named, (number, at, is)))))

-- ---- what a move comes to that waits

-- if the record of a write fits a batch, that of a mark does
mark_fills : (small : Bool) (key : ℕ) → write_record key ≤ BODY_ROOM → mark_room small key ≤ BODY_ROOM
mark_fills true key short = omega (arith, short)
mark_fills false key short = short

module _ {B : Type 0} (k : Keys B) (known : Limits → Known (Entry B) (Page B)) (r : Reading (Entry B) (Page B)) (f : Format B) (passes : ℕ → Contents → Bool) (IsKey : B → Type 0)
    (spells : B → List ℕ) (key : ℕ) (short : write_record key ≤ BODY_ROOM) {D : Type 0} (d e : Device) where
  undo_waits : (s : ℕ) (old new : Parts B D) (n : Need) (due : Bool) (next : Option ℕ) → is_due old ≡ due → StandsIn old.checkpoint old.volume
      → UndoBy known r f passes IsKey k spells key due next d e s old new (Help n) → Waits s old new n
  undo_waits s old new n true next is stands comes =
      let names = comes.0 in
      let named : n ≡ need.Checkpoint = cc in
      stays s old new n comes.1 (inl (named, is))
  undo_waits s old new n false None is stands comes = end_waits s old new n is stands comes
  undo_waits s old new n false (Some restored) is stands comes =
      let h = comes.2.1 in
      let small = is_imaged old.volume.imaged (next_leaf s old.sessions comes.0) in
      let size = mark_room small key in
      record {
        sessions = ap (λ (x : Parts B D). x.sessions) comes.2.2;
        checkpoint = ap (λ (x : Parts B D). x.checkpoint) comes.2.2;
        log = comes.2.0.log;
        stamps = h.stamps;
        why =
            why_helped s old new n
            (helped passes d e old new n (begun old.volume size) (λ any. Unit {0}) h.fault h.help (λ any none. fills old size (mark_fills small key short) is none) h.can h.why tt h.helps h.is);
      }

  call_waits : (s : ℕ) (old new : Parts B D) (n : Need) (call : Call B) → StandsIn old.checkpoint old.volume
      → CallMoves k known r f passes IsKey spells key d e s old new call (Help n) → Waits s old new n
  call_waits s old new n Begin stands comes = let names = comes.0 in let no : ⊥ = cc in absurd no
  call_waits s old new n (Insert entry) stands comes = brings s old new n comes.1 (delayed_stamps _ passes d e old new n comes.0) (why_delayed _ passes d e s old new n comes.0)
  call_waits s old new n (Delete entry) stands comes = brings s old new n comes.1 (delayed_stamps _ passes d e old new n comes.0) (why_delayed _ passes d e s old new n comes.0)
  call_waits s old new n (Search query) stands comes = brings s old new n comes.1 comes.0.stamps (why_brought passes d e s old new n comes.0)
  call_waits s old new n Commit stands comes = seal_waits s old new n stands comes
  call_waits s old new n Abort stands comes = let names = comes.0 in let no : ⊥ = cc in absurd no

  at_waits : (s : ℕ) (old new : Parts B D) (n : Need) (at : Phase B (Work B)) → phase_at (s - 1) old.sessions.phases ≡ at → StandsIn old.checkpoint old.volume
      → MovesAt k known r f passes IsKey spells key d e s old new at (Help n) → Waits s old new n
  at_waits s old new n phase.Free is stands comes = let names = comes.0 in let no : ⊥ = cc in absurd no
  at_waits s old new n phase.Working is stands comes = let names = comes.0 in let no : ⊥ = cc in absurd no
  at_waits s old new n (phase.Open call work) is stands comes = call_waits s old new n call stands comes
  at_waits s old new n (phase.Undoing restored work) is stands comes = undo_waits s old new n (is_due old) (next_of s old.sessions) refl stands comes
  at_waits s old new n (phase.Waiting number) is stands comes = acknowledge_waits s number old new n (nat_le number old.sessions.durable) refl is comes

  by_waits : (s : ℕ) (old new : Parts B D) (n : Need) (there has failed : Bool) → StandsIn old.checkpoint old.volume
      → MovesBy k known r f passes IsKey spells key d e there has failed s old new (Help n) → Waits s old new n
  by_waits s old new n false has failed stands comes = let names = comes.0 in let no : ⊥ = cc in absurd no
  by_waits s old new n true false failed stands comes = let names = comes.0 in let no : ⊥ = cc in absurd no
  by_waits s old new n true true true stands comes = let names = comes.0 in let no : ⊥ = cc in absurd no
  by_waits s old new n true true false stands comes = at_waits s old new n (phase_at (s - 1) old.sessions.phases) refl stands comes

  move_waits : (s : ℕ) (old new : Parts B D) (n : Need) → StandsIn old.checkpoint old.volume → MoveComes k known r f passes IsKey spells key d e s old new (Help n) → Waits s old new n
  move_waits s old new n stands comes = by_waits s old new n (is_session s) (has_call (phase_at (s - 1) old.sessions.phases)) old.sessions.failed stands comes

-- ---- what there is to do

some_left : (n : ℕ) → (n ≡ 0 → ⊥) → 1 ≤ n
some_left zero some = absurd (some refl)
some_left (suc n) some = omega arith

not_so : (b : Bool) → (b ≡ true → ⊥) → b ≡ false
not_so true never = absurd (never refl)
not_so false never = refl

filled_left : (log : Log) → 1 ≤ length log.filling → 1 ≤ log_left log
filled_left log some = let one = one_fills log.filling some in omega (arith, one)

pub idle_of : (st : Stage) → flight_left st ≡ 0 → st ≡ Idle
idle_of Idle none = refl
idle_of Body none = let no : ⊥ = omega (arith, none) in absurd no
idle_of BodySync none = let no : ⊥ = omega (arith, none) in absurd no
idle_of Gate none = let no : ⊥ = omega (arith, none) in absurd no
idle_of GateSync none = let no : ⊥ = omega (arith, none) in absurd no

pub empty_of : (bytes : List ℕ) → fillings bytes ≡ 0 → bytes ≡ []
empty_of [] none = refl
empty_of (byte ∷ bytes) none = let no : ⊥ = omega (arith, none) in absurd no

-- if fewer than two frames are clean, some page has changes
some_dirty : (x : Frames) → AreFrames x → clean_count x < 2 → NoneDirty x → ⊥
some_dirty x are few clean =
    let zero_is = none_dirty_zero x are.sound clean in
    let all = all_but_held x are.sound in
    let held = are.held in
    let enough = are.enough in
    let no : ⊥ = omega (arith, zero_is, all, held, enough, few) in no

module _ {B : Type 0} (c : Class B) (r : Reading (Entry B) (Page B)) (f : Format B) (passes : ℕ → Contents → Bool) {D : Type 0} (d : Device) where
  -- if the log has nothing to do, each page that may not be written has no changes
  stamp_none : (v : Volume D) (bodies : List (List (Record (Entry B) (Page B)))) (s : Logged (Entry B) (Page B)) (page : ℕ) (stamp : Option ℕ) → stamp_of (kept v.shelf.frames page) ≡ stamp
      → Keeps (known_of c) r f passes d v bodies s → ((q : ℕ) → IsWritable v.shelf.frames q → ⊥) → log_left v.log ≡ 0 → stamp ≡ None
  stamp_none v bodies s page None is keeps none rests = refl
  stamp_none v bodies s page (Some place) is keeps none rests =
      let behind = keeps.runs.stamped.behind in
      let places = keeps.runs.up.on.sound.places in
      let idle : in_flight v.log.stage ≡ 0 = ap in_flight (idle_of v.log.stage (omega (arith, rests))) in
      let empty : length v.log.filling ≡ 0 = ap length (empty_of v.log.filling (omega (arith, rests))) in
      let late : v.shelf.frames.gated < place =
      leb-false place v.shelf.frames.gated (not_so (nat_le place v.shelf.frames.gated) (λ so. none page (ap (λ x. is_gated v.shelf.frames.gated x) is ∙ so))) in
      let no : ⊥ = elim (keeps.placed page place is) [
        | inl began ↦ omega (arith, began, behind, places, idle, late)
        | inr last ↦ let one = last.1 in omega (arith, one, empty)
      ] in
      absurd no

  none_dirty : (v : Volume D) (bodies : List (List (Record (Entry B) (Page B)))) (s : Logged (Entry B) (Page B)) → Keeps (known_of c) r f passes d v bodies s
      → ((q : ℕ) → IsWritable v.shelf.frames q → ⊥) → log_left v.log ≡ 0 → NoneDirty v.shelf.frames
  none_dirty v bodies s keeps none rests = λ page. stamp_none v bodies s page (stamp_of (kept v.shelf.frames page)) refl keeps none rests

  -- if the log has nothing to do, all commits are durable
  all_durable : (v : Volume D) (bodies : List (List (Record (Entry B) (Page B)))) (s : Logged (Entry B) (Page B)) → Keeps (known_of c) r f passes d v bodies s → log_left v.log ≡ 0
      → latest (known_of c) s ≡ durable (known_of c) s
  all_durable v bodies s keeps rests =
      let told = keeps.runs.up.carries.told in
      let idle = idle_of v.log.stage (omega (arith, rests)) in
      let flies : AreRecords r [] s.flight = subst (λ (t : Stage). AreRecords r (batch_of t v.log.flight) s.flight) idle told.flight in
      let flight : s.flight ≡ [] = one_way r [] s.flight [] flies (none_are r) in
      let waits : AreRecords r [] s.filling = subst (λ (bytes : List ℕ). AreRecords r bytes s.filling) (empty_of v.log.filling (omega (arith, rests))) told.filling in
      let filling : s.filling ≡ [] = one_way r [] s.filling [] waits (none_are r) in
      let all : s.gated ++ (s.flight ++ s.filling) ≡ s.gated =
      ap (λ (x : List (Record (Entry B) (Page B))). s.gated ++ (x ++ s.filling)) flight ∙ ap (λ (x : List (Record (Entry B) (Page B))). s.gated ++ x) filling ∙ append-nil s.gated in
      ap (λ (x : List (Record (Entry B) (Page B))). number_of (known_of c) x) all

  -- while a commit waits that is sealed and isn't durable, the log has something to do
  commit_left : (e : Parts B D) (bodies : List (List (Record (Entry B) (Page B)))) (i : index.State B) (number : ℕ) → Holds c r f passes d e bodies i → number ≤ e.sessions.latest
      → nat_le number e.sessions.durable ≡ false → 1 ≤ log_left e.volume.log
  commit_left e bodies i number holds sealed waits =
      some_left (log_left e.volume.log) (λ rests.
      (let all : latest (known_of c) i.log ≡ durable (known_of c) i.log = all_durable e.volume bodies i.log holds.keeps rests in
      let last : e.sessions.latest ≡ e.sessions.durable = holds.latest ∙ all ∙ sym holds.whole.sets.first ∙ holds.sessions.oldest in
      let below = leb-false number e.sessions.durable waits in
      omega (arith, last, below, sealed)))

  -- the log's next call is named
  log_works : (running : Bool) (e : Parts B D) → runs e.checkpoint ≡ running → (running ≡ false → 1 ≤ log_left e.volume.log) → HasWork (log_need running) e
  log_works true e is some = ap (λ b. b || nat_le CHECKPOINT_AT e.volume.log.used) is
  log_works false e is some = (is, some refl)

  frames_work : (least : Option ℕ) (running : Bool) (e : Parts B D) (bodies : List (List (Record (Entry B) (Page B)))) (i : index.State B) → runs e.checkpoint ≡ running
      → Holds c r f passes d e bodies i → AreFrames e.volume.shelf.frames → clean_count e.volume.shelf.frames < 2 → IsLeastWritable e.volume.shelf.frames least
      → HasWork (need_of running (Some (frame_by least))) e
  frames_work (Some page) running e bodies i is holds are few least = least.0
  frames_work None running e bodies i is holds are few least =
      log_works running e is (λ off. some_left (log_left e.volume.log) (λ rests. some_dirty e.volume.shelf.frames are few (none_dirty e.volume bodies i.log holds.keeps least rests)))

  helped_work : (old new : Parts B D) (n : Need) → new.checkpoint ≡ old.checkpoint → new.volume.log ≡ old.volume.log → WaitsForRoom old n ⊎ WaitsForFrames old new n
      → AreFrames new.volume.shelf.frames → (bodies : List (List (Record (Entry B) (Page B)))) (j : index.State B) → Holds c r f passes d new bodies j → HasWork n new
  helped_work old new n checkpoint log (inl room) are bodies j holds =
      let left_same : log_left new.volume.log ≡ log_left old.volume.log = ap log_left log in
      subst (λ (x : Need). HasWork x new) (sym room.0)
      (log_works (runs old.checkpoint) new (ap runs checkpoint) (λ off. (let few = filled_left old.volume.log (room.1 off) in omega (arith, few, left_same))))
  helped_work old new n checkpoint log (inr frames) are bodies j holds =
      subst (λ (x : Need). HasWork x new) (sym frames.2) (frames_work frames.0 (runs old.checkpoint) new bodies j (ap runs checkpoint) holds are frames.3 frames.1)

  work_by : (s : ℕ) (old new : Parts B D) (n : Need) → Waits s old new n → WaitsForSealed old.sessions.latest (phase_at (s - 1) old.sessions.phases) → AreFrames new.volume.shelf.frames
      → (bodies : List (List (Record (Entry B) (Page B)))) (j : index.State B) → Holds c r f passes d new bodies j → HasWork n new
  work_by s old new n waits sealed are bodies j holds =
      let running : runs new.checkpoint ≡ runs old.checkpoint = ap runs waits.checkpoint in
      let named : (m : Need) → n ≡ m → HasWork m new → HasWork n new = λ m is has. subst (λ (x : Need). HasWork x new) (sym is) has in
      elim waits.why [
        | inl due ↦ named need.Checkpoint due.0
            (ap (λ b. b || nat_le CHECKPOINT_AT new.volume.log.used) running ∙ ap (λ (l : Log). runs old.checkpoint || nat_le CHECKPOINT_AT l.used) waits.log ∙ due.1)
        | inr rest ↦ elim rest [
          | inl room ↦ helped_work old new n waits.checkpoint waits.log (inl room) are bodies j holds
          | inr other ↦ elim other [
            | inl frames ↦ helped_work old new n waits.checkpoint waits.log (inr frames) are bodies j holds
            | inr commit ↦ named (log_need (runs old.checkpoint)) commit.0
                (log_works (runs old.checkpoint) new running (λ off. commit_left new bodies j commit.1.0 holds
                (subst (λ n. commit.1.0 ≤ n) (sym (ap (λ x. x.latest) waits.sessions)) (sealed commit.1.0 commit.1.1))
                (ap (λ x. nat_le commit.1.0 x.durable) waits.sessions ∙ commit.1.2)))
          ]
        ]
      ]

-- if nothing was logged, no checkpoint moved and no page got a change, there is no more to flush
no_more : {B D : Type 0} (old new : Parts B D) → new.checkpoint ≡ old.checkpoint → new.volume.log ≡ old.volume.log → StampsStay old.volume.shelf new.volume.shelf → IsOrderly old → IsOrderly new
    → backlog new ≤ backlog old
no_more old new checkpoint log stamps was are =
    let same : log_left new.volume.log ≡ log_left old.volume.log = ap log_left log in
    let rest : checkpoint_left new.checkpoint new.volume.log ≡ checkpoint_left old.checkpoint old.volume.log =
    ap (λ x. checkpoint_left x new.volume.log) checkpoint ∙ ap (λ x. checkpoint_left old.checkpoint x) log in
    let fewer = no_more_dirty new.volume.shelf.frames old.volume.shelf.frames are.frames.sound was.frames.sound (λ page. sym (stamps page)) in
    omega (arith, same, rest, fewer)

-- ---- the laws

module _ {C B D : Type 0} (shape : Members B) (proper : B → Bool) (said : List ℕ → B) (class : Ghosts C B) (state : D → Device) (short : write_record class.KEY ≤ BODY_ROOM) (l : Limits) where
  pub waits_made : (old new : Parts B D) (s : ℕ) (n : Need) → StandsIn old.checkpoint old.volume → Makes shape (traits_of proper said class) state old (Move s) (Help n) new → Waits s old new n
  waits_made old new s n stands made =
      move_waits (keys_of shape) (known_at shape proper) (reading_of said (format_of class)) (format_of class) (is_node (format_of class)) class.is_key class.spelling class.KEY short
      (state old.volume.shelf.disk) (state new.volume.shelf.disk) s old new n stands made.comes

  pub names_work : NamesWork shape (traits_of proper said class) state l
  names_work old new s n bodies i holds made =
      let stepped = made.steps l bodies i holds in
      work_by (class_of shape proper l) (reading_of said (format_of class)) (format_of class) (is_node (format_of class)) (state new.volume.shelf.disk) s old new n
      (waits_made old new s n made.order.0.stands made) (made.order.0.sealed (s - 1)) made.order.1.frames stepped.led.bodies stepped.led.index stepped.led.holds

  pub waiting_leaves : WaitingLeavesAll shape (traits_of proper said class) state l
  waiting_leaves old new s n bodies i holds made =
      let stepped = made.steps l bodies i holds in
      let none : stepped.events ≡ [] = stepped.are.1 in
      let same : stepped.led.index ≡ i =
      subst (λ (events : List (Happening B)). AreHappening (class_of shape proper l) i events stepped.led.index) none stepped.led.happening in
      let waits = waits_made old new s n made.order.0.stands made in
      λ a. ap (λ (x : Sessions B (Work B)). left_by (phase_at (a - 1) x.phases) (work_left (class_of shape proper l) stepped.led.index a)) waits.sessions
      ∙ ap (λ (j : index.State B). left_by (phase_at (a - 1) old.sessions.phases) (work_left (class_of shape proper l) j a)) same

  -- nor is more left to flush
  pub waiting_flushes : (old new : Parts B D) (s : ℕ) (n : Need) → Makes shape (traits_of proper said class) state old (Move s) (Help n) new → backlog new ≤ backlog old
  waiting_flushes old new s n made =
      let waits = waits_made old new s n made.order.0.stands made in
      no_more old new waits.checkpoint waits.log waits.stamps made.order.0 made.order.1

  -- so of a page that is to be brought
  pub page_names_work : PageNamesWork shape (traits_of proper said class) state l
  page_names_work old new n bodies i holds was are comes =
      let waits = brings 0 old new n comes.1 comes.0.stamps (why_brought (is_node (format_of class)) (state old.volume.shelf.disk) (state new.volume.shelf.disk) 0 old new n comes.0) in (
        helped_work (class_of shape proper l) (reading_of said (format_of class)) (format_of class) (is_node (format_of class)) (state new.volume.shelf.disk) old new n waits.checkpoint waits.log
            (brought_waits (is_node (format_of class)) (state old.volume.shelf.disk) (state new.volume.shelf.disk) old new n comes.0) are.frames bodies i holds,
        no_more old new waits.checkpoint waits.log waits.stamps was are,
      )
