-- An engine that holds an index: what a change of it keeps.
use Rattle.std.proofs.Common.{◌≡◌, ◌≢◌, ◌∙◌, sym, ap, refl, subst, ℕ, ◌-◌, ◌<◌, ◌≤◌, true, false, List, Option, length, arith}
use Rattle.std.specs.Prelude.{nat_le}
use Rattle.std.specs.List.{slice_index_or}
use Rattle.std.proofs.lemmas.Bool.{leb-false, or_parts}
use Rattle.std.proofs.lemmas.List.{set-get_or}
use Rattle.gx_machine.specs.declared.entry.Entry.{Entry}
use Rattle.gx_machine.specs.Keys.{Keys}
use Rattle.gx_machine.specs.Machine.{is_session}
use Rattle.gx_machine.proofs.Places.{session_bounds}
use Rattle.gx_disk.specs.Device.{Device}
use Rattle.gx_pool.specs.Bringing.{OnlyRead}
use Rattle.gx_pool.specs.Marks.{is_gated}
use Rattle.gx_pool.specs.State.{kept, stamp_of}
use Rattle.gx_record.specs.Rec.{Rec}
use Rattle.gx_glog.specs.State.{Log}
use Rattle.gx_glog.specs.declared.stage.Turn.TheVariants.{Closed}
use Rattle.gx_recovery.specs.Known.{Known}
use Rattle.gx_recovery.specs.Logged.{Logged}
use Rattle.gx_durable.specs.Area.{IsSettledBut}
use Rattle.gx_durable.specs.Spelled.{Reading}
use Rattle.gx_durable.specs.Standing.{MayRenew}
use Rattle.gx_storage.specs.Keeps.{Logs}
use Rattle.gx_storage.specs.State.{Volume}
use Rattle.gx_index_laws.specs.States as index
use Rattle.gx_events.specs.Slots.{Slot, slot_at, with_slot}
use Rattle.gx_index_laws.specs.Happening.{slotted}
use Rattle.gx_index_laws.specs.declared.TheConstants.{CHECKPOINT_AT}
use Rattle.gx_txn.specs.Tables.{Held, nothing_held, with_held}
use Rattle.gx_phases.specs.Indexes.{AreOf}
use Rattle.gx_phases.specs.declared.phase.Phase.{Phase}
use Rattle.gx_phases.specs.States.{State, IsKept, held_at, phase_at, slot_of, slots_of, with_phase}
use Rattle.gx_phases.proofs.Slots.{placed_set, slot_here, slots_set}
use Rattle.gx_engine.specs.declared.checkpoint.Checkpoint.{Checkpoint}
use Rattle.gx_engine.specs.declared.checkpoint.Checkpoint.TheVariants.{Off, Running, Turning}
use Rattle.gx_engine.specs.declared.work.Work.{Work}
use Rattle.gx_engine.specs.Holds.{AreAt, IsAt, MayRenewBy}
use Rattle.gx_engine.specs.States.{Parts, StandsIn, is_due, runs}

-- One session's phase and what it holds have changed, and what it is at; the others are at what they were.
module _ {B : Type 0} (k : Keys B) (old new : State B (Work B)) (i j : index.State B) (kept : IsKept k old) (s : ℕ) (is : is_session s ≡ true) (p : Phase B (Work B)) (h : Held B)
    (phases : new.phases ≡ with_phase s p old.phases) (table : new.table ≡ with_held s h old.table)
    (work : (a : ℕ) → a ≢ s → j.work a ≡ i.work a) (restored : (a : ℕ) → a ≢ s → j.restored a ≡ i.restored a) where
  other_at : (a : ℕ) → a ≢ s → (q : Phase B (Work B)) (g : Held B) → IsAt k q g.notes (i.work a) (i.restored a) → IsAt k q g.notes (j.work a) (j.restored a)
  other_at a ne q g at =
      subst (λ (x : index.Work B). IsAt k q g.notes x (j.restored a)) (sym (work a ne))
      (subst (λ (x : List (Entry B)). IsAt k q g.notes (i.work a) x) (sym (restored a ne)) at)

  pub session_at : IsAt k p h.notes (j.work s) (j.restored s) → AreAt k old i → AreAt k new j
  session_at own at a there =
      let mine : (0 < s) × (s < 9) = session_bounds s is in
      let its : (0 < a) × (a < 9) = session_bounds a there in
      let P : Phase B (Work B) → Held B → Type 0 = λ q g. IsAt k q g.notes (j.work a) (j.restored a) in
      subst (λ (ps : List (Phase B (Work B))). P (phase_at (a - 1) ps) (held_at (a - 1) new.table)) (sym phases)
      (subst (λ (hs : List (Held B)). P (phase_at (a - 1) (with_phase s p old.phases)) (held_at (a - 1) hs)) (sym table)
      (placed_set P old.phases old.table (s - 1) (a - 1) p h (omega (arith, kept.phases, mine.0, mine.1)) (omega (arith, kept.table, mine.0, mine.1))
      (λ e. let same : a ≡ s = omega (arith, e, mine.0, its.0) in
      subst (λ (n : ℕ). IsAt k p h.notes (j.work n) (j.restored n)) (sym same) own)
      (λ ne. other_at a (λ same. ne (ap (λ n. n - 1) same)) (phase_at (a - 1) old.phases) (held_at (a - 1) old.table) (at a there))))

-- the present table, with what a session holds
pub held_as_it_is : {B : Type 0} (s : ℕ) (table : List (Held B)) → table ≡ with_held s (held_at (s - 1) table) table
held_as_it_is s table = sym (set-get_or table (s - 1) nothing_held)

-- the sessions of an index of which one has another slot and other work
module _ {B : Type 0} (k : Keys B) (old new : State B (Work B)) (i : index.State B) (kept : IsKept k old) (of : AreOf old i) (s : ℕ) (p : Phase B (Work B)) (h : Held B)
    (phases : new.phases ≡ with_phase s p old.phases) (table : new.table ≡ with_held s h old.table) where
  pub session_slots : slots_of new.phases new.table ≡ with_slot s (slot_of p h) i.slots
  session_slots =
      ap (λ (ps : List (Phase B (Work B))). slots_of ps new.table) phases ∙ ap (λ (hs : List (Held B)). slots_of (with_phase s p old.phases) hs) table
      ∙ slots_set old.phases old.table (s - 1) p h (kept.phases ∙ sym kept.table) ∙ ap (λ (xs : List (Slot B)). with_slot s (slot_of p h) xs) (sym of.slots)

  pub session_of : (work : index.Work B) → new.transactions ≡ old.transactions → new.next ≡ old.next → new.durable ≡ old.durable → new.failed ≡ old.failed → AreOf new (slotted s (slot_of p h) work i)
  session_of work transactions next durable failed = record {
    slots = sym session_slots;
    transactions = λ a is. of.transactions a is ∙ ap (λ (xs : List ℕ). slice_index_or xs (a - 1) 0) (sym transactions);
    next = of.next ∙ sym next;
    oldest = of.oldest ∙ sym durable;
    failed = of.failed ∙ sym failed;
  }

-- a session's slot is its phase with what it holds
pub slot_is : {B : Type 0} (k : Keys B) (old : State B (Work B)) (i : index.State B) → IsKept k old → AreOf old i → (s : ℕ) → is_session s ≡ true
    → slot_at s i.slots ≡ slot_of (phase_at (s - 1) old.phases) (held_at (s - 1) old.table)
slot_is {B} k old i kept of s is = ap (λ (xs : List (Slot B)). slot_at s xs) of.slots ∙ slot_here s old.phases old.table is (kept.phases ∙ sym kept.table)

-- A device has as many sectors as before, and what was settled on it is.
pub record StaysSettled (d e : Device) : Type 0 where
  pub sectors : e.sectors ≡ d.sectors
  pub settled : (s : ℕ) → d.pending s ≡ false → e.pending s ≡ false

pub same_device : (d : Device) → StaysSettled d d
same_device d = record { sectors = refl; settled = λ s is. is }

pub of_reads : (d e : Device) → OnlyRead d e → d.honest ≡ true → StaysSettled d e
of_reads d e read honest = record { sectors = read.sectors; settled = (read.rests honest).settled }

-- so a log that may be renewed may be still
unfoldable pub may_renew_still : {E P : Type 0} (k : Known E P) (r : Reading E P) (head : List ℕ) (d e : Device) (s : Logged E P) → StaysSettled d e
    → MayRenew k r head d.sectors d.pending s → MayRenew k r head e.sectors e.pending s
may_renew_still k r head d e s stays may = record {
  no_flight = may.no_flight;
  no_filling = may.no_filling;
  written = may.written;
  settled =
      subst (λ (n : ℕ). IsSettledBut (λ p. false) n e.pending) (sym stays.sectors)
      (λ page sector is named within. stays.settled sector (may.settled page sector is named within));
  next = may.next;
  covers = may.covers;
  head_is = may.head_is;
}

pub renews_still : {E P : Type 0} (k : Known E P) (r : Reading E P) (now next : ℕ) (head : List ℕ) (d e : Device) (s : Logged E P) → StaysSettled d e → now ≤ next
    → MayRenewBy k r now head d.sectors d.pending s → MayRenewBy k r next head e.sectors e.pending s
unfolding may_renew_still
renews_still k r now next head d e s stays rises by = record { may = may_renew_still k r head d e s stays by.may; begun = (let low = by.begun in omega (arith, low, rises)) }

-- A log has the same batch in flight, or the same head, at the same call.
pub record FliesOn (old new : Log) : Type 0 where
  pub stage : new.stage ≡ old.stage
  pub flight : new.flight ≡ old.flight

-- so has one that is longer by a record
pub flies_on : {x : Rec} (old new : Log) → Logs x old new → FliesOn old new
flies_on old new logs = record { stage = ap (λ (g : Log). g.stage) logs.log; flight = ap (λ (g : Log). g.flight) logs.log }

-- no checkpoint runs, so none turns
pub is_calm : (x : Checkpoint) → runs x ≡ false → x ≢ Turning
is_calm Off off turns = absurd (let no : ◌≡◌ {A = Checkpoint} Off Turning = turns in cc)
is_calm Running off turns = absurd (let no : true ≡ false = off in cc)
is_calm Turning off turns = absurd (let no : true ≡ false = off in cc)

-- if no checkpoint runs the log doesn't turn
pub is_still : {D : Type 0} (x : Checkpoint) (v : Volume D) → StandsIn x v → runs x ≡ false → v.log.turn ≡ Closed
is_still Off v stands off = stands
is_still Running v stands off = stands
is_still Turning v stands off = absurd (let no : true ≡ false = off in cc)

-- if a page may be written the log doesn't turn
pub writes_still : {D : Type 0} (x : Checkpoint) (v : Volume D) (page : ℕ) → StandsIn x v → is_gated v.shelf.frames.gated (stamp_of (kept v.shelf.frames page)) ≡ true
    → (x ≢ Turning) × (v.log.turn ≡ Closed)
writes_still Off v page stands gated = (λ turns. (let no : ◌≡◌ {A = Checkpoint} Off Turning = turns in cc), stands)
writes_still Running v page stands gated = (λ turns. (let no : ◌≡◌ {A = Checkpoint} Running Turning = turns in cc), stands)
writes_still Turning v page stands gated =
    absurd (let no : true ≡ false = sym gated ∙ ap (λ (x : Option ℕ). is_gated v.shelf.frames.gated x) (stands.clean page) in cc)

-- an event that doesn't wait for a checkpoint: none runs, and fewer than `CHECKPOINT_AT` places are taken
pub not_due : {B D : Type 0} (e : Parts B D) → is_due e ≡ false → (runs e.checkpoint ≡ false) × (e.volume.log.used < CHECKPOINT_AT)
not_due e early =
    let both = or_parts (runs e.checkpoint) (nat_le CHECKPOINT_AT e.volume.log.used) early in
    (both.0, leb-false CHECKPOINT_AT e.volume.log.used both.1)

-- pages that were only read are in a checkpoint as before
pub reads_stand : {D : Type 0} (x : Checkpoint) (v w : Volume D) → w.log ≡ v.log → ((page : ℕ) → stamp_of (kept w.shelf.frames page) ≡ stamp_of (kept v.shelf.frames page))
    → StandsIn x v → StandsIn x w
reads_stand Off v w log stamps stands = ap (λ (g : Log). g.turn) log ∙ stands
reads_stand Running v w log stamps stands = ap (λ (g : Log). g.turn) log ∙ stands
reads_stand Turning v w log stamps stands = record {
  idle = ap (λ (g : Log). g.stage) log ∙ stands.idle;
  quiet = ap (λ (g : Log). g.filling) log ∙ stands.quiet;
  head = subst (λ (g : Log). 1 ≤ length g.flight) (sym log) stands.head;
  clean = λ page. stamps page ∙ stands.clean page;
}
