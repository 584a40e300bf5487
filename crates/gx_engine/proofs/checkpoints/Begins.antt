-- A checkpoint's turn begins: its head is the log renewed.
use Rattle.std.proofs.Common.{◌≡◌, ◌≢◌, ◌∙◌, sym, ap, refl, subst, inl, ℕ, ◌+◌, ◌*◌, ◌≤◌, Bool, true, false, List, [], ◌∷◌, ◌++◌, length, Result, Ok, Err, arith}
use Rattle.std.proofs.lemmas.List.{append-nil}
use Rattle.gx_machine.specs.declared.entry.Entry.{Entry}
use Rattle.gx_geom.specs.declared.refusal.Refusal.TheVariants.{Device as DeviceRefusal}
use Rattle.gx_disk.specs.Device.{Device, IsSettled}
use Rattle.gx_page.specs.Contents.{Contents}
use Rattle.gx_node.specs.Reading.{Format}
use Rattle.gx_glog.specs.declared.stage.Stage.{Stage}
use Rattle.gx_glog.specs.declared.stage.Stage.TheVariants.{Idle}
use Rattle.gx_glog.specs.declared.stage.Turn.{Turn}
use Rattle.gx_glog.specs.declared.stage.Turn.TheVariants.{Closed}
use Rattle.gx_glog.specs.Layout.{other_of}
use Rattle.gx_glog.specs.Standing.{Flies}
use Rattle.gx_glog.specs.Standing as glog
use Rattle.gx_glog.specs.State.{Log, in_flight, turning}
use Rattle.gx_glog.specs.declared.extent.TheConstants.{BODY_ROOM}
use Rattle.gx_pool.specs.State.{NoneDirty}
use Rattle.gx_recovery.specs.Known.{Known}
use Rattle.gx_recovery.specs.Records.{Record, Counters, Touch}
use Rattle.gx_recovery.specs.Analysis.{analysis}
use Rattle.gx_recovery.specs.Logged.{Logged, all_records}
use Rattle.gx_recovery.specs.Renewal.{notes_of, renewed}
use Rattle.gx_index_laws.specs.Classes.{Class, IsLawful, Page, known_of}
use Rattle.gx_index_laws.specs.States as index
use Rattle.gx_events.specs.Happenings.{Fails}
use Rattle.gx_index_laws.proofs.Standing.{known_lawful}
use Rattle.gx_durable.specs.Area.{IsSettledBut}
use Rattle.gx_durable.specs.Spelled.{Reading, AreRecords}
use Rattle.gx_durable.specs.Standing.{batch_of}
use Rattle.gx_events.specs.declared.outcome.Outcome.{Outcome}
use Rattle.gx_events.specs.declared.outcome.Outcome.TheVariants.{More, Refused}
use Rattle.gx_events.specs.Steps.{IsSync}
use Rattle.gx_durable.proofs.Spellings.{one_way, none_are}
use Rattle.gx_durable.proofs.Storing.{nothing_dirty}
use Rattle.gx_store.specs.declared.fault.StoreFault.{StoreFault}
use Rattle.gx_record.specs.declared.sizes.TheConstants.{COUNTERS_RECORD}
use Rattle.gx_storage.specs.Flushing.{KeepsOn}
use Rattle.gx_storage.specs.Keeps.{Keeps}
use Rattle.gx_storage.specs.State.{Volume}
use Rattle.gx_storage.proofs.Calling.{rests_none}
use Rattle.gx_phases.specs.Moves.{failed_state}
use Rattle.gx_phases.specs.States.{IsKept}
use Rattle.gx_engine.specs.declared.checkpoint.Checkpoint.TheVariants.{Turning}
use Rattle.gx_engine.specs.Checkpoints.{IsQuiet}
use Rattle.gx_engine.specs.Ending.{SparesSo}
use Rattle.gx_engine.specs.Holds.{Holds, MayRenewBy}
use Rattle.gx_engine.specs.Noted.{AreNoted}
use Rattle.gx_engine.specs.Heads.{OnlyHead, Puts, PutsHead, note_record}
use Rattle.gx_engine.specs.States.{Parts}
use Rattle.gx_engine.proofs.checkpoints.Turns.{fault_led, turns_led}
use Rattle.gx_engine.proofs.checkpoints.Noted.{are_noted}

-- A turn begins: what was written is settled, and the head is the renewed log.
module _ {B D : Type 0} (c : Class B) (l : IsLawful c) (r : Reading (Entry B) (Page B)) (f : Format B) (passes : ℕ → Contents → Bool)
    (d e : Device) (old : Parts B D) (kept : IsKept c.keys old.sessions) (bodies : List (List (Record (Entry B) (Page B)))) (i : index.State B) (h : Holds c r f passes d old bodies i)
    (quiet : IsQuiet old.volume) (clean : NoneDirty old.volume.shelf.frames) (bare : old.volume.log.flight ≡ [])
    (u w : Volume D) (same_log : u.log ≡ old.volume.log) (counter : u.shelf.counter ≡ old.volume.shelf.counter) (used : u.shelf.used ≡ old.volume.shelf.used) where
  abbrev kn : Known (Entry B) (Page B)
  kn = known_of c

  abbrev touches : List (Touch (Entry B))
  touches = (analysis kn (all_records i.log)).touched

  noted : AreNoted old.sessions touches
  noted = are_noted c l i h.whole old.sessions kept h.sessions h.told

  no_flight : i.log.flight ≡ []
  no_flight = rests_none kn r old.volume.log d bodies i.log h.keeps.runs.up quiet.idle

  no_filling : i.log.filling ≡ []
  no_filling =
      let A : List ℕ → Type 0 = λ bytes. AreRecords r bytes i.log.filling in
      one_way r [] i.log.filling [] (subst A quiet.quiet h.keeps.runs.up.carries.told.filling) (none_are r)

  all_gated : all_records i.log ≡ i.log.gated
  all_gated =
      ap (λ (x : List (Record (Entry B) (Page B))). i.log.gated ++ (x ++ i.log.filling)) no_flight
      ∙ ap (λ (x : List (Record (Entry B) (Page B))). i.log.gated ++ x) no_filling ∙ append-nil i.log.gated

  -- there is room for it
  pub is_full : (fault : StoreFault) → PutsHead r old.sessions u w (Err fault) → u.log.turn ≡ Closed → ⊥
  is_full fault puts closed =
      let full = puts touches noted closed in
      let few = noted.few in
      let none : length u.log.flight ≡ 0 = ap (λ (g : Log). length g.flight) same_log ∙ ap length bare in
      omega (arith, full, few, none)

  pub has_room : (result : Result (Unit {0}) StoreFault) → PutsHead r old.sessions u w result → u.log.turn ≡ Closed
      → Puts r (Counters old.sessions.latest u.shelf.counter u.shelf.used old.sessions.next ∷ notes_of touches) (COUNTERS_RECORD + note_record * length touches) u.log w.log
  has_room (Ok done) puts closed = puts touches noted
  has_room (Err fault) puts closed = absurd (is_full fault puts closed)

  abbrev head_at : ℕ → ℕ → ℕ → ℕ → List (Record (Entry B) (Page B)) → List (Record (Entry B) (Page B))
  head_at n counter used next log = Counters n counter used next ∷ notes_of (analysis kn log).touched

  head_is : Puts r (Counters old.sessions.latest u.shelf.counter u.shelf.used old.sessions.next ∷ notes_of touches) (COUNTERS_RECORD + note_record * length touches) u.log w.log → AreRecords r w.log.flight (renewed kn i.next i.log.gated)
  head_is puts =
      let A : List (Record (Entry B) (Page B)) → Type 0 = λ xs. AreRecords r w.log.flight xs in
      let empty : AreRecords r u.log.flight [] = subst (λ (bytes : List ℕ). AreRecords r bytes []) (sym (ap (λ (g : Log). g.flight) same_log ∙ bare)) (none_are r) in
      let now : A (head_at old.sessions.latest u.shelf.counter u.shelf.used old.sessions.next (all_records i.log)) = puts.has [] empty in
      let log = all_records i.log in
      subst (λ (x : List (Record (Entry B) (Page B))). A (head_at (analysis kn x).number (analysis kn x).counter (analysis kn x).used i.next x)) all_gated
      (subst (λ n. A (head_at (analysis kn log).number (analysis kn log).counter (analysis kn log).used n log)) (sym h.sessions.next)
      (subst (λ n. A (head_at (analysis kn log).number (analysis kn log).counter n old.sessions.next log)) (used ∙ sym h.keeps.used)
      (subst (λ n. A (head_at (analysis kn log).number n u.shelf.used old.sessions.next log)) (counter ∙ sym h.keeps.counter)
      (subst (λ n. A (head_at n u.shelf.counter u.shelf.used old.sessions.next log)) h.latest now))))

  pub may_renew : IsSettledBut (λ p. false) e.sectors e.pending → Puts r (Counters old.sessions.latest u.shelf.counter u.shelf.used old.sessions.next ∷ notes_of touches) (COUNTERS_RECORD + note_record * length touches) u.log w.log
      → MayRenewBy kn r i.next w.log.flight e.sectors e.pending i.log
  may_renew settled puts = record {
    may = record {
      no_flight = no_flight;
      no_filling = no_filling;
      written = nothing_dirty r kn.pages old.volume.shelf.frames d.seen i.log h.keeps.runs.up.carries.area clean h.keeps.steady.backed no_flight no_filling h.keeps.stored;
      settled = settled;
      next = i.next;
      covers = (let covers = h.whole.next in let same = ap (λ (x : List (Record (Entry B) (Page B))). (analysis kn x).next) all_gated in omega (arith, covers, same));
      head_is = head_is puts;
    };
    begun = omega arith;
  }

-- a head that changes while the log rests leaves the state that is kept
module _ {B D : Type 0} (k : Known (Entry B) (Page B)) (r : Reading (Entry B) (Page B)) (f : Format B) (passes : ℕ → Contents → Bool) (e : Device) (u w : Volume D)
    (bodies : List (List (Record (Entry B) (Page B)))) (s : Logged (Entry B) (Page B)) (idle : u.log.stage ≡ Idle) (closed : u.log.turn ≡ Closed) (few : length w.log.flight ≤ BODY_ROOM) where
  abbrev head : List ℕ
  head = w.log.flight

  with_head : Keeps k r f passes e u bodies s → Keeps k r f passes e (record u { log = record u.log { flight = head } }) bodies s
  with_head old =
      let on = old.runs.up.on in
      let carries = old.runs.up.carries in
      let none : in_flight u.log.stage ≡ 0 = ap in_flight idle in
      let still : turning u.log.turn ≡ 0 = ap turning closed in
      record {
        runs = record {
          up = record {
            on = record {
              sound = record {
                places = on.sound.places;
                few = on.sound.few;
                one = on.sound.one;
                some = omega (arith, none, still);
                fits = few;
                filled = on.sound.filled;
                room = on.sound.room;
                tails = on.sound.tails;
                batch = λ flies. absurd (omega (arith, flies, none));
                head = λ turns. absurd (omega (arith, turns, still));
              };
              batches = on.batches;
              flight = subst (λ (x : Stage). Flies x u.log.extent u.log.gated head e.seen e.pending) (sym idle) tt;
              turn =
                  subst (λ (x : Turn). glog.Leads x u.log.extent (other_of u.log.extent) head e.seen e.pending) (sym closed)
                  (subst (λ (x : Turn). glog.Leads x u.log.extent (other_of u.log.extent) u.log.flight e.seen e.pending) closed on.turn);
              quiet = on.quiet;
              tails = on.tails;
            };
            carries = record {
              told = record {
                gated_bodies = carries.told.gated_bodies;
                gated = carries.told.gated;
                flight =
                    subst (λ (x : Stage). AreRecords r (batch_of x head) s.flight) (sym idle)
                    (subst (λ (x : Stage). AreRecords r (batch_of x u.log.flight) s.flight) idle carries.told.flight);
                filling = carries.told.filling;
              };
              undamaged = carries.undamaged;
              healthy = carries.healthy;
              fit = carries.fit;
              has_pages = carries.has_pages;
              head = carries.head;
              area = carries.area;
              settled = carries.settled;
              turn = λ turns. absurd (omega (arith, still, turns));
            };
          };
          stamped = record { behind = old.runs.stamped.behind; places = old.runs.stamped.places; gated = old.runs.stamped.gated; flight = old.runs.stamped.flight };
        };
        said = old.said;
        placed = old.placed;
        steady = old.steady;
        readable = old.readable;
        stored = old.stored;
        used = old.used;
        counter = old.counter;
        pages = old.pages;
        formed = old.formed;
        imaged = old.imaged;
      }

  pub head_kept : OnlyHead u w → Keeps k r f passes e u bodies s → Keeps k r f passes e w bodies s
  head_kept only old = subst (λ (x : Volume D). Keeps k r f passes e x bodies s) (sym only) (with_head old)

-- What was written is settled, and the head is put.
module _ {B D : Type 0} (c : Class B) (lawful : 4 ≤ c.rules.most → IsLawful c) (r : Reading (Entry B) (Page B)) (f : Format B) (passes : ℕ → Contents → Bool)
    (d e : Device) (old : Parts B D) (kept : IsKept c.keys old.sessions) (works : old.sessions.failed ≡ false) (calm : old.checkpoint ≢ Turning)
    (quiet : IsQuiet old.volume) (clean : NoneDirty old.volume.shelf.frames) (closed : old.volume.log.turn ≡ Closed)
    (u w : Volume D) (same_log : u.log ≡ old.volume.log) (counter : u.shelf.counter ≡ old.volume.shelf.counter) (used : u.shelf.used ≡ old.volume.shelf.used) (most : u.most ≡ old.volume.most)
    (keeps : KeepsOn (known_of c) r f passes d e old.volume u) where
  pub sync_fails : SparesSo c r f passes d e old (record old { volume = u; sessions = failed_state old.sessions }) (IsSync false (Refused DeviceRefusal))
  sync_fails bodies i h =
      let l = lawful h.some in
      let b = keeps bodies i.log (known_lawful c l) h.keeps in
      (Fails ∷ [], (refl, inl refl), fault_led c l r f passes d e old u bodies i h most b.keeps b.safely.leaves)

  module _ (settled : d.honest ≡ true → IsSettled e) (only : OnlyHead u w) where
    still_closed : u.log.turn ≡ Closed
    still_closed = ap (λ (g : Log). g.turn) same_log ∙ closed

    pub turn_led : PutsHead r old.sessions u w (Ok tt) → SparesSo c r f passes d e old (record old { volume = w; checkpoint = Turning }) (IsSync false More)
    turn_led puts bodies i h =
        let l = lawful h.some in
        let bare = h.bare works calm quiet.idle in
        let b = keeps bodies i.log (known_lawful c l) h.keeps in
        let has = has_room c l r f passes d e old kept bodies i h quiet clean bare u w same_log counter used (Ok tt) puts still_closed in
        let fits = has.fits (let none : length u.log.flight ≡ 0 = ap (λ (g : Log). length g.flight) same_log ∙ ap length bare in omega (arith, none)) in
        let idle : u.log.stage ≡ Idle = ap (λ (g : Log). g.stage) same_log ∙ quiet.idle in
        let by =
        may_renew c l r f passes d e old kept bodies i h quiet clean bare u w same_log counter used
        (λ p sector is named within. settled h.keeps.steady.honest sector) has in (
          [],
          (refl, inl refl),
          turns_led c l r f passes d e old w bodies i h (ap (λ (v : Volume D). v.most) only ∙ most) (ap (λ (v : Volume D). v.log.stage) only ∙ idle) by
              (head_kept (known_of c) r f passes e u w bodies i.log idle still_closed fits only b.keeps) b.safely.leaves,
        )

    -- there is room for it
    pub never_full : (fault : StoreFault) → PutsHead r old.sessions u w (Err fault) → (new : Parts B D) (outcome : Outcome B) → SparesSo c r f passes d e old new (IsSync false outcome)
    never_full fault puts new outcome bodies i h =
        let l = lawful h.some in
        let bare = h.bare works calm quiet.idle in
        absurd (is_full c l r f passes d e old kept bodies i h quiet clean bare u w same_log counter used fault puts still_closed)
