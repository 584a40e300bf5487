-- The moves of a commit as an index's events.
use Rattle.std.proofs.Common.{◌≡◌, ◌≢◌, ◌∙◌, sym, ap, refl, subst, ℕ, ◌-◌, ◌+◌, ◌≤◌, Bool, true, false, Option, None, Some, List, [], ◌∷◌, ◌++◌, length, map, length-append, arith}
use Rattle.std.specs.Prelude.{if◌then◌else◌, nat_le}
use Rattle.std.proofs.lemmas.Bool.{leb-true}
use Rattle.gx_machine.specs.declared.entry.Entry.{Entry}
use Rattle.gx_machine.specs.declared.call.Call.TheVariants.{Begin, Insert, Delete, Search, Commit, Abort}
use Rattle.gx_machine.specs.Machine.{is_session}
use Rattle.gx_disk.specs.Device.{Device}
use Rattle.gx_disk.proofs.Leaving.{nothing_leaves}
use Rattle.gx_page.specs.Contents.{Contents}
use Rattle.gx_node.specs.Reading.{Format}
use Rattle.gx_glog.specs.declared.stage.Stage.{Stage}
use Rattle.gx_recovery.specs.Known.{Known}
use Rattle.gx_recovery.specs.Coming.{MayCome}
use Rattle.gx_recovery.specs.Analysis.{Analysis, analysis, without}
use Rattle.gx_recovery.specs.Records.{Record, Touch}
use Rattle.gx_recovery.proofs.Folds.{analysis-snoc}
use Rattle.gx_recovery.specs.Records as records
use Rattle.gx_recovery.specs.Logged.{all_records, appended, durable, gate_synced, latest}
use Rattle.gx_events.specs.Slots as slots
use Rattle.gx_events.specs.Slots.{Working, Waiting, slot_at}
use Rattle.gx_events.specs.Happenings.{Acknowledges, Seals}
use Rattle.gx_index_laws.specs.Classes.{Class, IsLawful, Page, known_of}
use Rattle.gx_index_laws.specs.States as index
use Rattle.gx_index_laws.specs.Happening.{Happens, slotted}
use Rattle.gx_index_laws.specs.Whole.{is_busy}
use Rattle.gx_index_laws.proofs.AskedCalls.{acknowledged}
use Rattle.gx_index_laws.proofs.Closing.{sealed}
use Rattle.gx_index_laws.proofs.Standing.{grown, known_lawful}
use Rattle.gx_index_laws.proofs.Tools.{changed_beside}
use Rattle.gx_durable.specs.Spelled.{Reading}
use Rattle.gx_events.specs.declared.outcome.Outcome.TheVariants.{More}
use Rattle.gx_record.specs.Rec as rec
use Rattle.gx_durable.specs.Standing.{Stands}
use Rattle.gx_txn.specs.Tables.{nothing_held}
use Rattle.gx_phases.specs.declared.phase.Phase.{Phase}
use Rattle.gx_phases.specs.declared.phase.Phase.TheVariants as phase
use Rattle.gx_phases.specs.Moves.{Acknowledged, asks_commit, covered, sealed_state, transaction_of, waits_for}
use Rattle.gx_phases.specs.States.{State, IsKept, held_at, note_of, phase_at, slot_of, with_phase_of}
use Rattle.gx_storage.specs.Flushing.{KeepsRecord}
use Rattle.gx_storage.specs.Keeps.{Keeps}
use Rattle.gx_storage.specs.State.{Volume}
use Rattle.gx_engine.specs.declared.work.Work.{Work}
use Rattle.gx_engine.specs.declared.checkpoint.Checkpoint.TheVariants.{Turning}
use Rattle.gx_engine.specs.States.{Parts, runs}
use Rattle.gx_engine.specs.Holds.{Holds, KnowsFlight, Led, Leads, LeadsSo}
use Rattle.gx_engine.specs.Commits.{AcknowledgeBy, AcknowledgeComes, AreSealing, acknowledge_events, commit_outcome}
use Rattle.gx_engine.proofs.Flushing.{nothing_led}
use Rattle.gx_engine.specs.Noted.{has_transaction, touched_by}
use Rattle.gx_engine.proofs.Noting.{busy_slot, told_phase, told_set, without_others}
use Rattle.gx_engine.proofs.Serving.{FliesOn, held_as_it_is, session_at, session_of, slot_is}

-- a session that asked a commit has that call open
record CommitIsOpen {B : Type 0} (p : Phase B (Work B)) : Type 0 where
  pub work : Work B
  pub is : p ≡ phase.Open Commit work

commit_is_open : {B : Type 0} (p : Phase B (Work B)) → asks_commit p ≡ true → CommitIsOpen p
commit_is_open phase.Free asks = let no : ⊥ = cc in absurd no
commit_is_open phase.Working asks = let no : ⊥ = cc in absurd no
commit_is_open (phase.Open Begin work) asks = let no : ⊥ = cc in absurd no
commit_is_open (phase.Open (Insert e) work) asks = let no : ⊥ = cc in absurd no
commit_is_open (phase.Open (Delete e) work) asks = let no : ⊥ = cc in absurd no
commit_is_open (phase.Open (Search q) work) asks = let no : ⊥ = cc in absurd no
commit_is_open (phase.Open Commit work) asks = record { work = work; is = refl }
commit_is_open (phase.Open Abort work) asks = let no : ⊥ = cc in absurd no
commit_is_open (phase.Undoing restored work) asks = let no : ⊥ = cc in absurd no
commit_is_open (phase.Waiting number) asks = let no : ⊥ = cc in absurd no

module _ {B D : Type 0} (c : Class B) (l : IsLawful c) (r : Reading (Entry B) (Page B)) (f : Format B) (passes : ℕ → Contents → Bool)
    (d : Device) (old : Parts B D) (kept : IsKept c.keys old.sessions) (works : old.sessions.failed ≡ false) (s : ℕ) (is : is_session s ≡ true)
    (bodies : List (List (Record (Entry B) (Page B)))) (i : index.State B) (h : Holds c r f passes d old bodies i) where
  abbrev k : Known (Entry B) (Page B)
  k = known_of c

  abbrev touches : List (Touch (Entry B))
  touches = (analysis k (all_records i.log)).touched

  module _ (calm : old.checkpoint ≢ Turning) (asks : asks_commit (phase_at (s - 1) old.sessions.phases) ≡ true) (w : Volume D) (same_most : w.most ≡ old.volume.most) (flies : FliesOn old.volume.log w.log)
      (keeps : MayCome k i.log.area (all_records i.log) (records.Commit (transaction_of s old.sessions) (old.sessions.latest + 1)) → Keeps k r f passes d old.volume bodies i.log
      → Keeps k r f passes d w bodies (appended (records.Commit (transaction_of s old.sessions) (old.sessions.latest + 1)) i.log)) where
    abbrev number : ℕ
    number = old.sessions.latest + 1

    abbrev its : index.State B → Record (Entry B) (Page B) → ℕ → index.State B
    its x y n = record (slotted s (Waiting n) index.Rests (record x { log = appended y x.log })) { older = x.older ++ h.whole.machine.latest ∷ [] }

    abbrev record_of : ℕ → ℕ → Record (Entry B) (Page B)
    record_of t n = records.Commit t n

    -- what the transaction has touched is closed; another session's transaction is another
    sealed_touches : (t n : ℕ) → (analysis k (all_records (appended (record_of t n) i.log))).touched ≡ without t touches
    sealed_touches t n =
        ap (λ (a : Analysis (Entry B)). a.touched)
        (ap (λ (rs : List (Record (Entry B) (Page B))). analysis k rs) (grown (record_of t n) i.log) ∙ analysis-snoc k (all_records i.log) (record_of t n))

    apart : (a : ℕ) → is_session a ≡ true → a ≢ s → has_transaction (phase_at (a - 1) old.sessions.phases) ≡ true → transaction_of a old.sessions ≢ transaction_of s old.sessions
    apart a there ne busy same =
        let open_now = commit_is_open (phase_at (s - 1) old.sessions.phases) asks in
        let held = held_at (s - 1) old.sessions.table in
        ne (h.whole.tied.own a s
        (ap is_busy (slot_is c.keys old.sessions i kept h.sessions a there) ∙ busy_slot (phase_at (a - 1) old.sessions.phases) (held_at (a - 1) old.sessions.table) busy)
        (ap is_busy (slot_is c.keys old.sessions i kept h.sessions s is ∙ ap (λ (p : Phase B (Work B)). slot_of p held) open_now.is))
        (h.sessions.transactions a there ∙ same ∙ sym (h.sessions.transactions s is)))

    came : (t n : ℕ) → t ≡ i.transaction s → n ≡ latest k i.log + 1 → MayCome k i.log.area (all_records i.log) (record_of t n) × Happens c i (Seals s h.whole.machine.latest n) (its i (record_of t n) n)
    came t n one other =
        let open_now = commit_is_open (phase_at (s - 1) old.sessions.phases) asks in
        let held = held_at (s - 1) old.sessions.table in
        let at : slot_at s i.slots ≡ Working held.locks (map note_of held.notes) (Some Commit) =
        slot_is c.keys old.sessions i kept h.sessions s is ∙ ap (λ (p : Phase B (Work B)). slot_of p held) open_now.is in
        let comes = sealed c l i h.whole (h.sessions.failed ∙ works) s held.locks (map note_of held.notes) at h.whole.machine.latest h.whole.seen.latest in
        let P : ℕ → ℕ → Type 0 = λ t n. MayCome k i.log.area (all_records i.log) (record_of t n) × Happens c i (Seals s h.whole.machine.latest n) (its i (record_of t n) n) in
        subst (λ x. P x n) (sym one) (subst (λ x. P (i.transaction s) x) (sym other) (comes.may_come, comes.happens))

    seal_led : Led c r f passes d d (record old { volume = w; sessions = sealed_state s old.sessions }) i (Seals s h.whole.machine.latest number ∷ [])
    seal_led =
        let t : ℕ = transaction_of s old.sessions in
        let both = came t number (sym (h.sessions.transactions s is)) (ap (λ n. n + 1) h.latest) in
        let j : index.State B = its i (record_of t number) number in
        let of = session_of c.keys old.sessions (sealed_state s old.sessions) i kept h.sessions s (phase.Waiting number) nothing_held refl refl index.Rests refl refl refl refl in
        record {
          bodies = bodies;
          index = j;
          happening = (j, both.1, refl);
          holds = record {
            most = same_most ∙ h.most;
            some = h.some;
            keeps = keeps both.0 h.keeps;
            whole = both.1.whole;
            sessions = record { slots = of.slots; transactions = of.transactions; next = of.next; oldest = of.oldest; failed = of.failed };
            at = session_at c.keys old.sessions (sealed_state s old.sessions) i j kept s is (phase.Waiting number) nothing_held refl refl
                (λ a ne. changed_beside s index.Rests i.work a ne) (λ a ne. changed_beside s [] i.restored a ne) tt h.at;
            told = told_set c.keys old.sessions (sealed_state s old.sessions) touches (analysis k (all_records j.log)).touched kept s is (phase.Waiting number) nothing_held refl refl
                (λ a there ne busy. ap (λ (xs : List (Touch (Entry B))). touched_by (transaction_of a old.sessions) xs) (sealed_touches t number)
                ∙ without_others t (transaction_of a old.sessions) touches (apart a there ne busy))
                (λ a there ne. refl) (λ busy. let no : ⊥ = cc in absurd no) h.told;
            latest =
                (let now = both.1.whole.sets.last in
                let before = h.whole.sets.last in
                let one : length (i.older ++ h.whole.machine.latest ∷ []) ≡ length i.older + 1 = length-append i.older (h.whole.machine.latest ∷ []) in
                let same = h.latest in
                omega (arith, now, before, one, same));
            flying = λ works. subst (λ (x : Stage). KnowsFlight x old.in_flight (durable k (gate_synced i.log))) (sym flies.stage) (h.flying works);
            bare = λ works calm idle. flies.flight ∙ h.bare works calm (sym flies.stage ∙ idle);
            turns = λ works turning. absurd (calm turning);
          };
          leaves = nothing_leaves (Stands k r i.log) d;
        }

  -- the commit's number is durable
  pub acknowledge_led : (number : ℕ) → phase_at (s - 1) old.sessions.phases ≡ phase.Waiting number → number ≤ old.sessions.durable
      → Led c r f passes d d (record old { sessions = with_phase_of s phase.Free old.sessions }) i (Acknowledges s number ∷ [])
  acknowledge_led number waits low =
      let held = held_at (s - 1) old.sessions.table in
      let at : slot_at s i.slots ≡ Waiting number = slot_is c.keys old.sessions i kept h.sessions s is ∙ ap (λ (p : Phase B (Work B)). slot_of p held) waits in
      let oldest = h.sessions.oldest in
      let now = acknowledged c l i h.whole (h.sessions.failed ∙ works) s number at (omega (arith, low, oldest)) in
      let j : index.State B = slotted s slots.Free index.Rests i in
      record {
        bodies = bodies;
        index = j;
        happening = (j, now, refl);
        holds = record {
          most = h.most;
          some = h.some;
          keeps = h.keeps;
          whole = now.whole;
          sessions = session_of c.keys old.sessions (with_phase_of s phase.Free old.sessions) i kept h.sessions s phase.Free held refl (held_as_it_is s old.sessions.table) index.Rests refl refl refl refl;
          at = session_at c.keys old.sessions (with_phase_of s phase.Free old.sessions) i j kept s is phase.Free held refl (held_as_it_is s old.sessions.table)
              (λ a ne. changed_beside s index.Rests i.work a ne) (λ a ne. changed_beside s [] i.restored a ne) tt h.at;
          told = told_phase c.keys old.sessions kept s is touches phase.Free (λ busy. let no : ⊥ = cc in absurd no) h.told;
          latest = h.latest;
          flying = h.flying;
          bare = h.bare;
          turns = h.turns;
        };
        leaves = nothing_leaves (Stands k r i.log) d;
      }

-- whether a commit is acknowledged
module _ {B D : Type 0} (c : Class B) (l : 4 ≤ c.rules.most → IsLawful c) (r : Reading (Entry B) (Page B)) (f : Format B) (passes : ℕ → Contents → Bool)
    (d : Device) (old : Parts B D) (kept : IsKept c.keys old.sessions) (works : old.sessions.failed ≡ false) (s : ℕ) (is : is_session s ≡ true) (number : ℕ)
    (waits : phase_at (s - 1) old.sessions.phases ≡ phase.Waiting number) where
  abbrev Leading : Bool → Type 0
  Leading b = (o : Option ℕ) (new : State B (Work B)) → o ≡ (if b then Some number else None) → Acknowledged o s old.sessions new
      → AcknowledgeBy b s number old (record old { sessions = new }) (commit_outcome (runs old.checkpoint) o) × Leads c r f passes d d old (record old { sessions = new }) (acknowledge_events s (commit_outcome (runs old.checkpoint) o))

  by_number : (b : Bool) → nat_le number old.sessions.durable ≡ b → Leading b
  by_number true low o new one is_so =
      let P : Option ℕ → Type 0 = λ x. Acknowledged x s old.sessions new
      → AcknowledgeBy true s number old (record old { sessions = new }) (commit_outcome (runs old.checkpoint) x) × Leads c r f passes d d old (record old { sessions = new }) (acknowledge_events s (commit_outcome (runs old.checkpoint) x)) in
      subst P (sym one)
      (λ now. rw now ((refl, refl), λ bodies i h. acknowledge_led c (l h.some) r f passes d old kept works s is bodies i h number waits (leb-true number old.sessions.durable low))) is_so
  by_number false low o new one is_so =
      let P : Option ℕ → Type 0 = λ x. Acknowledged x s old.sessions new
      → AcknowledgeBy false s number old (record old { sessions = new }) (commit_outcome (runs old.checkpoint) x) × Leads c r f passes d d old (record old { sessions = new }) (acknowledge_events s (commit_outcome (runs old.checkpoint) x)) in
      subst P (sym one) (λ now. rw now ((refl, refl), nothing_led c r f passes d old)) is_so

  pub acknowledge_leads : (o : Option ℕ) (new : State B (Work B)) → o ≡ covered old.sessions.durable (waits_for (phase_at (s - 1) old.sessions.phases)) → Acknowledged o s old.sessions new
      → AcknowledgeComes s number old (record old { sessions = new }) (commit_outcome (runs old.checkpoint) o) × Leads c r f passes d d old (record old { sessions = new }) (acknowledge_events s (commit_outcome (runs old.checkpoint) o))
  acknowledge_leads o new one now =
      by_number (nat_le number old.sessions.durable) refl o new
      (one ∙ ap (λ (p : Phase B (Work B)). covered old.sessions.durable (waits_for p)) waits) now

-- a commit is sealed, whatever index the engine held
pub seal_leads : {B D : Type 0} (c : Class B) (lawful : 4 ≤ c.rules.most → IsLawful c) (r : Reading (Entry B) (Page B)) (f : Format B) (passes : ℕ → Contents → Bool)
    (d : Device) (old : Parts B D) → IsKept c.keys old.sessions → old.sessions.failed ≡ false → (s : ℕ) → is_session s ≡ true → asks_commit (phase_at (s - 1) old.sessions.phases) ≡ true → old.checkpoint ≢ Turning
    → (w : Volume D) → w.most ≡ old.volume.most → FliesOn old.volume.log w.log → (t n : ℕ) → t ≡ transaction_of s old.sessions → n ≡ old.sessions.latest + 1
    → KeepsRecord (known_of c) r f passes d old.volume w (rec.Commit t n)
    → LeadsSo c r f passes d d old (record old { volume = w; sessions = sealed_state s old.sessions }) (AreSealing s (old.sessions.latest + 1) More)
seal_leads c lawful r f passes d old kept works s is asks calm w most flies t n its next keeps bodies i h =
    let l = lawful h.some in
    let K : ℕ → ℕ → Type 0 = λ t n. KeepsRecord (known_of c) r f passes d old.volume w (rec.Commit t n) in
    let sealed_keeps : K (transaction_of s old.sessions) (old.sessions.latest + 1) = subst (λ x. K (transaction_of s old.sessions) x) next (subst (λ x. K x n) its keeps) in (
      Seals s h.whole.machine.latest (old.sessions.latest + 1) ∷ [],
      (h.whole.machine.latest, refl),
      seal_led c l r f passes d old kept works s is bodies i h calm asks w most flies (λ may_come before. sealed_keeps.keeps bodies i.log (known_lawful c l) may_come before),
    )
