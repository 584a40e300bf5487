-- An ask of an engine's sessions.
use Rattle.std.proofs.Common.{◌≡◌, ◌∙◌, sym, ap, refl, subst, inl, inr, ℕ, ◌-◌, ◌≤◌, Bool, true, false, not, ◌&&◌, Option, List, [], ◌∷◌, Result, Ok, Err, arith}
use Rattle.std.specs.Prelude.{is_some}
use Rattle.std.specs.List.{list_any}
use Rattle.std.proofs.lemmas.Bool.{and_right}
use Rattle.gx_geom.specs.declared.refusal.Refusal.{Refusal}
use Rattle.gx_geom.specs.declared.refusal.Refusal.TheVariants.{NoTransaction, InTransaction, CallOpen, BadSession, Failed, HistoryFull}
use Rattle.gx_machine.specs.declared.entry.Entry.{Entry}
use Rattle.gx_machine.specs.declared.call.Call.{Call}
use Rattle.gx_machine.specs.declared.call.Call.TheVariants.{Begin, Insert, Delete, Search, Commit, Abort}
use Rattle.gx_machine.specs.declared.reply.Reply.TheVariants as reply
use Rattle.gx_machine.specs.declared.reply.Asked.{Asked}
use Rattle.gx_machine.specs.declared.reply.Asked.TheVariants as asked
use Rattle.gx_machine.specs.Keys.{Keys}
use Rattle.gx_machine.specs.Machine.{is_session}
use Rattle.gx_machine.specs.Sessions.{Locks}
use Rattle.gx_machine.specs.Sets.{has}
use Rattle.gx_disk.specs.Device.{Device}
use Rattle.gx_disk.proofs.Leaving.{nothing_leaves}
use Rattle.gx_page.specs.Contents.{Contents}
use Rattle.gx_node.specs.Reading.{Format}
use Rattle.gx_recovery.specs.Analysis.{analysis}
use Rattle.gx_recovery.specs.Logged.{Logged, all_records}
use Rattle.gx_recovery.specs.Logged as logged
use Rattle.gx_recovery.specs.Records.{Touch, any_number, names, settled}
use Rattle.gx_recovery.proofs.Numbers.{next_above}
use Rattle.gx_recovery.proofs.Tests.{true_or_false}
use Rattle.gx_recovery.proofs.Touches.{same_itself}
use Rattle.gx_recovery.proofs.Unnamed.{unnamed_untouched}
use Rattle.gx_index_laws.specs.Classes.{Class, IsLawful, Page, known_of}
use Rattle.gx_index_laws.specs.States as index
use Rattle.gx_index_laws.specs.Happening.{first_work}
use Rattle.gx_index_laws.specs.Whole.{IsWhole}
use Rattle.gx_index_laws.proofs.Standing.{is_log, known_lawful, tells}
use Rattle.gx_index_laws.proofs.Tools.{changed_beside, changed_here}
use Rattle.gx_durable.specs.Spelled.{Reading}
use Rattle.gx_durable.specs.Standing.{Stands}
use Rattle.gx_txn.specs.Tables.{held_by, with_locks, locks_for}
use Rattle.gx_phases.specs.declared.phase.Phase.{Phase}
use Rattle.gx_phases.specs.declared.phase.Phase.TheVariants as phase
use Rattle.gx_phases.specs.States.{State, IsKept, held_at, phase_at, with_phase_of, with_session, with_transaction}
use Rattle.gx_phases.specs.Asked.{IsRefused, LockTaken, Begun, is_full, AskedFree, AskedWorking, AskedAt, AskedBy, IsAsked, asked_event}
use Rattle.gx_phases.specs.Indexes.{asked_index}
use Rattle.gx_phases.proofs.Indexing.{ask_comes}
use Rattle.gx_storage.specs.Keeps.{Keeps}
use Rattle.gx_engine.specs.declared.work.Work.{Work}
use Rattle.gx_engine.specs.declared.work.Work.TheVariants.{Rests}
use Rattle.gx_engine.specs.Asks.{AskComes, ask_events, outcome_of}
use Rattle.gx_engine.specs.States.{Parts}
use Rattle.gx_engine.specs.Holds.{AreAt, KnowsFlight, Leads, MayBegin, MayRenewBy}
use Rattle.gx_engine.specs.Noted.{AreTold, has_transaction, touched_by}
use Rattle.gx_engine.proofs.Noting.{none_touched, told_begun, told_phase, told_session}
use Rattle.gx_engine.proofs.Serving.{held_as_it_is, renews_still, same_device, session_at}

-- What an ask comes to, case by case: it is refused; a transaction begins; a call opens, with its lock or without; an undo begins.
module _ {B : Type 0} (k : Keys B) (s : ℕ) (asked_call : Call B) (old : State B (Work B)) (P : Asked B → State B (Work B) → Type 0)
    (refused : (why : Refusal) → P (asked.Now (reply.Refused why)) old)
    (begins : is_session s ≡ true → phase_at (s - 1) old.phases ≡ phase.Free → P (asked.Now reply.Ok) (with_transaction s old))
    (opens : is_session s ≡ true → phase_at (s - 1) old.phases ≡ phase.Working → (call : Call B) → MayBegin call → (locks : Locks B) → P asked.Open (with_session s (phase.Open call Rests) (with_locks locks (held_by s old.table)) old))
    (waits : is_session s ≡ true → phase_at (s - 1) old.phases ≡ phase.Working → P asked.Open (with_phase_of s (phase.Open Commit Rests) old))
    (undoes : is_session s ≡ true → phase_at (s - 1) old.phases ≡ phase.Working → asked_call ≡ Abort → P asked.Open (with_phase_of s (phase.Undoing 0 Rests) old)) where
  at : (given g : Asked B) (new n : State B (Work B)) → given ≡ g → new ≡ n → P g n → P given new
  at given g new n one other p = subst (λ (x : Asked B). P x new) (sym one) (subst (λ (x : State B (Work B)). P g x) (sym other) p)

  by_refusal : (why : Refusal) (given : Asked B) (new : State B (Work B)) → IsRefused why old given new → P given new
  by_refusal why given new a = at given (asked.Now (reply.Refused why)) new old a.0 a.1 (refused why)

  by_lock : is_session s ≡ true → phase_at (s - 1) old.phases ≡ phase.Working → (lock : Result (Locks B) Refusal) (call : Call B) → MayBegin call → (given : Asked B) (new : State B (Work B)) → LockTaken lock s call Rests old given new → P given new
  by_lock is here (Ok locks) call may given new a = at given asked.Open new _ a.0 a.1 (opens is here call may locks)
  by_lock is here (Err why) call may given new a = by_refusal why given new a

  by_begin : is_session s ≡ true → phase_at (s - 1) old.phases ≡ phase.Free → (full : Bool) (given : Asked B) (new : State B (Work B)) → Begun full s old given new → P given new
  by_begin is here true given new a = by_refusal HistoryFull given new a
  by_begin is here false given new a = at given (asked.Now reply.Ok) new _ a.0 a.1 (begins is here)

  by_free : is_session s ≡ true → phase_at (s - 1) old.phases ≡ phase.Free → (call : Call B) (given : Asked B) (new : State B (Work B)) → AskedFree s call old given new → P given new
  by_free is here Begin given new a = by_begin is here (is_full old) given new a
  by_free is here (Insert e) given new a = by_refusal NoTransaction given new a
  by_free is here (Delete e) given new a = by_refusal NoTransaction given new a
  by_free is here (Search q) given new a = by_refusal NoTransaction given new a
  by_free is here Commit given new a = by_refusal NoTransaction given new a
  by_free is here Abort given new a = by_refusal NoTransaction given new a

  by_working : is_session s ≡ true → phase_at (s - 1) old.phases ≡ phase.Working → (call : Call B) → asked_call ≡ call → (given : Asked B) (new : State B (Work B)) → AskedWorking k s call Rests old given new → P given new
  by_working is here Begin same given new a = by_refusal InTransaction given new a
  by_working is here (Insert e) same given new a = by_lock is here (locks_for k (Insert e) s old.table) (Insert e) tt given new a
  by_working is here (Delete e) same given new a = by_lock is here (locks_for k (Delete e) s old.table) (Delete e) tt given new a
  by_working is here (Search q) same given new a = by_lock is here (locks_for k (Search q) s old.table) (Search q) tt given new a
  by_working is here Commit same given new a = at given asked.Open new _ a.0 a.1 (waits is here)
  by_working is here Abort same given new a = at given asked.Open new _ a.0 a.1 (undoes is here same)

  by_phase : is_session s ≡ true → (call : Call B) → asked_call ≡ call → (p : Phase B (Work B)) → phase_at (s - 1) old.phases ≡ p → (given : Asked B) (new : State B (Work B)) → AskedAt k s call Rests p old given new → P given new
  by_phase is call same phase.Free here given new a = by_free is here call given new a
  by_phase is call same phase.Working here given new a = by_working is here call same given new a
  by_phase is call same (phase.Open pending on) here given new a = by_refusal CallOpen given new a
  by_phase is call same (phase.Undoing restored on) here given new a = by_refusal CallOpen given new a
  by_phase is call same (phase.Waiting number) here given new a = by_refusal CallOpen given new a

  by_tests : (failed there : Bool) → is_session s ≡ there → (call : Call B) → asked_call ≡ call → (given : Asked B) (new : State B (Work B)) → AskedBy k s call Rests failed there old given new → P given new
  by_tests true there is call same given new a = by_refusal Failed given new a
  by_tests false false is call same given new a = by_refusal BadSession given new a
  by_tests false true is call same given new a = by_phase is call same (phase_at (s - 1) old.phases) refl given new a

  pub by_ask : (given : Asked B) (new : State B (Work B)) → IsAsked k s asked_call Rests old given new → P given new
  by_ask given new a = by_tests old.failed (is_session s) refl asked_call refl given new a

-- an ask leaves the numbers of commits
pub numbers_stay : {B : Type 0} (k : Keys B) (s : ℕ) (call : Call B) (old : State B (Work B)) (given : Asked B) (new : State B (Work B)) → IsAsked k s call Rests old given new
    → (new.latest ≡ old.latest) × (new.durable ≡ old.durable)
numbers_stay k s call old given new asks =
    by_ask k s call old (λ g n. (n.latest ≡ old.latest) × (n.durable ≡ old.durable)) (λ why. (refl, refl)) (λ is here. (refl, refl)) (λ is here pending may locks. (refl, refl)) (λ is here. (refl, refl)) (λ is here aborts. (refl, refl))
    given new asks

-- an ask leaves an index's log
asked_log : {B : Type 0} (c : Class B) (s : ℕ) (call : Call B) (given : Asked B) (i : index.State B) → (asked_index c s call given i).log ≡ i.log
asked_log c s call (asked.Now reply.Ok) i = refl
asked_log c s call (asked.Now reply.Inserted) i = refl
asked_log c s call (asked.Now reply.Deleted) i = refl
asked_log c s call (asked.Now (reply.Found entries)) i = refl
asked_log c s call (asked.Now (reply.Committed number)) i = refl
asked_log c s call (asked.Now reply.Aborted) i = refl
asked_log c s call (asked.Now (reply.Refused why)) i = refl
asked_log c s call asked.Open i = refl

-- no ask lowers the next transaction's number
asked_next : {B : Type 0} (c : Class B) (s : ℕ) (call : Call B) (given : Asked B) (i : index.State B) → i.next ≤ (asked_index c s call given i).next
asked_next c s call (asked.Now reply.Ok) i = omega arith
asked_next c s call (asked.Now reply.Inserted) i = omega arith
asked_next c s call (asked.Now reply.Deleted) i = omega arith
asked_next c s call (asked.Now (reply.Found entries)) i = omega arith
asked_next c s call (asked.Now (reply.Committed number)) i = omega arith
asked_next c s call (asked.Now reply.Aborted) i = omega arith
asked_next c s call (asked.Now (reply.Refused why)) i = omega arith
asked_next c s call asked.Open i = omega arith

module _ {B : Type 0} (c : Class B) (s : ℕ) (call : Call B) (i : index.State B) (old : State B (Work B)) (kept : IsKept c.keys old) (is_at : AreAt c.keys old i)
    (touches : List (Touch (Entry B))) (was_told : AreTold old touches) (none : touched_by old.next touches ≡ []) where
  -- what is kept of an ask's sessions
  record Stays (given : Asked B) (new : State B (Work B)) : Type 0 where
    pub at : AreAt c.keys new (asked_index c s call given i)
    pub told : AreTold new touches
    pub latest : new.latest ≡ old.latest
    pub failed : new.failed ≡ old.failed

  asked_stays : (given : Asked B) (new : State B (Work B)) → IsAsked c.keys s call Rests old given new → Stays given new
  asked_stays given new asks =
      by_ask c.keys s call old Stays
      (λ why. record { at = is_at; told = was_told; latest = refl; failed = refl })
      (λ is here. record {
        told = told_begun c.keys old kept s is here touches none was_told;
        at = session_at c.keys old (with_transaction s old) i (asked_index c s call (asked.Now reply.Ok) i) kept s is phase.Working (held_at (s - 1) old.table) refl (held_as_it_is s old.table)
            (λ a ne. changed_beside s _ i.work a ne) (λ a ne. changed_beside s _ i.restored a ne) tt is_at;
        latest = refl;
        failed = refl;
      })
      (λ is here pending may locks. record {
        told = told_session c.keys old kept s is touches (phase.Open pending Rests) (λ busy. ap (λ (p : Phase B (Work B)). has_transaction p) here) was_told (with_locks locks (held_by s old.table)) refl;
        at = session_at c.keys old (with_session s (phase.Open pending Rests) (with_locks locks (held_by s old.table)) old) i (asked_index c s call asked.Open i) kept s is (phase.Open pending Rests) (with_locks locks (held_by s old.table)) refl refl
            (λ a ne. changed_beside s _ i.work a ne) (λ a ne. changed_beside s _ i.restored a ne) may is_at;
        latest = refl;
        failed = refl;
      })
      (λ is here. record {
        told = told_phase c.keys old kept s is touches (phase.Open Commit Rests) (λ busy. ap (λ (p : Phase B (Work B)). has_transaction p) here) was_told;
        at = session_at c.keys old (with_phase_of s (phase.Open Commit Rests) old) i (asked_index c s call asked.Open i) kept s is (phase.Open Commit Rests) (held_at (s - 1) old.table) refl (held_as_it_is s old.table)
            (λ a ne. changed_beside s _ i.work a ne) (λ a ne. changed_beside s _ i.restored a ne) tt is_at;
        latest = refl;
        failed = refl;
      })
      (λ is here aborts. record {
        told = told_phase c.keys old kept s is touches (phase.Undoing 0 Rests) (λ busy. ap (λ (p : Phase B (Work B)). has_transaction p) here) was_told;
        at = session_at c.keys old (with_phase_of s (phase.Undoing 0 Rests) old) i (asked_index c s call asked.Open i) kept s is (phase.Undoing 0 Rests) (held_at (s - 1) old.table) refl (held_as_it_is s old.table)
            (λ a ne. changed_beside s _ i.work a ne) (λ a ne. changed_beside s _ i.restored a ne) (changed_here s _ i.work s refl ∙ ap (λ (x : Call B). first_work (index.tree_now c i) x) aborts, λ e. ap (λ xs. has c.keys e xs) (changed_here s _ i.restored s refl)) is_at;
        latest = refl;
        failed = refl;
      })
      given new asks

-- the next transaction has touched nothing
next_touches_nothing : {B : Type 0} (c : Class B) → IsLawful c → (i : index.State B) → IsWhole c i → touched_by i.next (analysis (known_of c) (all_records i.log)).touched ≡ []
next_touches_nothing {B} c l i w =
    let k = known_of c in
    let log = all_records i.log in
    let unnamed : list_any (names i.next) log ≡ false =
    elim (true_or_false (list_any (names i.next) log)) [
      | inl named ↦ (let above = next_above k (known_lawful c l) log (is_log c l i w) i.next named in let covers = w.next in absurd (omega (arith, above, covers)))
      | inr none ↦ none
    ] in
    none_touched k (λ e. same_itself k (known_lawful c l) e) i.next (analysis k log).touched
    (λ e. (tells c l i w).listed i.next e
    ∙ ap (λ (o : Option Bool). not (settled any_number i.next log) && is_some o) (unnamed_untouched k i.next e log unnamed)
    ∙ and_right (not (settled any_number i.next log)) false refl)

module _ {B D : Type 0} (c : Class B) (r : Reading (Entry B) (Page B)) (f : Format B) (passes : ℕ → Contents → Bool) (lawful : 4 ≤ c.rules.most → IsLawful c)
    (d : Device) (old : Parts B D) (kept : IsKept c.keys old.sessions) (s : ℕ) (call : Call B) (given : Asked B) (new : State B (Work B)) (asks : IsAsked c.keys s call Rests old.sessions given new) where
  pub ask_leads : Leads c r f passes d d old (record old { sessions = new }) (asked_event s call old.sessions given ∷ [])
  ask_leads bodies i h =
      let came = ask_comes c (lawful h.some) i h.whole old.sessions kept h.sessions s call Rests given new asks in
      let touches : List (Touch (Entry B)) = (analysis (known_of c) (all_records i.log)).touched in
      let none : touched_by old.sessions.next touches ≡ [] = subst (λ (t : ℕ). touched_by t touches ≡ []) h.sessions.next (next_touches_nothing c (lawful h.some) i h.whole) in
      let stays = asked_stays c s call i old.sessions kept h.at touches h.told none given new asks in
      let log : (asked_index c s call given i).log ≡ i.log = asked_log c s call given i in
      record {
        bodies = bodies;
        index = asked_index c s call given i;
        happening = (asked_index c s call given i, came.0, refl);
        holds = record {
          most = h.most;
          some = h.some;
          keeps = subst (λ (x : Logged (Entry B) (Page B)). Keeps (known_of c) r f passes d old.volume bodies x) (sym log) h.keeps;
          whole = came.0.whole;
          sessions = came.1;
          at = stays.at;
          told = subst (λ (x : Logged (Entry B) (Page B)). AreTold new (analysis (known_of c) (all_records x)).touched) (sym log) stays.told;
          latest = stays.latest ∙ h.latest ∙ ap (λ (x : Logged (Entry B) (Page B)). logged.latest (known_of c) x) (sym log);
          flying = λ works.
              subst (λ (x : Logged (Entry B) (Page B)). KnowsFlight old.volume.log.stage old.in_flight (logged.durable (known_of c) (logged.gate_synced x))) (sym log)
              (h.flying (sym stays.failed ∙ works));
          bare = λ works. h.bare (sym stays.failed ∙ works);
          turns = λ works turning.
              subst (λ (x : Logged (Entry B) (Page B)). MayRenewBy (known_of c) r (asked_index c s call given i).next old.volume.log.flight d.sectors d.pending x) (sym log)
              (renews_still (known_of c) r i.next (asked_index c s call given i).next old.volume.log.flight d d i.log (same_device d) (asked_next c s call given i) (h.turns (sym stays.failed ∙ works) turning));
        };
        leaves = nothing_leaves (Stands (known_of c) r i.log) d;
      }

-- the outcome says what was given
pub ask_told : {B D : Type 0} (k : Keys B) (s : ℕ) (call : Call B) (old : Parts B D) (given : Asked B) (new : State B (Work B)) → IsAsked k s call Rests old.sessions given new
    → AskComes k s call old (outcome_of given) (record old { sessions = new })
ask_told k s call old (asked.Now answer) new asks = (asks, refl)
ask_told k s call old asked.Open new asks = (asks, refl)

pub told_events : {B : Type 0} (s : ℕ) (call : Call B) (old : State B (Work B)) (given : Asked B) → ask_events s call old (outcome_of given) ≡ asked_event s call old given ∷ []
told_events s call old (asked.Now answer) = refl
told_events s call old asked.Open = refl
