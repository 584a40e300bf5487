-- Asking by phases and by the table is the engine's asking.
use Rattle.std.proofs.Common.{◌≡◌, ℕ, ◌+◌, ◌-◌, ◌<◌, Bool, true, false, not, ◌&&◌, List, [], ◌∷◌, Option, Some, None, length, map, refl, ap, sym, ◌∙◌, arith, subst}
use Rattle.std.specs.Prelude.{if◌then◌else◌, slice_set, Result, Ok, Err, ◌==◌}
use Rattle.std.proofs.lemmas.List.{set-get_or}
use Rattle.gx_geom.specs.declared.refusal.Refusal.{Refusal}
use Rattle.gx_geom.specs.declared.refusal.Refusal.TheVariants.{NoTransaction, InTransaction, CallOpen, BadSession}
use Rattle.gx_machine.specs.declared.entry.Entry.{Entry}
use Rattle.gx_machine.specs.declared.call.Call.{Call}
use Rattle.gx_machine.specs.declared.call.Call.TheVariants.{Begin, Insert, Delete, Search, Commit, Abort}
use Rattle.gx_machine.specs.declared.reply.Reply.TheVariants as reply
use Rattle.gx_machine.specs.declared.reply.Asked.{Asked}
use Rattle.gx_machine.specs.declared.reply.Asked.TheVariants as asked
use Rattle.gx_machine.specs.Keys.{Keys, IsLawful}
use Rattle.gx_machine.specs.Sessions.{Locks, Session, locks_of, lock_for}
use Rattle.gx_machine.specs.Machine.{is_session, session_at}
use Rattle.gx_txn.specs.Tables.{Held, nothing_held, with_locks, locks_for}
use Rattle.gx_txn.proofs.AsMachine.{same_decision}
use Rattle.gx_events.specs.Slots as slots
use Rattle.gx_events.specs.Slots.{Slot, with_slot}
use Rattle.gx_events.specs.Engines.{Engine, IsSame, session_of, sessions_of}
use Rattle.gx_events.specs.Asking.{least_barring, claims_held, asked_with, ask_slot, ask_in, ask}
use Rattle.gx_events.specs.Happenings.{IsHappening, Asks}
use Rattle.gx_events.proofs.Places.{session_of_slot}
use Rattle.gx_events.proofs.Asks.{same_least, same_held}
use Rattle.gx_phases.specs.declared.phase.Phase.{Phase}
use Rattle.gx_phases.specs.declared.phase.Phase.TheVariants as phase
use Rattle.gx_phases.specs.States.{State, slot_of, slots_of, note_of, phase_at, held_at, with_phase, with_session, HoldsNothing, engine_of, IsKept}
use Rattle.gx_phases.specs.Asked.{IsRefused, LockTaken, is_full, is_begin, Begun, AskedFree, AskedWorking, AskedAt, AskedBy, IsAsked, begins, event_by, asked_event}
use Rattle.gx_phases.proofs.Slots.{slots_at, slots_set, slot_here, table_locks, own_locks}
use Rattle.gx_phases.proofs.Keeping.{low, same_session}

-- an engine with the test of a session's number as a value
abbrev pub ask_there : {B : Type 0} → Keys B → ℕ → Call B → Bool → Engine B → Asked B × Engine B
ask_there k s call there engine =
    if there then
    (let r = ask_in k s call engine.slots in (r.0, record engine { slots = with_slot s r.1 engine.slots }))
    else (asked.Now (reply.Refused BadSession), engine)

not_barred_by : (t : Bool) (n : ℕ) (later : Option ℕ) → later ≡ None → (if t && false then Some n else later) ≡ None
not_barred_by true n later is_none = is_none
not_barred_by false n later is_none = is_none

-- a commit is barred by none
commit_is_free : {B : Type 0} (k : Keys B) (s n : ℕ) (xs : List (Slot B)) → least_barring k Commit s n xs ≡ None
commit_is_free k s n [] = refl
commit_is_free k s n (x ∷ xs) = not_barred_by (not (n == s)) n (least_barring k Commit s (n + 1) xs) (commit_is_free k s (n + 1) xs)

module _ {B W : Type 0} (k : Keys B) (l : IsLawful k) (live : Entry B → Bool) (older : List (List (Entry B))) (s : ℕ) (old : State B W) (kept : IsKept k old)
    (given : Asked B) (new : State B W) where
  abbrev all : List (Slot B)
  all = slots_of old.phases old.table

  abbrev p : Phase B W
  p = phase_at (s - 1) old.phases

  abbrev h : Held B
  h = held_at (s - 1) old.table

  same : length old.phases ≡ length old.table
  same = kept.phases ∙ sym kept.table

  abbrev least : Call B → Option ℕ
  least call = least_barring k call s 1 all

  abbrev E : Engine B
  E = engine_of live older old

  -- what is given, and the slots that are left; the rest is as before
  pub record Alike (r : Asked B × Slot B) : Type 0 where
    pub gives : r.0 ≡ given
    pub slots : slots_of new.phases new.table ≡ with_slot s r.1 all
    pub durable : new.durable ≡ old.durable
    pub failed : new.failed ≡ old.failed

  -- a refused ask changes nothing
  refused_alike : (why : Refusal) (x : Slot B) → x ≡ slot_of p h → IsRefused why old given new → Alike (asked.Now (reply.Refused why), x)
  refused_alike why x at a = record {
    gives = sym a.0;
    slots = ap (λ (st : State B W). slots_of st.phases st.table) a.1
        ∙ sym (set-get_or all (s - 1) slots.Free)
        ∙ ap (λ (y : Slot B). slice_set all (s - 1) y) (slots_at old.phases old.table (s - 1) same ∙ sym at);
    durable = ap (λ (st : State B W). st.durable) a.1;
    failed = ap (λ (st : State B W). st.failed) a.1;
  }

  changed_alike : (g : Asked B) (q : Phase B W) (x : Held B) → given ≡ g → new ≡ with_session s q x old → Alike (g, slot_of q x)
  changed_alike g q x is_given changed = record {
    gives = sym is_given;
    slots = ap (λ (st : State B W). slots_of st.phases st.table) changed ∙ slots_set old.phases old.table (s - 1) q x same;
    durable = ap (λ (st : State B W). st.durable) changed;
    failed = ap (λ (st : State B W). st.failed) changed;
  }

  module _ (is : is_session s ≡ true) where
    nothing : (i : ℕ) → i < length old.phases → HoldsNothing (phase_at i old.phases) (held_at i old.table)
    nothing i small = (kept.placed i (omega (arith, kept.phases, small))).nothing

    abbrev sessions : List (Session B)
    sessions = sessions_of k live all

    -- the table decides as the slots do
    decided : (call : Call B) → locks_for k call s old.table ≡ lock_for k call (least call) (claims_held all) h.locks
    decided call =
        let by_sessions = same_decision k call s sessions old.table is (table_locks k live old.phases old.table same nothing) in
        let at : locks_of (session_at s sessions) ≡ h.locks =
        ap locks_of (session_of_slot k live s all) ∙ ap (λ (x : Slot B). locks_of (session_of k live x)) (slot_here s old.phases old.table is same)
        ∙ own_locks k live p h (kept.placed (s - 1) (low k old kept s is)).nothing in
        by_sessions ∙ (λ i. lock_for k call (same_least k l live call s 1 all i) (same_held k l live all i) (at i))

    -- a lock was asked for
    with_lock : (call : Call B) (work : W) (r : Result (Locks B) Refusal) → p ≡ phase.Working → LockTaken r s call work old given new
        → Alike (asked_with call r h.locks (map note_of h.notes))
    with_lock call work (Ok locks) at t = changed_alike asked.Open (phase.Open call work) (with_locks locks h) t.0 t.1
    with_lock call work (Err why) at t =
        refused_alike why (slots.Working h.locks (map note_of h.notes) None) (ap (λ (q : Phase B W). slot_of q h) (sym at)) t

    decided_with : (call : Call B) (work : W) → p ≡ phase.Working → LockTaken (locks_for k call s old.table) s call work old given new
        → Alike (asked_with call (lock_for k call (least call) (claims_held all) h.locks) h.locks (map note_of h.notes))
    decided_with call work at t =
        subst (λ (r : Result (Locks B) Refusal). Alike (asked_with call r h.locks (map note_of h.notes))) (decided call)
        (with_lock call work (locks_for k call s old.table) at t)

    working_alike : (call : Call B) (work : W) → p ≡ phase.Working → AskedWorking k s call work old given new
        → Alike (ask_slot k call (least call) (claims_held all) (slots.Working h.locks (map note_of h.notes) None))
    working_alike Begin work at a = refused_alike InTransaction (slots.Working h.locks (map note_of h.notes) None) (ap (λ (q : Phase B W). slot_of q h) (sym at)) a
    working_alike (Insert e) work at a = decided_with (Insert e) work at a
    working_alike (Delete e) work at a = decided_with (Delete e) work at a
    working_alike (Search q) work at a = decided_with (Search q) work at a
    working_alike Commit work at a =
        subst (λ (o : Option ℕ). Alike (asked_with Commit (lock_for k Commit o (claims_held all) h.locks) h.locks (map note_of h.notes))) (sym (commit_is_free k s 1 all))
        (changed_alike asked.Open (phase.Open Commit work) h a.0 (a.1 ∙ same_session k old kept s is (phase.Open Commit work)))
    working_alike Abort work at a = changed_alike asked.Open (phase.Undoing 0 work) h a.0 (a.1 ∙ same_session k old kept s is (phase.Undoing 0 work))

    -- the event, if it is asked
    asks_event : (call : Call B) → old.failed ≡ false → Alike (ask_slot k call (least call) (claims_held all) (slot_of p h))
        → IsHappening k E (Asks s call given) (engine_of live older new)
    asks_event call works alike =
        let at : Alike (ask_in k s call all) =
        subst (λ (x : Slot B). Alike (ask_slot k call (least call) (claims_held all) x)) (sym (slot_here s old.phases old.table is same)) alike in
        let r : ask k s call E ≡ ask_there k s call true E = ap (λ (t : Bool). ask_there k s call t E) is in (
          works,
          ap (λ (x : Asked B × Engine B). x.0) r ∙ at.gives,
          subst (λ (e : Engine B). IsSame (engine_of live older new) e) (sym (ap (λ (x : Asked B × Engine B). x.1) r))
              (record { live = λ e. refl; slots = at.slots; older = refl; oldest = at.durable; failed = at.failed }),
        )

    -- nothing changes
    same_engine : new ≡ old → IsSame (engine_of live older new) E
    same_engine stays = record {
      live = λ e. refl;
      slots = ap (λ (st : State B W). slots_of st.phases st.table) stays;
      older = refl;
      oldest = ap (λ (st : State B W). st.durable) stays;
      failed = ap (λ (st : State B W). st.failed) stays;
    }

    -- a Begin outside of a transaction would be answered
    begin_gives : p ≡ phase.Free → (ask k s Begin E).0 ≡ asked.Now reply.Ok
    begin_gives at =
        ap (λ (t : Bool). (ask_there k s Begin t E).0) is
        ∙ ap (λ (x : Slot B). (ask_slot k Begin (least Begin) (claims_held all) x).0)
        (slot_here s old.phases old.table is same ∙ ap (λ (q : Phase B W). slot_of q h) at)

    begun_event : (full : Bool) → old.failed ≡ false → p ≡ phase.Free → h ≡ nothing_held → Begun full s old given new
        → IsHappening k E (event_by false full s Begin given) (engine_of live older new)
    begun_event true works at nothing_is a = (works, begin_gives at, same_engine a.1)
    begun_event false works at nothing_is a =
        asks_event Begin works
        (subst (λ (q : Phase B W). Alike (ask_slot k Begin (least Begin) (claims_held all) (slot_of q h))) (sym at) (record {
          gives = sym a.0;
          slots = ap (λ (st : State B W). slots_of st.phases st.table) a.1
              ∙ ap (λ (hs : List (Held B)). slots_of (with_phase s phase.Working old.phases) hs) (sym (set-get_or old.table (s - 1) nothing_held))
              ∙ slots_set old.phases old.table (s - 1) phase.Working h same
              ∙ ap (λ (x : Held B). with_slot s (slots.Working x.locks (map note_of x.notes) None) all) nothing_is;
          durable = ap (λ (st : State B W). st.durable) a.1;
          failed = ap (λ (st : State B W). st.failed) a.1;
        }))

    refused_event : (call : Call B) (why : Refusal) (q : Phase B W) → old.failed ≡ false → p ≡ q
        → ask_slot k call (least call) (claims_held all) (slot_of q h) ≡ (asked.Now (reply.Refused why), slot_of q h) → IsRefused why old given new
        → IsHappening k E (Asks s call given) (engine_of live older new)
    refused_event call why q works at gives a =
        asks_event call works
        (subst (λ (x : Phase B W). Alike (ask_slot k call (least call) (claims_held all) (slot_of x h))) (sym at)
        (subst (λ (r : Asked B × Slot B). Alike r) (sym gives) (refused_alike why (slot_of q h) (ap (λ (x : Phase B W). slot_of x h) (sym at)) a)))

    free_event : (call : Call B) → old.failed ≡ false → p ≡ phase.Free → h ≡ nothing_held → AskedFree s call old given new
        → IsHappening k E (event_by false (is_begin call && is_full old) s call given) (engine_of live older new)
    free_event Begin works at nothing_is a = begun_event (is_full old) works at nothing_is a
    free_event (Insert e) works at nothing_is a = refused_event (Insert e) NoTransaction phase.Free works at refl a
    free_event (Delete e) works at nothing_is a = refused_event (Delete e) NoTransaction phase.Free works at refl a
    free_event (Search q) works at nothing_is a = refused_event (Search q) NoTransaction phase.Free works at refl a
    free_event Commit works at nothing_is a = refused_event Commit NoTransaction phase.Free works at refl a
    free_event Abort works at nothing_is a = refused_event Abort NoTransaction phase.Free works at refl a

    at_event : (call : Call B) (work : W) (q : Phase B W) → old.failed ≡ false → p ≡ q → HoldsNothing q h → AskedAt k s call work q old given new
        → IsHappening k E (event_by false (begins call q && is_full old) s call given) (engine_of live older new)
    at_event call work phase.Free works at nothing_is a = free_event call works at nothing_is a
    at_event call work phase.Working works at nothing_is a =
        asks_event call works (subst (λ (x : Phase B W). Alike (ask_slot k call (least call) (claims_held all) (slot_of x h))) (sym at) (working_alike call work at a))
    at_event call work (phase.Open pending on) works at nothing_is a = refused_event call CallOpen (phase.Open pending on) works at refl a
    at_event call work (phase.Undoing restored on) works at nothing_is a = refused_event call CallOpen (phase.Undoing restored on) works at refl a
    at_event call work (phase.Waiting number) works at nothing_is a = refused_event call CallOpen (phase.Waiting number) works at refl a

  -- by the first two tests
  by_event : (call : Call B) (work : W) (failed there : Bool) → old.failed ≡ failed → is_session s ≡ there → AskedBy k s call work failed there old given new
      → IsHappening k E (event_by failed (there && (begins call p && is_full old)) s call given) (engine_of live older new)
  by_event call work true there is_failed is a = record {
    live = λ e. refl;
    slots = ap (λ (st : State B W). slots_of st.phases st.table) a.1;
    older = refl;
    oldest = ap (λ (st : State B W). st.durable) a.1;
    failed = ap (λ (st : State B W). st.failed) a.1 ∙ is_failed;
  }
  by_event call work false false is_failed is a =
      let r : ask k s call E ≡ ask_there k s call false E = ap (λ (t : Bool). ask_there k s call t E) is in (
        is_failed,
        ap (λ (x : Asked B × Engine B). x.0) r ∙ sym a.0,
        subst (λ (e : Engine B). IsSame (engine_of live older new) e) (sym (ap (λ (x : Asked B × Engine B). x.1) r)) (record {
          live = λ e. refl;
          slots = ap (λ (st : State B W). slots_of st.phases st.table) a.1;
          older = refl;
          oldest = ap (λ (st : State B W). st.durable) a.1;
          failed = ap (λ (st : State B W). st.failed) a.1;
        }),
      )
  by_event call work false true is_failed is a =
      at_event is call work p is_failed refl (kept.placed (s - 1) (low k old kept s is)).nothing a

-- an ask is an event
pub ask_is_event : {B W : Type 0} (k : Keys B) → IsLawful k → (s : ℕ) (call : Call B) (work : W) (old : State B W) (given : Asked B) (new : State B W) → IsKept k old
    → IsAsked k s call work old given new → (live : Entry B → Bool) (older : List (List (Entry B)))
    → IsHappening k (engine_of live older old) (asked_event s call old given) (engine_of live older new)
ask_is_event k l s call work old given new kept a live older = by_event k l live older s old kept given new call work old.failed (is_session s) refl refl a
