-- An ask is an event of the whole index.
use Rattle.std.proofs.Common.{◌≡◌, ℕ, ◌-◌, ◌<◌, Bool, true, false, ◌&&◌, List, None, [], length, map, Result, Ok, Err, refl, ap, sym, ◌∙◌, arith, subst, get_or-set_same, get_or-set_other}
use Rattle.std.specs.Prelude.{nat_lt, nat_le, slice_set}
use Rattle.std.specs.List.{slice_index_or}
use Rattle.std.proofs.lemmas.Bool.{lt-ltb}
use Rattle.std.proofs.lemmas.List.{set-get_or}
use Rattle.std.proofs.Math.Decide.{ℕ_discrete}
use Rattle.gx_geom.specs.declared.refusal.Refusal.{Refusal}
use Rattle.gx_geom.specs.declared.refusal.Refusal.TheVariants.{NoTransaction, InTransaction, CallOpen, BadSession, Failed, HistoryFull}
use Rattle.gx_machine.specs.declared.entry.Entry.{Entry}
use Rattle.gx_machine.specs.declared.call.Call.{Call}
use Rattle.gx_machine.specs.declared.call.Call.TheVariants.{Begin, Insert, Delete, Search, Commit, Abort}
use Rattle.gx_machine.specs.declared.reply.Reply.TheVariants as reply
use Rattle.gx_machine.specs.declared.reply.Asked.{Asked}
use Rattle.gx_machine.specs.declared.reply.Asked.TheVariants as asked
use Rattle.gx_machine.specs.Sessions.{Locks, no_locks}
use Rattle.gx_machine.specs.Machine.{is_session}
use Rattle.gx_machine.proofs.Places.{session_bounds}
use Rattle.gx_txn.specs.Tables.{Held, nothing_held, held_by, with_held, with_locks, locks_for}
use Rattle.gx_events.specs.Slots as slots
use Rattle.gx_events.specs.Slots.{Slot, slot_at, with_slot}
use Rattle.gx_events.specs.Engines.{Engine}
use Rattle.gx_events.specs.Asking.{ask_in, ask}
use Rattle.gx_events.specs.Happenings as events
use Rattle.gx_events.specs.Happenings.{Happening, IsHappening}
use Rattle.gx_index_laws.specs.Classes.{Class, IsLawful, is_live}
use Rattle.gx_index_laws.specs.States as index
use Rattle.gx_index_laws.specs.Whole.{IsWhole}
use Rattle.gx_index_laws.specs.Happening as happening
use Rattle.gx_index_laws.specs.Happening.{Happens, changed_at}
use Rattle.gx_index_laws.proofs.Tools.{changed_here, changed_beside}
use Rattle.gx_index_laws.proofs.Quiet.{as_it_is}
use Rattle.gx_index_laws.proofs.AskedCalls.{ask_is_refused, history_is_full, call_opens, transaction_begins, faulted}
use Rattle.gx_phases.specs.declared.phase.Phase.{Phase}
use Rattle.gx_phases.specs.declared.phase.Phase.TheVariants as phase
use Rattle.gx_phases.specs.States.{State, slot_of, slots_of, note_of, phase_at, held_at, with_phase, with_transaction, engine_of, HoldsNothing, IsKept}
use Rattle.gx_phases.specs.Asked.{IsRefused, LockTaken, is_full, is_begin, Begun, AskedFree, AskedWorking, AskedAt, AskedBy, IsAsked, begins, event_by, asked_event}
use Rattle.gx_phases.specs.Indexes.{AreOf, asked_index}
use Rattle.gx_phases.proofs.Slots.{slots_set, slot_here}
use Rattle.gx_phases.proofs.Keeping.{low, next_small}
use Rattle.gx_phases.proofs.Asking.{ask_there, ask_is_event}

module _ {B W : Type 0} (c : Class B) (l : IsLawful c) (i : index.State B) (w : IsWhole c i) (old : State B W) (kept : IsKept c.keys old) (of : AreOf old i)
    (s : ℕ) (call : Call B) (work : W) (given : Asked B) (new : State B W) (asks : IsAsked c.keys s call work old given new) where
  abbrev live : Entry B → Bool
  live = is_live c (index.tree_now c i)

  abbrev E : Engine B
  E = engine_of live i.older old

  abbrev all : List (Slot B)
  all = slots_of old.phases old.table

  same : length old.phases ≡ length old.table
  same = kept.phases ∙ sym kept.table

  -- the index's engine is that of its sessions
  its_engine : index.engine_of c i ≡ E
  its_engine = λ j. record { live = live; slots = of.slots j; older = i.older; oldest = of.oldest j; failed = of.failed j }

  event : IsHappening c.keys E (asked_event s call old given) (engine_of live i.older new)
  event = ask_is_event c.keys l.keys s call work old given new kept asks live i.older

  -- the outcome of the ask
  abbrev Comes : Happening B → Asked B → State B W → Type 0
  Comes ev g n = Happens c i ev (asked_index c s call g i) × AreOf n (asked_index c s call g i)

  refused_comes : (ev : Asked B → Happening B) (why : Refusal) → IsRefused why old given new → Happens c i (ev (asked.Now (reply.Refused why))) i → Comes (ev given) given new
  refused_comes ev why a happens =
      subst (λ (n : State B W). Comes (ev given) given n) (sym a.1)
      (subst (λ (g : Asked B). Comes (ev g) g old) (sym a.0) (happens, of))

  -- a refusal for a cause that locks and sessions' numbers decide
  locks_refuse : old.failed ≡ false → (why : Refusal) → IsHappening c.keys E (events.Asks s call given) (engine_of live i.older new) → IsRefused why old given new
      → Comes (events.Asks s call given) given new
  locks_refuse works why is_event a =
      refused_comes (λ g. events.Asks s call g) why a
      (ask_is_refused c l i w (of.failed ∙ works) s call why (ap (λ (e : Engine B). (ask c.keys s call e).0) its_engine ∙ is_event.1 ∙ a.0))

  failed_refuses : old.failed ≡ true → IsRefused Failed old given new → Comes (events.RefusesAsk s call Failed) given new
  failed_refuses has a =
      let back : happening.failed_state i ≡ i = λ j. record i { failed = (sym (of.failed ∙ has)) j } in
      refused_comes (λ g. events.RefusesAsk s call Failed) Failed a
      (subst (λ (x : index.State B). Happens c i (events.RefusesAsk s call Failed) x) back
      (faulted c l i w (events.RefusesAsk s call Failed) (as_it_is (index.engine_of c (happening.failed_state i))) refl))

  module _ (works : old.failed ≡ false) (is : is_session s ≡ true) where
    -- a call opens
    opens : IsHappening c.keys E (events.Asks s call given) (engine_of live i.older new) → given ≡ asked.Open → new.transactions ≡ old.transactions → new.next ≡ old.next
        → new.durable ≡ old.durable → new.failed ≡ old.failed → Comes (events.Asks s call given) given new
    opens is_event is_open numbers next durable failed =
        let there : ask c.keys s call E ≡ ask_there c.keys s call true E = ap (λ (t : Bool). ask_there c.keys s call t E) is in
        let gives : (ask_in c.keys s call i.slots).0 ≡ asked.Open =
        ap (λ (xs : List (Slot B)). (ask_in c.keys s call xs).0) of.slots
        ∙ sym (ap (λ (x : Asked B × Engine B). x.0) there) ∙ is_event.1 ∙ is_open in
        let leaves : slots_of new.phases new.table ≡ with_slot s (ask_in c.keys s call all).1 all =
        is_event.2.slots ∙ ap (λ (x : Asked B × Engine B). x.1.slots) there in
        subst (λ (g : Asked B). Comes (events.Asks s call g) g new) (sym is_open) (
          call_opens c l i w (of.failed ∙ works) s is call gives,
          record {
            slots = ap (λ (xs : List (Slot B)). with_slot s (ask_in c.keys s call xs).1 xs) of.slots ∙ sym leaves;
            transactions = λ a there. of.transactions a there ∙ ap (λ (xs : List ℕ). slice_index_or xs (a - 1) 0) (sym numbers);
            next = of.next ∙ sym next;
            oldest = of.oldest ∙ sym durable;
            failed = of.failed ∙ sym failed;
          },
        )

    -- a transaction begins
    number_of : (a : ℕ) → is_session a ≡ true
        → changed_at s i.next i.transaction a ≡ slice_index_or (slice_set old.transactions (s - 1) old.next) (a - 1) 0
    number_of a there =
        let mine : (0 < s) × (s < 9) = session_bounds s is in
        let its : (0 < a) × (a < 9) = session_bounds a there in
        elim (ℕ_discrete a s) [
          | yes e ↦
              changed_here s i.next i.transaction a e ∙ of.next
              ∙ sym (ap (λ n. slice_index_or (slice_set old.transactions (s - 1) old.next) (n - 1) 0) e
              ∙ get_or-set_same old.transactions (s - 1) old.next 0 (omega (arith, kept.transactions, mine.0, mine.1)))
          | no ne ↦
              changed_beside s i.next i.transaction a ne ∙ of.transactions a there
              ∙ sym (get_or-set_other old.transactions (s - 1) (a - 1) old.next 0 (omega (arith, mine.0, its.0, ne)))
        ]

    begun_slots : held_at (s - 1) old.table ≡ nothing_held
        → with_slot s (slots.Working no_locks [] None) all ≡ slots_of (with_phase s phase.Working old.phases) old.table
    begun_slots nothing =
        sym (ap (λ (hs : List (Held B)). slots_of (with_phase s phase.Working old.phases) hs) (sym (set-get_or old.table (s - 1) nothing_held))
        ∙ slots_set old.phases old.table (s - 1) phase.Working (held_at (s - 1) old.table) same
        ∙ ap (λ (x : Held B). with_slot s (slots.Working x.locks (map note_of x.notes) None) all) nothing)

    begins_so : call ≡ Begin → phase_at (s - 1) old.phases ≡ phase.Free → is_full old ≡ false → (given ≡ asked.Now reply.Ok) × (new ≡ with_transaction s old)
        → Comes (events.Asks s call given) given new
    begins_so begin at room a =
        let free : slot_at s i.slots ≡ slots.Free =
        ap (λ (xs : List (Slot B)). slot_at s xs) of.slots ∙ slot_here s old.phases old.table is same
        ∙ ap (λ (q : Phase B W). slot_of q (held_at (s - 1) old.table)) at in
        let nothing : held_at (s - 1) old.table ≡ nothing_held =
        subst (λ (q : Phase B W). HoldsNothing q (held_at (s - 1) old.table)) at (kept.placed (s - 1) (low c.keys old kept s is)).nothing in
        let small : old.next < 18446744073709551607 = next_small (nat_le 18446744073709551607 old.latest) old.next room in
        let left : nat_lt i.next 18446744073709551615 ≡ true = lt-ltb i.next 18446744073709551615 (omega (arith, of.next, small)) in
        let happens : Happens c i (events.Asks s Begin (asked.Now reply.Ok)) (happening.with_transaction s i) =
        transaction_begins c l i w (of.failed ∙ works) s is free left in
        subst (λ (n : State B W). Comes (events.Asks s call given) given n) (sym a.1)
        (subst (λ (g : Asked B). Comes (events.Asks s call g) g (with_transaction s old)) (sym a.0) (
          subst (λ (x : Call B). Happens c i (events.Asks s x (asked.Now reply.Ok)) (happening.with_transaction s i)) (sym begin) happens,
          record {
            slots = ap (λ (xs : List (Slot B)). with_slot s (slots.Working no_locks [] None) xs) of.slots ∙ begun_slots nothing;
            transactions = number_of;
            next = omega (arith, of.next);
            oldest = of.oldest;
            failed = of.failed;
          },
        ))

    begun_comes : (full : Bool) → is_full old ≡ full → call ≡ Begin → phase_at (s - 1) old.phases ≡ phase.Free → Begun full s old given new
        → IsHappening c.keys E (event_by false full s call given) (engine_of live i.older new) → Comes (event_by false full s call given) given new
    begun_comes true is_so begin at a is_event =
        refused_comes (λ g. events.RefusesAsk s call HistoryFull) HistoryFull a
        (history_is_full c l i w (of.failed ∙ works) s call (ap (λ (e : Engine B). (ask c.keys s call e).0) its_engine ∙ is_event.1))
    begun_comes false is_so begin at a is_event = begins_so begin at is_so a

    -- a call whose state is this one with other phases and locks
    opens_as : (phases' : List (Phase B W)) (table' : List (Held B)) → (given ≡ asked.Open) × (new ≡ record old { phases = phases'; table = table' })
        → IsHappening c.keys E (events.Asks s call given) (engine_of live i.older new) → Comes (events.Asks s call given) given new
    opens_as phases' table' a is_event =
        opens is_event a.0 (ap (λ (x : State B W). x.transactions) a.1) (ap (λ (x : State B W). x.next) a.1) (ap (λ (x : State B W). x.durable) a.1)
        (ap (λ (x : State B W). x.failed) a.1)

    lock_comes : (x : Call B) (r : Result (Locks B) Refusal) → LockTaken r s x work old given new
        → IsHappening c.keys E (events.Asks s call given) (engine_of live i.older new) → Comes (events.Asks s call given) given new
    lock_comes x (Ok locks) a is_event =
        opens_as (with_phase s (phase.Open x work) old.phases) (with_held s (with_locks locks (held_by s old.table)) old.table) a is_event
    lock_comes x (Err why) a is_event = locks_refuse works why is_event a

    working_comes : (x : Call B) → AskedWorking c.keys s x work old given new → IsHappening c.keys E (events.Asks s call given) (engine_of live i.older new)
        → Comes (events.Asks s call given) given new
    working_comes Begin a is_event = locks_refuse works InTransaction is_event a
    working_comes (Insert e) a is_event = lock_comes (Insert e) (locks_for c.keys (Insert e) s old.table) a is_event
    working_comes (Delete e) a is_event = lock_comes (Delete e) (locks_for c.keys (Delete e) s old.table) a is_event
    working_comes (Search q) a is_event = lock_comes (Search q) (locks_for c.keys (Search q) s old.table) a is_event
    working_comes Commit a is_event = opens_as (with_phase s (phase.Open Commit work) old.phases) old.table a is_event
    working_comes Abort a is_event = opens_as (with_phase s (phase.Undoing 0 work) old.phases) old.table a is_event

    free_comes : (x : Call B) → call ≡ x → phase_at (s - 1) old.phases ≡ phase.Free → AskedFree s x old given new
        → IsHappening c.keys E (event_by false (is_begin x && is_full old) s call given) (engine_of live i.older new)
        → Comes (event_by false (is_begin x && is_full old) s call given) given new
    free_comes Begin is_so at a is_event = begun_comes (is_full old) refl is_so at a is_event
    free_comes (Insert e) is_so at a is_event = locks_refuse works NoTransaction is_event a
    free_comes (Delete e) is_so at a is_event = locks_refuse works NoTransaction is_event a
    free_comes (Search q) is_so at a is_event = locks_refuse works NoTransaction is_event a
    free_comes Commit is_so at a is_event = locks_refuse works NoTransaction is_event a
    free_comes Abort is_so at a is_event = locks_refuse works NoTransaction is_event a

    at_comes : (q : Phase B W) → phase_at (s - 1) old.phases ≡ q → AskedAt c.keys s call work q old given new
        → IsHappening c.keys E (event_by false (begins call q && is_full old) s call given) (engine_of live i.older new)
        → Comes (event_by false (begins call q && is_full old) s call given) given new
    at_comes phase.Free at a is_event = free_comes call refl at a is_event
    at_comes phase.Working at a is_event = working_comes call a is_event
    at_comes (phase.Open pending on) at a is_event = locks_refuse works CallOpen is_event a
    at_comes (phase.Undoing restored on) at a is_event = locks_refuse works CallOpen is_event a
    at_comes (phase.Waiting number) at a is_event = locks_refuse works CallOpen is_event a

  by_comes : (failed there : Bool) → old.failed ≡ failed → is_session s ≡ there → AskedBy c.keys s call work failed there old given new
      → IsHappening c.keys E (event_by failed (there && (begins call (phase_at (s - 1) old.phases) && is_full old)) s call given) (engine_of live i.older new)
      → Comes (event_by failed (there && (begins call (phase_at (s - 1) old.phases) && is_full old)) s call given) given new
  by_comes true there has is a is_event = failed_refuses has a
  by_comes false false works is a is_event = locks_refuse works BadSession is_event a
  by_comes false true works is a is_event = at_comes works is (phase_at (s - 1) old.phases) refl a is_event

  pub ask_comes : Comes (asked_event s call old given) given new
  ask_comes = by_comes old.failed (is_session s) refl refl asks event
