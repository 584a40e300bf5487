-- Calls that are asked: a transaction begins, a call opens, an ask is refused; and faults.
use Rattle.std.proofs.Common.{◌≡◌, ◌≢◌, ℕ, suc, ◌<◌, ◌≤◌, Bool, true, false, not, ◌&&◌, inl, inr, List, [], Option, Some, None, refl, ap, sym, ◌∙◌, subst, arith}
use Rattle.std.specs.Prelude.{Result, Ok, Err, option_map, if◌then◌else◌}
use Rattle.std.specs.List.{list_any}
use Rattle.gx_geom.specs.declared.refusal.Refusal.{Refusal}
use Rattle.gx_geom.specs.declared.refusal.Refusal.TheVariants as refusal
use Rattle.gx_machine.specs.declared.entry.Entry.{Entry}
use Rattle.gx_machine.specs.declared.call.Call.{Call}
use Rattle.gx_machine.specs.declared.call.Call.TheVariants.{Begin, Insert, Delete, Search, Commit, Abort}
use Rattle.gx_machine.specs.declared.reply.Reply.TheVariants as reply
use Rattle.gx_machine.specs.declared.reply.Asked.{Asked}
use Rattle.gx_machine.specs.declared.reply.Asked.TheVariants.{Now, Open}
use Rattle.gx_machine.specs.Keys.{Keys}
use Rattle.gx_machine.specs.Sessions.{Locks, no_locks, lock_for}
use Rattle.gx_machine.specs.Machine.{is_session}
use Rattle.gx_node.proofs.OwnLook.{look_begins}
use Rattle.gx_events.specs.Slots.{Note, Slot, Free, Working, Undoing, Waiting, notes_kept, slot_at, with_slot, noted}
use Rattle.gx_events.specs.Engines.{Engine, IsSame}
use Rattle.gx_events.specs.Asking.{least_barring, claims_held, asked_with, ask_working, ask_free, ask_slot, ask_in, ask}
use Rattle.gx_events.specs.Happenings as events
use Rattle.gx_events.specs.Happenings.{Happening, IsHappening}
use Rattle.gx_events.specs.Kinds.{changes_what_stood}
use Rattle.gx_events.proofs.Places.{set_itself}
use Rattle.gx_events.proofs.Asks.{asks_keep_notes}
use Rattle.gx_events.proofs.Standing.{waiting_there}
use Rattle.gx_recovery.specs.Known.{Known}
use Rattle.gx_recovery.specs.Records.{settled, any_number, names}
use Rattle.gx_recovery.specs.Standing.{own_before}
use Rattle.gx_recovery.specs.Damage.{is_transaction}
use Rattle.gx_recovery.specs.Logged.{all_records}
use Rattle.gx_recovery.proofs.Tests.{true_or_false}
use Rattle.gx_recovery.proofs.Unnamed.{unnamed_open, unnamed_untouched}
use Rattle.gx_recovery.proofs.Numbers.{next_above}
use Rattle.gx_index_laws.specs.Classes.{Class, Page, IsLawful, known_of}
use Rattle.gx_index_laws.specs.States.{State, Rests, tree_now, engine_of}
use Rattle.gx_index_laws.specs.Working.{DoesWork, wants_pair}
use Rattle.gx_index_laws.specs.Whole.{is_busy, HasTransaction, IsHad, IsTied, IsWhole}
use Rattle.gx_index_laws.specs.Happening.{Happens, slotted, first_work, with_transaction, failed_state}
use Rattle.gx_index_laws.proofs.Tools.{changed_here, changed_beside, by_session, not_true}
use Rattle.gx_index_laws.proofs.Standing.{known_lawful, is_log, is_legal}
use Rattle.gx_index_laws.proofs.Happens.{happens, sets_stay, same_sets}
use Rattle.gx_index_laws.proofs.Quiet.{as_it_is, here, beside, slotted_works, slotted_restored, quietly}

-- An ask that opens a call finds a transaction with none open, and leaves one; an ask that is refused leaves the slot.
module _ {B : Type 0} (k : Keys B) where
  abbrev Opens : Asked B × Slot B → Type 0
  Opens r = r.0 ≡ Open → is_busy r.1 ≡ true

  with_opens : (call : Call B) (r : Result (Locks B) Refusal) (old : Locks B) (notes : List (Note B)) → Opens (asked_with call r old notes)
  with_opens call (Ok locks) old notes is = refl
  with_opens call (Err why) old notes is = refl

  working_opens : (call : Call B) (least : Option ℕ) (spent : ℕ) (locks : Locks B) (notes : List (Note B)) → Opens (ask_working k call least spent locks notes)
  working_opens Begin least spent locks notes is = refl
  working_opens (Insert e) least spent locks notes is = with_opens (Insert e) (lock_for k (Insert e) least spent locks) locks notes is
  working_opens (Delete e) least spent locks notes is = with_opens (Delete e) (lock_for k (Delete e) least spent locks) locks notes is
  working_opens (Search q) least spent locks notes is = with_opens (Search q) (lock_for k (Search q) least spent locks) locks notes is
  working_opens Commit least spent locks notes is = with_opens Commit (lock_for k Commit least spent locks) locks notes is
  working_opens Abort least spent locks notes is = refl

  free_never : (call : Call B) → (ask_free call).0 ≡ Open → ⊥
  free_never Begin is = cc
  free_never (Insert e) is = cc
  free_never (Delete e) is = cc
  free_never (Search q) is = cc
  free_never Commit is = cc
  free_never Abort is = cc

  pub opens_busy : (call : Call B) (least : Option ℕ) (spent : ℕ) (x : Slot B) → (ask_slot k call least spent x).0 ≡ Open
      → (is_busy (ask_slot k call least spent x).1 ≡ true) × (is_busy x ≡ true)
  opens_busy call least spent Free is = absurd (free_never call is)
  opens_busy call least spent (Working locks notes None) is = (working_opens call least spent locks notes is, refl)
  opens_busy call least spent (Working locks notes (Some pending)) is = (refl, refl)
  opens_busy call least spent (Undoing locks notes) is = (refl, refl)
  opens_busy call least spent (Waiting number) is = let no : ⊥ = cc in absurd no

  with_refused : (call : Call B) (why : Refusal) (r : Result (Locks B) Refusal) (old : Locks B) (notes : List (Note B)) → (asked_with call r old notes).0 ≡ Now (reply.Refused why)
      → (asked_with call r old notes).1 ≡ Working old notes None
  with_refused call why (Ok locks) old notes is = let no : ⊥ = cc in absurd no
  with_refused call why (Err other) old notes is = refl

  working_refused : (call : Call B) (why : Refusal) (least : Option ℕ) (spent : ℕ) (locks : Locks B) (notes : List (Note B))
      → (ask_working k call least spent locks notes).0 ≡ Now (reply.Refused why) → (ask_working k call least spent locks notes).1 ≡ Working locks notes None
  working_refused Begin why least spent locks notes is = refl
  working_refused (Insert e) why least spent locks notes is = with_refused (Insert e) why (lock_for k (Insert e) least spent locks) locks notes is
  working_refused (Delete e) why least spent locks notes is = with_refused (Delete e) why (lock_for k (Delete e) least spent locks) locks notes is
  working_refused (Search q) why least spent locks notes is = with_refused (Search q) why (lock_for k (Search q) least spent locks) locks notes is
  working_refused Commit why least spent locks notes is = with_refused Commit why (lock_for k Commit least spent locks) locks notes is
  working_refused Abort why least spent locks notes is = let no : ⊥ = cc in absurd no

  free_refused : (call : Call B) (why : Refusal) → (ask_free call).0 ≡ Now (reply.Refused why) → (ask_free call).1 ≡ Free
  free_refused Begin why is = let no : ⊥ = cc in absurd no
  free_refused (Insert e) why is = refl
  free_refused (Delete e) why is = refl
  free_refused (Search q) why is = refl
  free_refused Commit why is = refl
  free_refused Abort why is = refl

  pub refused_stays : (call : Call B) (why : Refusal) (least : Option ℕ) (spent : ℕ) (x : Slot B) → (ask_slot k call least spent x).0 ≡ Now (reply.Refused why)
      → (ask_slot k call least spent x).1 ≡ x
  refused_stays call why least spent Free is = free_refused call why is
  refused_stays call why least spent (Working locks notes None) is = working_refused call why least spent locks notes is
  refused_stays call why least spent (Working locks notes (Some pending)) is = refl
  refused_stays call why least spent (Undoing locks notes) is = refl
  refused_stays call why least spent (Waiting number) is = refl

module _ {B : Type 0} (c : Class B) (l : IsLawful c) (old : State B) (w : IsWhole c old) where
  -- asking, with its test as a value
  abbrev ask_there : ℕ → Call B → Bool → Asked B × Engine B
  ask_there s call there =
      if there then
      (let r = ask_in c.keys s call old.slots in (r.0, record (engine_of c old) { slots = with_slot s r.1 old.slots }))
      else (Now (reply.Refused refusal.BadSession), engine_of c old)

  asks : (s : ℕ) (call : Call B) → is_session s ≡ true → ask c.keys s call (engine_of c old) ≡ ask_there s call true
  asks s call is = ap (ask_there s call) is

  -- An event that doesn't change an index.
  pub unchanged : (event : Happening B) → IsHappening c.keys (engine_of c old) event (engine_of c old) → changes_what_stood event ≡ false → Happens c old event old
  unchanged event is stays = happens c l old w event old is (record {
    healthy = w.healthy;
    works = w.works;
    restored = w.restored;
    tied = w.tied;
    next = w.next;
    sets = sets_stay c l old w event old is stays (same_sets c l old w) refl refl;
  })

  refused_slots : (s : ℕ) (call : Call B) (why : Refusal) (there : Bool) → is_session s ≡ there → (ask_there s call there).0 ≡ Now (reply.Refused why)
      → (ask_there s call there).1.slots ≡ old.slots
  refused_slots s call why true is given =
      ap (λ (x : Slot B). with_slot s x old.slots) (refused_stays c.keys call why (least_barring c.keys call s 1 old.slots) (claims_held old.slots) (slot_at s old.slots) given)
      ∙ set_itself s old.slots is
  refused_slots s call why false is given = refl

  rest_same : (s : ℕ) (call : Call B) (there : Bool) → ((e : Entry B) → (engine_of c old).live e ≡ (ask_there s call there).1.live e)
      × (old.older ≡ (ask_there s call there).1.older) × (old.oldest ≡ (ask_there s call there).1.oldest) × (old.failed ≡ (ask_there s call there).1.failed)
  rest_same s call true = ((λ e. refl), refl, refl, refl)
  rest_same s call false = ((λ e. refl), refl, refl, refl)

  pub ask_is_refused : old.failed ≡ false → (s : ℕ) (call : Call B) (why : Refusal) → (ask c.keys s call (engine_of c old)).0 ≡ Now (reply.Refused why)
      → Happens c old (events.Asks s call (Now (reply.Refused why))) old
  ask_is_refused works s call why given =
      let rest = rest_same s call (is_session s) in
      unchanged (events.Asks s call (Now (reply.Refused why)))
      (works, given, record { live = rest.0; slots = sym (refused_slots s call why (is_session s) refl given); older = rest.1; oldest = rest.2; failed = rest.3 }) refl

  pub history_is_full : old.failed ≡ false → (s : ℕ) (call : Call B) → (ask c.keys s call (engine_of c old)).0 ≡ Now reply.Ok
      → Happens c old (events.RefusesAsk s call refusal.HistoryFull) old
  history_is_full works s call given = unchanged (events.RefusesAsk s call refusal.HistoryFull) (works, given, as_it_is (engine_of c old)) refl

  -- A call opens.
  first_does : (s : ℕ) (call : Call B) (x : Slot B) → DoesWork c (tree_now c old) x (first_work (tree_now c old) call)
  first_does s Begin x = tt
  first_does s (Insert e) x = look_begins c.rules (tree_now c old) (is_legal c l old w) (wants_pair c x)
  first_does s (Delete e) x = look_begins c.rules (tree_now c old) (is_legal c l old w) (wants_pair c x)
  first_does s (Search q) x = look_begins c.rules (tree_now c old) (is_legal c l old w) (wants_pair c x)
  first_does s Commit x = tt
  first_does s Abort x = tt

  pub call_opens : old.failed ≡ false → (s : ℕ) → is_session s ≡ true → (call : Call B) → (ask_in c.keys s call old.slots).0 ≡ Open
      → Happens c old (events.Asks s call Open) (slotted s (ask_in c.keys s call old.slots).1 (first_work (tree_now c old) call) old)
  call_opens works s is call given =
      let x : Slot B = (ask_in c.keys s call old.slots).1 in
      let busy = opens_busy c.keys call (least_barring c.keys call s 1 old.slots) (claims_held old.slots) (slot_at s old.slots) given in
      quietly c l old w s is x (first_work (tree_now c old) call) (busy.0 ∙ sym busy.1)
      (asks_keep_notes c.keys l.keys call (least_barring c.keys call s 1 old.slots) (claims_held old.slots) (slot_at s old.slots))
      (first_does s call x) (events.Asks s call Open) (
        works,
        ap (λ (r : Asked B × Engine B). r.0) (asks s call is) ∙ given,
        subst (λ (r : Asked B × Engine B). IsSame (engine_of c (slotted s x (first_work (tree_now c old) call) old)) r.1) (sym (asks s call is))
            (as_it_is (engine_of c (slotted s x (first_work (tree_now c old) call) old))),
      ) refl

  -- A commit that is durable is acknowledged.
  pub acknowledged : old.failed ≡ false → (s number : ℕ) → slot_at s old.slots ≡ Waiting number → number ≤ old.oldest
      → Happens c old (events.Acknowledges s number) (slotted s Free Rests old)
  acknowledged works s number at durable =
      quietly c l old w s (waiting_there c.keys l.keys (engine_of c old) w.sound s number at) Free Rests (sym (ap is_busy at)) (sym (ap notes_kept at)) tt (events.Acknowledges s number)
      (record { works = works; waits = at; is_durable = durable; is = as_it_is (engine_of c (slotted s Free Rests old)) }) refl

  -- A transaction begins: its number is above all that the log names.
  module _ (works : old.failed ≡ false) (s : ℕ) (is : is_session s ≡ true) (free : slot_at s old.slots ≡ Free) (room : is_transaction old.next ≡ true) where
    abbrev k : Known (Entry B) (Page B)
    k = known_of c

    abbrev later : State B
    later = with_transaction s old

    abbrev fresh : Slot B
    fresh = Working no_locks [] None

    unnamed : list_any (names old.next) (all_records old.log) ≡ false
    unnamed =
        elim (true_or_false (list_any (names old.next) (all_records old.log))) [
          | inl named ↦ (let above = next_above k (known_lawful c l) (all_records old.log) (is_log c l old w) old.next named in let covers = w.next in absurd (omega (arith, above, covers)))
          | inr none ↦ none
        ]

    here_now : slot_at s later.slots ≡ fresh
    here_now = here c l old w s is fresh Rests

    beside_now : (a : ℕ) → a ≢ s → slot_at a later.slots ≡ slot_at a old.slots
    beside_now a ne = beside c l old w s is fresh Rests a ne

    number_now : later.transaction s ≡ old.next
    number_now = changed_here s old.next old.transaction s refl

    number_beside : (a : ℕ) → a ≢ s → later.transaction a ≡ old.transaction a
    number_beside a ne = changed_beside s old.next old.transaction a ne

    not_busy : is_busy (slot_at s old.slots) ≡ false
    not_busy = ap is_busy free

    was_busy : (a : ℕ) → a ≢ s → is_busy (slot_at a later.slots) ≡ true → is_busy (slot_at a old.slots) ≡ true
    was_busy a ne now = ap is_busy (sym (beside_now a ne)) ∙ now

    each_has : (a : ℕ) → is_busy (slot_at a later.slots) ≡ true → HasTransaction c later a
    each_has = by_session (λ a. is_busy (slot_at a later.slots) ≡ true → HasTransaction c later a) s
        (λ now. record {
          open_yet =
              ap (λ t. is_transaction t && not (settled any_number t (all_records old.log))) number_now
              ∙ ap (λ b. is_transaction old.next && not b) (unnamed_open k old.next (all_records old.log) unnamed) ∙ ap (λ b. b && true) room;
          below = subst (λ n. n < suc old.next) (sym number_now) (omega arith);
          notes = λ e.
              ap (λ (y : Slot B). noted c.keys e (notes_kept y)) here_now
              ∙ sym (ap (option_map not) (ap (λ t. own_before k t e (all_records old.log)) number_now ∙ unnamed_untouched k old.next e (all_records old.log) unnamed));
        })
        (λ a ne now.
        let h : HasTransaction c old a = w.tied.each a (was_busy a ne now) in
        record {
          open_yet = ap (λ t. is_transaction t && not (settled any_number t (all_records old.log))) (number_beside a ne) ∙ h.open_yet;
          below = (let b = h.below in let same = number_beside a ne in omega (arith, b, same));
          notes = λ e.
              ap (λ (y : Slot B). noted c.keys e (notes_kept y)) (beside_now a ne) ∙ h.notes e
              ∙ sym (ap (λ t. option_map not (own_before k t e (all_records old.log))) (number_beside a ne));
        })

    never_next : (a : ℕ) → a ≢ s → is_busy (slot_at a later.slots) ≡ true → old.transaction a ≢ old.next
    never_next a ne now same = let b = (w.tied.each a (was_busy a ne now)).below in absurd (omega (arith, b, same))

    one_each : (a b : ℕ) → is_busy (slot_at a later.slots) ≡ true → is_busy (slot_at b later.slots) ≡ true → later.transaction a ≡ later.transaction b → a ≡ b
    one_each = by_session (λ a. (b : ℕ) → is_busy (slot_at a later.slots) ≡ true → is_busy (slot_at b later.slots) ≡ true → later.transaction a ≡ later.transaction b → a ≡ b) s
        (by_session (λ b. is_busy (slot_at s later.slots) ≡ true → is_busy (slot_at b later.slots) ≡ true → later.transaction s ≡ later.transaction b → s ≡ b) s
        (λ first second same. refl)
        (λ b ne first second same. absurd (never_next b ne second (sym (number_beside b ne) ∙ sym same ∙ number_now))))
        (λ a ne_a. by_session (λ b. is_busy (slot_at a later.slots) ≡ true → is_busy (slot_at b later.slots) ≡ true → later.transaction a ≡ later.transaction b → a ≡ b) s
        (λ first second same. absurd (never_next a ne_a first (sym (number_beside a ne_a) ∙ same ∙ number_now)))
        (λ b ne first second same. w.tied.own a b (was_busy a ne_a first) (was_busy b ne second) (sym (number_beside a ne_a) ∙ same ∙ number_beside b ne)))

    begun_tied : IsTied c later
    begun_tied = record {
      each = each_has;
      own = one_each;
      had = λ t e open_yet some.
          let h : IsHad old t = w.tied.had t e open_yet some in
          let ne : h.session ≢ s = λ p. not_true (is_busy (slot_at s old.slots)) (subst (λ n. is_busy (slot_at n old.slots) ≡ true) p h.busy) not_busy in
          record { session = h.session; busy = ap is_busy (beside_now h.session ne) ∙ h.busy; has = number_beside h.session ne ∙ h.has };
    }

    is_asked : IsHappening c.keys (engine_of c old) (events.Asks s Begin (Now reply.Ok)) (engine_of c later)
    is_asked =
        let given : ask_slot c.keys Begin (least_barring c.keys Begin s 1 old.slots) (claims_held old.slots) (slot_at s old.slots) ≡ (Now reply.Ok, fresh) =
        ap (ask_slot c.keys Begin (least_barring c.keys Begin s 1 old.slots) (claims_held old.slots)) free in (
          works,
          ap (λ (r : Asked B × Engine B). r.0) (asks s Begin is) ∙ ap (λ (r : Asked B × Slot B). r.0) given,
          subst (λ (r : Asked B × Engine B). IsSame (engine_of c later) r.1) (sym (asks s Begin is)) (record {
            live = λ e. refl;
            slots = ap (λ (r : Asked B × Slot B). with_slot s r.1 old.slots) (sym given);
            older = refl;
            oldest = refl;
            failed = refl;
          }),
        )

    pub transaction_begins : Happens c old (events.Asks s Begin (Now reply.Ok)) later
    transaction_begins = happens c l old w (events.Asks s Begin (Now reply.Ok)) later is_asked (record {
      healthy = w.healthy;
      works = slotted_works c l old w s is fresh Rests tt;
      restored = slotted_restored c l old w s is fresh Rests;
      tied = begun_tied;
      next = (let n = w.next in omega (arith, n));
      sets = sets_stay c l old w (events.Asks s Begin (Now reply.Ok)) later is_asked refl (same_sets c l old w) refl refl;
    })

  -- Faults.

  pub faulted : (event : Happening B) → IsHappening c.keys (engine_of c old) event (engine_of c (failed_state old)) → changes_what_stood event ≡ false → Happens c old event (failed_state old)
  faulted event is stays = happens c l old w event (failed_state old) is (record {
    healthy = w.healthy;
    works = w.works;
    restored = w.restored;
    tied = record {
      each = λ a busy. (let h : HasTransaction c old a = w.tied.each a busy in record { open_yet = h.open_yet; below = h.below; notes = h.notes });
      own = w.tied.own;
      had = λ t e open_yet some. (let h : IsHad old t = w.tied.had t e open_yet some in record { session = h.session; busy = h.busy; has = h.has });
    };
    next = w.next;
    sets = sets_stay c l old w event (failed_state old) is stays (same_sets c l old w) refl refl;
  })
