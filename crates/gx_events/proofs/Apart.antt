-- What others leave a session: its slot, what its locks bar, and the pairs that it wants.
use Rattle.std.proofs.Common.{◌≡◌, ◌≢◌, ℕ, zero, suc, ◌-◌, Bool, true, false, not, ◌&&◌, ◌||◌, inl, inr, List, [], ◌∷◌, ◌++◌, Some, None, refl, ap, sym, ◌∙◌, subst, eq-eqb}
use Rattle.std.specs.Prelude.{if◌then◌else◌, ◌==◌, drop}
use Rattle.std.specs.List.{list_any, slice_index_or}
use Rattle.std.proofs.lemmas.Bool.{or_parts}
use Rattle.gx_geom.specs.declared.refusal.Refusal.{Refusal}
use Rattle.gx_geom.specs.declared.refusal.Refusal.TheVariants as refusal
use Rattle.gx_machine.specs.declared.entry.Entry.{Entry}
use Rattle.gx_machine.specs.declared.call.Call.{Call}
use Rattle.gx_machine.specs.declared.call.Call.TheVariants.{Begin, Insert, Delete, Search, Commit, Abort}
use Rattle.gx_machine.specs.declared.reply.Reply.TheVariants as reply
use Rattle.gx_machine.specs.declared.reply.Asked.{Asked}
use Rattle.gx_machine.specs.declared.reply.Asked.TheVariants as asked
use Rattle.gx_machine.specs.Keys.{Keys, IsLawful, same_entry, matches}
use Rattle.gx_machine.specs.Sets.{has}
use Rattle.gx_machine.specs.Sessions.{Locks, write_conflicts}
use Rattle.gx_machine.specs.Machine.{is_session}
use Rattle.gx_machine.proofs.SetLaws.{same_is}
use Rattle.gx_machine.proofs.SessionsApart.{predicate_matches}
use Rattle.gx_events.specs.Slots.{Note, Slot, Free, Working, Undoing, Waiting, locks_held, slot_at, with_slot, entries_of}
use Rattle.gx_events.specs.Engines.{Engine, IsSound, HoldsItsLocks, IsSame}
use Rattle.gx_events.specs.Asking.{ask_in, ask}
use Rattle.gx_events.specs.Happenings as events
use Rattle.gx_events.specs.Happenings.{Happening, IsHappening, marked, failed_engine, slotted, IsWritten, IsClosed, MeetsFault, AskRefused}
use Rattle.gx_events.specs.Wants.{Pair, wants, slot_wants, is_claimed, Change, Moves, Adds, Marks, Sweeps, ToldByLocks, LeavesAlone, is_sweep, LeavesSession}
use Rattle.gx_events.specs.Kinds.{is_of_another}
use Rattle.gx_events.proofs.Options.{true_or_false, uncovered}
use Rattle.gx_events.proofs.Places.{slot_other}
use Rattle.gx_events.proofs.Noted.{has_noted}
use Rattle.gx_events.proofs.Locking.{not_claimed_elsewhere}
use Rattle.gx_events.proofs.Standing.{working_there, undoing_there, waiting_there}

another_number : (t s : ℕ) → not (t == s) ≡ true → t ≢ s
another_number t s h p = let both : true ≡ false = sym h ∙ ap not (eq-eqb t s p) in cc

both_live : (a b : Bool) → b ≡ false → (a && b) ≡ false
both_live true b h = h
both_live false b h = refl

live_too : (a b : Bool) → (a && b) ≡ true → a ≡ true
live_too true b h = refl
live_too false b h = h

module _ {B : Type 0} (k : Keys B) (l : IsLawful k) where
  -- an entry that isn't claimed isn't one that is
  not_it : (e x : Entry B) (claims : List (Entry B)) → has k x claims ≡ true → has k e claims ≡ false → same_entry k e x ≡ false
  not_it e x claims there lacks =
      uncovered (same_entry k e x) (has k e claims) (λ h. ap (λ (z : Entry B). has k z claims) (same_is k l e x h) ∙ there) lacks

  call_wants_none : (call : Call B) (locks : Locks B) (notes : List (Note B)) (pair : Pair B) → HoldsItsLocks k (Working locks notes (Some call))
      → has k pair.entry locks.claims ≡ false → list_any (λ q. matches k q pair.entry) locks.predicates ≡ false → wants k call pair ≡ false
  call_wants_none (Insert e) locks notes pair holds unclaimed unwatched = not_it pair.entry e locks.claims holds.1 unclaimed
  call_wants_none (Delete e) locks notes pair holds unclaimed unwatched = not_it pair.entry e locks.claims holds.1 unclaimed
  call_wants_none (Search q) locks notes pair holds unclaimed unwatched =
      both_live pair.live (matches k q pair.entry) (predicate_matches k l q pair.entry locks.predicates holds.1 unwatched)
  call_wants_none Begin locks notes pair holds unclaimed unwatched = refl
  call_wants_none Commit locks notes pair holds unclaimed unwatched = refl
  call_wants_none Abort locks notes pair holds unclaimed unwatched = refl

  wants_none : (x : Slot B) (pair : Pair B) → HoldsItsLocks k x → write_conflicts k pair.entry (locks_held x) ≡ false → slot_wants k x pair ≡ false
  wants_none Free pair holds free = refl
  wants_none (Working locks notes None) pair holds free = refl
  wants_none (Working locks notes (Some call)) pair holds free =
      let parts = or_parts (has k pair.entry locks.claims) (list_any (λ q. matches k q pair.entry) locks.predicates) free in
      call_wants_none call locks notes pair holds parts.0 parts.1
  wants_none (Undoing locks notes) pair holds free =
      let parts = or_parts (has k pair.entry locks.claims) (list_any (λ q. matches k q pair.entry) locks.predicates) free in
      uncovered (has k pair.entry (entries_of notes)) (has k pair.entry locks.claims) (holds pair.entry) parts.0
  wants_none (Waiting number) pair holds free = refl

  claims_it : (e x : Entry B) (claims : List (Entry B)) → has k x claims ≡ true → same_entry k e x ≡ true → has k e claims ≡ true
  claims_it e x claims there same = ap (λ (z : Entry B). has k z claims) (same_is k l e x same) ∙ there

  -- what a slot wants that is marked, it claims
  wants_its_claim : (x : Slot B) (pair : Pair B) → HoldsItsLocks k x → pair.live ≡ false → slot_wants k x pair ≡ true → has k pair.entry (locks_held x).claims ≡ true
  wants_its_claim Free pair holds dead h = cc
  wants_its_claim (Working locks notes None) pair holds dead h = cc
  wants_its_claim (Working locks notes (Some (Insert e))) pair holds dead h = claims_it pair.entry e locks.claims holds.1 h
  wants_its_claim (Working locks notes (Some (Delete e))) pair holds dead h = claims_it pair.entry e locks.claims holds.1 h
  wants_its_claim (Working locks notes (Some (Search q))) pair holds dead h =
      let both : true ≡ false = sym (live_too pair.live (matches k q pair.entry) h) ∙ dead in absurd (let no : ⊥ = cc in no)
  wants_its_claim (Working locks notes (Some Begin)) pair holds dead h = cc
  wants_its_claim (Working locks notes (Some Commit)) pair holds dead h = cc
  wants_its_claim (Working locks notes (Some Abort)) pair holds dead h = cc
  wants_its_claim (Undoing locks notes) pair holds dead h = holds pair.entry h
  wants_its_claim (Waiting number) pair holds dead h = cc

  claimed_by_some : (e : Entry B) (slots : List (Slot B)) (j : ℕ) → has k e (locks_held (slice_index_or slots j Free)).claims ≡ true → is_claimed k e slots ≡ true
  claimed_by_some e [] j h = h
  claimed_by_some e (x ∷ xs) zero h = ap (λ b. b || is_claimed k e xs) h
  claimed_by_some e (x ∷ xs) (suc j) h =
      elim (true_or_false (has k e (locks_held x).claims)) [
        | inl first ↦ ap (λ b. b || is_claimed k e xs) first
        | inr other ↦ ap (λ b. b || is_claimed k e xs) other ∙ claimed_by_some e xs j h
      ]

  claimed_by : (e : Entry B) (s : ℕ) (slots : List (Slot B)) (there : Bool)
      → has k e (locks_held (if there then slice_index_or slots (s - 1) Free else Free)).claims ≡ true → is_claimed k e slots ≡ true
  claimed_by e s slots true h = claimed_by_some e slots (s - 1) h
  claimed_by e s slots false h = let no : ⊥ = cc in absurd no

  module _ (engine : Engine B) (i : IsSound k engine) where
    pub claimed_is_unwanted : (a b : ℕ) (pair : Pair B) → a ≢ b → has k pair.entry (locks_held (slot_at a engine.slots)).claims ≡ true
        → slot_wants k (slot_at b engine.slots) pair ≡ false
    claimed_is_unwanted a b pair ne claimed = wants_none (slot_at b engine.slots) pair (i.holds b) (i.apart a b ne pair.entry claimed)

    pub wanted_is_spared : (s : ℕ) (pair : Pair B) → pair.live ≡ false → slot_wants k (slot_at s engine.slots) pair ≡ true → is_claimed k pair.entry engine.slots ≡ true
    wanted_is_spared s pair dead h =
        claimed_by pair.entry s engine.slots (is_session s) (wants_its_claim (slot_at s engine.slots) pair (i.holds s) dead h)

    pub told_leaves_alone : (a b : ℕ) (change : Change B) → a ≢ b → ToldByLocks k a engine.slots change → LeavesAlone (slot_wants k (slot_at b engine.slots)) change
    told_leaves_alone a b Moves ne told = tt
    told_leaves_alone a b (Adds e) ne told = claimed_is_unwanted a b (record { entry = e; live = true }) ne told
    told_leaves_alone a b (Marks e) ne told = λ live. claimed_is_unwanted a b (record { entry = e; live = live }) ne told
    told_leaves_alone a b (Sweeps spared) ne told = λ e h. told e (wanted_is_spared b (record { entry = e; live = false }) refl h)

    pub sweep_leaves_alone : (s : ℕ) (change : Change B) → is_sweep change ≡ true → ToldByLocks k s engine.slots change → LeavesAlone (slot_wants k (slot_at s engine.slots)) change
    sweep_leaves_alone s Moves is told = tt
    sweep_leaves_alone s (Adds e) is told = let no : ⊥ = cc in absurd no
    sweep_leaves_alone s (Marks e) is told = let no : ⊥ = cc in absurd no
    sweep_leaves_alone s (Sweeps spared) is told = λ e h. told e (wanted_is_spared s (record { entry = e; live = false }) refl h)

  -- Events of others.

  module _ (old : Engine B) (i : IsSound k old) (s : ℕ) where
    -- nothing that decides changes but for another's slot
    leaves_slot : (t : ℕ) (x : Slot B) (new later : Engine B) → is_session t ≡ true → t ≢ s → IsSame new later → later.slots ≡ with_slot t x old.slots → later.live ≡ old.live
        → LeavesSession k s old new
    leaves_slot t x new later is ne same slots live = record {
      slot = ap (slot_at s) (same.slots ∙ slots) ∙ slot_other s t old.slots x is (λ p. ne (sym p));
      live = λ e barred. same.live e ∙ ap (λ (f : Entry B → Bool). f e) live;
    }

    leaves_all : (new later : Engine B) → IsSame new later → later.slots ≡ old.slots → later.live ≡ old.live → LeavesSession k s old new
    leaves_all new later same slots live = record {
      slot = ap (slot_at s) (same.slots ∙ slots);
      live = λ e barred. same.live e ∙ ap (λ (f : Entry B → Bool). f e) live;
    }

    unmarked : (t : ℕ) (e : Entry B) (now : Bool) → t ≢ s → has k e (locks_held (slot_at t old.slots)).claims ≡ true → (x : Entry B)
        → write_conflicts k x (locks_held (slot_at s old.slots)) ≡ true → marked k e now old.live x ≡ old.live x
    unmarked t e now ne claimed x barred =
        let lacks : has k x (locks_held (slot_at t old.slots)).claims ≡ false = not_claimed_elsewhere k l old i s t (λ p. ne (sym p)) x barred in
        ap (λ b. if b then now else old.live x) (not_it x e (locks_held (slot_at t old.slots)).claims claimed lacks)

    write_leaves : (t : ℕ) (call : Call B) (e : Entry B) (now : Bool) (new : Engine B) → t ≢ s → (w : IsWritten k t call e now old new)
        → has k e w.locks.claims ≡ true → LeavesSession k s old new
    write_leaves t call e now new ne w claimed =
        let claims : has k e (locks_held (slot_at t old.slots)).claims ≡ true = ap (λ (x : Slot B). has k e (locks_held x).claims) w.asked ∙ claimed in
        record {
          slot = ap (slot_at s) w.is.slots
              ∙ slot_other s t old.slots (Working w.locks w.then_notes None) (working_there k l old i t w.locks w.notes (Some call) w.asked) (λ p. ne (sym p));
          live = λ x barred. w.is.live x ∙ unmarked t e now ne claims x barred;
        }

    held_at : (t : ℕ) (x : Slot B) → slot_at t old.slots ≡ x → HoldsItsLocks k x
    held_at t x at = subst (HoldsItsLocks k) at (i.holds t)

    close_leaves : (t : ℕ) (call : Call B) (new : Engine B) → t ≢ s → IsClosed t call old new → LeavesSession k s old new
    close_leaves t call new ne c =
        leaves_slot t (Working c.locks c.notes None) new (slotted t (Working c.locks c.notes None) old)
        (working_there k l old i t c.locks c.notes (Some call) c.asked) ne c.is refl refl

    abbrev ask_by : ℕ → Call B → Bool → Asked B × Engine B
    ask_by t call there =
        if there then
        (let r = ask_in k t call old.slots in (r.0, record old { slots = with_slot t r.1 old.slots }))
        else (asked.Now (reply.Refused refusal.BadSession), old)

    ask_leaves : (t : ℕ) (call : Call B) (new : Engine B) (there : Bool) → is_session t ≡ there → t ≢ s → IsSame new (ask k t call old).1 → LeavesSession k s old new
    ask_leaves t call new true is ne same =
        let left : (ask k t call old).1 ≡ record old { slots = with_slot t (ask_in k t call old.slots).1 old.slots } =
        ap (λ b. (ask_by t call b).1) is in
        leaves_slot t (ask_in k t call old.slots).1 new (ask k t call old).1 is ne same (ap (λ (n : Engine B). n.slots) left) (ap (λ (n : Engine B). n.live) left)
    ask_leaves t call new false is ne same =
        let left : (ask k t call old).1 ≡ old = ap (λ b. (ask_by t call b).1) is in
        leaves_all new (ask k t call old).1 same (ap (λ (n : Engine B). n.slots) left) (ap (λ (n : Engine B). n.live) left)

    fault_leaves : (why : Refusal) (new : Engine B) → MeetsFault why old new → LeavesSession k s old new
    fault_leaves refusal.Device new h = leaves_all new (failed_engine old) h.1 refl refl
    fault_leaves refusal.Failed new h = leaves_all new (failed_engine old) h refl refl
    fault_leaves other new h = absurd h

    refused_leaves : (t : ℕ) (call : Call B) (why : Refusal) (new : Engine B) → AskRefused k t call why old new → LeavesSession k s old new
    refused_leaves t call refusal.HistoryFull new h = leaves_all new old h.2 refl refl
    refused_leaves t call refusal.Device new h = leaves_all new (failed_engine old) h.1 refl refl
    refused_leaves t call refusal.Failed new h = leaves_all new (failed_engine old) h refl refl
    refused_leaves t call other new h = absurd h

    pub event_leaves : (event : Happening B) (new : Engine B) → IsHappening k old event new → is_of_another s event ≡ true → LeavesSession k s old new
    event_leaves (events.Asks t call given) new h another = ask_leaves t call new (is_session t) refl (another_number t s another) h.2
    event_leaves (events.RefusesAsk t call why) new h another = refused_leaves t call why new h
    event_leaves (events.Inserts t e) new h another =
        write_leaves t (Insert e) e true new (another_number t s another) h (held_at t (Working h.locks h.notes (Some (Insert e))) h.asked).1
    event_leaves (events.Deletes t e) new h another =
        write_leaves t (Delete e) e false new (another_number t s another) h (held_at t (Working h.locks h.notes (Some (Delete e))) h.asked).1
    event_leaves (events.FindsPresent t e) new h another = close_leaves t (Insert e) new (another_number t s another) h.1
    event_leaves (events.FindsAbsent t e) new h another = close_leaves t (Delete e) new (another_number t s another) h.1
    event_leaves (events.Finds t query entries) new h another = close_leaves t (Search query) new (another_number t s another) h.1
    event_leaves (events.Closes t call why) new h another = close_leaves t call new (another_number t s another) h.1
    event_leaves (events.Seals t set number) new h another =
        leaves_slot t (Waiting number) new (record old { older = old.older ++ set ∷ []; slots = with_slot t (Waiting number) old.slots })
        (working_there k l old i t h.locks h.notes (Some Commit) h.asked) (another_number t s another) h.is refl refl
    event_leaves (events.Durable number) new h another = leaves_all new (record old { older = drop (number - old.oldest) old.older; oldest = number }) h.is refl refl
    event_leaves (events.Acknowledges t number) new h another =
        leaves_slot t Free new (slotted t Free old) (waiting_there k l old i t number h.waits) (another_number t s another) h.is refl refl
    event_leaves (events.Undoes t e) new h another =
        let held : HoldsItsLocks k (Undoing h.locks h.notes) = held_at t (Undoing h.locks h.notes) h.aborts in
        let claimed : has k e (locks_held (slot_at t old.slots)).claims ≡ true =
        ap (λ (x : Slot B). has k e (locks_held x).claims) h.aborts ∙ held e (has_noted k e h.notes h.was_live h.was_noted) in
        record {
          slot = ap (slot_at s) h.is.slots;
          live = λ x barred. h.is.live x ∙ unmarked t e h.was_live (another_number t s another) claimed x barred;
        }
    event_leaves (events.EndsUndo t) new h another =
        leaves_slot t Free new (slotted t Free old) (undoing_there k l old i t h.locks h.notes h.aborts) (another_number t s another) h.is refl refl
    event_leaves (events.RefusesCall t why) new h another = fault_leaves why new h.1
    event_leaves events.Fails new h another = leaves_all new (failed_engine old) h refl refl
    event_leaves (events.Opens number) new h another = let no : ⊥ = cc in absurd no
    event_leaves events.Works new h another = leaves_all new old h refl refl
