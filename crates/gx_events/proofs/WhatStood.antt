-- Only commits and openings change the committed set; and what a failed engine does.
use Rattle.std.proofs.Common.{◌≡◌, ℕ, ◌-◌, Bool, true, false, ◌⊎◌, inl, inr, List, [], ◌∷◌, ◌++◌, Option, Some, None, refl, ap, sym, ◌∙◌, subst, lt_irrefl, ltb-true}
use Rattle.std.specs.Prelude.{if◌then◌else◌, is_some, unwrap_or, nat_lt, drop}
use Rattle.std.specs.List.{slice_index_or}
use Rattle.std.specs.Option.{option_or}
use Rattle.gx_geom.specs.declared.refusal.Refusal.{Refusal}
use Rattle.gx_geom.specs.declared.refusal.Refusal.TheVariants as refusal
use Rattle.gx_machine.specs.declared.entry.Entry.{Entry}
use Rattle.gx_machine.specs.declared.call.Call.{Call}
use Rattle.gx_machine.specs.declared.call.Call.TheVariants.{Insert, Delete, Search, Commit}
use Rattle.gx_machine.specs.declared.reply.Reply.TheVariants as reply
use Rattle.gx_machine.specs.declared.reply.Asked.{Asked}
use Rattle.gx_machine.specs.declared.reply.Asked.TheVariants as asked
use Rattle.gx_machine.specs.Keys.{Keys, IsLawful}
use Rattle.gx_machine.specs.Sets.{has}
use Rattle.gx_machine.specs.Machine.{is_session}
use Rattle.gx_events.specs.Slots.{Slot, Free, Working, Waiting, notes_kept, slot_at, with_slot, noted, noted_in}
use Rattle.gx_events.specs.Engines.{Engine, IsSound, HoldsItsLocks, IsSame, stood, kept, last_number}
use Rattle.gx_events.specs.Asking.{least_barring, claims_held, ask_in, ask}
use Rattle.gx_events.specs.Happenings as events
use Rattle.gx_events.specs.Happenings.{Happening, IsHappening, marked, slotted, failed_engine, IsWritten, IsClosed, IsSealed, IsOpened, MeetsFault, AskRefused}
use Rattle.gx_events.specs.Kinds.{changes_what_stood, may_follow_failure, is_opening}
use Rattle.gx_events.proofs.Locking.{of_others}
use Rattle.gx_events.proofs.Asks.{asks_keep_notes}
use Rattle.gx_events.proofs.Standing.{is_one, working_there, waiting_there, stood_by, quiet_stood, write_stood, one_noted, sealed_noted, undone_stood, restored_stood}

-- what a commit leaves of an entry: what its transaction has, if it noted it
committed : (rest own : Option Bool) (live : Bool) → (rest ≡ None) ⊎ (own ≡ None)
    → unwrap_or rest live ≡ (if is_some own then live else unwrap_or (option_or rest own) live)
committed None None live h = refl
committed None (Some w) live h = refl
committed (Some v) None live h = refl
committed (Some v) (Some w) live h = elim h [ inl p ↦ cc | inr p ↦ cc ]

not_below : (n : ℕ) (below : Bool) → nat_lt n n ≡ below → below ≡ false
not_below n true h = absurd (lt_irrefl n (ltb-true n n h))
not_below n false h = refl

module _ {B : Type 0} (k : Keys B) where
  -- an engine that decides as another has the same committed set
  stood_same : (new later : Engine B) → IsSame new later → (e : Entry B) → stood k new e ≡ stood k later e
  stood_same new later same e = ap (λ (n : Engine B). stood k n e) (is_one new later same)

  pub last_is_stood : (engine : Engine B) (e : Entry B) → kept k (last_number engine) engine e ≡ stood k engine e
  last_is_stood engine e =
      ap (λ b. if b then has k e (slice_index_or engine.older (last_number engine - engine.oldest) []) else stood k engine e)
      (not_below (last_number engine) (nat_lt (last_number engine) (last_number engine)) refl)

  pub opening_stood : (number : ℕ) (old new : Engine B) → IsOpened k number old new → (e : Entry B) → stood k new e ≡ kept k number old e
  opening_stood number old new o e = ap (λ slots. unwrap_or (noted_in k e slots) (new.live e)) o.slots ∙ o.live e

  module _ (l : IsLawful k) (old : Engine B) (i : IsSound k old) where
    closed_stood : (t : ℕ) (call : Call B) (new : Engine B) → IsClosed t call old new → (e : Entry B) → stood k new e ≡ stood k old e
    closed_stood t call new c e =
        stood_same new (slotted t (Working c.locks c.notes None) old) c.is e
        ∙ quiet_stood k l old i t (Working c.locks c.notes (Some call)) (Working c.locks c.notes None) (working_there k l old i t c.locks c.notes (Some call) c.asked) c.asked refl e

    written_stood : (t : ℕ) (call : Call B) (x : Entry B) (now : Bool) (new : Engine B) (w : IsWritten k t call x now old new)
        → (HoldsItsLocks k (Working w.locks w.notes (Some call)) → has k x w.locks.claims ≡ true) → (e : Entry B) → stood k new e ≡ stood k old e
    written_stood t call x now new w claim e =
        let held : HoldsItsLocks k (Working w.locks w.notes (Some call)) = subst (HoldsItsLocks k) w.asked (i.holds t) in
        stood_same new (record old { live = marked k x now old.live; slots = with_slot t (Working w.locks w.then_notes None) old.slots }) w.is e
        ∙ write_stood k l old i t call x now new w (λ h. claim held) e

    abbrev ask_by : ℕ → Call B → Bool → Asked B × Engine B
    ask_by t call there =
        if there then
        (let r = ask_in k t call old.slots in (r.0, record old { slots = with_slot t r.1 old.slots }))
        else (asked.Now (reply.Refused refusal.BadSession), old)

    asked_stood : (t : ℕ) (call : Call B) (new : Engine B) (there : Bool) → is_session t ≡ there → IsSame new (ask k t call old).1 → (e : Entry B) → stood k new e ≡ stood k old e
    asked_stood t call new true is same e =
        stood_same new (ask k t call old).1 same e ∙ ap (λ b. stood k (ask_by t call b).1 e) is
        ∙ quiet_stood k l old i t (slot_at t old.slots) (ask_in k t call old.slots).1 is refl
        (asks_keep_notes k l call (least_barring k call t 1 old.slots) (claims_held old.slots) (slot_at t old.slots)) e
    asked_stood t call new false is same e = stood_same new (ask k t call old).1 same e ∙ ap (λ b. stood k (ask_by t call b).1 e) is

    fault_stood : (why : Refusal) (new : Engine B) → MeetsFault why old new → (e : Entry B) → stood k new e ≡ stood k old e
    fault_stood refusal.Device new h e = stood_same new (failed_engine old) h.1 e
    fault_stood refusal.Failed new h e = stood_same new (failed_engine old) h e
    fault_stood other new h e = absurd h

    refused_stood : (t : ℕ) (call : Call B) (why : Refusal) (new : Engine B) → AskRefused k t call why old new → (e : Entry B) → stood k new e ≡ stood k old e
    refused_stood t call refusal.HistoryFull new h e = stood_same new old h.2 e
    refused_stood t call refusal.Device new h e = stood_same new (failed_engine old) h.1 e
    refused_stood t call refusal.Failed new h e = stood_same new (failed_engine old) h e
    refused_stood t call other new h e = absurd h

    pub event_stood : (event : Happening B) (new : Engine B) → IsHappening k old event new → changes_what_stood event ≡ false → (e : Entry B) → stood k new e ≡ stood k old e
    event_stood (events.Asks t call given) new h keeps e = asked_stood t call new (is_session t) refl h.2 e
    event_stood (events.RefusesAsk t call why) new h keeps e = refused_stood t call why new h e
    event_stood (events.Inserts t x) new h keeps e = written_stood t (Insert x) x true new h (λ held. held.1) e
    event_stood (events.Deletes t x) new h keeps e = written_stood t (Delete x) x false new h (λ held. held.1) e
    event_stood (events.FindsPresent t x) new h keeps e = closed_stood t (Insert x) new h.1 e
    event_stood (events.FindsAbsent t x) new h keeps e = closed_stood t (Delete x) new h.1 e
    event_stood (events.Finds t query entries) new h keeps e = closed_stood t (Search query) new h.1 e
    event_stood (events.Closes t call why) new h keeps e = closed_stood t call new h.1 e
    event_stood (events.Seals t set number) new h keeps e = let no : ⊥ = cc in absurd no
    event_stood (events.Durable number) new h keeps e = stood_same new (record old { older = drop (number - old.oldest) old.older; oldest = number }) h.is e
    event_stood (events.Acknowledges t number) new h keeps e =
        stood_same new (slotted t Free old) h.is e ∙ quiet_stood k l old i t (Waiting number) Free (waiting_there k l old i t number h.waits) h.waits refl e
    event_stood (events.Undoes t x) new h keeps e = stood_same new (record old { live = marked k x h.was_live old.live }) h.is e ∙ undone_stood k l old i t x new h e
    event_stood (events.EndsUndo t) new h keeps e = stood_same new (slotted t Free old) h.is e ∙ restored_stood k l old i t new h e
    event_stood (events.RefusesCall t why) new h keeps e = fault_stood why new h.1 e
    event_stood events.Fails new h keeps e = stood_same new (failed_engine old) h e
    event_stood (events.Opens number) new h keeps e = let no : ⊥ = cc in absurd no
    event_stood events.Works new h keeps e = stood_same new old h e

    pub commit_stood : (s : ℕ) (set : List (Entry B)) (number : ℕ) (new : Engine B) → IsSealed k s set number old new → (e : Entry B)
        → stood k new e ≡ (if is_some (noted k e (notes_kept (slot_at s old.slots))) then old.live e else stood k old e)
    commit_stood s set number new c e =
        let is : is_session s ≡ true = working_there k l old i s c.locks c.notes (Some Commit) c.asked in
        stood_same new (record old { older = old.older ++ set ∷ []; slots = with_slot s (Waiting number) old.slots }) c.is e
        ∙ sealed_noted k l old i s set number new c e
        ∙ committed (of_others k old s e) (noted k e c.notes) (old.live e) (one_noted k l old i s set number new c e)
        ∙ ap (λ b. if is_some (noted k e c.notes) then old.live e else b) (sym (stood_by k l old i s (Working c.locks c.notes (Some Commit)) is c.asked e))
        ∙ ap (λ (x : Slot B). if is_some (noted k e (notes_kept x)) then old.live e else stood k old e) (sym c.asked)

  -- A failed engine.

  module _ (old new : Engine B) (failed : old.failed ≡ true) where
    works_not : ¬ (old.failed ≡ false)
    works_not works = let both : true ≡ false = sym failed ∙ works in let no : ⊥ = cc in absurd no

    ask_kind : (s : ℕ) (call : Call B) (why : Refusal) → AskRefused k s call why old new → may_follow_failure (events.RefusesAsk s call why) ≡ true
    ask_kind s call refusal.HistoryFull h = absurd (works_not h.0)
    ask_kind s call refusal.Device h = absurd (works_not h.0)
    ask_kind s call refusal.Failed h = refl
    ask_kind s call other h = absurd h

    fault_kind : (s : ℕ) (why : Refusal) → MeetsFault why old new → may_follow_failure {B = B} (events.RefusesCall s why) ≡ true
    fault_kind s refusal.Device h = absurd (works_not h.0)
    fault_kind s refusal.Failed h = refl
    fault_kind s other h = absurd h

    pub failed_kind : (event : Happening B) → IsHappening k old event new → may_follow_failure event ≡ true
    failed_kind (events.Asks s call given) h = absurd (works_not h.0)
    failed_kind (events.RefusesAsk s call why) h = ask_kind s call why h
    failed_kind (events.Inserts s e) h = absurd (works_not h.works)
    failed_kind (events.Deletes s e) h = absurd (works_not h.works)
    failed_kind (events.FindsPresent s e) h = absurd (works_not h.1.works)
    failed_kind (events.FindsAbsent s e) h = absurd (works_not h.1.works)
    failed_kind (events.Finds s query entries) h = absurd (works_not h.1.works)
    failed_kind (events.Closes s call why) h = absurd (works_not h.1.works)
    failed_kind (events.Seals s set number) h = absurd (works_not h.works)
    failed_kind (events.Durable number) h = absurd (works_not h.works)
    failed_kind (events.Acknowledges s number) h = absurd (works_not h.works)
    failed_kind (events.Undoes s e) h = absurd (works_not h.works)
    failed_kind (events.EndsUndo s) h = absurd (works_not h.works)
    failed_kind (events.RefusesCall s why) h = fault_kind s why h.1
    failed_kind events.Fails h = refl
    failed_kind (events.Opens number) h = refl
    failed_kind events.Works h = refl

    still_failed : IsSame new (failed_engine old) → IsSame new old
    still_failed same = record { live = same.live; slots = same.slots; older = same.older; oldest = same.oldest; failed = same.failed ∙ sym failed }

    ask_same : (s : ℕ) (call : Call B) (why : Refusal) → AskRefused k s call why old new → IsSame new old
    ask_same s call refusal.HistoryFull h = h.2
    ask_same s call refusal.Device h = still_failed h.1
    ask_same s call refusal.Failed h = still_failed h
    ask_same s call other h = absurd h

    fault_same : (why : Refusal) → MeetsFault why old new → IsSame new old
    fault_same refusal.Device h = still_failed h.1
    fault_same refusal.Failed h = still_failed h
    fault_same other h = absurd h

    pub failed_same : (event : Happening B) → IsHappening k old event new → is_opening event ≡ false → IsSame new old
    failed_same (events.Asks s call given) h shut = absurd (works_not h.0)
    failed_same (events.RefusesAsk s call why) h shut = ask_same s call why h
    failed_same (events.Inserts s e) h shut = absurd (works_not h.works)
    failed_same (events.Deletes s e) h shut = absurd (works_not h.works)
    failed_same (events.FindsPresent s e) h shut = absurd (works_not h.1.works)
    failed_same (events.FindsAbsent s e) h shut = absurd (works_not h.1.works)
    failed_same (events.Finds s query entries) h shut = absurd (works_not h.1.works)
    failed_same (events.Closes s call why) h shut = absurd (works_not h.1.works)
    failed_same (events.Seals s set number) h shut = absurd (works_not h.works)
    failed_same (events.Durable number) h shut = absurd (works_not h.works)
    failed_same (events.Acknowledges s number) h shut = absurd (works_not h.works)
    failed_same (events.Undoes s e) h shut = absurd (works_not h.works)
    failed_same (events.EndsUndo s) h shut = absurd (works_not h.works)
    failed_same (events.RefusesCall s why) h shut = fault_same why h.1
    failed_same events.Fails h shut = still_failed h
    failed_same (events.Opens number) h shut = let no : ⊥ = cc in absurd no
    failed_same events.Works h shut = h
