-- What the events of an opening make of the index that an engine holds: its one set stays.
use Rattle.std.proofs.Common.{◌≡◌, ◌⊎◌, inl, inr, ℕ, zero, suc, ◌-◌, Bool, true, false, ◌||◌, Option, List, [], ◌∷◌, refl, ap, sym, ◌∙◌, subst}
use Rattle.std.specs.Prelude.{if◌then◌else◌}
use Rattle.std.specs.List.{slice_index_or}
use Rattle.std.proofs.lemmas.List.Elements.{All-nil, All-cons}
use Rattle.gx_geom.specs.declared.refusal.Refusal.{Refusal}
use Rattle.gx_geom.specs.declared.refusal.Refusal.TheVariants as refusal
use Rattle.gx_machine.specs.declared.call.Call.{Call}
use Rattle.gx_machine.specs.declared.entry.Entry.{Entry}
use Rattle.gx_machine.specs.declared.reply.Reply.{Reply}
use Rattle.gx_machine.specs.declared.reply.Reply.TheVariants as reply
use Rattle.gx_machine.specs.Machine.{is_session}
use Rattle.gx_machine.specs.Sessions.{Locks}
use Rattle.gx_events.specs.Slots as slots
use Rattle.gx_events.specs.Slots.{Note, Slot, slot_at}
use Rattle.gx_events.specs.Engines.{Engine, IsSame}
use Rattle.gx_events.specs.Happenings as laws
use Rattle.gx_events.specs.Happenings.{MeetsFault}
use Rattle.gx_events.proofs.WhatStood.{event_stood}
use Rattle.gx_index_laws.specs.Classes.{Class, IsLawful}
use Rattle.gx_index_laws.specs.Happening.{AreHappening, Happens}
use Rattle.gx_index_laws.specs.Openings.{is_fault, is_in_opening}
use Rattle.gx_index_laws.specs.States.{State, engine_of}
use Rattle.gx_index_laws.proofs.Keeping.{KeepsOne, goes_on}
use Rattle.gx_txn.specs.Tables.{Held}
use Rattle.gx_phases.specs.declared.phase.Phase.{Phase}
use Rattle.gx_phases.specs.declared.phase.Phase.TheVariants as phase
use Rattle.gx_phases.specs.States.{phase_at, slot_of, slots_of}
use Rattle.gx_events.specs.declared.event.Event.{Event}
use Rattle.gx_events.specs.declared.event.Event.TheVariants.{Ask, Move, LogStep, WritePage, CheckpointStep, Sweep}
use Rattle.gx_events.specs.declared.outcome.Outcome.{Outcome}
use Rattle.gx_events.specs.declared.outcome.Outcome.TheVariants as outcome
use Rattle.gx_events.specs.Steps.{AreOf, GoesOn, IsEnd, IsJust, IsMove, IsSync, IsWork}
use Rattle.gx_restart.specs.Undoing.{IsOfOpening, IsRefusal, MayUndo}

true_not : true ≡ false → ⊥
true_not bad = cc

-- a slot that is free, or undoes
abbrev pub MayUndoSlot : {B : Type 0} → Slot B → Type 0
MayUndoSlot slots.Free = Unit {0}
MayUndoSlot (slots.Working locks notes call) = ⊥
MayUndoSlot (slots.Undoing locks notes) = Unit {0}
MayUndoSlot (slots.Waiting number) = ⊥

undo_slot : {B W : Type 0} (p : Phase B W) (h : Held B) → MayUndo p → MayUndoSlot (slot_of p h)
undo_slot phase.Free h may = tt
undo_slot phase.Working h may = absurd may
undo_slot (phase.Open call work) h may = absurd may
undo_slot (phase.Undoing restored work) h may = tt
undo_slot (phase.Waiting number) h may = absurd may

undo_place : {B W : Type 0} (phases : List (Phase B W)) (table : List (Held B)) (n : ℕ) → ((i : ℕ) → MayUndo (phase_at i phases))
    → MayUndoSlot (slice_index_or (slots_of phases table) n slots.Free)
undo_place [] table n all = tt
undo_place (p ∷ phases) [] n all = tt
undo_place (p ∷ phases) (h ∷ table) zero all = undo_slot p h (all 0)
undo_place (p ∷ phases) (h ∷ table) (suc n) all = undo_place phases table n (λ i. all (suc i))

undo_there : {B : Type 0} (there : Bool) (x : Slot B) → MayUndoSlot x → MayUndoSlot (if there then x else slots.Free)
undo_there true x may = may
undo_there false x may = tt

-- each slot of a state may undo
abbrev pub AllUndo : {B : Type 0} → State B → Type 0
AllUndo i = (s : ℕ) → MayUndoSlot (slot_at s i.slots)

pub all_undo : {B W : Type 0} (i : State B) (phases : List (Phase B W)) (table : List (Held B)) → i.slots ≡ slots_of phases table → ((n : ℕ) → MayUndo (phase_at n phases)) → AllUndo i
all_undo {B} i phases table same all = λ s.
    subst (λ (xs : List (Slot B)). MayUndoSlot (slot_at s xs)) (sym same) (undo_there (is_session s) _ (undo_place phases table (s - 1) all))

not_working : {B : Type 0} (x : Slot B) (locks : Locks B) (notes : List (Note B)) (call : Option (Call B)) → MayUndoSlot x → x ≡ slots.Working locks notes call → ⊥
not_working x locks notes call may is = subst MayUndoSlot is may

not_waiting : {B : Type 0} (x : Slot B) (number : ℕ) → MayUndoSlot x → x ≡ slots.Waiting number → ⊥
not_waiting x number may is = subst MayUndoSlot is may

-- why a reply refuses
abbrev reply_why : {B : Type 0} → Refusal → Reply B → Refusal
reply_why none (reply.Refused why) = why
reply_why none other = none

-- an event of the laws that one of an opening may be
abbrev MayBe : {B : Type 0} → laws.Happening B → Type 0
MayBe (laws.Asks s call given) = ⊥
MayBe (laws.RefusesAsk s call why) = ⊥
MayBe (laws.Opens number) = ⊥
MayBe other = Unit {0}

end_may : {B : Type 0} (s : ℕ) (failed : Bool) (r : Reply B) (event : laws.Happening B) → IsEnd s failed r event → MayBe event
end_may s failed r (laws.Asks t call given) end = absurd end
end_may s failed r (laws.RefusesAsk t call why) end = absurd end
end_may s failed r (laws.Opens number) end = absurd end
end_may s failed r other end = tt

goes_may : {B : Type 0} (s : ℕ) (event : laws.Happening B) → GoesOn s event → MayBe event
goes_may s (laws.Asks t call given) on = absurd on
goes_may s (laws.RefusesAsk t call why) on = absurd on
goes_may s (laws.Opens number) on = absurd on
goes_may s other on = tt

module _ {B : Type 0} (c : Class B) (l : IsLawful c) (number : ℕ) (in_set : Entry B → Bool) where
  abbrev Keeps : State B → Type 0
  Keeps = KeepsOne c number in_set

  abbrev MayCome : laws.Happening B → Type 0
  MayCome event = (is_in_opening event || is_fault event) ≡ true

  one_keeps : (event : laws.Happening B) (old new : State B) → Keeps old → Happens c old event new → MayCome event → Keeps new
  one_keeps event old new keeps h may = goes_on c l number in_set (event ∷ []) old new keeps (new, h, refl) (All-cons MayCome event [] may (All-nil MayCome))

  -- a call that is refused for a fault
  refused_same : (s : ℕ) (why : Refusal) (old new : State B) → Keeps old → Happens c old (laws.RefusesCall s why) new → IsSame (engine_of c new) (laws.failed_engine (engine_of c old)) → Keeps new
  refused_same s why old new keeps h same = record {
    whole = h.whole;
    older = same.older ∙ keeps.older;
    oldest = same.oldest ∙ keeps.oldest;
    stands = λ e. event_stood c.keys l.keys (engine_of c old) keeps.whole.sound (laws.RefusesCall s why) (engine_of c new) h.is_event refl e ∙ keeps.stands e;
  }

  refused_keeps : (s : ℕ) (why : Refusal) (old new : State B) → Keeps old → Happens c old (laws.RefusesCall s why) new → MeetsFault why (engine_of c old) (engine_of c new) → Keeps new
  refused_keeps s refusal.Device old new keeps h meets = refused_same s refusal.Device old new keeps h meets.1
  refused_keeps s refusal.Failed old new keeps h meets = refused_same s refusal.Failed old new keeps h meets
  refused_keeps s other old new keeps h meets = absurd meets

  -- the set stays in any event that an opening's may be, while each slot may undo
  event_keeps : (event : laws.Happening B) (old new : State B) → AllUndo old → Keeps old → Happens c old event new → MayBe event → Keeps new
  event_keeps (laws.Asks s call given) old new undo keeps h may = absurd may
  event_keeps (laws.RefusesAsk s call why) old new undo keeps h may = absurd may
  event_keeps (laws.Opens n) old new undo keeps h may = absurd may
  event_keeps (laws.Inserts s e) old new undo keeps h may = absurd (not_working (slot_at s old.slots) _ _ _ (undo s) h.is_event.asked)
  event_keeps (laws.Deletes s e) old new undo keeps h may = absurd (not_working (slot_at s old.slots) _ _ _ (undo s) h.is_event.asked)
  event_keeps (laws.FindsPresent s e) old new undo keeps h may = absurd (not_working (slot_at s old.slots) _ _ _ (undo s) h.is_event.1.asked)
  event_keeps (laws.FindsAbsent s e) old new undo keeps h may = absurd (not_working (slot_at s old.slots) _ _ _ (undo s) h.is_event.1.asked)
  event_keeps (laws.Finds s query entries) old new undo keeps h may = absurd (not_working (slot_at s old.slots) _ _ _ (undo s) h.is_event.1.asked)
  event_keeps (laws.Closes s call why) old new undo keeps h may = absurd (not_working (slot_at s old.slots) _ _ _ (undo s) h.is_event.1.asked)
  event_keeps (laws.Seals s set n) old new undo keeps h may = absurd (not_working (slot_at s old.slots) _ _ _ (undo s) h.is_event.asked)
  event_keeps (laws.Acknowledges s n) old new undo keeps h may = absurd (not_waiting (slot_at s old.slots) n (undo s) h.is_event.waits)
  event_keeps (laws.RefusesCall s why) old new undo keeps h may = refused_keeps s why old new keeps h h.is_event.1
  event_keeps (laws.Durable n) old new undo keeps h may = one_keeps (laws.Durable n) old new keeps h refl
  event_keeps (laws.Undoes s e) old new undo keeps h may = one_keeps (laws.Undoes s e) old new keeps h refl
  event_keeps (laws.EndsUndo s) old new undo keeps h may = one_keeps (laws.EndsUndo s) old new keeps h refl
  event_keeps laws.Fails old new undo keeps h may = one_keeps laws.Fails old new keeps h refl
  event_keeps laws.Works old new undo keeps h may = one_keeps laws.Works old new keeps h refl

  -- after work that decides nothing the slots are as before
  works_undo : (old new : State B) → AllUndo old → Happens c old laws.Works new → AllUndo new
  works_undo old new undo h = λ s. subst (λ (xs : List (Slot B)). MayUndoSlot (slot_at s xs)) (sym h.is_event.slots) (undo s)

  none_keeps : (events : List (laws.Happening B)) (old new : State B) → Keeps old → events ≡ [] → AreHappening c old events new → Keeps new
  none_keeps events old new keeps none are =
      let same : new ≡ old = subst (λ (xs : List (laws.Happening B)). AreHappening c old xs new) none are in subst Keeps (sym same) keeps

  just_one : (event : laws.Happening B) (events : List (laws.Happening B)) (old new : State B) → AllUndo old → Keeps old → MayBe event → events ≡ event ∷ [] → AreHappening c old events new → Keeps new
  just_one event events old new undo keeps may is are =
      let one = subst (λ (xs : List (laws.Happening B)). AreHappening c old xs new) is are in
      subst Keeps (sym one.2) (event_keeps event old one.0 undo keeps one.1 may)

  just_keeps : (event : laws.Happening B) (events : List (laws.Happening B)) (old new : State B) → AllUndo old → Keeps old → MayBe event → IsJust event events → AreHappening c old events new → Keeps new
  just_keeps event events old new undo keeps may (inl is) are = just_one event events old new undo keeps may is are
  just_keeps event events old new undo keeps may (inr is) are =
      let two = subst (λ (xs : List (laws.Happening B)). AreHappening c old xs new) is are in
      just_one event (event ∷ []) two.0 new (works_undo old two.0 undo two.1) (event_keeps laws.Works old two.0 undo keeps two.1 tt) may refl two.2

  work_keeps : (failed : Bool) (given : Outcome B) (events : List (laws.Happening B)) (old new : State B) → AllUndo old → Keeps old → IsWork failed given events → AreHappening c old events new → Keeps new
  work_keeps failed (outcome.Replied r) events old new undo keeps is are = absurd is
  work_keeps failed outcome.More events old new undo keeps is are = just_one laws.Works events old new undo keeps tt is.1 are
  work_keeps failed (outcome.Help need) events old new undo keeps is are = none_keeps events old new keeps is.1 are
  work_keeps failed outcome.Nothing events old new undo keeps is are = none_keeps events old new keeps is.1 are
  work_keeps failed (outcome.Refused refusal.Device) events old new undo keeps is are = just_keeps laws.Fails events old new undo keeps tt is.1 are
  work_keeps failed (outcome.Refused refusal.Failed) events old new undo keeps is are = none_keeps events old new keeps is.1 are
  work_keeps failed (outcome.Refused other) events old new undo keeps is are = absurd is

  more_keeps : (events : List (laws.Happening B)) (old new : State B) → AllUndo old → Keeps old
      → (events ≡ []) ⊎ ((events ≡ laws.Works ∷ []) ⊎ ((n : ℕ) × (events ≡ laws.Durable n ∷ []))) → AreHappening c old events new → Keeps new
  more_keeps events old new undo keeps (inl none) are = none_keeps events old new keeps none are
  more_keeps events old new undo keeps (inr (inl works)) are = just_one laws.Works events old new undo keeps tt works are
  more_keeps events old new undo keeps (inr (inr durable)) are = just_one (laws.Durable durable.0) events old new undo keeps tt durable.1 are

  sync_keeps : (failed : Bool) (given : Outcome B) (events : List (laws.Happening B)) (old new : State B) → AllUndo old → Keeps old → IsSync failed given events → AreHappening c old events new → Keeps new
  sync_keeps failed outcome.More events old new undo keeps is are = more_keeps events old new undo keeps is.1 are
  sync_keeps failed (outcome.Replied r) events old new undo keeps is are = work_keeps failed (outcome.Replied r) events old new undo keeps is are
  sync_keeps failed (outcome.Help need) events old new undo keeps is are = work_keeps failed (outcome.Help need) events old new undo keeps is are
  sync_keeps failed outcome.Nothing events old new undo keeps is are = work_keeps failed outcome.Nothing events old new undo keeps is are
  sync_keeps failed (outcome.Refused why) events old new undo keeps is are = work_keeps failed (outcome.Refused why) events old new undo keeps is are

  move_keeps : (s : ℕ) (given : Outcome B) (events : List (laws.Happening B)) (old new : State B) → AllUndo old → Keeps old → IsMove s (engine_of c old) given events
      → AreHappening c old events new → Keeps new
  move_keeps s (outcome.Replied r) events old new undo keeps is are = just_keeps is.0 events old new undo keeps (end_may s old.failed r is.0 is.2) is.1 are
  move_keeps s outcome.More events old new undo keeps is are = just_one is.1.0 events old new undo keeps (goes_may s is.1.0 is.1.2) is.1.1 are
  move_keeps s (outcome.Help need) events old new undo keeps is are = none_keeps events old new keeps is.1 are
  move_keeps s outcome.Nothing events old new undo keeps is are = absurd is
  move_keeps s (outcome.Refused refusal.BadSession) events old new undo keeps is are = none_keeps events old new keeps is.1 are
  move_keeps s (outcome.Refused refusal.NoCall) events old new undo keeps is are = none_keeps events old new keeps is.2 are
  move_keeps s (outcome.Refused other) events old new undo keeps is are = absurd is

  -- so in any event of an opening
  pub step_keeps : (event : Event B) (given : Outcome B) (events : List (laws.Happening B)) (old new : State B) → IsOfOpening event → AllUndo old → Keeps old
      → AreOf (engine_of c old) event given events → AreHappening c old events new → Keeps new
  step_keeps (Ask s call) given events old new is undo keeps of are = absurd is
  step_keeps (Move s) given events old new is undo keeps of are = move_keeps s given events old new undo keeps of are
  step_keeps LogStep given events old new is undo keeps of are = sync_keeps old.failed given events old new undo keeps of are
  step_keeps (WritePage page) given events old new is undo keeps of are = work_keeps old.failed given events old new undo keeps of are
  step_keeps CheckpointStep given events old new is undo keeps of are = sync_keeps old.failed given events old new undo keeps of are
  step_keeps (Sweep page) given events old new is undo keeps of are = absurd is

  -- ---- why an event is refused: the device failed

  meets_why : (why : Refusal) (old new : Engine B) → MeetsFault why old new → (why ≡ refusal.Failed → ⊥) → why ≡ refusal.Device
  meets_why refusal.Device old new meets not_failed = refl
  meets_why refusal.Failed old new meets not_failed = absurd (not_failed refl)
  meets_why other old new meets not_failed = absurd meets

  end_why : (s : ℕ) (failed : Bool) (why : Refusal) (event : laws.Happening B) (old new : State B) → AllUndo old → failed ≡ false → IsEnd s failed (reply.Refused why) event
      → Happens c old event new → why ≡ refusal.Device
  end_why s failed why (laws.RefusesCall t w) old new undo works end h =
      let same : why ≡ w = ap (reply_why why) end.1 in
      same ∙ meets_why w (engine_of c old) (engine_of c new) h.is_event.1 (λ is. true_not (sym (end.2 is) ∙ works))
  end_why s failed why (laws.FindsPresent t e) old new undo works end h = absurd (not_working (slot_at t old.slots) _ _ _ (undo t) h.is_event.1.asked)
  end_why s failed why (laws.FindsAbsent t e) old new undo works end h = absurd (not_working (slot_at t old.slots) _ _ _ (undo t) h.is_event.1.asked)
  end_why s failed why (laws.Closes t call w) old new undo works end h = absurd (not_working (slot_at t old.slots) _ _ _ (undo t) h.is_event.1.asked)
  end_why s failed why (laws.Inserts t e) old new undo works end h = absurd (not_working (slot_at t old.slots) _ _ _ (undo t) h.is_event.asked)
  end_why s failed why (laws.Deletes t e) old new undo works end h = absurd (not_working (slot_at t old.slots) _ _ _ (undo t) h.is_event.asked)
  end_why s failed why (laws.Finds t query entries) old new undo works end h = absurd (not_working (slot_at t old.slots) _ _ _ (undo t) h.is_event.1.asked)
  end_why s failed why (laws.Acknowledges t n) old new undo works end h = absurd (not_waiting (slot_at t old.slots) n (undo t) h.is_event.waits)
  end_why s failed why (laws.EndsUndo t) old new undo works end h = let no : ⊥ = cc in absurd no
  end_why s failed why (laws.Asks t call given) old new undo works end h = absurd end
  end_why s failed why (laws.RefusesAsk t call w) old new undo works end h = absurd end
  end_why s failed why (laws.Seals t set n) old new undo works end h = absurd end
  end_why s failed why (laws.Durable n) old new undo works end h = absurd end
  end_why s failed why (laws.Undoes t e) old new undo works end h = absurd end
  end_why s failed why laws.Fails old new undo works end h = absurd end
  end_why s failed why (laws.Opens n) old new undo works end h = absurd end
  end_why s failed why laws.Works old new undo works end h = absurd end

  just_why : (s : ℕ) (failed : Bool) (why : Refusal) (event : laws.Happening B) (events : List (laws.Happening B)) (old new : State B) → AllUndo old → failed ≡ false
      → IsEnd s failed (reply.Refused why) event → IsJust event events → AreHappening c old events new → why ≡ refusal.Device
  just_why s failed why event events old new undo works end (inl is) are =
      let one = subst (λ (xs : List (laws.Happening B)). AreHappening c old xs new) is are in end_why s failed why event old one.0 undo works end one.1
  just_why s failed why event events old new undo works end (inr is) are =
      let two = subst (λ (xs : List (laws.Happening B)). AreHappening c old xs new) is are in
      end_why s failed why event two.0 two.2.0 (works_undo old two.0 undo two.1) works end two.2.1

  work_why : (failed : Bool) (why : Refusal) (events : List (laws.Happening B)) → failed ≡ false → IsWork {B = B} failed (outcome.Refused why) events → why ≡ refusal.Device
  work_why failed refusal.Device events works is = refl
  work_why failed refusal.Failed events works is = absurd (true_not (sym is.0 ∙ works))
  work_why failed other events works is = absurd is

  pub step_why : (event : Event B) (given : Outcome B) (why : Refusal) (events : List (laws.Happening B)) (old new : State B) → IsOfOpening event → AllUndo old → old.failed ≡ false
      → AreOf (engine_of c old) event given events → AreHappening c old events new → IsRefusal event given why → why ≡ refusal.Device
  step_why (Ask s call) given why events old new is undo works of are refused = absurd is
  step_why (Move s) (outcome.Replied r) why events old new is undo works of are refused =
      just_why s old.failed why of.0 events old new undo works (subst (λ (x : Reply B). IsEnd s old.failed x of.0) refused of.2) of.1 are
  step_why (Move s) outcome.More why events old new is undo works of are refused = absurd refused
  step_why (Move s) (outcome.Help need) why events old new is undo works of are refused = absurd refused
  step_why (Move s) outcome.Nothing why events old new is undo works of are refused = absurd refused
  step_why (Move s) (outcome.Refused x) why events old new is undo works of are refused = absurd refused
  step_why LogStep (outcome.Refused x) why events old new is undo works of are refused = work_why old.failed why events works (subst (λ w. IsWork {B = B} old.failed (outcome.Refused w) events) refused of)
  step_why LogStep (outcome.Replied r) why events old new is undo works of are refused = absurd refused
  step_why LogStep outcome.More why events old new is undo works of are refused = absurd refused
  step_why LogStep (outcome.Help need) why events old new is undo works of are refused = absurd refused
  step_why LogStep outcome.Nothing why events old new is undo works of are refused = absurd refused
  step_why (WritePage page) (outcome.Refused x) why events old new is undo works of are refused =
      work_why old.failed why events works (subst (λ w. IsWork {B = B} old.failed (outcome.Refused w) events) refused of)
  step_why (WritePage page) (outcome.Replied r) why events old new is undo works of are refused = absurd refused
  step_why (WritePage page) outcome.More why events old new is undo works of are refused = absurd refused
  step_why (WritePage page) (outcome.Help need) why events old new is undo works of are refused = absurd refused
  step_why (WritePage page) outcome.Nothing why events old new is undo works of are refused = absurd refused
  step_why CheckpointStep (outcome.Refused x) why events old new is undo works of are refused =
      work_why old.failed why events works (subst (λ w. IsWork {B = B} old.failed (outcome.Refused w) events) refused of)
  step_why CheckpointStep (outcome.Replied r) why events old new is undo works of are refused = absurd refused
  step_why CheckpointStep outcome.More why events old new is undo works of are refused = absurd refused
  step_why CheckpointStep (outcome.Help need) why events old new is undo works of are refused = absurd refused
  step_why CheckpointStep outcome.Nothing why events old new is undo works of are refused = absurd refused
  step_why (Sweep page) given why events old new is undo works of are refused = absurd is
