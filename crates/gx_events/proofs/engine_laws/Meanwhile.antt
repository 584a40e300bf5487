-- What many events of others leave a session.
use Rattle.std.proofs.Common.{◌≡◌, ℕ, true, List, [], ◌∷◌, Some, refl, ap, sym, ◌∙◌, subst, All}
use Rattle.std.proofs.lemmas.List.Elements.{All-head, All-tail}
use Rattle.gx_machine.specs.declared.entry.Entry.{Entry}
use Rattle.gx_machine.specs.declared.query.Query.{Query}
use Rattle.gx_machine.specs.declared.call.Call.TheVariants.{Search}
use Rattle.gx_machine.specs.Keys.{Keys, IsLawful, matches}
use Rattle.gx_machine.specs.Sessions.{Locks, write_conflicts}
use Rattle.gx_machine.specs.Machine.{Machine}
use Rattle.gx_events.specs.Slots.{Note, Slot, Working, locks_held, slot_at}
use Rattle.gx_events.specs.Engines.{Engine, SeenAs, IsSound, HoldsItsLocks}
use Rattle.gx_events.specs.Happenings.{Happening, step_of}
use Rattle.gx_events.specs.Kinds.{is_of_another}
use Rattle.gx_events.specs.Runs.{AreHappenings}
use Rattle.gx_events.specs.Wants.{LeavesSession}
use Rattle.gx_events.proofs.Apart.{event_leaves}
use Rattle.gx_events.proofs.Follow.{Follows, match_bars}
use Rattle.gx_events.proofs.Faults.{event_follows}
use Rattle.gx_events.proofs.EventRuns.{still_sound}

module _ {B : Type 0} (k : Keys B) (l : IsLawful k) (s : ℕ) where
  abbrev Others : Happening B → Type 0
  Others event = is_of_another s event ≡ true

  left_twice : (old middle new : Engine B) → LeavesSession k s old middle → LeavesSession k s middle new → LeavesSession k s old new
  left_twice old middle new first later = record {
    slot = later.slot ∙ first.slot;
    live = λ e barred. later.live e (ap (λ (x : Slot B). write_conflicts k e (locks_held x)) first.slot ∙ barred) ∙ first.live e barred;
  }

  pub events_leave : (events : List (Happening B)) (old new : Engine B) (m : Machine B) → IsSound k old → SeenAs k old m → AreHappenings k old events new
      → All Others events → LeavesSession k s old new
  events_leave [] old new m i seen same others =
      subst (LeavesSession k s old) (sym same) (record { slot = refl; live = λ e barred. refl })
  events_leave (event ∷ events) old new m i seen run others =
      let f : Follows k m (step_of event) run.0 = event_follows k l old m i seen event run.0 run.1 in
      left_twice old run.0 new (event_leaves k l old i s event run.0 run.1 (All-head Others event events others))
      (events_leave events run.0 new f.next (still_sound k l old run.0 m (step_of event) i seen f) f.seen run.2 (All-tail Others event events others))

  -- what an open search matches is live exactly if it was
  pub match_stays : (events : List (Happening B)) (old new : Engine B) (m : Machine B) → (i : IsSound k old) → (seen : SeenAs k old m) → AreHappenings k old events new
      → All Others events → (locks : Locks B) (notes : List (Note B)) (query : Query B) → slot_at s old.slots ≡ Working locks notes (Some (Search query))
      → (e : Entry B) → matches k query e ≡ true → new.live e ≡ old.live e
  match_stays events old new m i seen run others locks notes query at e is =
      let held : HoldsItsLocks k (Working locks notes (Some (Search query))) = subst (HoldsItsLocks k) at (i.holds s) in
      (events_leave events old new m i seen run others).live e
      (ap (λ (x : Slot B). write_conflicts k e (locks_held x)) at ∙ match_bars k l old m i seen query locks e held.1 is)
