-- Events one after another are a run of the machine.
use Rattle.std.proofs.Common.{◌≡◌, ℕ, List, [], ◌∷◌, length, refl, ap, sym, ◌∙◌, subst}
use Rattle.std.proofs.lemmas.List.{length-map}
use Rattle.gx_machine.specs.Keys.{Keys, IsLawful}
use Rattle.gx_machine.specs.Sessions.{Session, Locks, locks_of}
use Rattle.gx_machine.specs.Machine.{Machine, session_at}
use Rattle.gx_machine.specs.Runs.{Step}
use Rattle.gx_machine.specs.Invariants.{Apart, LocksApart}
use Rattle.gx_machine.proofs.StepsKeep.{step_apart}
use Rattle.gx_events.specs.Slots.{locks_held, slot_at}
use Rattle.gx_events.specs.Engines.{Engine, SeenAs, IsSound, session_of}
use Rattle.gx_events.specs.Happenings.{Happening, step_of}
use Rattle.gx_events.specs.Runs.{AreHappenings, steps_of, RunsAs}
use Rattle.gx_events.proofs.Places.{session_of_slot}
use Rattle.gx_events.proofs.Sees.{same_locks}
use Rattle.gx_events.proofs.Follow.{Follows}
use Rattle.gx_events.proofs.Faults.{event_follows}

module _ {B : Type 0} (k : Keys B) (l : IsLawful k) where
  -- a session has its slot's locks
  locks_seen : (engine : Engine B) (m : Machine B) → SeenAs k engine m → (s : ℕ) → locks_of (session_at s m.sessions) ≡ locks_held (slot_at s engine.slots)
  locks_seen engine m seen s =
      ap (λ (xs : List (Session B)). locks_of (session_at s xs)) seen.sessions ∙ ap locks_of (session_of_slot k engine.live s engine.slots)
      ∙ same_locks k l engine.live (slot_at s engine.slots)

  as_many : (engine : Engine B) (m : Machine B) → SeenAs k engine m → length m.sessions ≡ length engine.slots
  as_many engine m seen = ap length seen.sessions ∙ length-map engine.slots (session_of k engine.live)

  -- the machine's locks keep apart if the engine's do
  pub machine_apart : (engine : Engine B) (m : Machine B) → IsSound k engine → SeenAs k engine m → LocksApart k m.sessions
  machine_apart engine m i seen = record {
    eight = as_many engine m seen ∙ i.eight;
    apart = λ a b ne.
        let first = locks_seen engine m seen a in
        let second = locks_seen engine m seen b in
        subst (λ (x : Locks B). Apart k x (locks_of (session_at b m.sessions))) (sym first)
        (subst (λ (y : Locks B). Apart k (locks_held (slot_at a engine.slots)) y) (sym second) (i.apart a b ne));
  }

  -- a step keeps the engine sound
  pub still_sound : (old new : Engine B) (m : Machine B) (step : Step B) → IsSound k old → SeenAs k old m → (f : Follows k m step new) → IsSound k new
  still_sound old new m step i seen f =
      let apart : LocksApart k f.next.sessions = step_apart k l m f.next step f.is_step (machine_apart old m i seen) in
      record {
        eight = sym (as_many new f.next f.seen) ∙ apart.eight;
        holds = f.holds;
        apart = λ a b ne.
            subst (λ (x : Locks B). Apart k x (locks_held (slot_at b new.slots))) (locks_seen new f.next f.seen a)
            (subst (λ (y : Locks B). Apart k (locks_of (session_at a f.next.sessions)) y) (locks_seen new f.next f.seen b) (apart.apart a b ne));
        in_order = f.in_order;
      }

  pub run_follows : (events : List (Happening B)) (old new : Engine B) (m : Machine B) → IsSound k old → SeenAs k old m → AreHappenings k old events new
      → RunsAs k m (steps_of events) new
  run_follows [] old new m i seen same =
      record { end = m; runs = refl; seen = subst (λ (e : Engine B). SeenAs k e m) (sym same) seen; sound = subst (IsSound k) (sym same) i }
  run_follows (event ∷ events) old new m i seen run =
      let f : Follows k m (step_of event) run.0 = event_follows k l old m i seen event run.0 run.1 in
      let later : RunsAs k f.next (steps_of events) new =
      run_follows events run.0 new f.next (still_sound old run.0 m (step_of event) i seen f) f.seen run.2 in
      record { end = later.end; runs = (f.next, f.is_step, later.runs); seen = later.seen; sound = later.sound }
