-- Events of an engine, as the machine that it is seen as.
use Rattle.std.proofs.Common.{◌≡◌, ℕ, ◌-◌, inl, inr, true, false, Some, None, List, [], ◌∷◌, refl, ap, sym, ◌∙◌, subst, arith}
use Rattle.std.specs.Prelude.{drop}
use Rattle.gx_geom.specs.declared.refusal.Refusal.{Refusal}
use Rattle.gx_geom.specs.declared.refusal.Refusal.TheVariants as refusal
use Rattle.gx_machine.specs.declared.call.Call.{Call}
use Rattle.gx_machine.specs.declared.reply.Reply.{Reply}
use Rattle.gx_machine.specs.declared.reply.Reply.TheVariants as reply
use Rattle.gx_machine.specs.declared.reply.Asked.TheVariants as asked
use Rattle.gx_machine.specs.Keys.{Keys, IsLawful}
use Rattle.gx_machine.specs.Sessions as sessions
use Rattle.gx_machine.specs.Sessions.{Session}
use Rattle.gx_machine.specs.Machine.{Machine, failed_machine, newest, session_at}
use Rattle.gx_machine.specs.Runs as runs
use Rattle.gx_machine.specs.Runs.{IsStep}
use Rattle.gx_machine.proofs.Transactions.{sealed_is}
use Rattle.gx_events.specs.Slots as slots
use Rattle.gx_events.specs.Slots.{Slot, slot_at}
use Rattle.gx_events.specs.Engines.{Engine, IsSound, SeenAs, session_of}
use Rattle.gx_events.specs.Happenings as laws
use Rattle.gx_events.specs.Happenings.{IsHappening, step_of}
use Rattle.gx_events.specs.Runs.{AreHappenings}
use Rattle.gx_events.proofs.Places.{session_of_slot}
use Rattle.gx_events.proofs.Follow.{Follows}
use Rattle.gx_events.proofs.Faults.{event_follows}
use Rattle.gx_events.proofs.EventRuns.{machine_apart}
use Rattle.gx_events.proofs.Standing.{is_one}
use Rattle.gx_events.specs.declared.event.Event.{Event}
use Rattle.gx_events.specs.declared.event.Event.TheVariants.{Ask, Move, LogStep, WritePage, CheckpointStep, Sweep}
use Rattle.gx_events.specs.declared.outcome.Outcome.{Outcome}
use Rattle.gx_events.specs.declared.outcome.Outcome.TheVariants.{Replied, More, Help, Nothing, Refused}
use Rattle.gx_events.specs.Steps.{AreOf, IsAsk, IsEnd, GoesOn, IsJust, IsMove, IsSync, IsWork}
use Rattle.gx_events.specs.Happens.{AskHappens, Ends, Happens, Lacks, MoveHappens, SyncHappens, WorkHappens, may_lack}
use Rattle.gx_events.proofs.Begins.{begins_alone}

module _ {B : Type 0} (k : Keys B) where
  unanswered_alike : (live : _) (x : Slot B) → sessions.is_unanswered (session_of k live x) ≡ slots.is_unanswered x
  unanswered_alike live slots.Free = refl
  unanswered_alike live (slots.Working locks notes None) = refl
  unanswered_alike live (slots.Working locks notes (Some call)) = refl
  unanswered_alike live (slots.Undoing locks notes) = refl
  unanswered_alike live (slots.Waiting number) = refl

  -- a call is open in the machine if it is in the engine
  pub open_alike : (engine : Engine B) (m : Machine B) → SeenAs k engine m → (s : ℕ)
      → sessions.is_unanswered (session_at s m.sessions) ≡ slots.is_unanswered (slot_at s engine.slots)
  open_alike engine m seen s =
      ap (λ (xs : List (Session B)). sessions.is_unanswered (session_at s xs)) seen.sessions
      ∙ ap sessions.is_unanswered (session_of_slot k engine.live s engine.slots)
      ∙ unanswered_alike engine.live (slot_at s engine.slots)

  -- a machine that had failed is the one that fails
  fails_again : (m n : Machine B) → m.failed ≡ true → n ≡ failed_machine m → n ≡ m
  fails_again m n had is = is ∙ ap (λ b. record m { failed = b }) (sym had)

  -- no commit more is durable
  durable_again : (m : Machine B) → m.failed ≡ false → IsStep k m (runs.Durable m.oldest) m
  durable_again m works =
      let none : m.oldest - m.oldest ≡ 0 = omega arith in
      (works, omega arith, omega arith, sym (ap (λ d. record m { older = drop d m.older }) none))

  module _ (l : IsLawful k) (old : Engine B) (sound : IsSound k old) (m : Machine B) (seen : SeenAs k old m) where
    -- one event, and none
    one : (event : laws.Happening B) (new : Engine B) → AreHappenings k old (event ∷ []) new → Follows k m (step_of event) new
    one event new are = subst (λ (x : Engine B). Follows k m (step_of event) x) (sym are.2) (event_follows k l old m sound seen event are.0 are.1)

    -- what came before it decides nothing
    just : (event : laws.Happening B) (events : List (laws.Happening B)) (new : Engine B) → IsJust event events → AreHappenings k old events new → AreHappenings k old (event ∷ []) new
    just event events new (inl is) are = subst (λ (es : List (laws.Happening B)). AreHappenings k old es new) is are
    just event events new (inr is) are =
        let both : AreHappenings k old (laws.Works ∷ event ∷ []) new = subst (λ (es : List (laws.Happening B)). AreHappenings k old es new) is are in
        subst (λ (x : Engine B). AreHappenings k x (event ∷ []) new) (is_one both.0 old both.1) both.2

    none : (new : Engine B) → AreHappenings k old [] new → SeenAs k new m
    none new are = subst (λ (x : Engine B). SeenAs k x m) (sym are) seen

    working : old.failed ≡ false → m.failed ≡ false
    working works = seen.failed ∙ works

    module _ (new : Engine B) where
      abbrev Told : (Machine B → Type 0) → Type 0
      Told P = (n : Machine B) × P n × SeenAs k new n

      asks : (s : ℕ) (call : Call B) (outcome : Outcome B) (events : List (laws.Happening B)) → IsAsk s call old.failed outcome events → AreHappenings k old events new
          → Told (AskHappens k s call m outcome)
      asks s call (Replied r) events (inl is) are =
          let f = one (laws.Asks s call (asked.Now r)) new (subst (λ es. AreHappenings k old es new) is are) in
          (f.next, inl f.is_step, f.seen)
      asks s call (Replied r) events (inr (inl is)) are =
          let f = one (laws.RefusesAsk s call refusal.Failed) new (subst (λ es. AreHappenings k old es new) is.2 are) in
          let had : m.failed ≡ true = seen.failed ∙ is.0 in
          (f.next, subst (λ (x : Reply B). AskHappens k s call m (Replied x) f.next) (sym is.1) (inr (had, fails_again m f.next had f.is_step)), f.seen)
      asks s call (Replied r) events (inr (inr is)) are =
          let f = one (laws.RefusesAsk s call refusal.HistoryFull) new (subst (λ es. AreHappenings k old es new) is.1 are) in
          (f.next, subst (λ (x : Reply B). AskHappens k s call m (Replied x) f.next) (sym is.0) (inr (begins_alone k s call m f.is_step.1, f.is_step)), f.seen)
      asks s call More events is are =
          let f = one (laws.Asks s call asked.Open) new (subst (λ es. AreHappenings k old es new) is are) in
          (f.next, f.is_step, f.seen)
      asks s call (Help need) events is are = absurd is
      asks s call Nothing events is are = absurd is
      asks s call (Refused why) events is are = absurd is

      -- an answer, by its session and reply
      answered : (s t : ℕ) (r given : Reply B) → t ≡ s → r ≡ given → Follows k m (runs.Answers t given) new → ((n : Machine B) → IsStep k m (runs.Answers s given) n → Ends k s given m n)
          → Told (Ends k s r m)
      answered s t r given same is f ends =
          (f.next, subst (λ (x : Reply B). Ends k s x m f.next) (sym is) (ends f.next (subst (λ (x : ℕ). IsStep k m (runs.Answers x given) f.next) same f.is_step)), f.seen)

      -- the call that is closed is open in the machine too
      lacks_there : (s t : ℕ) (call : Call B) (why : Refusal) → t ≡ s → may_lack why call ≡ true → AreHappenings k old (laws.Closes t call why ∷ []) new
          → Lacks why (session_at s m.sessions)
      lacks_there s t call why same lacks are =
          let closes = are.1.1 in
          let its : slot_at s old.slots ≡ slots.Working closes.locks closes.notes (Some call) = ap (λ (n : ℕ). slot_at n old.slots) (sym same) ∙ closes.asked in
          subst (λ (x : Session B). Lacks why x)
          (sym (ap (λ (xs : List (Session B)). session_at s xs) seen.sessions ∙ session_of_slot k old.live s old.slots ∙ ap (λ (x : Slot B). session_of k old.live x) its))
          lacks

      closed : (s t : ℕ) (r : Reply B) (why : Refusal) → t ≡ s → r ≡ reply.Refused why → Lacks why (session_at s m.sessions) → Follows k m (runs.Closes t why) new → Told (Ends k s r m)
      closed s t r why same is lacks f =
          (f.next, subst (λ (x : Reply B). Ends k s x m f.next) (sym is) (by why lacks (subst (λ (x : ℕ). IsStep k m (runs.Closes x why) f.next) same f.is_step)), f.seen)
        where
          by : (why : Refusal) → Lacks why (session_at s m.sessions) → IsStep k m (runs.Closes s why) f.next → Ends k s (reply.Refused why) m f.next
          by refusal.PagesFull lacks step = (lacks, step)
          by refusal.Memory lacks step = (lacks, step)
          by other lacks step = absurd (let no : false ≡ true = step.1 in cc)

      faulted : (s t : ℕ) (r : Reply B) (why : Refusal) → t ≡ s → r ≡ reply.Refused why → (why ≡ refusal.Failed → old.failed ≡ true) → Follows k m (runs.RefusesCall t why) new → Told (Ends k s r m)
      faulted s t r why same is had f =
          (f.next, subst (λ (x : Reply B). Ends k s x m f.next) (sym is) (by why (λ w. seen.failed ∙ had w) (subst (λ (x : ℕ). IsStep k m (runs.RefusesCall x why) f.next) same f.is_step)), f.seen)
        where
          by : (why : Refusal) → (why ≡ refusal.Failed → m.failed ≡ true) → IsStep k m (runs.RefusesCall s why) f.next → Ends k s (reply.Refused why) m f.next
          by refusal.Device had step = step
          by refusal.Failed had step = (step.0, (had refl, fails_again m f.next (had refl) step.1))
          by other had step = absurd step.1

      ends : (s : ℕ) (r : Reply B) (event : laws.Happening B) → IsEnd s old.failed r event → AreHappenings k old (event ∷ []) new → Told (Ends k s r m)
      ends s r (laws.Inserts t e) is are = answered s t r reply.Inserted is.0 is.1 (one (laws.Inserts t e) new are) (λ n step. step)
      ends s r (laws.Deletes t e) is are = answered s t r reply.Deleted is.0 is.1 (one (laws.Deletes t e) new are) (λ n step. step)
      ends s r (laws.FindsPresent t e) is are = answered s t r (reply.Refused refusal.Present) is.0 is.1 (one (laws.FindsPresent t e) new are) (λ n step. step)
      ends s r (laws.FindsAbsent t e) is are = answered s t r (reply.Refused refusal.Absent) is.0 is.1 (one (laws.FindsAbsent t e) new are) (λ n step. step)
      ends s r (laws.Finds t query entries) is are = answered s t r (reply.Found entries) is.0 is.1 (one (laws.Finds t query entries) new are) (λ n step. step)
      ends s r (laws.Closes t call why) is are = closed s t r why is.0 is.1 (lacks_there s t call why is.0 is.2 are) (one (laws.Closes t call why) new are)
      ends s r (laws.Acknowledges t number) is are = answered s t r (reply.Committed number) is.0 is.1 (one (laws.Acknowledges t number) new are) (λ n step. step)
      ends s r (laws.EndsUndo t) is are = answered s t r reply.Aborted is.0 is.1 (one (laws.EndsUndo t) new are) (λ n step. step)
      ends s r (laws.RefusesCall t why) is are = faulted s t r why is.0 is.1 is.2 (one (laws.RefusesCall t why) new are)
      ends s r (laws.Asks t call given) is are = absurd is
      ends s r (laws.RefusesAsk t call why) is are = absurd is
      ends s r (laws.Seals t set number) is are = absurd is
      ends s r (laws.Durable number) is are = absurd is
      ends s r (laws.Undoes t e) is are = absurd is
      ends s r laws.Fails is are = absurd is
      ends s r (laws.Opens number) is are = absurd is
      ends s r laws.Works is are = absurd is

      seals : (s t number : ℕ) (n : Machine B) → t ≡ s → IsStep k m (runs.Seals t number) n → IsStep k m (runs.Seals s (newest n)) n
      seals s t number n same step =
          let sealed = sealed_is k t number m n (machine_apart k l old m sound seen).eight step.1 step.2 in
          subst (λ (x : ℕ). IsStep k m (runs.Seals s x) n) (sym sealed.newest_is) (subst (λ (x : ℕ). IsStep k m (runs.Seals x number) n) same step)

      goes_on : (s : ℕ) (event : laws.Happening B) → old.failed ≡ false → GoesOn s event → AreHappenings k old (event ∷ []) new → Told (MoveHappens k s m More)
      goes_on s (laws.Seals t set number) works is are =
          let f = one (laws.Seals t set number) new are in (f.next, inr (seals s t number f.next is f.is_step), f.seen)
      goes_on s (laws.Undoes t e) works is are = let f = one (laws.Undoes t e) new are in (f.next, inl (working works, f.is_step), f.seen)
      goes_on s laws.Works works is are = let f = one laws.Works new are in (f.next, inl (working works, f.is_step), f.seen)
      goes_on s (laws.Inserts t e) works is are = absurd is
      goes_on s (laws.Deletes t e) works is are = absurd is
      goes_on s (laws.FindsPresent t e) works is are = absurd is
      goes_on s (laws.FindsAbsent t e) works is are = absurd is
      goes_on s (laws.Finds t query entries) works is are = absurd is
      goes_on s (laws.Closes t call why) works is are = absurd is
      goes_on s (laws.Acknowledges t number) works is are = absurd is
      goes_on s (laws.EndsUndo t) works is are = absurd is
      goes_on s (laws.RefusesCall t why) works is are = absurd is
      goes_on s (laws.Asks t call given) works is are = absurd is
      goes_on s (laws.RefusesAsk t call why) works is are = absurd is
      goes_on s (laws.Durable number) works is are = absurd is
      goes_on s laws.Fails works is are = absurd is
      goes_on s (laws.Opens number) works is are = absurd is

      stays : (events : List (laws.Happening B)) → old.failed ≡ false → events ≡ [] → AreHappenings k old events new → Told (λ n. (m.failed ≡ false) × (n ≡ m))
      stays events works is are = (m, (working works, refl), none new (subst (λ es. AreHappenings k old es new) is are))

      moves : (s : ℕ) (outcome : Outcome B) (events : List (laws.Happening B)) → IsMove s old outcome events → AreHappenings k old events new → Told (MoveHappens k s m outcome)
      moves s (Replied r) events is are = ends s r is.0 is.2 (just is.0 events new is.1 are)
      moves s More events is are = goes_on s is.1.0 is.0 is.1.2 (subst (λ es. AreHappenings k old es new) is.1.1 are)
      moves s (Help need) events is are = stays events is.0 is.1 are
      moves s Nothing events is are = absurd is
      moves s (Refused refusal.BadSession) events is are = (m, (is.0, refl), none new (subst (λ es. AreHappenings k old es new) is.1 are))
      moves s (Refused refusal.NoCall) events is are =
          (m, ((is.0, open_alike old m seen s ∙ is.1), refl), none new (subst (λ es. AreHappenings k old es new) is.2 are))
      moves s (Refused other) events is are = absurd is

      works_on : (outcome : Outcome B) (events : List (laws.Happening B)) → IsWork old.failed outcome events → AreHappenings k old events new → Told (WorkHappens m outcome)
      works_on (Replied r) events is are = absurd is
      works_on More events is are =
          let f = one laws.Works new (subst (λ es. AreHappenings k old es new) is.1 are) in (f.next, (working is.0, f.is_step), f.seen)
      works_on (Help need) events is are = stays events is.0 is.1 are
      works_on Nothing events is are = stays events is.0 is.1 are
      works_on (Refused refusal.Device) events is are = let f = one laws.Fails new (just laws.Fails events new is.1 are) in (f.next, (working is.0, f.is_step), f.seen)
      works_on (Refused refusal.Failed) events is are = (m, (seen.failed ∙ is.0, refl), none new (subst (λ es. AreHappenings k old es new) is.1 are))
      works_on (Refused other) events is are = absurd is

      syncs : (outcome : Outcome B) (events : List (laws.Happening B)) → IsSync old.failed outcome events → AreHappenings k old events new → Told (SyncHappens k m outcome)
      syncs More events (works, inl is) are = (m, durable_again m (working works), none new (subst (λ es. AreHappenings k old es new) is are))
      syncs More events (works, inr (inl is)) are =
          let f = one laws.Works new (subst (λ es. AreHappenings k old es new) is are) in
          (f.next, subst (λ (x : Machine B). IsStep k m (runs.Durable x.oldest) x) (sym f.is_step) (durable_again m (working works)), f.seen)
      syncs More events (works, inr (inr (number, is))) are =
          let f = one (laws.Durable number) new (subst (λ es. AreHappenings k old es new) is are) in
          (f.next, subst (λ (x : ℕ). IsStep k m (runs.Durable x) f.next) (sym (ap (λ (y : Machine B). y.oldest) f.is_step.3)) f.is_step, f.seen)
      syncs (Replied r) events is are = absurd is
      syncs (Help need) events is are = works_on (Help need) events is are
      syncs Nothing events is are = works_on Nothing events is are
      syncs (Refused why) events is are = works_on (Refused why) events is are

      pub happens : (event : Event B) (outcome : Outcome B) (events : List (laws.Happening B)) → AreOf old event outcome events → AreHappenings k old events new → Told (Happens k m event outcome)
      happens (Ask s call) outcome events is are = asks s call outcome events is are
      happens (Move s) outcome events is are = moves s outcome events is are
      happens LogStep outcome events is are = syncs outcome events is are
      happens (WritePage page) outcome events is are = works_on outcome events is are
      happens CheckpointStep outcome events is are = syncs outcome events is are
      happens (Sweep page) outcome events is are = works_on outcome events is are
