-- The events of an opening, one after another.
use Rattle.std.proofs.Common.{◌≡◌, ◌⊎◌, inl, inr, ℕ, ◌+◌, ◌-◌, arith, Bool, true, false, Option, None, Some, List, [], ◌∷◌, ◌++◌, refl, ap, sym, ◌∙◌, subst}
use Rattle.std.specs.Prelude.{◌==◌, ◌<◌, IfErr, IfOk, MatchOption, Ok, Err, Result}
use Rattle.std.proofs.lemmas.Bool.{eqb-false, eqb-true}
use Rattle.gx_geom.specs.declared.refusal.Refusal.{Refusal}
use Rattle.gx_geom.specs.declared.refusal.Refusal.TheVariants as refusal
use Rattle.gx_class.specs.Traits.{traits_of}
use Rattle.gx_class.specs.declared.class.KeyClass.{Ghosts}
use Rattle.gx_machine.specs.declared.reply.Reply.{Reply}
use Rattle.gx_machine.specs.declared.reply.Reply.TheVariants as reply
use Rattle.gx_machine.specs.Keys.{Members, keys_of}
use Rattle.gx_machine.specs.Machine.{is_session}
use Rattle.gx_disk.specs.Device.{Device}
use Rattle.gx_node.specs.Reading.{format_of, is_node}
use Rattle.gx_durable.specs.Classes.{known_at, reading_of}
use Rattle.gx_events.specs.declared.event.Event.{Event}
use Rattle.gx_events.specs.declared.event.Event.TheVariants.{Ask, Move, LogStep, WritePage, CheckpointStep, Sweep}
use Rattle.gx_events.specs.declared.outcome.Outcome.{Outcome}
use Rattle.gx_events.specs.declared.outcome.Outcome.TheVariants as outcome
use Rattle.gx_events.specs.declared.outcome.Need.TheVariants as need
use Rattle.gx_events.specs.declared.driver.Next.{Next}
use Rattle.gx_events.specs.declared.driver.Next.TheVariants.{Run, Done}
use Rattle.gx_events.specs.Driven.{next_of}
use Rattle.gx_phases.specs.declared.phase.Phase.{Phase}
use Rattle.gx_phases.specs.declared.phase.Phase.TheVariants as phase
use Rattle.gx_phases.specs.States.{phase_at}
use Rattle.gx_engine.specs.declared.work.Work.{Work}
use Rattle.gx_engine.specs.States.{Parts}
use Rattle.gx_engine.specs.Driven.{AreDriven, IsDriven, IsGivenUp}
use Rattle.gx_engine.specs.Calls.{TellsAs, TellsWhy, outcome_fails}
use Rattle.gx_engine.specs.Made.{AreMade, Makes}
use Rattle.gx_engine.specs.Repeated.{AreAgain, GoesOn, IsFlushing, IsGoingOn, IsRepeated, last_of}
use Rattle.gx_engine.specs.Resting.{WorksOff}
use Rattle.gx_engine.proofs.Making.{made_joined, made_more}
use Rattle.gx_engine.proofs.Resting.{checkpoint_rests}
use Rattle.gx_restart.specs.Undoing.{AreFreeBelow, AreOfOpening, GoesBy, IsFreeAt, IsOfOpening, IsRefusal, IsRefusedAt, MayUndo, OnlyUndoes, WhyStopped, undone_by}
use Rattle.gx_restart.proofs.Phases.{FlushEnds, IsBusyAt, IsFault, IsFlush, MoveEnds, Stays, fails_so, flush_busy, flush_ends, move_comes, stays_joined, stays_same, step_stays, unmoved}

true_not : true ≡ false → ⊥
true_not bad = cc

of_opening_joined : {B : Type 0} (first next : List (Event B × Outcome B)) → AreOfOpening first → AreOfOpening next → AreOfOpening (first ++ next)
of_opening_joined [] next one other = other
of_opening_joined (step ∷ first) next one other = (one.0, of_opening_joined first next one.1 other)

-- an event that may be due where a session's moves are driven
abbrev IsDue : {B : Type 0} → ℕ → Event B → Type 0
IsDue s (Ask t call) = ⊥
IsDue s (Move t) = t ≡ s
IsDue s LogStep = Unit {0}
IsDue s (WritePage page) = Unit {0}
IsDue s CheckpointStep = Unit {0}
IsDue s (Sweep page) = ⊥

due_of_opening : {B : Type 0} (s : ℕ) (event : Event B) → IsDue s event → IsOfOpening event
due_of_opening s (Ask t call) due = due
due_of_opening s (Move t) due = tt
due_of_opening s LogStep due = tt
due_of_opening s (WritePage page) due = tt
due_of_opening s CheckpointStep due = tt
due_of_opening s (Sweep page) due = due

-- the event that is due, if there is one
abbrev event_in : {B : Type 0} → Event B → Next B → Event B
event_in none (Run event) = event
event_in none (Done r) = none

abbrev reply_in : {B : Type 0} → Reply B → Next B → Reply B
reply_in none (Run event) = none
reply_in none (Done r) = r

-- what is named after an outcome may be due
abbrev IsNextDue : {B : Type 0} → ℕ → Next B → Type 0
IsNextDue s (Run event) = IsDue s event
IsNextDue s (Done r) = Unit {0}

next_due : {B : Type 0} (s : ℕ) (given : Outcome B) → IsNextDue s (next_of s given)
next_due s (outcome.Replied r) = tt
next_due s outcome.More = refl
next_due s (outcome.Help need.Log) = tt
next_due s (outcome.Help (need.Write page)) = tt
next_due s (outcome.Help need.Checkpoint) = tt
next_due s outcome.Nothing = refl
next_due s (outcome.Refused why) = tt

-- all that is driven is of an opening
driven_so : {B : Type 0} (s : ℕ) (due : Next B) (steps : List (Event B × Outcome B)) (next : Next B) → IsNextDue s due → AreDriven s due steps next → AreOfOpening steps
driven_so s due [] next is are = tt
driven_so s (Run event) (step ∷ steps) next is are =
    let now : event ≡ step.0 = ap (λ n. event_in event n) are.0 in
    (subst IsOfOpening now (due_of_opening s event is), driven_so s (next_of s step.1) steps next (next_due s step.1) are.1)
driven_so s (Done r) (step ∷ steps) next is are = let no : ⊥ = cc in absurd no

again_so : {B : Type 0} (event : Event B) (steps : List (Event B × Outcome B)) → IsOfOpening event → AreAgain event steps → AreOfOpening steps
again_so event [] is again = tt
again_so event (step ∷ steps) is again = (subst IsOfOpening (sym again.0.0) is, again_so event steps is again.1)

module _ {B D : Type 0} (makes : Parts B D → Event B → Outcome B → Parts B D → Type 0) where
  pub goes_nowhere : (old : Parts B D) → GoesBy makes old old
  goes_nowhere old = record { steps = []; of_opening = tt; made = refl }

  pub goes_joined : (old middle new : Parts B D) → GoesBy makes old middle → GoesBy makes middle new → GoesBy makes old new
  goes_joined old middle new one other = record {
    steps = one.steps ++ other.steps;
    of_opening = of_opening_joined one.steps other.steps one.of_opening other.of_opening;
    made = made_joined makes one.steps other.steps old middle new one.made other.made;
  }

  pub goes_more : (old middle new : Parts B D) (event : Event B) (given : Outcome B) → GoesBy makes old middle → IsOfOpening event → makes middle event given new → GoesBy makes old new
  goes_more old middle new event given goes is one = record {
    steps = goes.steps ++ (event, given) ∷ [];
    of_opening = of_opening_joined goes.steps ((event, given) ∷ []) goes.of_opening (is, tt);
    made = made_more makes goes.steps old middle new event given goes.made one;
  }

  -- what stopped it later
  pub stopped_later : (old middle new : Parts B D) (why : Refusal) → GoesBy makes old middle → WhyStopped makes middle why new → WhyStopped makes old why new
  stopped_later old middle new why goes (inl refused) = inl (record {
    middle = refused.middle;
    before = goes_joined old middle refused.middle goes refused.before;
    works = refused.works;
    event = refused.event;
    is = refused.is;
    outcome = refused.outcome;
    last_made = refused.last_made;
    refused = refused.refused;
  })
  stopped_later old middle new why goes (inr endless) = inr (
    endless.0,
    record {
      middle = endless.1.middle;
      before = goes_joined old middle endless.1.middle goes endless.1.before;
      undoes = endless.1.undoes;
      session = endless.1.session;
      given_up = endless.1.given_up;
    },
  )

  pub stopped_later_if : (old middle new : Parts B D) (result : Result (Unit {0}) Refusal) → GoesBy makes old middle → IfErr result (λ why. WhyStopped makes middle why new)
      → IfErr result (λ why. WhyStopped makes old why new)
  stopped_later_if old middle new (Ok done) goes stopped = tt
  stopped_later_if old middle new (Err why) goes stopped = stopped_later old middle new why goes stopped

  pub given_up_goes : (s : ℕ) (old new : Parts B D) → IsGivenUp makes s (Move s) old new → GoesBy makes old new
  given_up_goes s old new up = record { steps = up.1.steps; of_opening = driven_so s (Run (Move s)) up.1.steps (Run up.0) refl up.1.driven; made = up.1.made }

  going_on_goes : (old new : Parts B D) (count : ℕ) → IsGoingOn makes CheckpointStep old count new → GoesBy makes old new
  going_on_goes old new count on = record { steps = on.steps; of_opening = again_so CheckpointStep on.steps tt on.again; made = on.made }

module _ {C B D : Type 0} (shape : Members B) (proper : B → Bool) (said : List ℕ → B) (class : Ghosts C B) (state : D → Device) where
  abbrev makes : Parts B D → Event B → Outcome B → Parts B D → Type 0
  makes = Makes shape (traits_of proper said class) state

  one_stays : (old new : Parts B D) (event : Event B) (given : Outcome B) → IsOfOpening event → OnlyUndoes old → makes old event given new → Stays state old new
  one_stays old new event given is undoes one =
      step_stays state (keys_of shape) (known_at shape proper) (reading_of said (format_of class)) (format_of class) (is_node (format_of class)) class.is_key class.spelling class.KEY
      event old new given is undoes one.comes

  all_stay : (steps : List (Event B × Outcome B)) (old new : Parts B D) → AreOfOpening steps → OnlyUndoes old → AreMade makes old steps new → Stays state old new
  all_stay [] old new are undoes made = stays_same state old new undoes made
  all_stay (step ∷ steps) old new are undoes made =
      let first = one_stays old made.0 step.0 step.1 are.0 undoes made.1 in
      stays_joined state old made.0 new first (all_stay steps made.0 new are.1 first.undoes made.2)

  pub goes_stays : (old new : Parts B D) → OnlyUndoes old → GoesBy makes old new → Stays state old new
  goes_stays old new undoes goes = all_stay goes.steps old new goes.of_opening undoes goes.made

  abbrev fault_count : Parts B D → ℕ
  fault_count e = (state e.volume.shelf.disk).faults

  -- ---- a checkpoint that is ended

  flush_end : (event : Event B) (old new : Parts B D) (given : Outcome B) → IsFlush event → makes old event given new → FlushEnds state old new given
  flush_end event old new given is one =
      flush_ends state (keys_of shape) (known_at shape proper) (reading_of said (format_of class)) (format_of class) (is_node (format_of class)) class.is_key class.spelling class.KEY
      event old new given is one.comes

  still_works : (old new : Parts B D) (given : Outcome B) → FlushEnds state old new given → GoesOn given → old.sessions.failed ≡ false → new.sessions.failed ≡ false
  still_works old new outcome.More ends on works = ends ∙ works
  still_works old new (outcome.Replied r) ends on works = absurd ends
  still_works old new (outcome.Help help) ends on works = absurd ends
  still_works old new outcome.Nothing ends on works = absurd on
  still_works old new (outcome.Refused why) ends on works = absurd on

  again_works : (steps : List (Event B × Outcome B)) (old new : Parts B D) → AreAgain CheckpointStep steps → AreMade makes old steps new → old.sessions.failed ≡ false
      → new.sessions.failed ≡ false
  again_works [] old new again made works = ap (λ (x : Parts B D). x.sessions.failed) made ∙ works
  again_works (step ∷ steps) old new again made works =
      let one = subst (λ (e : Event B). makes old e step.1 made.0) again.0.0 made.1 in
      again_works steps made.0 new again.1 made.2 (still_works old made.0 step.1 (flush_end CheckpointStep old made.0 step.1 tt one) again.0.1 works)

  -- an event that is made over and over has no call that failed before its last
  goes_quietly : (old new : Parts B D) (given : Outcome B) → FlushEnds state old new given → GoesOn given → outcome_fails given ≡ 0
  goes_quietly old new outcome.More ends on = refl
  goes_quietly old new (outcome.Replied r) ends on = absurd ends
  goes_quietly old new (outcome.Help help) ends on = absurd ends
  goes_quietly old new outcome.Nothing ends on = absurd on
  goes_quietly old new (outcome.Refused why) ends on = absurd on

  again_told : (event : Event B) (steps : List (Event B × Outcome B)) (old new : Parts B D) → IsFlush event → AreAgain event steps → AreMade makes old steps new → fault_count new ≡ fault_count old
  again_told event [] old new flush again made = ap fault_count made
  again_told event (step ∷ steps) old new flush again made =
      let one = subst (λ (e : Event B). makes old e step.1 made.0) again.0.0 made.1 in
      let none = goes_quietly old made.0 step.1 (flush_end event old made.0 step.1 flush one) again.0.1 in
      let first = one.told in
      let rest = again_told event steps made.0 new flush again.1 made.2 in
      omega (arith, none, first, rest)

  pub repeated_told : (event : Event B) (old new : Parts B D) (ends : Result (Unit {0}) Refusal) → IsFlush event → IsRepeated makes event old (last_of ends) new → TellsWhy state old new ends
  repeated_told event old new (Ok done) flush again =
      let before = again_told event again.before.steps old again.middle flush again.before.again again.before.made in
      let last = again.last_made.told in
      omega (arith, before, last)
  repeated_told event old new (Err why) flush again =
      let before = again_told event again.before.steps old again.middle flush again.before.again again.before.made in
      let last = again.last_made.told in
      omega (arith, before, last)

  -- a step of the log, or of a checkpoint
  pub exhausted_told : (event : Event B) (old new : Parts B D) (ends : Result (Unit {0}) Refusal) → IsFlushing event → IsRepeated makes event old (last_of ends) new → TellsWhy state old new ends
  exhausted_told LogStep old new ends flushes again = repeated_told LogStep old new ends tt again
  exhausted_told CheckpointStep old new ends flushes again = repeated_told CheckpointStep old new ends tt again
  exhausted_told (Ask s call) old new ends flushes again = absurd flushes
  exhausted_told (Move s) old new ends flushes again = absurd flushes
  exhausted_told (WritePage page) old new ends flushes again = absurd flushes
  exhausted_told (Sweep page) old new ends flushes again = absurd flushes

  pub ended_told : (old new : Parts B D) (ends : Result (Unit {0}) Refusal) → IsRepeated makes CheckpointStep old (last_of ends) new → TellsWhy state old new ends
  ended_told old new ends again = repeated_told CheckpointStep old new ends tt again

  repeated_goes : (old new : Parts B D) (last : Outcome B) → IsRepeated makes CheckpointStep old last new → GoesBy makes old new
  repeated_goes old new last again =
      goes_more makes old again.middle new CheckpointStep last (going_on_goes makes old again.middle again.count again.before) tt again.last_made

  pub ended_goes : (old new : Parts B D) (ends : Result (Unit {0}) Refusal) → IsRepeated makes CheckpointStep old (last_of ends) new → GoesBy makes old new
  ended_goes old new ends again = repeated_goes old new (last_of ends) again

  pub ended_works : (old new : Parts B D) (ends : Result (Unit {0}) Refusal) → IsRepeated makes CheckpointStep old (last_of ends) new → IfOk ends (λ _. WorksOff new)
  ended_works old new (Ok done) again =
      let off = checkpoint_rests (state again.middle.volume.shelf.disk) (state new.volume.shelf.disk) again.middle new again.middle.sessions.failed refl again.last_made.comes in
      subst WorksOff (sym off.same) (record { off = off.off; works = off.works })
  ended_works old new (Err why) again = tt

  pub ended_why : (old new : Parts B D) (ends : Result (Unit {0}) Refusal) → old.sessions.failed ≡ false → IsRepeated makes CheckpointStep old (last_of ends) new
      → IfErr ends (λ why. WhyStopped makes old why new)
  ended_why old new (Ok done) works again = tt
  ended_why old new (Err why) works again = inl (record {
    middle = again.middle;
    before = going_on_goes makes old again.middle again.count again.before;
    works = again_works again.before.steps old again.middle again.before.again again.before.made works;
    event = CheckpointStep;
    is = tt;
    outcome = outcome.Refused why;
    last_made = again.last_made;
    refused = refl;
  })

  -- ---- a session's moves to their end

  -- what the reply that ended them says
  abbrev EndsBy : ℕ → Parts B D → Parts B D → Reply B → Type 0
  EndsBy s old new reply.Aborted = IsFreeAt (s - 1) new × WorksOff new
  EndsBy s old new (reply.Refused why) = IsFault why × IsRefusedAt makes old why new
  EndsBy s old new other = ⊥

  move_end : (s : ℕ) (old new : Parts B D) (given : Outcome B) → OnlyUndoes old → makes old (Move s) given new → MoveEnds state s old new given
  move_end s old new given undoes one =
      (move_comes state (keys_of shape) (known_at shape proper) (reading_of said (format_of class)) (format_of class) (is_node (format_of class)) class.is_key class.spelling class.KEY
      s old new given undoes one.comes).1

  busy_on : (event : Event B) (old new : Parts B D) (given : Outcome B) (place : ℕ) → IsFlush event → makes old event given new → IsBusyAt place old → IsBusyAt place new
  busy_on event old new given place is one =
      flush_busy state (keys_of shape) (known_at shape proper) (reading_of said (format_of class)) (format_of class) (is_node (format_of class)) class.is_key class.spelling class.KEY
      event old new given place is one.comes

  -- what holds before an event that is due
  record IsAt (s : ℕ) (e : Parts B D) : Type 0 where
    undoes : OnlyUndoes e
    works : e.sessions.failed ≡ false
    busy : IsBusyAt (s - 1) e

  -- an event came to this: its call has ended, or goes on
  abbrev ComesTo : ℕ → Parts B D → Parts B D → Next B → Type 0
  ComesTo s old new (Run event) = IsAt s new
  ComesTo s old new (Done r) = EndsBy s old new r

  refused_now : (s : ℕ) (old new : Parts B D) (event : Event B) (given : Outcome B) (why : Refusal) → IsAt s old → IsOfOpening event → makes old event given new → IsRefusal event given why
      → IsRefusedAt makes old why new
  refused_now s old new event given why at is one refused =
      record { middle = old; before = goes_nowhere makes old; works = at.works; event = event; is = is; outcome = given; last_made = one; refused = refused }

  flush_to : (s : ℕ) (event : Event B) (old new : Parts B D) (given : Outcome B) → IsAt s old → IsFlush event → IsOfOpening event → ((why : Refusal) → IsRefusal event (outcome.Refused why) why)
      → makes old event given new → FlushEnds state old new given → ComesTo s old new (next_of s given)
  flush_to s event old new outcome.More at flush is refusal one ends =
      record { undoes = (one_stays old new event outcome.More is at.undoes one).undoes; works = ends ∙ at.works; busy = busy_on event old new outcome.More (s - 1) flush one at.busy }
  flush_to s event old new outcome.Nothing at flush is refusal one ends =
      record { undoes = (one_stays old new event outcome.Nothing is at.undoes one).undoes; works = ends ∙ at.works; busy = busy_on event old new outcome.Nothing (s - 1) flush one at.busy }
  flush_to s event old new (outcome.Refused why) at flush is refusal one ends =
      (fails_so state old new why ends, refused_now s old new event (outcome.Refused why) why at is one (refusal why))
  flush_to s event old new (outcome.Replied r) at flush is refusal one ends = absurd ends
  flush_to s event old new (outcome.Help help) at flush is refusal one ends = absurd ends

  moved_on : (s : ℕ) (old new : Parts B D) (given : Outcome B) → IsAt s old → makes old (Move s) given new → (new.sessions.failed ≡ old.sessions.failed) × (IsBusyAt (s - 1) old → IsBusyAt (s - 1) new)
      → IsAt s new
  moved_on s old new given at one ends =
      record { undoes = (one_stays old new (Move s) given tt at.undoes one).undoes; works = ends.0 ∙ at.works; busy = ends.1 at.busy }

  replied_to : (s : ℕ) (old new : Parts B D) (r : Reply B) → IsAt s old → makes old (Move s) (outcome.Replied r) new → MoveEnds state s old new (outcome.Replied r) → EndsBy s old new r
  replied_to s old new reply.Aborted at one ends = ends
  replied_to s old new (reply.Refused why) at one ends = (fails_so state old new why ends, refused_now s old new (Move s) (outcome.Replied (reply.Refused why)) why at tt one refl)
  replied_to s old new other at one ends = absurd ends

  refused_to : (s : ℕ) (old new : Parts B D) (why : Refusal) → is_session s ≡ true → IsAt s old → MoveEnds state s old new (outcome.Refused why) → EndsBy s old new (reply.Refused why)
  refused_to s old new refusal.BadSession there at ends = absurd (true_not (sym there ∙ ends))
  refused_to s old new refusal.NoCall there at ends = absurd (at.busy ends.0)
  refused_to s old new other there at ends = absurd ends

  move_to : (s : ℕ) (old new : Parts B D) (given : Outcome B) → is_session s ≡ true → IsAt s old → makes old (Move s) given new → MoveEnds state s old new given
      → ComesTo s old new (next_of s given)
  move_to s old new (outcome.Replied r) there at one ends = replied_to s old new r at one ends
  move_to s old new outcome.More there at one ends = moved_on s old new outcome.More at one ends
  move_to s old new (outcome.Help need.Log) there at one ends = moved_on s old new (outcome.Help need.Log) at one ends
  move_to s old new (outcome.Help (need.Write page)) there at one ends = moved_on s old new (outcome.Help (need.Write page)) at one ends
  move_to s old new (outcome.Help need.Checkpoint) there at one ends = moved_on s old new (outcome.Help need.Checkpoint) at one ends
  move_to s old new outcome.Nothing there at one ends = absurd ends
  move_to s old new (outcome.Refused why) there at one ends = refused_to s old new why there at ends

  comes_to : (s : ℕ) (event : Event B) (old new : Parts B D) (given : Outcome B) → is_session s ≡ true → IsDue s event → IsAt s old → makes old event given new
      → ComesTo s old new (next_of s given)
  comes_to s (Ask t call) old new given there due at one = absurd due
  comes_to s (Move t) old new given there due at one =
      let now = subst (λ u. makes old (Move u) given new) due one in move_to s old new given there at now (move_end s old new given at.undoes now)
  comes_to s LogStep old new given there due at one = flush_to s LogStep old new given at tt tt (λ why. refl) one (flush_end LogStep old new given tt one)
  comes_to s (WritePage page) old new given there due at one = flush_to s (WritePage page) old new given at tt tt (λ why. refl) one (flush_end (WritePage page) old new given tt one)
  comes_to s CheckpointStep old new given there due at one = flush_to s CheckpointStep old new given at tt tt (λ why. refl) one (flush_end CheckpointStep old new given tt one)
  comes_to s (Sweep page) old new given there due at one = absurd due

  refused_later : (old middle new : Parts B D) (why : Refusal) → GoesBy makes old middle → IsRefusedAt makes middle why new → IsRefusedAt makes old why new
  refused_later old middle new why goes refused = record {
    middle = refused.middle;
    before = goes_joined makes old middle refused.middle goes refused.before;
    works = refused.works;
    event = refused.event;
    is = refused.is;
    outcome = refused.outcome;
    last_made = refused.last_made;
    refused = refused.refused;
  }

  ends_later : (s : ℕ) (old middle new : Parts B D) (r : Reply B) → GoesBy makes old middle → EndsBy s middle new r → EndsBy s old new r
  ends_later s old middle new reply.Aborted goes ends = ends
  ends_later s old middle new (reply.Refused why) goes ends = (ends.0, refused_later old middle new why goes ends.1)
  ends_later s old middle new other goes ends = absurd ends

  one_goes : (old new : Parts B D) (event : Event B) (given : Outcome B) → IsOfOpening event → makes old event given new → GoesBy makes old new
  one_goes old new event given is one = goes_more makes old old new event given (goes_nowhere makes old) is one

  -- so to their end
  driven_on : (s : ℕ) (old middle new : Parts B D) (next : Next B) (steps : List (Event B × Outcome B)) (r : Reply B) → GoesBy makes old middle → ComesTo s old middle next
      → AreDriven s next steps (Done r) → AreMade makes middle steps new
      → ((event : Event B) → IsAt s middle → IsNextDue s (Run event) → AreDriven s (Run event) steps (Done r) → EndsBy s middle new r) → IsNextDue s next → EndsBy s old new r
  driven_on s old middle new (Run event) steps r goes on are made rest due = ends_later s old middle new r goes (rest event on due are)
  driven_on s old middle new (Done last) [] r goes over are made rest due =
      let same : r ≡ last = cc in
      subst (λ (x : Parts B D). EndsBy s old x r) (sym made) (subst (λ (x : Reply B). EndsBy s old middle x) (sym same) over)
  driven_on s old middle new (Done last) (step ∷ steps) r goes over are made rest due = let no : ⊥ = cc in absurd no

  driven_ends : (s : ℕ) (old new : Parts B D) (event : Event B) (steps : List (Event B × Outcome B)) (r : Reply B) → is_session s ≡ true → IsAt s old → IsDue s event
      → AreDriven s (Run event) steps (Done r) → AreMade makes old steps new → EndsBy s old new r
  driven_ends s old new event [] r there at due are made = cc
  driven_ends s old new event (step ∷ steps) r there at due (same, are) (middle, one, made) =
      let now : event ≡ step.0 = ap (λ n. event_in event n) same in
      let due_now = subst (IsDue s) now due in
      driven_on s old middle new (next_of s step.1) steps r (one_goes old middle step.0 step.1 (due_of_opening s step.0 due_now) one)
      (comes_to s step.0 old middle step.1 there due_now at one) are made
      (λ later on is_due more. driven_ends s middle new later steps r there on is_due more made) (next_due s step.1)

  -- a session that is free has nothing to undo
  over_now : (s : ℕ) (middle new : Parts B D) (next : Next B) (q r : Reply B) (steps : List (Event B × Outcome B)) → next ≡ Done q → AreDriven s next steps (Done r)
      → AreMade makes middle steps new → (r ≡ q) × (new ≡ middle)
  over_now s middle new next q r [] is are made = (ap (λ n. reply_in q n) (are ∙ is), made)
  over_now s middle new next q r (step ∷ steps) is are made = let no : ⊥ = cc in absurd no

  free_ends : (s : ℕ) (old new : Parts B D) (r : Reply B) (steps : List (Event B × Outcome B)) → is_session s ≡ true → IsFreeAt (s - 1) old → AreDriven s (Run (Move s)) steps (Done r)
      → AreMade makes old steps new → (r ≡ reply.Refused refusal.NoCall) × (new ≡ old)
  free_ends s old new r [] there free are made = let no : ⊥ = cc in absurd no
  free_ends s old new r (step ∷ steps) there free (same, are) (middle, one, made) =
      let now : Move s ≡ step.0 = ap (λ n. event_in (Move s) n) same in
      let first = subst (λ e. makes old e step.1 middle) (sym now) one in
      let came = unmoved state (keys_of shape) (known_at shape proper) (reading_of said (format_of class)) (format_of class) (is_node (format_of class)) class.is_key class.spelling class.KEY
      s old middle step.1 there free first.comes in
      let over = over_now s middle new (next_of s step.1) (reply.Refused refusal.NoCall) r steps (ap (next_of s) came.0) are made in
      (over.0, over.1 ∙ came.1)

  free_or_busy : (p : Phase B (Work B)) → MayUndo p → (p ≡ phase.Free) ⊎ (p ≡ phase.Free → ⊥)
  free_or_busy phase.Free may = inl refl
  free_or_busy (phase.Undoing restored work) may = inr (λ free. let no : ⊥ = cc in no)
  free_or_busy phase.Working may = absurd may
  free_or_busy (phase.Open call work) may = absurd may
  free_or_busy (phase.Waiting number) may = absurd may

  abbrev IsUndone : ℕ → Parts B D → Type 0
  IsUndone s new = IsFreeAt (s - 1) new × WorksOff new

  -- what a session's undo comes to, by the reply that ended its moves
  abbrev UndoneSo : ℕ → Parts B D → Parts B D → Result (Unit {0}) Refusal → Type 0
  UndoneSo s old new (Ok done) = IsUndone s new
  UndoneSo s old new (Err why) = WhyStopped makes old why new

  refused_so : (s : ℕ) (old new : Parts B D) (why : Refusal) → IsFault why → IsRefusedAt makes old why new → UndoneSo s old new (undone_by {B = B} (Some (reply.Refused why)))
  refused_so s old new refusal.Device fault at = inl at
  refused_so s old new refusal.Damaged fault at = inl at
  refused_so s old new refusal.Failed fault at = inl at
  refused_so s old new other fault at = absurd fault

  busy_so : (s : ℕ) (old new : Parts B D) (r : Reply B) → EndsBy s old new r → UndoneSo s old new (undone_by (Some r))
  busy_so s old new reply.Aborted ends = ends
  busy_so s old new (reply.Refused why) ends = refused_so s old new why ends.0 ends.1
  busy_so s old new other ends = absurd ends

  driven_undone : (s : ℕ) (old new : Parts B D) (r : Reply B) → is_session s ≡ true → OnlyUndoes old → WorksOff old → IsDriven makes s (Move s) old r new
      → (IsFreeAt (s - 1) old) ⊎ (IsFreeAt (s - 1) old → ⊥) → UndoneSo s old new (undone_by (Some r))
  driven_undone s old new r there undoes works driven (inl free) =
      let ends = free_ends s old new r driven.steps there free driven.driven driven.made in
      let undone : IsUndone s new = subst (λ (x : Parts B D). IsUndone s x) (sym ends.1) (free, works) in
      subst (λ (x : Reply B). UndoneSo s old new (undone_by (Some x))) (sym ends.0) undone
  driven_undone s old new r there undoes works driven (inr busy) =
      busy_so s old new r
      (driven_ends s old new (Move s) driven.steps r there (record { undoes = undoes; works = works.works; busy = busy }) refl driven.driven driven.made)

  abbrev Drives : ℕ → Parts B D → Parts B D → Option (Reply B) → Type 0
  Drives s old new reply = MatchOption reply (IsGivenUp makes s (Move s) old new) (λ r. IsDriven makes s (Move s) old r new)

  pub undo_goes : (s : ℕ) (old new : Parts B D) (reply : Option (Reply B)) → Drives s old new reply → GoesBy makes old new
  undo_goes s old new None up = given_up_goes makes s old new up
  undo_goes s old new (Some r) driven = record { steps = driven.steps; of_opening = driven_so s (Run (Move s)) driven.steps (Done r) refl driven.driven; made = driven.made }

  pub undo_so : (s : ℕ) (old new : Parts B D) (reply : Option (Reply B)) → is_session s ≡ true → OnlyUndoes old → WorksOff old → Drives s old new reply
      → UndoneSo s old new (undone_by reply)
  undo_so s old new None there undoes works up = inr (refl, record { middle = old; before = goes_nowhere makes old; undoes = undoes; session = s; given_up = up })
  undo_so s old new (Some r) there undoes works driven =
      driven_undone s old new r there undoes works driven (free_or_busy (phase_at (s - 1) old.sessions.phases) (undoes (s - 1)))

  pub undone_free : (s : ℕ) (old new : Parts B D) (result : Result (Unit {0}) Refusal) → UndoneSo s old new result → IfOk result (λ _. IsFreeAt (s - 1) new)
  undone_free s old new (Ok done) so = so.0
  undone_free s old new (Err why) so = tt

  pub undone_works : (s : ℕ) (old new : Parts B D) (result : Result (Unit {0}) Refusal) → UndoneSo s old new result → IfOk result (λ _. WorksOff new)
  undone_works s old new (Ok done) so = so.1
  undone_works s old new (Err why) so = tt

  pub undone_why : (s : ℕ) (old new : Parts B D) (result : Result (Unit {0}) Refusal) → UndoneSo s old new result → IfErr result (λ why. WhyStopped makes old why new)
  undone_why s old new (Ok done) so = tt
  undone_why s old new (Err why) so = so

  -- one session more is free
  free_by : (place at : ℕ) (new : Parts B D) (is : Bool) → (at == place) ≡ is → at < place + 1 → IsFreeAt place new → (at < place → IsFreeAt at new) → IsFreeAt at new
  free_by place at new true same below one rest = subst (λ n. IsFreeAt n new) (sym (eqb-true at place same)) one
  free_by place at new false other below one rest = rest (let ne = eqb-false at place other in omega (arith, below, ne))

  pub free_more : (place : ℕ) (old new : Parts B D) → OnlyUndoes old → GoesBy makes old new → AreFreeBelow place old → IsFreeAt (place + 1 - 1) new → AreFreeBelow (place + 1) new
  free_more place old new undoes goes free one = λ at below.
      (let same : place + 1 - 1 ≡ place = omega arith in
      free_by place at new (at == place) refl below (subst (λ n. IsFreeAt n new) same one) (λ less. (goes_stays old new undoes goes).free at (free at less)))

module _ {B D : Type 0} (state : D → Device) (old new : Parts B D) where
  refused_told : (why : Refusal) → TellsAs state old new (outcome.Replied (reply.Refused why)) → TellsWhy state old new (undone_by {B = B} (Some (reply.Refused why)))
  refused_told refusal.NoCall told = omega (arith, told)
  refused_told refusal.NoTransaction told = told
  refused_told refusal.InTransaction told = told
  refused_told refusal.Present told = told
  refused_told refusal.Absent told = told
  refused_told refusal.BadBox told = told
  refused_told refusal.PagesFull told = told
  refused_told refusal.ClaimsFull told = told
  refused_told refusal.PredicatesFull told = told
  refused_told refusal.Device told = told
  refused_told refusal.Failed told = told
  refused_told refusal.Damaged told = told
  refused_told refusal.NotFormatted told = told
  refused_told refusal.BadSession told = told
  refused_told refusal.CallOpen told = told
  refused_told refusal.TooSmall told = told
  refused_told refusal.BadParameter told = told
  refused_told refusal.HistoryFull told = told
  refused_told refusal.OldVersion told = told
  refused_told refusal.Memory told = told
  refused_told (refusal.Busy s) told = told

  -- what an undo says of the calls that failed, by the reply that ended its moves
  pub undone_told : (reply : Option (Reply B)) → MatchOption reply (TellsAs state old new outcome.More) (λ r. TellsAs state old new (outcome.Replied r)) → TellsWhy state old new (undone_by reply)
  undone_told None told = told
  undone_told (Some reply.Aborted) told = omega (arith, told)
  undone_told (Some (reply.Refused why)) told = refused_told why told
  undone_told (Some reply.Ok) told = told
  undone_told (Some reply.Inserted) told = told
  undone_told (Some reply.Deleted) told = told
  undone_told (Some (reply.Found entries)) told = told
  undone_told (Some (reply.Committed number)) told = told

-- where none failed before
pub told_then : {A B D : Type 0} (state : D → Device) (old middle new : Parts B D) (result : Result A Refusal)
    → (state middle.volume.shelf.disk).faults ≡ (state old.volume.shelf.disk).faults → TellsWhy state middle new result → TellsWhy state old new result
told_then state old middle new (Ok done) same told = told ∙ same
told_then state old middle new (Err why) same told = omega (arith, same, told)
