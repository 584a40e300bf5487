-- The events of an opening: those that end a checkpoint, and those that undo the transactions that a crash cut off.
use Rattle.std.specs.Prelude.{ℕ, ◌≡◌, ◌⊎◌, ◌<◌, false, Option, None, Some, Result, Ok, Err, List, [], ◌∷◌, length}
use Rattle.gx_geom.specs.declared.refusal.Refusal.{Refusal}
use Rattle.gx_geom.specs.declared.refusal.Refusal.TheVariants.{Damaged, NoCall}
use Rattle.gx_machine.specs.declared.reply.Reply.{Reply}
use Rattle.gx_machine.specs.declared.reply.Reply.TheVariants as reply
use Rattle.gx_events.specs.declared.event.Event.{Event}
use Rattle.gx_events.specs.declared.event.Event.TheVariants.{Ask, Move, LogStep, WritePage, CheckpointStep, Sweep}
use Rattle.gx_events.specs.declared.outcome.Outcome.{Outcome}
use Rattle.gx_events.specs.declared.outcome.Outcome.TheVariants.{Replied, Refused}
use Rattle.gx_phases.specs.declared.phase.Phase.{Phase}
use Rattle.gx_phases.specs.declared.phase.Phase.TheVariants as phase
use Rattle.gx_phases.specs.States.{phase_at}
use Rattle.gx_engine.specs.States.{Parts}
use Rattle.gx_engine.specs.Driven.{IsGivenUp}
use Rattle.gx_engine.specs.Made.{AreMade}
use Rattle.gx_engine.specs.Resting.{WorksOff}

-- a session is free, or undoes
abbrev pub MayUndo : {B W : Type 0} → Phase B W → Type 0
MayUndo phase.Free = Unit {0}
MayUndo phase.Working = ⊥
MayUndo (phase.Open call work) = ⊥
MayUndo (phase.Undoing restored work) = Unit {0}
MayUndo (phase.Waiting number) = ⊥

-- each session is free, or undoes
abbrev pub OnlyUndoes : {B D : Type 0} → Parts B D → Type 0
OnlyUndoes e = (place : ℕ) → MayUndo (phase_at place e.sessions.phases)

-- the session at a place is free; and so are those below one
abbrev pub IsFreeAt : {B D : Type 0} → ℕ → Parts B D → Type 0
IsFreeAt place e = phase_at place e.sessions.phases ≡ phase.Free

abbrev pub AreFreeBelow : {B D : Type 0} → ℕ → Parts B D → Type 0
AreFreeBelow count e = (place : ℕ) → place < count → IsFreeAt place e

-- no session has a transaction, no checkpoint runs, and no fault has come
pub record IsIdle {B D : Type 0} (e : Parts B D) : Type 0 where
  pub free : AreFreeBelow 8 e
  pub works : WorksOff e

-- an event that an opening makes
abbrev pub IsOfOpening : {B : Type 0} → Event B → Type 0
IsOfOpening (Ask s call) = ⊥
IsOfOpening (Move s) = Unit {0}
IsOfOpening LogStep = Unit {0}
IsOfOpening (WritePage page) = Unit {0}
IsOfOpening CheckpointStep = Unit {0}
IsOfOpening (Sweep page) = ⊥

abbrev pub AreOfOpening : {B : Type 0} → List (Event B × Outcome B) → Type 0
AreOfOpening [] = Unit {0}
AreOfOpening (step ∷ steps) = IsOfOpening step.0 × AreOfOpening steps

-- an event was refused with this: a move ended its call with it
abbrev pub IsRefusal : {B : Type 0} → Event B → Outcome B → Refusal → Type 0
IsRefusal (Move s) (Replied r) why = r ≡ reply.Refused why
IsRefusal (Move s) other why = ⊥
IsRefusal event (Refused x) why = x ≡ why
IsRefusal event other why = ⊥

-- what the reply that ended a session's moves says of its undo: it has ended, or there was none; or it was refused, or not ended
abbrev pub undone_by : {B : Type 0} → Option (Reply B) → Result (Unit {0}) Refusal
undone_by None = Err Damaged
undone_by (Some reply.Aborted) = Ok tt
undone_by (Some (reply.Refused NoCall)) = Ok tt
undone_by (Some (reply.Refused why)) = Err why
undone_by (Some other) = Err Damaged

module _ {B D : Type 0} (makes : Parts B D → Event B → Outcome B → Parts B D → Type 0) where
  -- Events of an opening led from old to new.
  pub record GoesBy (old new : Parts B D) : Type 0 where
    pub steps : List (Event B × Outcome B)
    pub of_opening : AreOfOpening steps
    pub made : AreMade makes old steps new

  -- An engine began with so many frames, and events of an opening led from it to this one.
  pub record BeganWith (frames : ℕ) (e : Parts B D) : Type 0 where
    pub first : Parts B D
    pub count : length first.volume.shelf.frames.marks ≡ frames
    pub goes : GoesBy first e

  -- The last of them was refused so, on an engine that had not failed.
  pub record IsRefusedAt (old : Parts B D) (why : Refusal) (new : Parts B D) : Type 0 where
    pub middle : Parts B D
    pub before : GoesBy old middle
    pub works : middle.sessions.failed ≡ false
    pub event : Event B
    pub is : IsOfOpening event
    pub outcome : Outcome B
    pub last_made : makes middle event outcome new
    pub refused : IsRefusal event outcome why

  -- Behind some of them, 2^56 events didn't end a session's undo.
  pub record IsEndless (old new : Parts B D) : Type 0 where
    pub middle : Parts B D
    pub before : GoesBy old middle
    pub undoes : OnlyUndoes middle
    pub session : ℕ
    pub given_up : IsGivenUp makes session (Move session) middle new

  -- why an opening was stopped: an event was refused, or the events didn't end
  abbrev pub WhyStopped : Parts B D → Refusal → Parts B D → Type 0
  WhyStopped old why new = IsRefusedAt old why new ⊎ ((why ≡ Damaged) × IsEndless old new)
