-- The outcomes of a commit's moves.
use Rattle.std.specs.Prelude.{ℕ, ◌≡◌, ◌+◌, Bool, true, false, Option, None, Some, nat_le, List, [], ◌∷◌}
use Rattle.gx_machine.specs.declared.entry.Entry.{Entry}
use Rattle.gx_machine.specs.declared.reply.Reply.TheVariants.{Committed}
use Rattle.gx_record.specs.Rec as rec
use Rattle.gx_events.specs.Happenings.{Happening, Acknowledges, Seals}
use Rattle.gx_events.specs.declared.outcome.Need.TheVariants as need
use Rattle.gx_events.specs.declared.outcome.Outcome.{Outcome}
use Rattle.gx_events.specs.declared.outcome.Outcome.TheVariants.{Replied, More, Help, Nothing, Refused}
use Rattle.gx_phases.specs.declared.phase.Phase.TheVariants.{Free}
use Rattle.gx_phases.specs.Moves.{sealed_state, transaction_of}
use Rattle.gx_phases.specs.States.{with_phase_of}
use Rattle.gx_storage.specs.Flushing.{HasNoRoom}
use Rattle.gx_storage.specs.Keeps.{Logs}
use Rattle.gx_engine.specs.Refusals.{log_need}
use Rattle.gx_engine.specs.States.{Parts, is_due, runs}

-- the record of a session's commit, with the next number
abbrev pub commit_of : {B D : Type 0} → ℕ → Parts B D → rec.Rec
commit_of s e = rec.Commit (transaction_of s e.sessions) (e.sessions.latest + 1)

-- the record was appended, and the commit is sealed
pub record IsSealed {B D : Type 0} (s : ℕ) (old new : Parts B D) : Type 0 where
  pub logs : Logs (commit_of s old) old.volume.log new.volume.log
  pub volume : new.volume ≡ record old.volume { log = new.volume.log }
  pub is : new ≡ record old { volume = new.volume; sessions = sealed_state s old.sessions }

-- it is sealed; or there is no room for the record, or a checkpoint has to come first, and nothing changes
abbrev pub SealComes : {B D : Type 0} → ℕ → Parts B D → Parts B D → Outcome B → Type 0
SealComes s old new More = (is_due old ≡ false) × IsSealed s old new
SealComes s old new (Help need.Log) = (is_due old ≡ false) × HasNoRoom (commit_of s old) old.volume.log × (new ≡ old)
SealComes s old new (Help need.Checkpoint) = (is_due old ≡ true) × (new ≡ old)
SealComes s old new (Help (need.Write page)) = ⊥
SealComes s old new (Replied reply) = ⊥
SealComes s old new Nothing = ⊥
SealComes s old new (Refused why) = ⊥

-- a seal as the index's event: the set so far gets that number
abbrev pub AreSealing : {B : Type 0} → ℕ → ℕ → Outcome B → List (Happening B) → Type 0
AreSealing {B} s number More events = (set : List (Entry B)) × (events ≡ Seals s set number ∷ [])
AreSealing s number other events = events ≡ []

-- the reply to a commit whose number is durable; any other waits for the log, or for a checkpoint if one runs
abbrev pub commit_outcome : {B : Type 0} → Bool → Option ℕ → Outcome B
commit_outcome running None = Help (log_need running)
commit_outcome running (Some number) = Replied (Committed number)

-- a commit whose number is durable is acknowledged; another one waits
abbrev pub AcknowledgeBy : {B D : Type 0} → Bool → ℕ → ℕ → Parts B D → Parts B D → Outcome B → Type 0
AcknowledgeBy true s number old new outcome = (outcome ≡ Replied (Committed number)) × (new ≡ record old { sessions = with_phase_of s Free old.sessions })
AcknowledgeBy false s number old new outcome = (outcome ≡ Help (log_need (runs old.checkpoint))) × (new ≡ old)

abbrev pub AcknowledgeComes : {B D : Type 0} → ℕ → ℕ → Parts B D → Parts B D → Outcome B → Type 0
AcknowledgeComes s number old new outcome = AcknowledgeBy (nat_le number old.sessions.durable) s number old new outcome

abbrev pub acknowledge_events : {B : Type 0} → ℕ → Outcome B → List (Happening B)
acknowledge_events s (Replied (Committed number)) = Acknowledges s number ∷ []
acknowledge_events s other = []
