-- The outcomes of an undo's moves.
use Rattle.std.specs.Prelude.{ℕ, ◌≡◌, ◌≢◌, ◌-◌, ◌<◌, ◌⊎◌, ◌&&◌, ◌==◌, Bool, true, false, Option, None, Some, Result, Ok, Err, List, [], ◌∷◌, slice_get}
use Rattle.std.specs.Ordering.{is_eq}
use Rattle.gx_geom.specs.declared.refusal.Refusal.TheVariants.{Damaged as DamagedRefusal, Device as DeviceRefusal}
use Rattle.gx_machine.specs.declared.entry.Entry.{Entry}
use Rattle.gx_machine.specs.declared.reply.Reply.TheVariants.{Aborted, Refused as RefusedCall}
use Rattle.gx_machine.specs.Keys.{Keys}
use Rattle.gx_disk.specs.Device.{Device}
use Rattle.gx_page.specs.Contents.{Contents}
use Rattle.gx_record.specs.Rec as rec
use Rattle.gx_node.specs.Reading.{Format}
use Rattle.gx_node.specs.Trees.{Pair, Used}
use Rattle.gx_node.specs.declared.fault.StepFault.{StepFault}
use Rattle.gx_node.specs.declared.fault.StepFault.TheVariants as step
use Rattle.gx_tree.specs.declared.seek.Sought.{Sought}
use Rattle.gx_tree.specs.declared.seek.Sought.TheVariants.{Here, Right}
use Rattle.gx_node.specs.Owner.{IsWhy}
use Rattle.gx_node.specs.Store.{tree_of}
use Rattle.gx_tree.specs.Writing.{SetsMark}
use Rattle.gx_recovery.specs.Known.{Known, Limits}
use Rattle.gx_events.specs.Happenings.{Happening, EndsUndo, RefusesCall, Undoes, Works}
use Rattle.gx_index_laws.specs.Classes.{Page}
use Rattle.gx_durable.specs.Spelled.{Reading}
use Rattle.gx_events.specs.declared.outcome.Need.TheVariants as need
use Rattle.gx_events.specs.declared.outcome.Outcome.{Outcome}
use Rattle.gx_events.specs.declared.outcome.Outcome.TheVariants.{Replied, More, Help}
use Rattle.gx_txn.specs.declared.note.Note.{Note}
use Rattle.gx_txn.specs.Tables.{held_by}
use Rattle.gx_phases.specs.declared.phase.Phase.{Phase}
use Rattle.gx_phases.specs.declared.phase.Phase.TheVariants as phase
use Rattle.gx_phases.specs.Moves.{ended_state, failed_state, next_of, restored_state, transaction_of}
use Rattle.gx_phases.specs.States.{State, phase_at, with_phase_of}
use Rattle.gx_store.specs.declared.fault.StoreFault.{StoreFault}
use Rattle.gx_store.specs.Faults as faults
use Rattle.gx_store.specs.Standing.{store_of}
use Rattle.gx_store.specs.State.{IsSteady}
use Rattle.gx_storage.specs.Changes.{IsUnlogged, MarkIsLogged, begun}
use Rattle.gx_storage.specs.Flushing.{HasNoRoom}
use Rattle.gx_storage.specs.Imaged.{is_imaged}
use Rattle.gx_storage.specs.Keeps.{Logs}
use Rattle.gx_storage.specs.Numbers.{OwnWhereSet}
use Rattle.gx_storage.specs.Small.{mark_room}
use Rattle.gx_storage.specs.State.{Volume}
use Rattle.gx_engine.specs.declared.work.Work.{Work}
use Rattle.gx_engine.specs.declared.work.Work.TheVariants.{Descends, Looks, Rests, Seeks}
use Rattle.gx_engine.specs.Refusals.{IsHelp}
use Rattle.gx_engine.specs.States.{Parts, is_due, runs}

-- the leaf that an undo seeks in: its work's, or its next note's if it hasn't begun with that
abbrev pub leaf_of : {B : Type 0} → Note B → Work B → ℕ
leaf_of n Rests = n.leaf
leaf_of n (Looks look) = n.leaf
leaf_of n (Descends parent item) = n.leaf
leaf_of n (Seeks leaf) = leaf

-- an undo's work
abbrev pub undo_work : {B : Type 0} → Phase B (Work B) → Work B
undo_work phase.Free = Rests
undo_work phase.Working = Rests
undo_work (phase.Open call work) = Rests
undo_work (phase.Undoing restored work) = work
undo_work (phase.Waiting number) = Rests

-- the note that a session's undo restores next, after so many
pub record IsNext {B : Type 0} (s : ℕ) (sessions : State B (Work B)) (n : Note B) : Type 0 where
  pub restored : ℕ
  pub place : next_of s sessions ≡ Some restored
  pub note : slice_get (held_by s sessions.table).notes restored ≡ Some n

-- the leaf that a session's undo seeks that note's pair in
abbrev pub next_leaf : {B : Type 0} → ℕ → State B (Work B) → Note B → ℕ
next_leaf s sessions n = leaf_of n (undo_work (phase_at (s - 1) sessions.phases))

-- the record of the end of a session's transaction
abbrev pub end_of : {B D : Type 0} → ℕ → Parts B D → rec.Rec
end_of s e = rec.End (transaction_of s e.sessions)

-- the record was appended, and the undo has ended
pub record HasEnded {B D : Type 0} (s : ℕ) (old new : Parts B D) : Type 0 where
  pub logs : Logs (end_of s old) old.volume.log new.volume.log
  pub volume : new.volume ≡ record old.volume { log = new.volume.log }
  pub is : new ≡ record old { volume = new.volume; sessions = ended_state s old.sessions }

-- the undo ends; or there is no room for the record, and nothing changes
abbrev pub EndComes : {B D : Type 0} → ℕ → Parts B D → Parts B D → Outcome B → Type 0
EndComes s old new (Replied Aborted) = HasEnded s old new
EndComes s old new (Help need.Log) = HasNoRoom (end_of s old) old.volume.log × (new ≡ old)
EndComes s old new other = ⊥

-- the next note's pair was sought: it is restored, by a write in this leaf; or it is sought further to the right
abbrev pub sought_state : {B : Type 0} → ℕ → ℕ → Note B → ℕ → Sought → State B (Work B) → State B (Work B)
sought_state s restored n leaf (Here slot before) sessions = restored_state s restored n leaf Rests sessions
sought_state s restored n leaf (Right next) sessions = with_phase_of s (phase.Undoing restored (Seeks next)) sessions

module _ {B : Type 0} (known : Limits → Known (Entry B) (Page B)) (r : Reading (Entry B) (Page B)) (f : Format B) (passes : ℕ → Contents → Bool) (IsKey : B → Type 0) (k : Keys B)
    (spelling : B → List ℕ) (key : ℕ) where
  -- The pair of a note's entry was sought in a leaf: it has the note's mark, and that is logged as this transaction's,
  -- with the mark that was found, small if the log's extent has an image of the leaf; or it isn't in the leaf, and
  -- nothing is logged.
  pub record PairIsSought {D : Type 0} (d e : Device) (v w : Volume D) (transaction : ℕ) (n : Note B) (leaf : ℕ) (sought : Sought) : Type 0 where
    pub wants : Pair B → Bool
    pub wanted : (x : Pair B) → IsKey x.key → wants x ≡ ((x.row == n.entry.row) && is_eq (k.cmp x.key n.entry.key))
    pub logged : MarkIsLogged known r f passes spelling key transaction n.entry leaf n.before d e v w sought
    pub sets : IsSteady d v.shelf.frames → SetsMark wants (store_of f d.seen v.shelf) (store_of f e.seen w.shelf) leaf n.before sought
    pub own : OwnWhereSet e.seen w.shelf leaf sought

  -- a page is not a leaf in use now
  abbrev pub IsNoLeaf : {D : Type 0} → Device → Volume D → ℕ → Type 0
  IsNoLeaf d v leaf = Used (tree_of (store_of f d.seen v.shelf)) leaf → ((tree_of (store_of f d.seen v.shelf)).node leaf).level ≢ 0

  -- The pair wasn't sought: nothing is logged.
  pub record IsNotSought {D : Type 0} (d e : Device) (v w : Volume D) (leaf : ℕ) (fault : StepFault StoreFault) : Type 0 where
    pub unlogged : IsUnlogged known r f passes (begun v (mark_room (is_imaged v.imaged leaf) key)) d e v w
    pub why : IsWhy (faults.IsWhy passes d e (begun v (mark_room (is_imaged v.imaged leaf) key)) w.shelf) fault
    pub damaged : IsSteady d v.shelf.frames → fault ≡ step.Damaged → IsNoLeaf d v leaf

  abbrev pub Seeking : {D : Type 0} → Device → Device → Volume D → Volume D → ℕ → Note B → ℕ → Result Sought (StepFault StoreFault) → Type 0
  Seeking d e v w transaction n leaf (Ok sought) = PairIsSought d e v w transaction n leaf sought
  Seeking d e v w transaction n leaf (Err fault) = IsNotSought d e v w leaf fault

  -- The next note's pair has its mark from before, or is sought further to the right; or another event has to come
  -- first; or the device failed, or isn't honest, or the page is no leaf in use, and the engine has failed. All else is
  -- unchanged.
  abbrev pub RestoreComes : {D : Type 0} → Device → Device → ℕ → ℕ → Note B → ℕ → Parts B D → Parts B D → Outcome B → Type 0
  RestoreComes d e s restored n leaf old new More =
      (sought : Sought) × PairIsSought d e old.volume new.volume (transaction_of s old.sessions) n leaf sought
      × (new ≡ record old { volume = new.volume; sessions = sought_state s restored n leaf sought old.sessions })
  RestoreComes d e s restored n leaf old new (Help n_) =
      IsUnlogged known r f passes (begun old.volume (mark_room (is_imaged old.volume.imaged leaf) key)) d e old.volume new.volume × IsHelp passes d e (runs old.checkpoint) (begun old.volume (mark_room (is_imaged old.volume.imaged leaf) key)) new.volume.shelf n_
      × (new ≡ record old { volume = new.volume })
  RestoreComes d e s restored n leaf old new (Replied (RefusedCall DeviceRefusal)) =
      IsUnlogged known r f passes (begun old.volume (mark_room (is_imaged old.volume.imaged leaf) key)) d e old.volume new.volume × (d.faults < e.faults)
      × (new ≡ record old { volume = new.volume; sessions = failed_state old.sessions })
  RestoreComes d e s restored n leaf old new (Replied (RefusedCall DamagedRefusal)) =
      IsUnlogged known r f passes (begun old.volume (mark_room (is_imaged old.volume.imaged leaf) key)) d e old.volume new.volume
      × (IsSteady d old.volume.shelf.frames → faults.CanBeRead passes d old.volume.shelf → IsNoLeaf d old.volume leaf)
      × (new ≡ record old { volume = new.volume; sessions = failed_state old.sessions })
  RestoreComes d e s restored n leaf old new other = ⊥

  -- A checkpoint has to come first, and nothing changes; or no note is left, and the undo ends; or the next note is
  -- restored. By whether one is due, and by how many are restored if a note is left.
  abbrev pub UndoBy : {D : Type 0} → Bool → Option ℕ → Device → Device → ℕ → Parts B D → Parts B D → Outcome B → Type 0
  UndoBy true next d e s old new outcome = (outcome ≡ Help need.Checkpoint) × (new ≡ old)
  UndoBy false None d e s old new outcome = EndComes s old new outcome
  UndoBy false (Some restored) d e s old new outcome =
      (n : Note B) × (slice_get (held_by s old.sessions.table).notes restored ≡ Some n) × RestoreComes d e s restored n (next_leaf s old.sessions n) old new outcome

  abbrev pub UndoComes : {D : Type 0} → Device → Device → ℕ → Parts B D → Parts B D → Outcome B → Type 0
  UndoComes d e s old new outcome = UndoBy (is_due old) (next_of s old.sessions) d e s old new outcome

-- the index's event that it is: the next note's entry is restored, or its pair is sought further to the right; the undo ends
abbrev pub AreUndoing : {B : Type 0} → ℕ → State B (Work B) → Outcome B → List (Happening B) → Type 0
AreUndoing {B} s sessions More events = (events ≡ Works ∷ []) ⊎ ((n : Note B) × IsNext s sessions n × (events ≡ Undoes s n.entry ∷ []))
AreUndoing s sessions (Replied Aborted) events = events ≡ EndsUndo s ∷ []
AreUndoing s sessions (Replied (RefusedCall DeviceRefusal)) events = events ≡ RefusesCall s DeviceRefusal ∷ []
AreUndoing s sessions other events = events ≡ []
