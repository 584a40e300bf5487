-- An engine over a device as an index, and what its events make of that.
use Rattle.std.specs.Prelude.{ℕ, ◌≡◌, ◌≢◌, ◌≤◌, ◌-◌, Bool, true, false, Some, List, [], slice_get, take}
use Rattle.gx_machine.specs.declared.entry.Entry.{Entry}
use Rattle.gx_machine.specs.declared.call.Call.{Call}
use Rattle.gx_machine.specs.declared.call.Call.TheVariants.{Begin, Insert, Delete, Search, Commit, Abort}
use Rattle.gx_machine.specs.Keys.{Keys}
use Rattle.gx_machine.specs.Sets.{has}
use Rattle.gx_machine.specs.Machine.{is_session}
use Rattle.gx_disk.specs.Device.{Device}
use Rattle.gx_disk.specs.Moments.{Leaves}
use Rattle.gx_page.specs.Contents.{Contents}
use Rattle.gx_node.specs.Reading.{Format}
use Rattle.gx_node.specs.Trees.{Pair}
use Rattle.gx_tree.specs.Found.{pairs_found}
use Rattle.gx_glog.specs.declared.stage.Stage.{Stage}
use Rattle.gx_glog.specs.declared.stage.Stage.TheVariants.{Body, BodySync, Gate, GateSync, Idle}
use Rattle.gx_recovery.specs.Known.{Known}
use Rattle.gx_recovery.specs.Records.{Record}
use Rattle.gx_recovery.specs.Analysis.{analysis}
use Rattle.gx_recovery.specs.Logged.{Logged, all_records, durable, gate_synced, latest}
use Rattle.gx_events.specs.Happenings.{Happening}
use Rattle.gx_index_laws.specs.Classes.{Class, Page, known_of}
use Rattle.gx_index_laws.specs.States as index
use Rattle.gx_index_laws.specs.Whole.{IsWhole}
use Rattle.gx_index_laws.specs.Happening.{AreHappening}
use Rattle.gx_durable.specs.Spelled.{Reading}
use Rattle.gx_durable.specs.Standing.{MayRenew, Stands}
use Rattle.gx_txn.specs.declared.note.Note.{Note}
use Rattle.gx_txn.specs.Notes.{entries_of}
use Rattle.gx_phases.specs.declared.phase.Phase.{Phase}
use Rattle.gx_phases.specs.declared.phase.Phase.TheVariants as phase
use Rattle.gx_phases.specs.Indexes.{AreOf}
use Rattle.gx_phases.specs.States.{State, held_at, phase_at}
use Rattle.gx_storage.specs.Keeps.{Keeps}
use Rattle.gx_engine.specs.declared.checkpoint.Checkpoint.TheVariants.{Turning}
use Rattle.gx_engine.specs.declared.work.Work.{Work}
use Rattle.gx_engine.specs.declared.work.Work.TheVariants.{Rests, Looks, Descends, Seeks}
use Rattle.gx_engine.specs.Noted.{AreTold}
use Rattle.gx_engine.specs.States.{Parts}

-- a call whose pair is in this leaf or to the right of it
abbrev pub CallSeeks : {B : Type 0} → Call B → ℕ → index.Work B → Type 0
CallSeeks Begin leaf is = ⊥
CallSeeks (Insert e) leaf is = is ≡ index.Seeks e leaf
CallSeeks (Delete e) leaf is = is ≡ index.Seeks e leaf
CallSeeks (Search query) leaf is = ⊥
CallSeeks Commit leaf is = ⊥
CallSeeks Abort leaf is = ⊥

-- a call that descends
abbrev pub CallDescends : {B : Type 0} → Call B → index.Work B → (Entry B → index.Work B) → Type 0
CallDescends Begin is descent = ⊥
CallDescends (Insert e) is descent = is ≡ descent e
CallDescends (Delete e) is descent = ⊥
CallDescends (Search query) is descent = ⊥
CallDescends Commit is descent = ⊥
CallDescends Abort is descent = ⊥

-- What the look of a call may have found: a search's any pairs; a write's none, since it seeks where it finds its pair. No other call
-- looks.
abbrev pub MayHaveFound : {B : Type 0} → Call B → List (Pair B) → Type 0
MayHaveFound Begin found = ⊥
MayHaveFound (Insert e) found = found ≡ []
MayHaveFound (Delete e) found = found ≡ []
MayHaveFound (Search query) found = Unit {0}
MayHaveFound Commit found = ⊥
MayHaveFound Abort found = ⊥

-- a call that an ask leaves open, and that has not begun
abbrev pub MayBegin : {B : Type 0} → Call B → Type 0
MayBegin Begin = ⊥
MayBegin (Insert e) = Unit {0}
MayBegin (Delete e) = Unit {0}
MayBegin (Search query) = Unit {0}
MayBegin Commit = Unit {0}
MayBegin Abort = ⊥

-- The state of an open call, as the index's laws have it. Of one that has not begun nothing is said but that it may.
abbrev pub CallIsAt : {B : Type 0} → Call B → Work B → index.Work B → Type 0
CallIsAt call Rests is = MayBegin call
CallIsAt call (Looks look) is = (is ≡ index.Looks look.stack.items (pairs_found look.found.items)) × MayHaveFound call (pairs_found look.found.items)
CallIsAt call (Descends parent item) is = CallDescends call is (λ e. index.Descends e parent item)
CallIsAt call (Seeks leaf) is = CallSeeks call leaf is

-- the state of an undo: it has not begun with the next note, or seeks that note's pair
abbrev pub UndoIsAt : {B : Type 0} → List (Note B) → ℕ → Work B → index.Work B → Type 0
UndoIsAt notes restored Rests is = is ≡ index.Rests
UndoIsAt notes restored (Looks look) is = ⊥
UndoIsAt notes restored (Descends parent item) is = ⊥
UndoIsAt {B} notes restored (Seeks leaf) is = (n : Note B) × (slice_get notes restored ≡ Some n) × (is ≡ index.Seeks n.entry leaf)

-- the entries of the first so many notes are restored, and no others
abbrev pub AreDone : {B : Type 0} → Keys B → List (Note B) → ℕ → List (Entry B) → Type 0
AreDone {B} k notes restored done = (e : Entry B) → has k e done ≡ has k e (take restored (entries_of notes))

-- the state of a session, by its phase and by its notes
abbrev pub IsAt : {B : Type 0} → Keys B → Phase B (Work B) → List (Note B) → index.Work B → List (Entry B) → Type 0
IsAt k phase.Free notes is done = Unit {0}
IsAt k phase.Working notes is done = Unit {0}
IsAt k (phase.Open call work) notes is done = CallIsAt call work is
IsAt k (phase.Undoing restored work) notes is done = UndoIsAt notes restored work is × AreDone k notes restored done
IsAt k (phase.Waiting number) notes is done = Unit {0}

-- the sessions are in the states of an index's sessions
abbrev pub AreAt : {B : Type 0} → Keys B → State B (Work B) → index.State B → Type 0
AreAt k sessions i = (a : ℕ) → is_session a ≡ true → IsAt k (phase_at (a - 1) sessions.phases) (held_at (a - 1) sessions.table).notes (i.work a) (i.restored a)

-- The sessions are an index's: their states, and what they have noted.
pub record Sits {B : Type 0} (c : Class B) (sessions : State B (Work B)) (i : index.State B) : Type 0 where
  pub of : AreOf sessions i
  pub at : AreAt c.keys sessions i
  pub told : AreTold sessions (analysis (known_of c) (all_records i.log)).touched

-- A checkpoint that turns may renew the log, with a next transaction's number that the index has come to.
pub record MayRenewBy {E P : Type 0} (k : Known E P) (r : Reading E P) (next : ℕ) (head : List ℕ) (sectors : ℕ) (pending : ℕ → Bool) (s : Logged E P) : Type 0 where
  pub may : MayRenew k r head sectors pending s
  pub begun : may.next ≤ next

-- The number that an engine notes is that of the last commit in flight, if a batch is in flight whose first call was
-- made.
abbrev pub KnowsFlight : Stage → ℕ → ℕ → Type 0
KnowsFlight Idle noted number = Unit {0}
KnowsFlight Body noted number = ⊥
KnowsFlight BodySync noted number = noted ≡ number
KnowsFlight Gate noted number = noted ≡ number
KnowsFlight GateSync noted number = noted ≡ number

module _ {B : Type 0} (c : Class B) (r : Reading (Entry B) (Page B)) (f : Format B) (passes : ℕ → Contents → Bool) where
  -- An engine over a device holds an index, which is whole: its pages and log are the index's, its sessions are the
  -- index's and in the same states, its sessions' notes are what the log's transactions have touched, and its last
  -- commit has the number of the log's. While it hasn't failed, it knows the last commit in flight, no head exists
  -- before a checkpoint turns, and in one that turns the log may be renewed.
  pub record Holds {D : Type 0} (d : Device) (e : Parts B D) (bodies : List (List (Record (Entry B) (Page B)))) (i : index.State B) : Type 0 where
    pub most : e.volume.most ≡ c.rules.most
    pub some : 4 ≤ c.rules.most
    pub keeps : Keeps (known_of c) r f passes d e.volume bodies i.log
    pub whole : IsWhole c i
    pub sessions : AreOf e.sessions i
    pub at : AreAt c.keys e.sessions i
    pub told : AreTold e.sessions (analysis (known_of c) (all_records i.log)).touched
    pub latest : e.sessions.latest ≡ latest (known_of c) i.log
    pub flying : e.sessions.failed ≡ false → KnowsFlight e.volume.log.stage e.in_flight (durable (known_of c) (gate_synced i.log))
    pub bare : e.sessions.failed ≡ false → e.checkpoint ≢ Turning → e.volume.log.stage ≡ Idle → e.volume.log.flight ≡ []
    pub turns : e.sessions.failed ≡ false → e.checkpoint ≡ Turning → MayRenewBy (known_of c) r i.next e.volume.log.flight d.sectors d.pending i.log

  -- These events happened to an index: the engine holds what they led to. At each moment since, whatever a crash may
  -- leave is legal and stands for a set that the index before the events keeps, with a number from the one that was
  -- durable then to the last.
  pub record Led {D : Type 0} (d e : Device) (new : Parts B D) (i : index.State B) (events : List (Happening B)) : Type 0 where
    pub bodies : List (List (Record (Entry B) (Page B)))
    pub index : index.State B
    pub happening : AreHappening c i events index
    pub holds : Holds e new bodies index
    pub leaves : Leaves (Stands (known_of c) r i.log) d e

  -- whatever index an engine held, it holds what these events led to
  abbrev pub Leads : {D : Type 0} → Device → Device → Parts B D → Parts B D → List (Happening B) → Type 0
  Leads d e old new events = (bodies : List (List (Record (Entry B) (Page B)))) (i : index.State B) → Holds d old bodies i → Led d e new i events

  -- the same, of events of a kind that depends on that index
  abbrev pub LeadsSo : {D : Type 0} → Device → Device → Parts B D → Parts B D → (List (Happening B) → Type 0) → Type 0
  LeadsSo d e old new AreSo = (bodies : List (List (Record (Entry B) (Page B)))) (i : index.State B) → Holds d old bodies i
      → (events : List (Happening B)) × AreSo events × Led d e new i events
