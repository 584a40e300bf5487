-- The outcome of a move of an insert or a delete.
use Rattle.std.specs.Prelude.{ℕ, ◌≡◌, ◌≢◌, ◌≤◌, ◌<◌, ◌+◌, ◌-◌, ◌==◌, ◌⊎◌, Bool, true, false, if◌then◌else◌, List, [], ◌∷◌, length}
use Rattle.gx_class.specs.declared.class.KeyClass.{Ghosts}
use Rattle.gx_geom.specs.declared.refusal.Refusal.TheVariants.{Absent, Damaged as DamagedRefusal, Device as DeviceRefusal, Memory, PagesFull, Present}
use Rattle.gx_machine.specs.declared.call.Call.{Call}
use Rattle.gx_machine.specs.declared.entry.Entry.{Entry}
use Rattle.gx_machine.specs.declared.call.Call.TheVariants.{Delete, Insert}
use Rattle.gx_machine.specs.declared.reply.Reply.TheVariants.{Deleted, Inserted, Refused as RefusedCall}
use Rattle.gx_machine.specs.Keys.{Keys, Members, keys_of}
use Rattle.gx_disk.specs.Device.{Device}
use Rattle.gx_page.specs.Contents.{Contents}
use Rattle.gx_node.specs.Reading.{Format, format_of, is_node}
use Rattle.gx_node.specs.Store.{tree_of}
use Rattle.gx_node.specs.Reach.{TraversalItem}
use Rattle.gx_node.specs.Trees.{size}
use Rattle.gx_events.specs.Happenings.{Happening, Closes, Deletes, FindsAbsent, FindsPresent, Inserts, RefusesCall, Works}
use Rattle.gx_events.specs.declared.outcome.Need.{Need}
use Rattle.gx_events.specs.declared.outcome.Need.TheVariants as need
use Rattle.gx_events.specs.declared.outcome.Outcome.{Outcome}
use Rattle.gx_events.specs.declared.outcome.Outcome.TheVariants.{Replied, More, Help}
use Rattle.gx_events.specs.Steps.{IsJust}
use Rattle.gx_txn.specs.declared.note.Note.{Note}
use Rattle.gx_phases.specs.declared.phase.Phase.TheVariants as phase
use Rattle.gx_phases.specs.Moves.{answered_state, failed_state, written_state}
use Rattle.gx_phases.specs.States.{phase_at}
use Rattle.gx_store.specs.Standing.{store_of}
use Rattle.gx_store.specs.State.{IsSteady}
use Rattle.gx_record.specs.declared.sizes.TheConstants.{SPLIT_RECORD}
use Rattle.gx_tree.specs.Writing.{Swept}
use Rattle.gx_storage.specs.Bringing.{has_removable}
use Rattle.gx_storage.specs.Changes.{begun}
use Rattle.gx_storage.specs.Imaged.{is_imaged}
use Rattle.gx_storage.specs.Small.{add_room, mark_room, widen_room}
use Rattle.gx_engine.specs.declared.work.Work.{Work}
use Rattle.gx_engine.specs.declared.work.Work.TheVariants.{Descends, Looks, Rests, Seeks}
use Rattle.gx_engine.specs.Moves.{calling}
use Rattle.gx_engine.specs.Refusals.{IsEarly, IsHelp, StampsStay}
use Rattle.gx_engine.specs.Slots.{IsSweepRoom, is_held, node_shown}
use Rattle.gx_engine.specs.States.{Parts, is_due, runs}

-- pages may have been brought: the log and all else is unchanged
abbrev pub brought : {B D : Type 0} → Parts B D → Parts B D → Parts B D
brought old new = record old { volume = record old.volume { shelf = new.volume.shelf } }

-- only pages were brought, and only the sessions' phases may have changed, and whether the engine has failed
abbrev pub only_read : {B D : Type 0} → Parts B D → Parts B D → Parts B D
only_read old new = record (brought old new) { sessions = record old.sessions { phases = new.sessions.phases; failed = new.sessions.failed } }

abbrev pub OnlyReads : {B D : Type 0} → Parts B D → Parts B D → Type 0
OnlyReads old new = new ≡ only_read old new

-- Another event has to come first, for a record of one of these sizes: a checkpoint, since one is due; or, if none is
-- due, an event that makes room for it in the log, or frees a frame. No page changed.
abbrev pub IsDelayed : {B D : Type 0} → (ℕ → Type 0) → (ℕ → Contents → Bool) → Device → Device → Parts B D → Parts B D → Need → Type 0
IsDelayed Asks passes d e old new n =
    (size : ℕ) × Asks size × (size ≤ SPLIT_RECORD)
    × (((n ≡ need.Checkpoint) × (is_due old ≡ true) × (1 ≤ size) × StampsStay old.volume.shelf new.volume.shelf)
    ⊎ ((help : IsHelp passes d e (runs old.checkpoint) (begun old.volume size) new.volume.shelf n) × IsEarly help.fault (is_due old)))

-- a call's work is a look, or has yet to begin with one
abbrev pub is_looking : {B : Type 0} → Work B → Bool
is_looking Rests = true
is_looking (Looks look) = true
is_looking (Descends parent item) = false
is_looking (Seeks leaf) = false

-- A session's call looks, which takes memory; what comes after its look takes none.
pub record IsAtLook {B D : Type 0} (s : ℕ) (call : Call B) (e : Parts B D) : Type 0 where
  pub work : Work B
  pub at : phase_at (s - 1) e.sessions.phases ≡ phase.Open call work
  pub looks : is_looking work ≡ true

-- the pages that a split takes: two at the root, and one below it
abbrev pub pages_split : ℕ → ℕ
pages_split page = if page == 1 then 2 else 1

-- fewer pages are left than the split of this one takes
abbrev pub LeftFew : {B D : Type 0} → Device → Parts B D → ℕ → Type 0
LeftFew d e page = IsSteady d e.volume.shelf.frames → e.volume.shelf.pages < e.volume.shelf.used + pages_split page

-- the node on a page is full
abbrev pub IsFull : {B D : Type 0} → Format B → Device → Parts B D → ℕ → Type 0
IsFull f d e page =
    IsSteady d e.volume.shelf.frames → e.volume.most ≤ size ((tree_of (store_of f d.seen e.volume.shelf)).node page)

-- the page has a leaf with room for a pair
abbrev pub HasPlace : {B D : Type 0} → Format B → Device → Parts B D → ℕ → Type 0
HasPlace f d e page =
    IsSteady d e.volume.shelf.frames → (((tree_of (store_of f d.seen e.volume.shelf)).node page).level ≡ 0)
    × (length ((tree_of (store_of f d.seen e.volume.shelf)).node page).pairs < e.volume.most)

-- the room for which a full node asks: that of its split, or of its sweep
abbrev pub AsksHere : {B D : Type 0} → Keys B → Format B → Device → Parts B D → ℕ → ℕ → Type 0
AsksHere k f d e page size = IsSweepRoom k f d e page size ⊎ (size ≡ SPLIT_RECORD)

-- The room for which a write's move may ask, by its work: a look asks for none; a seek for that of a mark that is set; and a descent for
-- that of a bound that is widened, or of a pair that is added to a leaf with room, or of a full node's sweep or split. Each but a split's
-- is by whether the log's extent has an image of the page.
abbrev pub AsksAt : {B D : Type 0} → Keys B → Format B → ℕ → Device → Parts B D → Work B → ℕ → Type 0
AsksAt k f key d e Rests size = size ≡ 0
AsksAt k f key d e (Looks look) size = size ≡ 0
AsksAt k f key d e (Seeks leaf) size = (size ≡ 0) ⊎ (size ≡ mark_room (is_imaged e.volume.imaged leaf) key)
AsksAt k f key d e (Descends parent item) size =
    (size ≡ widen_room (is_imaged e.volume.imaged item.page) key)
    ⊎ (((size ≡ add_room (is_imaged e.volume.imaged item.page) key) × HasPlace f d e item.page)
    ⊎ (AsksHere k f d e item.page size × IsFull f d e item.page))

pub record AsksRoom {B D : Type 0} (k : Keys B) (f : Format B) (key : ℕ) (d : Device) (s : ℕ) (call : Call B) (e : Parts B D) (size : ℕ) : Type 0 where
  pub work : Work B
  pub at : phase_at (s - 1) e.sessions.phases ≡ phase.Open call work
  pub asks : AsksAt k f key d e work size

-- a page has nothing to sweep: it is no leaf, or a leaf with no marked pair but such as a session claims
abbrev pub HasNoneToSweep : {B D : Type 0} → Keys B → Format B → Device → Parts B D → ℕ → Type 0
HasNoneToSweep k f d e page = IsSteady d e.volume.shelf.frames → has_removable (is_held k e) (node_shown f d page e) ≡ false

-- A session's insert has descended to a full node that has nothing to sweep, so that it is split.
pub record IsToSplit {B D : Type 0} (k : Keys B) (f : Format B) (d : Device) (s : ℕ) (call : Call B) (e : Parts B D) : Type 0 where
  pub entry : Entry B
  pub inserts : call ≡ Insert entry
  pub parent : ℕ
  pub item : TraversalItem
  pub descends : phase_at (s - 1) e.sessions.phases ≡ phase.Open call (Descends parent item)
  pub full : IsFull f d e item.page
  pub none : HasNoneToSweep k f d e item.page

-- The split takes more pages than are left.
pub record LacksPages {B D : Type 0} (k : Keys B) (f : Format B) (d : Device) (s : ℕ) (call : Call B) (e : Parts B D) : Type 0 where
  pub splits : IsToSplit k f d s call e
  pub few : LeftFew d e splits.item.page

-- The leaf on a page was swept, and the call's state is unchanged.
pub record IsOnlySwept {B D : Type 0} (k : Keys B) (f : Format B) (d e : Device) (page : ℕ) (old new : Parts B D) : Type 0 where
  pub only : new ≡ record old { volume = new.volume }
  pub swept : IsSteady d old.volume.shelf.frames → Swept (is_held k old) (store_of f d.seen old.volume.shelf) (store_of f e.seen new.volume.shelf) page true

-- A page was not split since an item remembered it, and is a full leaf that has something to sweep.
pub record IsToSweep {B D : Type 0} (k : Keys B) (f : Format B) (d : Device) (e : Parts B D) (item : TraversalItem) : Type 0 where
  pub steady : IsSteady d e.volume.shelf.frames
  pub since : (node_shown f d item.page e).nsn ≤ item.seen
  pub full : e.volume.most ≤ size (node_shown f d item.page e)
  pub some : has_removable (is_held k e) (node_shown f d item.page e) ≡ true

-- A move that goes on makes room so. Pages are taken by the split of a full node that has nothing to sweep, and by nothing else. A full leaf
-- that has something to sweep, and to which the call has descended, is swept, and no more is done.
pub record MakesRoom {B D : Type 0} (k : Keys B) (f : Format B) (d : Device) (s : ℕ) (call : Call B) (old : Parts B D) (e : Device) (new : Parts B D) : Type 0 where
  pub splits : IsSteady d old.volume.shelf.frames → new.volume.shelf.used ≢ old.volume.shelf.used → IsToSplit k f d s call old
  pub sweeps : (parent : ℕ) (item : TraversalItem) → phase_at (s - 1) old.sessions.phases ≡ phase.Open call (Descends parent item)
      → IsToSweep k f d old item → IsOnlySwept k f d e item.page old new

-- The outcome of a write's move, by the sizes of records for which it may ask room, by what holds if it is refused
-- because too few pages are left, and by what it did if it goes on. The call goes on with other work; or its pair is
-- written and noted; or an insert's pair is live already, or a delete's pair isn't, and the call is closed; or it is
-- closed because memory for its look is refused, or too few pages are left for a split; or the engine has failed; or
-- another event has to come first, and the call's state is unchanged.
abbrev pub WriteBy : {B D : Type 0} → (ℕ → Type 0) → Type 0 → (Device → Parts B D → Type 0) → Keys B → (ℕ → Contents → Bool) → Device → Device → ℕ → Call B → Parts B D → Parts B D → Outcome B → Type 0
WriteBy {B} Asks Lacks Goes k passes d e s call old new More =
    (work : Work B) × (new ≡ calling s call work (record old { volume = new.volume })) × (new.volume.most ≡ old.volume.most) × Goes e new
WriteBy {B} Asks Lacks Goes k passes d e s call old new (Replied Inserted) =
    (n : Note B) × (call ≡ Insert n.entry) × (new ≡ record old { volume = new.volume; sessions = written_state k s n old.sessions }) × (new.volume.most ≡ old.volume.most)
WriteBy {B} Asks Lacks Goes k passes d e s call old new (Replied Deleted) =
    (n : Note B) × (call ≡ Delete n.entry) × (new ≡ record old { volume = new.volume; sessions = written_state k s n old.sessions }) × (new.volume.most ≡ old.volume.most)
WriteBy {B} Asks Lacks Goes k passes d e s call old new (Replied (RefusedCall Present)) =
    (entry : Entry B) × (call ≡ Insert entry) × (new ≡ record (brought old new) { sessions = answered_state s old.sessions })
WriteBy {B} Asks Lacks Goes k passes d e s call old new (Replied (RefusedCall Absent)) =
    (entry : Entry B) × (call ≡ Delete entry) × (new ≡ record (brought old new) { sessions = answered_state s old.sessions })
WriteBy Asks Lacks Goes k passes d e s call old new (Replied (RefusedCall Memory)) =
    IsAtLook s call old × (new ≡ record (brought old new) { sessions = answered_state s old.sessions })
WriteBy Asks Lacks Goes k passes d e s call old new (Replied (RefusedCall PagesFull)) =
    Lacks × (new ≡ record (brought old new) { sessions = answered_state s old.sessions })
WriteBy Asks Lacks Goes k passes d e s call old new (Replied (RefusedCall DeviceRefusal)) = (d.faults < e.faults) × (new ≡ record (brought old new) { sessions = failed_state old.sessions })
WriteBy Asks Lacks Goes k passes d e s call old new (Replied (RefusedCall DamagedRefusal)) = new ≡ record (brought old new) { sessions = failed_state old.sessions }
WriteBy Asks Lacks Goes k passes d e s call old new (Help n) = IsDelayed Asks passes d e old new n × (new ≡ brought old new)
WriteBy Asks Lacks Goes k passes d e s call old new other = ⊥

-- The same of the work at hand.
abbrev pub WriteComes : {B D : Type 0} → Keys B → Format B → (ℕ → Contents → Bool) → ℕ → Device → Device → ℕ → Call B → Parts B D → Parts B D → Outcome B → Type 0
WriteComes k f passes key d e s call old new outcome =
    WriteBy (AsksRoom k f key d s call old) (LacksPages k f d s call old) (MakesRoom k f d s call old) k passes d e s call old new outcome

-- The same over a class of keys, and devices that are seen so.
module _ {C B D : Type 0} (shape : Members B) (class : Ghosts C B) (state : D → Device) (s : ℕ) (call : Call B) where
  abbrev pub ComesBy : (ℕ → Type 0) → (Parts B D → Type 0) → (Device → Parts B D → Type 0) → Parts B D → Parts B D → Outcome B → Type 0
  ComesBy Asks Lacks Goes old new outcome =
      WriteBy Asks (Lacks old) Goes (keys_of shape) (is_node (format_of class)) (state old.volume.shelf.disk) (state new.volume.shelf.disk) s call old new outcome

  abbrev pub WritesAs : Parts B D → Parts B D → Outcome B → Type 0
  WritesAs old new outcome =
      WriteComes (keys_of shape) (format_of class) (is_node (format_of class)) class.KEY (state old.volume.shelf.disk) (state new.volume.shelf.disk)
      s call old new outcome

  -- a pair is added to the leaf on a page, which never goes on
  abbrev pub AddsAs : ℕ → Parts B D → Parts B D → Outcome B → Type 0
  AddsAs page old new outcome =
      ComesBy (λ size. size ≡ add_room (is_imaged old.volume.imaged page) class.KEY) (λ e. ⊥) (λ e new. ⊥) old new outcome

  -- a page is split, of which it isn't said that it is full, nor that it has nothing to sweep
  abbrev pub SplitsAs : ℕ → Parts B D → Parts B D → Outcome B → Type 0
  SplitsAs page old new outcome =
      ComesBy (λ size. size ≡ SPLIT_RECORD) (λ e. LeftFew (state e.volume.shelf.disk) e page) (λ e new. Unit {0}) old new outcome

  -- a page is swept, or has nothing to sweep and is split, of which it isn't said that it is full
  abbrev pub MakesRoomAs : ℕ → Parts B D → Parts B D → Outcome B → Type 0
  MakesRoomAs page old new outcome =
      ComesBy (AsksHere (keys_of shape) (format_of class) (state old.volume.shelf.disk) old page)
      (λ e. LeftFew (state e.volume.shelf.disk) e page × HasNoneToSweep (keys_of shape) (format_of class) (state e.volume.shelf.disk) e page)
      (λ e new. IsOnlySwept (keys_of shape) (format_of class) (state old.volume.shelf.disk) e page old new
      ⊎ HasNoneToSweep (keys_of shape) (format_of class) (state old.volume.shelf.disk) old page) old new outcome

-- the index's event that it is
abbrev pub write_events : {B : Type 0} → ℕ → Call B → Outcome B → List (Happening B)
write_events s call More = Works ∷ []
write_events s (Insert entry) (Replied Inserted) = Inserts s entry ∷ []
write_events s (Delete entry) (Replied Deleted) = Deletes s entry ∷ []
write_events s (Insert entry) (Replied (RefusedCall Present)) = FindsPresent s entry ∷ []
write_events s (Delete entry) (Replied (RefusedCall Absent)) = FindsAbsent s entry ∷ []
write_events s call (Replied (RefusedCall Memory)) = Closes s call Memory ∷ []
write_events s call (Replied (RefusedCall PagesFull)) = Closes s call PagesFull ∷ []
write_events s call (Replied (RefusedCall DeviceRefusal)) = RefusesCall s DeviceRefusal ∷ []
write_events s call other = []

-- The index's events that a move is. If the move that reads a delete's last page finds its pair in no leaf, its look
-- ends first.
abbrev pub AreWriting : {B : Type 0} → ℕ → Call B → Outcome B → List (Happening B) → Type 0
AreWriting s (Delete entry) (Replied (RefusedCall Absent)) events = IsJust (FindsAbsent s entry) events
AreWriting s call other events = events ≡ write_events s call other
