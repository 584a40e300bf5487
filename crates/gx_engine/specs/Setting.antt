-- What clauses say of a class of keys and of a device, from what their traits say of them. A relation takes the
-- states of the device from the engines or volumes that it relates. If it names no limits, it holds within
-- whatever limits an index has.
use Rattle.std.specs.Prelude.{ℕ, ◌-◌, Bool, List, Option, Result}
use Rattle.gx_machine.specs.declared.call.Call.{Call}
use Rattle.gx_machine.specs.declared.entry.Entry.{Entry}
use Rattle.gx_machine.specs.declared.query.Query.{Query}
use Rattle.gx_machine.specs.Keys.{Keys, Members, keys_of}
use Rattle.gx_class.specs.Traits.{Traits, own}
use Rattle.gx_class.specs.declared.class.KeyClass.{Ghosts}
use Rattle.gx_disk.specs.Device.{Device}
use Rattle.gx_page.specs.Contents.{Contents}
use Rattle.gx_node.specs.declared.fault.StepFault.{StepFault}
use Rattle.gx_node.specs.declared.fault.SplitFault.{SplitFault}
use Rattle.gx_node.specs.Keyed.{rules_of}
use Rattle.gx_node.specs.Reading.{Format, format_of, is_node}
use Rattle.gx_node.specs.Reach.{TraversalItem}
use Rattle.gx_tree.specs.declared.descent.Descended.{Descended}
use Rattle.gx_tree.specs.declared.seek.Sought.{Sought}
use Rattle.gx_tree.specs.declared.split.Split.{Split}
use Rattle.gx_tree.specs.declared.split_root.RootSplit.{RootSplit}
use Rattle.gx_events.specs.Happenings as laws
use Rattle.gx_recovery.specs.Known.{Known, Limits}
use Rattle.gx_index_laws.specs.Classes.{Class, Page}
use Rattle.gx_durable.specs.Spelled.{Reading}
use Rattle.gx_durable.specs.Classes.{class_of, known_at, reading_of}
use Rattle.gx_store.specs.declared.fault.StoreFault.{StoreFault}
use Rattle.gx_storage.specs.Bringing.{has_removable}
use Rattle.gx_storage.specs.State.{Volume}
use Rattle.gx_events.specs.declared.event.Event.{Event}
use Rattle.gx_events.specs.declared.outcome.Outcome.{Outcome}
use Rattle.gx_txn.specs.declared.note.Note.{Note}
use Rattle.gx_phases.specs.declared.phase.Phase.{Phase}
use Rattle.gx_phases.specs.States.{phase_at}
use Rattle.gx_engine.specs.declared.start.Start.{Start}
use Rattle.gx_engine.specs.declared.work.Work.{Work}
use Rattle.gx_engine.specs.Comes.{CallMoves, MoveComes, StepComes}
use Rattle.gx_engine.specs.Descents.{Adding, LeafSweeping, RootSplitting, Splitting, Stepping}
use Rattle.gx_engine.specs.Ending.{Spares, SparesSo}
use Rattle.gx_engine.specs.Holds.{Leads, LeadsSo}
use Rattle.gx_engine.specs.Lending.{BringPageComes, StandsAs}
use Rattle.gx_engine.specs.Looks.{Reaches, StopComes}
use Rattle.gx_engine.specs.Moves.{Moves, MovesOn, MovesSo}
use Rattle.gx_engine.specs.Searches.{SearchComes}
use Rattle.gx_engine.specs.Seeks.{IsSought, IsUnsought}
use Rattle.gx_engine.specs.Starting.{HoldsFrom}
use Rattle.gx_engine.specs.States.{Parts}
use Rattle.gx_engine.specs.Stepping.{Steps}
use Rattle.gx_engine.specs.Sweeping.{BringComes, SweepComes, SweepsPage, is_held, node_shown}
use Rattle.gx_engine.specs.Undoing.{RestoreComes, Seeking, UndoComes}
use Rattle.gx_engine.specs.Writes.{IsFull}

-- a session's phase
abbrev pub phase_in : {B D : Type 0} → ℕ → Parts B D → Phase B (Work B)
phase_in s e = phase_at (s - 1) e.sessions.phases

-- a relation of the device's states and of the engine's, before and after
abbrev pub Between : {B D : Type 0} {R : Type 1} → (D → Device) → (Device → Device → Parts B D → Parts B D → R)
    → Parts B D → Parts B D → R
Between state relates old new = relates (state old.volume.shelf.disk) (state new.volume.shelf.disk) old new

module _ {C B D : Type 0} (class : Ghosts C B) (state : D → Device) where
  -- the outcome of bringing a page, and of bringing one to lend it; the contents are those of a page that is lent
  abbrev pub BringComesAs : {A : Type 0} → Parts B D → Parts B D → Result A (Outcome B) → Type 0
  BringComesAs old new result =
      BringComes (is_node (format_of class)) (state old.volume.shelf.disk) (state new.volume.shelf.disk) old new result

  abbrev pub BringPageComesAs : {A : Type 0} → Parts B D → Parts B D → Bool → Result A (Outcome B) → Type 0
  BringPageComesAs old new failed result =
      BringPageComes (is_node (format_of class)) (state old.volume.shelf.disk) (state new.volume.shelf.disk) old new
      failed result

  abbrev pub IsLent : ℕ → Parts B D → Contents → Type 0
  IsLent page e contents =
      StandsAs (format_of class) (is_node (format_of class)) (state e.volume.shelf.disk) page e contents

  -- the outcome of a look that read no page, and of a search's move
  abbrev pub StopComesAs : ℕ → Parts B D → Parts B D → Outcome B → Type 0
  StopComesAs s old new outcome =
      StopComes (is_node (format_of class)) (state old.volume.shelf.disk) (state new.volume.shelf.disk) s old new
      outcome

  abbrev pub SearchComesAs : ℕ → Query B → Parts B D → Parts B D → Outcome B → Type 0
  SearchComesAs s query old new outcome =
      SearchComes (is_node (format_of class)) (state old.volume.shelf.disk) (state new.volume.shelf.disk) s query old
      new outcome

  -- a page's node is full
  abbrev pub IsFullAs : Parts B D → ℕ → Type 0
  IsFullAs e page = IsFull (format_of class) (state e.volume.shelf.disk) e page

module _ {C B D : Type 0} (shape : Members B) (class : Ghosts C B) (state : D → Device) where
  -- whether a page is a leaf that has a marked pair that no session claims
  abbrev pub may_sweep : ℕ → Parts B D → Bool
  may_sweep page e =
      has_removable (is_held (keys_of shape) e) (node_shown (format_of class) (state e.volume.shelf.disk) page e)

  -- an entry's pair was sought in a leaf, or wasn't
  abbrev pub IsSoughtAs : Volume D → Entry B → ℕ → Sought → Type 0
  IsSoughtAs v entry leaf sought =
      IsSought (format_of class) class.is_key (keys_of shape) (state v.shelf.disk) v entry leaf sought

  abbrev pub IsUnsoughtAs : Volume D → Volume D → ℕ → StepFault StoreFault → Type 0
  IsUnsoughtAs v w leaf fault =
      IsUnsought (format_of class) class.is_key (keys_of shape) (is_node (format_of class)) (state v.shelf.disk)
      (state w.shelf.disk) v w leaf fault

module _ {B D : Type 0} (shape : Members B) (traits : Traits B)
    (state : D → Device) where
  -- the class and what is known of it, its keys, readings and format, which pages are nodes, and the device as
  -- engines and volumes have it
  abbrev class : Limits → Class B
  class = class_of shape traits.is_proper

  abbrev known : Limits → Known (Entry B) (Page B)
  known = known_at shape traits.is_proper

  abbrev keys : Keys B
  keys = keys_of shape

  abbrev form : Format B
  form = format_of (own traits)

  abbrev reading : Reading (Entry B) (Page B)
  reading = reading_of traits.said form

  abbrev passes : ℕ → Contents → Bool
  passes = is_node form

  abbrev on : Volume D → Device
  on v = state v.shelf.disk

  abbrev at : Parts B D → Device
  at e = on e.volume

  -- whatever index of the class an engine held: it holds what these events led to, or events of this kind
  abbrev pub LeadsAs : Parts B D → Parts B D → List (laws.Happening B) → Type 0
  LeadsAs old new events = (l : Limits) → Leads (class l) reading form passes (at old) (at new) old new events

  abbrev pub LeadsSoAs : Parts B D → Parts B D → (List (laws.Happening B) → Type 0) → Type 0
  LeadsSoAs old new AreSo = (l : Limits) → LeadsSo (class l) reading form passes (at old) (at new) old new AreSo

  -- the same of events that leave each session's call as much to do
  abbrev pub SparesAs : Parts B D → Parts B D → List (laws.Happening B) → Type 0
  SparesAs old new events = (l : Limits) → Spares (class l) reading form passes (at old) (at new) old new events

  abbrev pub SparesSoAs : Parts B D → Parts B D → (List (laws.Happening B) → Type 0) → Type 0
  SparesSoAs old new AreSo = (l : Limits) → SparesSo (class l) reading form passes (at old) (at new) old new AreSo

  -- the same of a session's move; of one that goes on; and of a look that is at hand
  abbrev pub MovesAs : ℕ → Parts B D → Parts B D → Outcome B → List (laws.Happening B) → Type 0
  MovesAs s old new outcome events =
      (l : Limits) → Moves (class l) reading form passes (at old) (at new) s old new outcome events

  abbrev pub MovesSoAs : ℕ → Parts B D → Parts B D → Outcome B → (List (laws.Happening B) → Type 0) → Type 0
  MovesSoAs s old new outcome AreSo =
      (l : Limits) → MovesSo (class l) reading form passes (at old) (at new) s old new outcome AreSo

  abbrev pub MovesOnAs : ℕ → Parts B D → Parts B D → Type 0
  MovesOnAs s old new = (l : Limits) → MovesOn (class l) reading form passes (at old) (at new) s old new

  abbrev pub ReachesAs : ℕ → Parts B D → Parts B D → Type 0
  ReachesAs s old new = (l : Limits) → Reaches (class l) reading form passes state s old new

  -- the same of an event, whichever it is
  abbrev pub StepsAs : Event B → Parts B D → Parts B D → Outcome B → Type 0
  StepsAs event old new outcome =
      (l : Limits) → Steps (class l) reading form passes (at old) (at new) event old new outcome

  -- an engine holds the index that is opened over what was found on its device
  abbrev pub HoldsFromAs : Limits → D → Start B → Parts B D → Type 0
  HoldsFromAs l disk start e = HoldsFrom (class l) reading form passes (state disk) start e

  -- the outcome of a move of an open call, of a move, and of an event, whichever it is
  abbrev pub CallMovesAs : ℕ → Parts B D → Parts B D → Call B → Outcome B → Type 0
  CallMovesAs s old new call outcome =
      CallMoves keys known reading form passes traits.is_key traits.spelling traits.KEY (at old) (at new) s old new call
      outcome

  abbrev pub MoveComesAs : ℕ → Parts B D → Parts B D → Outcome B → Type 0
  MoveComesAs s old new outcome =
      MoveComes keys known reading form passes traits.is_key traits.spelling traits.KEY (at old) (at new) s old new
      outcome

  abbrev pub StepComesAs : Event B → Parts B D → Parts B D → Outcome B → Type 0
  StepComesAs event old new outcome =
      StepComes keys known reading form passes traits.is_key traits.spelling traits.KEY (at old) (at new) event old new
      outcome

  -- the outcome of the sweep of a page in use, and of any
  abbrev pub SweepsPageAs : ℕ → Parts B D → Parts B D → Outcome B → Type 0
  SweepsPageAs page old new outcome = SweepsPage keys known reading form passes page (at old) (at new) old new outcome

  abbrev pub SweepComesAs : ℕ → Parts B D → Parts B D → Bool → Outcome B → Type 0
  SweepComesAs page old new failed outcome =
      SweepComes keys known reading form passes page (at old) (at new) old new failed outcome

  -- the outcome of the seek of a note's pair, of the move that seeks it, and of an undo's move
  abbrev pub SeekingAs : Volume D → Volume D → ℕ → Note B → ℕ → Result Sought (StepFault StoreFault) → Type 0
  SeekingAs v w transaction note leaf result =
      Seeking known reading form passes traits.is_key keys traits.spelling traits.KEY (on v) (on w) v w transaction note
      leaf result

  abbrev pub RestoreComesAs : ℕ → ℕ → Note B → ℕ → Parts B D → Parts B D → Outcome B → Type 0
  RestoreComesAs s restored note leaf old new outcome =
      RestoreComes known reading form passes traits.is_key keys traits.spelling traits.KEY (at old) (at new) s restored
      note leaf old new outcome

  abbrev pub UndoComesAs : ℕ → Parts B D → Parts B D → Outcome B → Type 0
  UndoComesAs s old new outcome =
      UndoComes known reading form passes traits.is_key keys traits.spelling traits.KEY (at old) (at new) s old new
      outcome

  -- what the contracts of a descent's steps say: a step down, an added pair, a leaf's sweep, and the splits of a node
  -- and of the root
  abbrev pub SteppingAs : Volume D → Volume D → TraversalItem → B → Result (Descended B) (StepFault StoreFault) → Type 0
  SteppingAs v w item coming result =
      Stepping known reading form passes traits.cost traits.joined traits.spelling traits.KEY (on v) (on w) v w item coming
      result

  abbrev pub AddingAs : Volume D → Volume D → ℕ → Entry B → ℕ → Result (Unit {0}) (StepFault StoreFault) → Type 0
  AddingAs v w transaction entry page result =
      Adding known reading form passes traits.spelling traits.KEY (on v) (on w) v w transaction entry page result

  abbrev pub LeafSweepingAs : (Entry B → Bool) → Volume D → Volume D → ℕ → Result Bool (StepFault StoreFault) → Type 0
  LeafSweepingAs claimed v w page result = LeafSweeping known reading form passes claimed (on v) (on w) v w page result

  abbrev pub SplittingAs : Volume D → Volume D → ℕ → ℕ → Result (Option (Split B)) (SplitFault StoreFault) → Type 0
  SplittingAs v w page parent result =
      Splitting known reading form passes (rules_of shape) traits.sides_of (on v) (on w) v w page parent result

  abbrev pub RootSplittingAs : Volume D → Volume D → Result (RootSplit B) (SplitFault StoreFault) → Type 0
  RootSplittingAs v w result =
      RootSplitting known reading form passes (rules_of shape) traits.sides_of (on v) (on w) v w result
