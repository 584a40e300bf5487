-- What clauses say of a class of keys and of a device, from what their traits say of them. A relation takes the
-- states of the device from the pages or volumes that it relates.
use Rattle.std.specs.Prelude.{◌≡◌, ℕ, Bool, List, Result}
use Rattle.gx_machine.specs.declared.entry.Entry.{Entry}
use Rattle.gx_machine.specs.Keys.{Members}
use Rattle.gx_geom.specs.declared.refusal.Refusal.{Refusal}
use Rattle.gx_class.specs.Traits.{Traits, own}
use Rattle.gx_class.specs.declared.class.KeyClass.{Ghosts}
use Rattle.gx_disk.specs.Device.{Device}
use Rattle.gx_glog.specs.declared.filling.Appended.{Appended}
use Rattle.gx_glog.specs.declared.stage.Stage.{Stage}
use Rattle.gx_glog.specs.declared.stage.Turn.{Turn}
use Rattle.gx_page.specs.Contents.{Contents}
use Rattle.gx_node.specs.Reading.{Format, format_of, is_node}
use Rattle.gx_node.specs.Owner as owner
use Rattle.gx_node.specs.Store.{Store, Stays, tree_of}
use Rattle.gx_node.specs.declared.fault.StepFault.{StepFault}
use Rattle.gx_node.specs.declared.fault.LookFault.{LookFault}
use Rattle.gx_node.specs.declared.fault.SplitFault.{SplitFault}
use Rattle.gx_record.specs.Rec.{Rec}
use Rattle.gx_recovery.specs.Known.{Known, Limits}
use Rattle.gx_index_laws.specs.Classes.{Page}
use Rattle.gx_durable.specs.Spelled.{Reading}
use Rattle.gx_durable.specs.Classes.{known_at, reading_of}
use Rattle.gx_store.specs.Faults as faults
use Rattle.gx_store.specs.Since.{IsSince}
use Rattle.gx_store.specs.Standing.{store_of}
use Rattle.gx_store.specs.State.{Shelf, IsSteady}
use Rattle.gx_store.specs.declared.fault.StoreFault.{StoreFault}
use Rattle.gx_tree.specs.declared.descent.Descended.{Descended}
use Rattle.gx_tree.specs.declared.seek.Sought.{Sought}
use Rattle.gx_node.specs.Trees.{Tree}
use Rattle.gx_storage.specs.Changes.{DescentIsLogged, IsLogged, IsLoggedIf, IsUnlogged, MarkIsLogged, ReadsKeep, page_given}
use Rattle.gx_storage.specs.Flushing.{KeepsOn, KeepsRecord, MayTurn, StepsLog, TurnsOn, WritesGated}
use Rattle.gx_storage.specs.Giving.{IsGiven, pages_given}
use Rattle.gx_storage.specs.Journal.{IsLast, IsPutFirst}
use Rattle.gx_storage.specs.Keeps.{ShowsKeys, ShowsTheLogs}
use Rattle.gx_storage.specs.Marks.{HasEntry}
use Rattle.gx_storage.specs.Numbers.{HasOwnNumber}
use Rattle.gx_storage.specs.State.{Journal, Volume}
use Rattle.gx_storage.specs.Sweeping.{SweepIsLogged, SweepIsRefused}

module _ {D : Type 0} (state : D → Device) where
  -- the device reads steadily, and each clean page is what the device has
  abbrev pub IsSteadyAs : Shelf D → Type 0
  IsSteadyAs s = IsSteady (state s.disk) s.frames

  -- no call of the device has failed if the result is well, and else as many as its fault says
  abbrev pub ToldAs : {A F : Type 0} → (F → ℕ) → Shelf D → Shelf D → Result A F → Type 0
  ToldAs fails old new result = owner.CountsFaults fails (state old.disk).faults (state new.disk).faults result

  -- the image of a page's content has that page's number as its own
  abbrev pub OwnNumberAs : Shelf D → ℕ → Type 0
  OwnNumberAs s page = HasOwnNumber (state s.disk).seen s page

  -- a page that is held has an image of its content, under its own number
  abbrev pub IsGivenAs : Shelf D → ℕ → Type 0
  IsGivenAs s page = IsGiven (state s.disk).seen s page

  -- a page that was changed, with its content and the numbers of now; and several
  abbrev pub page_given_at : ℕ → Shelf D → Rec
  page_given_at page s = page_given page (state s.disk).seen s

  abbrev pub pages_given_at : List ℕ → Shelf D → Rec
  pages_given_at pages s = pages_given pages (state s.disk).seen s

module _ {C B D : Type 0} (class : Ghosts C B) (state : D → Device) where
  -- what the tree's steps see of pages, and their tree
  abbrev pub store_at : Shelf D → Store B
  store_at s = store_of (format_of class) (state s.disk).seen s

  abbrev pub tree_at : Shelf D → Tree B
  tree_at s = tree_of (store_at s)

  -- the nodes are the same; pages were brought, and no node has changed
  abbrev pub ShowsTheSame : Shelf D → Shelf D → Type 0
  ShowsTheSame old new = store_at new ≡ store_at old

  abbrev pub StaysAs : Shelf D → Shelf D → Type 0
  StaysAs old new = Stays (IsSteadyAs state old) (store_at old) (store_at new)

  -- what a step of the tree says, of these pages before and after
  abbrev pub OverPages : (Type 0 → Store B → Store B → Type 0) → Shelf D → Shelf D → Type 0
  OverPages Tells old new = Tells (IsSteadyAs state old) (store_at old) (store_at new)

  -- why pages were refused since an event began, and why a step was, or a look, or a split
  abbrev pub FaultsAs : Shelf D → Shelf D → StoreFault → Type 0
  FaultsAs old new fault = faults.IsWhy (is_node (format_of class)) (state old.disk) (state new.disk) old new fault

  abbrev pub IsWhyAs : Shelf D → Shelf D → StepFault StoreFault → Type 0
  IsWhyAs old new fault = owner.IsWhy (FaultsAs old new) fault

  abbrev pub IsWhyOfLookAs : Shelf D → Shelf D → LookFault StoreFault → Type 0
  IsWhyOfLookAs old new fault = owner.IsWhyOfLook (FaultsAs old new) fault

  abbrev pub IsWhyOfSplitAs : Shelf D → Shelf D → SplitFault StoreFault → Type 0
  IsWhyOfSplitAs old new fault = owner.IsWhyOfSplit (FaultsAs old new) fault

  -- the pages have gone on since an event began, and this one is unchanged
  abbrev pub IsSinceAs : Shelf D → Shelf D → ℕ → Type 0
  IsSinceAs old new page = IsSince (is_node (format_of class)) (state old.disk) (state new.disk) old new page

module _ {C B D : Type 0} (shape : Members B) (class : Ghosts C B) (state : D → Device) where
  -- a page is a leaf that has an entry's pair
  abbrev pub HasEntryAs : Volume D → Entry B → ℕ → Type 0
  HasEntryAs v entry page = HasEntry class.is_key shape entry ((tree_at class state v.shelf).node page)

-- a record is the journal's last
abbrev pub IsLastAs : {B : Type 0} → Members B → Traits B → Rec → Journal → Journal → Type 0
IsLastAs shape traits x old new =
    IsLast (known_at shape traits.is_proper) (reading_of traits.said (format_of (own traits))) x old new

-- a record was put into the journal's head
abbrev pub IsPutFirstAs : {B : Type 0} → Members B → Traits B → Rec → Journal → Journal → Appended → Type 0
IsPutFirstAs shape traits x old new result =
    IsPutFirst (known_at shape traits.is_proper) (reading_of traits.said (format_of (own traits))) x old new result

module _ {B D : Type 0} (shape : Members B) (traits : Traits B)
    (state : D → Device) where
  -- what is known of the class, its readings and format, which pages are nodes, and the device as a volume has it
  abbrev known : Limits → Known (Entry B) (Page B)
  known = known_at shape traits.is_proper

  abbrev form : Format B
  form = format_of (own traits)

  abbrev reading : Reading (Entry B) (Page B)
  reading = reading_of traits.said form

  abbrev passes : ℕ → Contents → Bool
  passes = is_node form

  abbrev at : Volume D → Device
  at v = state v.shelf.disk

  -- a change is logged by a record of so many bytes; or if something changed; or with the mark that was found; or
  -- if a bound was widened
  abbrev pub LogsAs : ℕ → Volume D → Volume D → Rec → Type 0
  LogsAs size v w x = IsLogged known reading form passes size (at v) (at w) v w x

  abbrev pub LogsIf : ℕ → Volume D → Volume D → Rec → Bool → Type 0
  LogsIf size v w x changed = IsLoggedIf known reading form passes size (at v) (at w) v w x changed

  abbrev pub LogsMark : ℕ → Entry B → ℕ → Bool → Volume D → Volume D → Sought → Type 0
  LogsMark transaction entry page marked v w sought =
      MarkIsLogged known reading form passes traits.spelling traits.KEY transaction entry page marked (at v) (at w) v w
      sought

  abbrev pub LogsDescent : ℕ → Volume D → Volume D → Descended B → Type 0
  LogsDescent page v w did =
      DescentIsLogged known reading form passes traits.spelling traits.KEY page (at v) (at w) v w did

  -- nothing is logged, of an event that began so
  abbrev pub Unlogged : Shelf D → Volume D → Volume D → Type 0
  Unlogged begun v w = IsUnlogged known reading form passes begun (at v) (at w) v w

  -- a leaf was swept, and its slots are logged; or that was refused
  abbrev pub LogsSweep : ((Entry B → Bool) → Type 0) → Volume D → Volume D → ℕ → Bool → Type 0
  LogsSweep IsTest v w page any = SweepIsLogged known reading form passes IsTest (at v) (at w) v w page any

  abbrev pub RefusesSweep : ((Entry B → Bool) → Type 0) → Volume D → Volume D → ℕ → StepFault StoreFault → Type 0
  RefusesSweep IsTest v w page fault = SweepIsRefused known reading form passes IsTest (at v) (at w) v w page fault

  -- What the flusher's calls keep, within whatever limits an index has: a step of the log, a page's write, a call
  -- that leaves the state, a record that gives no page, and a turn, which may begin.
  abbrev pub StepsLogAs : Volume D → Volume D → Result Stage Refusal → Type 0
  StepsLogAs v w result = (l : Limits) → StepsLog (known l) reading form passes (at v) (at w) v w result

  abbrev pub WritesGatedAs : Volume D → Volume D → Type 0
  WritesGatedAs v w = (l : Limits) → WritesGated (known l) reading form passes (at v) (at w) v w

  abbrev pub KeepsOnAs : Volume D → Volume D → Type 0
  KeepsOnAs v w = (l : Limits) → KeepsOn (known l) reading form passes (at v) (at w) v w

  abbrev pub KeepsRecordAs : Volume D → Volume D → Rec → Type 0
  KeepsRecordAs v w x = (l : Limits) → KeepsRecord (known l) reading form passes (at v) v w x

  abbrev pub MayTurnAs : Volume D → Type 0
  MayTurnAs v = (l : Limits) → MayTurn (known l) reading form passes (at v) v

  abbrev pub TurnsOnAs : Volume D → Volume D → Result Turn Refusal → Type 0
  TurnsOnAs v w result = (l : Limits) → TurnsOn (known l) reading form passes (at v) (at w) v w result

  -- what pages show, within an index's limits: the log's tree, keys of the class; and what reads of them keep
  abbrev pub ShowsTheLogsAs : Limits → Volume D → Type 0
  ShowsTheLogsAs l v = ShowsTheLogs (known l) reading form passes (at v) v

  abbrev pub ShowsKeysAs : Limits → Volume D → Type 0
  ShowsKeysAs l v = ShowsKeys (known l) reading form passes traits.is_key (at v) v

  abbrev pub ReadsKeepAs : Limits → Volume D → Shelf D → Type 0
  ReadsKeepAs l v t = ReadsKeep (known l) reading form passes (at v) (state t.disk) v t
