-- Pages and log as one state of the theory of logs: the pages that frames and device show are what all records leave.
use Rattle.std.specs.Prelude.{◌≡◌, ℕ, ◌+◌, ◌≤◌, ◌<◌, Bool, List, ◌++◌, length}
use Rattle.gx_machine.specs.declared.entry.Entry.{Entry}
use Rattle.gx_disk.specs.Device.{Device}
use Rattle.gx_disk.specs.Moments.{Leaves}
use Rattle.gx_page.specs.Contents.{Contents}
use Rattle.gx_record.specs.Rec.{Rec}
use Rattle.gx_record.specs.Format.{spelling}
use Rattle.gx_node.specs.Trees.{Tree}
use Rattle.gx_node.specs.Alike.{AgreeOnUsed}
use Rattle.gx_node.specs.Reading.{Format}
use Rattle.gx_node.specs.Keyed.{AreKeys}
use Rattle.gx_node.specs.Store as store
use Rattle.gx_recovery.specs.Known.{Known, IsLawful}
use Rattle.gx_recovery.specs.Records.{Record}
use Rattle.gx_recovery.specs.Analysis.{analysis}
use Rattle.gx_recovery.specs.Redo as redo
use Rattle.gx_recovery.specs.Coming.{MayCome}
use Rattle.gx_recovery.specs.Logged.{Logged, all_records, appended}
use Rattle.gx_index_laws.specs.Classes.{Page, tree_in}
use Rattle.gx_glog.specs.State.{Log}
use Rattle.gx_glog.specs.declared.stage.Turn.TheVariants.{Closed}
use Rattle.gx_glog.specs.declared.extent.TheConstants.{BODY_ROOM, PLACES}
use Rattle.gx_durable.specs.Spelled.{Reading, record_read}
use Rattle.gx_durable.specs.Standing.{Stands}
use Rattle.gx_durable.specs.Stamps.{AllPlaced, AllSaid}
use Rattle.gx_durable.specs.Stored.{IsStored}
use Rattle.gx_durable.specs.Calls.{Runs}
use Rattle.gx_store.specs.State.{IsInOrder, IsSteady}
use Rattle.gx_store.specs.Faults.{CanBeRead}
use Rattle.gx_store.specs.Standing.{store_of}
use Rattle.gx_storage.specs.Formed.{AreFormed}
use Rattle.gx_storage.specs.Imaged.{AllImaged}
use Rattle.gx_storage.specs.State.{Volume}

-- the entries and pages of a class, as its log's theory has them
module _ {B : Type 0} (k : Known (Entry B) (Page B)) (r : Reading (Entry B) (Page B)) (f : Format B) (passes : ℕ → Contents → Bool) where
  -- A volume keeps a state: log and frames run on the device that carries it; each dirty page is given by a record, and
  -- was changed for a batch that began or for the one that fills; pages are steady, and can be read; each page is as
  -- all records leave it; and so are the numbers; each kept page has an image; and the log gives each page whose bit is
  -- set.
  pub record Keeps {D : Type 0} (d : Device) (v : Volume D) (bodies : List (List (Record (Entry B) (Page B)))) (s : Logged (Entry B) (Page B)) : Type 0 where
    pub runs : Runs k r v.log v.shelf.frames d bodies s
    pub said : AllSaid v.shelf.frames s
    pub placed : AllPlaced v.log v.shelf.frames
    pub steady : IsSteady d v.shelf.frames
    pub readable : CanBeRead passes d v.shelf
    pub stored : IsStored r k.pages v.shelf.frames d.seen s
    pub used : (analysis k (all_records s)).used ≡ v.shelf.used
    pub counter : (analysis k (all_records s)).counter ≡ v.shelf.counter
    pub pages : k.pages ≡ v.shelf.pages
    pub formed : AreFormed v.shelf.frames
    pub imaged : AllImaged v.imaged s

  -- the tree after all of a state's records
  abbrev pub tree_after : Logged (Entry B) (Page B) → Tree B
  tree_after s = tree_in (redo.tree_of k s.area (all_records s))

  -- the tree that a volume shows, whose device reads so
  abbrev pub tree_shown : {D : Type 0} → Device → Volume D → Tree B
  tree_shown d v = store.tree_of (store_of f d.seen v.shelf)

  -- the tree that a volume shows is the log's, on the pages in use
  abbrev pub ShowsTheLogs : {D : Type 0} → Device → Volume D → Type 0
  ShowsTheLogs d v = (bodies : List (List (Record (Entry B) (Page B)))) (s : Logged (Entry B) (Page B)) → Keeps d v bodies s
      → AgreeOnUsed (tree_after s) (tree_shown d v)

  -- each key of the tree that a volume shows, whose store is in order, is one of the class
  abbrev pub ShowsKeys : {D : Type 0} → (B → Type 0) → Device → Volume D → Type 0
  ShowsKeys IsKey d v = (bodies : List (List (Record (Entry B) (Page B)))) (s : Logged (Entry B) (Page B)) → Keeps d v bodies s
      → IsInOrder (passes v.shelf.pages) d.sectors v.shelf.frames v.shelf.used v.shelf.pages → AreKeys IsKey (tree_shown d v)

  -- A call that appended nothing left the same state, and within it a crash leaves only what stands for a kept set.
  pub record StaysSame {D : Type 0} (d e : Device) (w : Volume D) (bodies : List (List (Record (Entry B) (Page B)))) (s : Logged (Entry B) (Page B)) : Type 0 where
    pub keeps : Keeps e w bodies s
    pub leaves : Leaves (Stands k r s) d e

  abbrev pub KeepsTheSame : {D : Type 0} → Device → Device → Volume D → Volume D → Type 0
  KeepsTheSame d e v w = (bodies : List (List (Record (Entry B) (Page B)))) (s : Logged (Entry B) (Page B)) → IsLawful k → Keeps d v bodies s → StaysSame d e w bodies s

  -- A change with its record: the tree that is shown is the log's with that record; and if the record may come, the
  -- volume keeps the state with it. Within the call a crash leaves only what stands for a kept set of the state before.
  pub record StaysWith {D : Type 0} (d e : Device) (w : Volume D) (bodies : List (List (Record (Entry B) (Page B)))) (s : Logged (Entry B) (Page B)) (x : Record (Entry B) (Page B)) : Type 0 where
    pub shows : AgreeOnUsed (tree_after (appended x s)) (tree_shown e w)
    pub keeps : MayCome k s.area (all_records s) x → Keeps e w bodies (appended x s)
    pub leaves : Leaves (Stands k r s) d e

  abbrev pub KeepsWith : {D : Type 0} → Device → Device → Volume D → Volume D → Rec → Type 0
  KeepsWith d e v w x = (bodies : List (List (Record (Entry B) (Page B)))) (s : Logged (Entry B) (Page B)) → IsLawful k → Keeps d v bodies s → StaysWith d e w bodies s (record_read r x)

-- the log is longer by exactly this record, and nothing else of it has changed
pub record Logs (x : Rec) (old new : Log) : Type 0 where
  pub place : old.used < PLACES
  pub still : old.turn ≡ Closed
  pub fits : length old.filling + length (spelling x) ≤ BODY_ROOM
  pub log : new ≡ record old { filling = old.filling ++ spelling x }
