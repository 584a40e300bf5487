-- What a journal can take, and what an appended record leaves of it.
use Rattle.std.specs.Prelude.{◌≡◌, ℕ, ◌+◌, ◌≤◌, ◌<◌, length}
use Rattle.gx_machine.specs.declared.entry.Entry.{Entry}
use Rattle.gx_record.specs.Rec.{Rec}
use Rattle.gx_record.specs.Format.{HasKey, spelling}
use Rattle.gx_recovery.specs.Known.{Known, Limits}
use Rattle.gx_index_laws.specs.Classes.{Page}
use Rattle.gx_glog.specs.State.{Log}
use Rattle.gx_glog.specs.Turning.{PutsFirst}
use Rattle.gx_glog.specs.declared.filling.Appended.{Appended}
use Rattle.gx_glog.specs.declared.filling.Appended.TheVariants.{At}
use Rattle.gx_glog.specs.declared.stage.Turn.TheVariants.{Closed}
use Rattle.gx_glog.specs.declared.extent.TheConstants.{BODY_ROOM, PLACES}
use Rattle.gx_durable.specs.Calls.{AppendPlaces, AppendStaysUp, AppendStaysStamped}
use Rattle.gx_durable.specs.Spelled.{Reading}
use Rattle.gx_durable.specs.Turns.{HeadGrows, HeadStaysUp}
use Rattle.gx_store.specs.State.{Shelf, IsHeld}
use Rattle.gx_storage.specs.Imaged.{imaged_with}
use Rattle.gx_storage.specs.Keeps.{Logs}
use Rattle.gx_storage.specs.State.{Journal}

-- A log has room for a record of so many bytes, and no turn is under way.
pub record CanTake (log : Log) (size : ℕ) : Type 0 where
  pub place : log.used < PLACES
  pub still : log.turn ≡ Closed
  pub room : length log.filling + size ≤ BODY_ROOM

-- So it has for a record of a page, which is held.
pub record MayLog {D : Type 0} (log : Log) (size : ℕ) (s : Shelf D) (page : ℕ) : Type 0 where
  pub takes : CanTake log size
  pub held : IsHeld s page

module _ {B : Type 0} (known : Limits → Known (Entry B) (Page B)) (r : Reading (Entry B) (Page B)) where
  -- A record is a journal's last: the log is longer by just this, and stays up with it on each device that it was up
  -- on; and the pages of which the record has an image have got their bits.
  pub record IsLast (x : Rec) (old new : Journal) : Type 0 where
    pub logs : Logs x old.log new.log
    pub key : HasKey r.key x
    pub up : (l : Limits) → AppendStaysUp (known l) r x old.log new.log (At old.log.used)
    pub stamped : AppendStaysStamped r x old.log new.log (At old.log.used)
    pub placed : AppendPlaces old.log new.log (At old.log.used)
    pub imaged : new.imaged ≡ imaged_with x old.imaged

  -- A record was put into the head, if there was room for it: the log stays up, and nothing else changes.
  pub record IsPutFirst (x : Rec) (old new : Journal) (result : Appended) : Type 0 where
    pub puts : PutsFirst (spelling x) old.log new.log result
    pub head : HeadGrows r x old.log new.log result
    pub up : (l : Limits) → HeadStaysUp (known l) r old.log new.log
    pub only : new ≡ record old { log = new.log }
