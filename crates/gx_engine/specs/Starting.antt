-- The state of an engine that starts; and that it holds the index that is opened over what was found on its device.
use Rattle.std.specs.Prelude.{ℕ, ◌≡◌, ◌⊎◌, ◌-◌, ◌≤◌, Bool, true, false, None, List, [], map, length, replicate}
use Rattle.gx_geom.specs.declared.refusal.Refusal.{Refusal}
use Rattle.gx_geom.specs.declared.refusal.Refusal.TheVariants.{Damaged, Memory}
use Rattle.gx_machine.specs.declared.entry.Entry.{Entry}
use Rattle.gx_machine.specs.Keys.{Keys}
use Rattle.gx_disk.specs.Device.{Device}
use Rattle.gx_page.specs.Contents.{Contents}
use Rattle.gx_node.specs.Reading.{Format}
use Rattle.gx_glog.specs.Layout.{selected_of}
use Rattle.gx_glog.specs.State.{Log, starting}
use Rattle.gx_pool.specs.Readable.{IsReadable}
use Rattle.gx_pool.specs.State.{State as Frames, kept}
use Rattle.gx_recovery.specs.Analysis.{analysis, number_of}
use Rattle.gx_recovery.specs.Damage.{records_of}
use Rattle.gx_recovery.specs.Known.{Known}
use Rattle.gx_recovery.specs.Records.{Record, Touch}
use Rattle.gx_recovery.specs.Life.{AllWritten}
use Rattle.gx_index_laws.specs.Classes.{Class, Page, known_of}
use Rattle.gx_index_laws.specs.Openings.{found_state}
use Rattle.gx_durable.specs.Area.{area_of}
use Rattle.gx_durable.specs.GoingOn as durable
use Rattle.gx_durable.specs.GoingOn.{HasNoLater, IsFoundGood, opened}
use Rattle.gx_durable.specs.Spelled.{Reading}
use Rattle.gx_store.specs.Faults.{is_taken}
use Rattle.gx_phases.specs.States.{State, fresh_state}
use Rattle.gx_engine.specs.declared.checkpoint.Checkpoint.TheVariants.{Running}
use Rattle.gx_engine.specs.declared.start.Start.{Start}
use Rattle.gx_engine.specs.declared.work.Work.{Work}
use Rattle.gx_engine.specs.Holds.{Holds}
use Rattle.gx_engine.specs.Losing.{AllRest, AreCutOff, AreHeld, OnlyHeld}
use Rattle.gx_engine.specs.States.{Parts}

-- frames without pages, for which batches up to this one are gated
pub record AreFresh (frames batch : ℕ) (s : Frames) : Type 0 where
  pub count : length s.marks ≡ frames
  pub none : (page : ℕ) → kept s page ≡ None
  pub held : s.held ≡ []
  pub gated : s.gated ≡ batch

-- the log with nothing logged, after the bodies that were found
abbrev pub rested : {B : Type 0} → Start B → Log
rested start = starting start.extent start.bodies

-- what the transactions that were cut off have touched
abbrev pub cut_off : {B : Type 0} → Start B → List (Touch (Entry B))
cut_off start = start.losers.items

-- Sessions that undo the transactions that were cut off, if a log may have their touches; the others are free.
pub record TakenUp {B : Type 0} (k : Keys B) (start : Start B) (sessions : State B (Work B)) : Type 0 where
  pub held : AreCutOff k (cut_off start) → AreHeld (cut_off start) sessions
  pub rests : AllRest sessions.phases
  pub only : OnlyHeld (fresh_state (Work B) start.commits start.commits start.next) sessions

-- memory was refused, or no log has such touches
abbrev pub WhyNot : {B : Type 0} → Keys B → Start B → Refusal → Type 0
WhyNot k start why = (why ≡ Memory) ⊎ ((why ≡ Damaged) × (AreCutOff k (cut_off start) → ⊥))

-- An engine starts so: its log rests, no page has an image since, its frames are empty, its sessions undo what was cut off, and a
-- checkpoint runs.
pub record Started {B D : Type 0} (k : Keys B) (start : Start B) (disk : D) (e : Parts B D) : Type 0 where
  pub volume : e.volume ≡ record {
    log = rested start;
    shelf = record { disk = disk; frames = e.volume.shelf.frames; used = start.used; counter = start.counter; pages = start.pages; batch = 0; has_room = false };
    most = start.fanout;
    imaged = replicate start.pages false;
  }
  pub frames : AreFresh start.frames (start.bodies - 1) e.volume.shelf.frames
  pub sessions : TakenUp k start e.sessions
  pub in_flight : e.in_flight ≡ e.sessions.durable
  pub checkpoint : e.checkpoint ≡ Running

module _ {B : Type 0} (c : Class B) (r : Reading (Entry B) (Page B)) (f : Format B) (passes : ℕ → Contents → Bool) where
  abbrev pub k : Known (Entry B) (Page B)
  k = known_of c

  -- An honest device has this: a log that was found there, of which each later gate is closed, over pages that are as
  -- it leaves them, are good for it, and can be read; and the numbers and the transactions that were cut off are those
  -- of the log.
  pub record StandsOn (d : Device) (start : Start B) (bodies : List (List (Record (Entry B) (Page B)))) : Type 0 where
    pub honest : d.honest ≡ true
    pub found : IsFoundGood k r d.sectors d.seen d.pending bodies
    pub closed : HasNoLater d.seen d.pending
    pub written : AllWritten (durable.found_state k r d.seen bodies)
    pub readable : (frames : Frames) → ((page : ℕ) → kept frames page ≡ None) → IsReadable (passes start.pages) (is_taken start.used) frames d.seen
    pub pages : start.pages ≡ c.pages
    pub fanout : start.fanout ≡ c.rules.most
    pub extent : start.extent ≡ selected_of d.seen
    pub run : start.bodies ≡ opened d.seen
    pub commits : start.commits ≡ number_of k (records_of bodies)
    pub counter : start.counter ≡ (analysis k (records_of bodies)).counter
    pub used : start.used ≡ (analysis k (records_of bodies)).used
    pub next : (analysis k (records_of bodies)).next ≤ start.next
    pub losers : cut_off start ≡ (analysis k (records_of bodies)).touched

  -- then an engine holds the index that is opened over it
  abbrev pub HoldsFrom : {D : Type 0} → Device → Start B → Parts B D → Type 0
  HoldsFrom d start e = (bodies : List (List (Record (Entry B) (Page B)))) → StandsOn d start bodies
      → Holds c r f passes d e bodies (found_state c start.next (area_of r c.pages d.seen) (records_of bodies))
