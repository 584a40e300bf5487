-- What contracts see of an engine.
use Rattle.std.specs.Prelude.{ℕ, ◌≡◌, ◌≤◌, nat_le, Bool, true, false, ◌||◌, List, length}
use Rattle.gx_glog.specs.declared.stage.Turn.TheVariants.{Closed}
use Rattle.gx_node.specs.declared.items.TheConstants.{MAX_ENTRIES}
use Rattle.gx_phases.specs.States.{State, WaitsForSealed, phase_at}
use Rattle.gx_pool.specs.State.{State as Frames, IsSound}
use Rattle.gx_disk.specs.declared.layout.TheConstants.{MAX_PAGES}
use Rattle.gx_index_laws.specs.declared.TheConstants.{CHECKPOINT_AT}
use Rattle.gx_storage.specs.Flushing.{ReadyToTurn}
use Rattle.gx_storage.specs.State.{Volume}
use Rattle.gx_engine.specs.declared.checkpoint.Checkpoint.{Checkpoint}
use Rattle.gx_engine.specs.declared.checkpoint.Checkpoint.TheVariants.{Off, Running, Turning}
use Rattle.gx_engine.specs.declared.work.Work.{Work}

-- The pages with their log; the sessions, with the states of their calls; the number of the last commit in the batch in
-- flight; and the stage of a checkpoint.
pub record Parts (B D : Type 0) : Type 0 where
  pub volume : Volume D
  pub sessions : State B (Work B)
  pub in_flight : ℕ
  pub checkpoint : Checkpoint

-- a checkpoint runs
abbrev pub runs : Checkpoint → Bool
runs Off = false
runs Running = true
runs Turning = true

-- an event that would append a record has to wait: a checkpoint runs, or `CHECKPOINT_AT` places of the extent are taken
abbrev pub is_due : {B D : Type 0} → Parts B D → Bool
is_due e = runs e.checkpoint || nat_le CHECKPOINT_AT e.volume.log.used

-- The log turns to the other extent only in a checkpoint that turns: then nothing is logged, and no page is dirty.
abbrev pub StandsIn : {D : Type 0} → Checkpoint → Volume D → Type 0
StandsIn Off v = v.log.turn ≡ Closed
StandsIn Running v = v.log.turn ≡ Closed
StandsIn Turning v = ReadyToTurn v

-- An engine's invariant on any device: its log turns only while its checkpoint does; the last commit in flight is
-- sealed, and not before a durable one; a node may have four entries; the buffer has room for the keys of a node that
-- is split; and there are 16 frames or more.
pub record IsInOrder {B D : Type 0} (e : Parts B D) (keys : List B) : Type 0 where
  pub stands : StandsIn e.checkpoint e.volume
  pub durable : e.sessions.durable ≤ e.in_flight
  pub sealed : e.in_flight ≤ e.sessions.latest
  pub some : 4 ≤ e.volume.most
  pub space : MAX_ENTRIES ≤ length keys
  pub frames : 16 ≤ length e.volume.shelf.frames.marks

-- What an engine's frames are on any device: 16 or more, of which an event holds the pages of four at most; and they and the table of pages
-- name each other.
pub record AreFrames (s : Frames) : Type 0 where
  pub enough : 16 ≤ length s.marks
  pub held : length s.held ≤ 4
  pub sound : IsSound s

-- What callers know of an engine on any device. A session that waits for its commit waits for a sealed one.
pub record IsOrderly {B D : Type 0} (e : Parts B D) : Type 0 where
  pub stands : StandsIn e.checkpoint e.volume
  pub frames : AreFrames e.volume.shelf.frames
  pub pages : e.volume.shelf.pages ≤ MAX_PAGES
  pub most : e.volume.most ≤ 100
  pub sealed : (i : ℕ) → WaitsForSealed e.sessions.latest (phase_at i e.sessions.phases)
