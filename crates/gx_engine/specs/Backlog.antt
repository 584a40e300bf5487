-- What is left to flush: a number that each step of the log and of a checkpoint and each page's write lowers.
use Rattle.std.specs.Prelude.{ℕ, ◌+◌, ◌*◌, nat_le, Bool, true, false, List, [], ◌∷◌}
use Rattle.gx_glog.specs.declared.stage.Stage.{Stage}
use Rattle.gx_glog.specs.declared.stage.Stage.TheVariants.{Body, BodySync, Gate, GateSync, Idle}
use Rattle.gx_glog.specs.declared.stage.Turn.{Turn}
use Rattle.gx_glog.specs.declared.stage.Turn.TheVariants as turn
use Rattle.gx_glog.specs.State.{Log}
use Rattle.gx_pool.specs.State.{dirty_count}
use Rattle.gx_index_laws.specs.declared.TheConstants.{CHECKPOINT_AT}
use Rattle.gx_engine.specs.declared.checkpoint.Checkpoint.{Checkpoint}
use Rattle.gx_engine.specs.declared.checkpoint.Checkpoint.TheVariants.{Off, Running, Turning}
use Rattle.gx_engine.specs.States.{Parts}

-- the calls that the batch in flight has left
abbrev pub flight_left : Stage → ℕ
flight_left Idle = 0
flight_left Body = 4
flight_left BodySync = 3
flight_left Gate = 2
flight_left GateSync = 1

-- how many batches fill
abbrev pub fillings : List ℕ → ℕ
fillings [] = 0
fillings (byte ∷ bytes) = 1

-- the calls that the log has left: those of the batch in flight, and the four of the one that fills
abbrev pub log_left : Log → ℕ
log_left log = flight_left log.stage + 4 * fillings log.filling

-- how many places are taken once what fills is in flight
abbrev pub places : Log → ℕ
places log = log.used + fillings log.filling

-- the calls that a turn has left
abbrev pub turn_left : Turn → ℕ
turn_left turn.Closed = 7
turn_left turn.Body = 6
turn_left turn.BodySync = 5
turn_left turn.Gate = 4
turn_left turn.GateSync = 3
turn_left turn.Selector = 2
turn_left turn.Done = 1

-- a checkpoint that isn't begun: its beginning, its sync and its turn, if it is due once what fills is in flight
abbrev pub coming : Bool → ℕ
coming true = 9
coming false = 0

-- what a checkpoint has left beside the calls of batches and the dirty pages
abbrev pub checkpoint_left : Checkpoint → Log → ℕ
checkpoint_left Off log = coming (nat_le CHECKPOINT_AT (places log))
checkpoint_left Running log = 8
checkpoint_left Turning log = turn_left log.turn

-- the calls of batches, the dirty pages, and what a checkpoint has left
abbrev pub backlog : {B D : Type 0} → Parts B D → ℕ
backlog e = log_left e.volume.log + dirty_count e.volume.shelf.frames + checkpoint_left e.checkpoint e.volume.log
