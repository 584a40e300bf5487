-- What contracts see of a running log, and how its value goes on.
use Rattle.std.specs.Prelude.{◌≡◌, ◌⊎◌, ℕ, ◌+◌, ◌≤◌, List, [], length, Result, Ok, Err}
use Rattle.gx_geom.specs.declared.refusal.Refusal.{Refusal}
use Rattle.gx_geom.specs.declared.refusal.Refusal.TheVariants.{Device}
use Rattle.gx_glog.specs.declared.extent.TheConstants.{BODY_ROOM, PLACES}
use Rattle.gx_glog.specs.declared.extent.Extent.{Extent}
use Rattle.gx_glog.specs.declared.stage.Stage.{Stage}
use Rattle.gx_glog.specs.declared.stage.Stage.TheVariants.{Body, BodySync, Gate, GateSync, Idle}
use Rattle.gx_glog.specs.declared.stage.Turn.{Turn}
use Rattle.gx_glog.specs.declared.stage.Turn.TheVariants as turn
use Rattle.gx_glog.specs.Layout.{other_of}
use Rattle.gx_glog.specs.Tails.{sectors_of, tail_of, unknown_tails, widened, trimmed, AreTails}

-- Lists of records are given as the bytes of their spellings.
pub record Log : Type 0 where
  -- the selected extent
  pub extent : Extent
  -- how many of its places are taken, that of the batch in flight too
  pub used : ℕ
  -- how many of its batches are gated
  pub gated : ℕ
  -- the device call that the batch in flight waits for, Idle if there is none
  pub stage : Stage
  -- the device call that a turn to the other extent waits for, Closed if none of it was made
  pub turn : Turn
  -- the records of the batch in flight, or while there is none the head: those that a turn puts first into the other extent
  pub flight : List ℕ
  -- the records that wait for the next batch
  pub filling : List ℕ
  -- for each place of both extents, the sector of it from which on it reads zero
  pub tails : List ℕ

-- a log that starts after so many batches of an extent: the bytes after their records aren't known, nor those of the
-- other places
abbrev pub starting : Extent → ℕ → Log
starting extent n =
    record {
      extent = extent;
      used = n;
      gated = n;
      stage = Idle;
      turn = turn.Closed;
      flight = [];
      filling = [];
      tails = unknown_tails;
    }

-- how many batches are in flight
abbrev pub in_flight : Stage → ℕ
in_flight Idle = 0
in_flight Body = 1
in_flight BodySync = 1
in_flight Gate = 1
in_flight GateSync = 1

-- how many turns are under way: one from its first call on
abbrev pub turning : Turn → ℕ
turning turn.Closed = 0
turning turn.Body = 1
turning turn.BodySync = 1
turning turn.Gate = 1
turning turn.GateSync = 1
turning turn.Selector = 1
turning turn.Done = 1

-- Places are taken by gated batches and the one in flight; a batch or a head on its way has records and fits its body;
-- a turn and a batch aren't on their way together; if each place is taken, nothing waits for one. No tail begins within
-- the records of a batch or a head on its way.
pub record IsSound (log : Log) : Type 0 where
  pub places : log.used ≡ log.gated + in_flight log.stage
  pub few : log.used ≤ PLACES
  pub one : in_flight log.stage + turning log.turn ≤ 1
  pub some : in_flight log.stage + turning log.turn ≤ length log.flight
  pub fits : length log.flight ≤ BODY_ROOM
  pub filled : length log.filling ≤ BODY_ROOM
  pub room : PLACES ≤ log.used → log.filling ≡ []
  pub tails : AreTails log.tails
  pub batch : 1 ≤ in_flight log.stage → sectors_of log.flight ≤ tail_of log.tails log.extent log.gated
  pub head : 1 ≤ turning log.turn → sectors_of log.flight ≤ tail_of log.tails (other_of log.extent) 0

-- What fills is in flight, at the next place, whose tail begins after it. A head that was there is dropped, and a turn
-- given up.
abbrev pub begun : Log → Log
begun log =
    record log {
      used = log.used + 1;
      stage = Body;
      turn = turn.Closed;
      flight = log.filling;
      filling = [];
      tails = widened log.extent log.gated (sectors_of log.filling) log.tails;
    }

-- once the body is synced, its place's tail begins right after its records
abbrev pub after : Stage → Log → Log
after Body log = record log { stage = BodySync }
after BodySync log =
    record log { stage = Gate; tails = trimmed log.extent log.gated (sectors_of log.flight) log.tails }
after Gate log = record log { stage = GateSync }
after GateSync log = record log { gated = log.used; stage = Idle; flight = [] }
after Idle log = log

-- the call that was due is made; the last one gates the batch
abbrev pub done : Log → Log
done log = after log.stage log

-- the call that is due was made, or it failed and is still due
abbrev pub Made : Log → Log → Result Stage Refusal → Type 0
Made due new (Ok stage) = (stage ≡ due.stage) × (new ≡ done due)
Made due new (Err refusal) = (refusal ≡ Device) × (new ≡ due)

abbrev pub GoesFrom : Stage → Log → Log → Result Stage Refusal → Type 0
GoesFrom Idle old new result = ((old.filling ≡ []) × (result ≡ Ok Idle) × (new ≡ old)) ⊎ ((1 ≤ length old.filling) × Made (begun old) new result)
GoesFrom Body old new result = Made old new result
GoesFrom BodySync old new result = Made old new result
GoesFrom Gate old new result = Made old new result
GoesFrom GateSync old new result = Made old new result

-- The batch in flight goes on by the call that is due. If there is none, what fills begins a batch, or nothing is
-- logged and nothing happens.
abbrev pub Goes : Log → Log → Result Stage Refusal → Type 0
Goes old new result = GoesFrom old.stage old new result

-- how many device calls a result means
abbrev pub calls_of : Result Stage Refusal → ℕ
calls_of (Ok Idle) = 0
calls_of (Ok Body) = 1
calls_of (Ok BodySync) = 1
calls_of (Ok Gate) = 1
calls_of (Ok GateSync) = 1
calls_of (Err refusal) = 1

-- the tail of the head's place goes as that of a batch
abbrev pub after_turn : Turn → Log → Log
after_turn turn.Closed log =
    record log { turn = turn.Body; tails = widened (other_of log.extent) 0 (sectors_of log.flight) log.tails }
after_turn turn.Body log = record log { turn = turn.BodySync }
after_turn turn.BodySync log =
    record log { turn = turn.Gate; tails = trimmed (other_of log.extent) 0 (sectors_of log.flight) log.tails }
after_turn turn.Gate log = record log { turn = turn.GateSync }
after_turn turn.GateSync log = record log { turn = turn.Selector }
after_turn turn.Selector log = record log { turn = turn.Done }
after_turn turn.Done log = record log { extent = other_of log.extent; used = 1; gated = 1; turn = turn.Closed; flight = [] }

-- the turn's call that was due is made; after the last one the log goes on in the other extent, after the head
abbrev pub turned : Log → Log
turned log = after_turn log.turn log

-- a turn goes on by the call that is due, or that call failed and is still due
abbrev pub Turns : Log → Log → Result Turn Refusal → Type 0
Turns old new (Ok call) = (call ≡ old.turn) × (new ≡ turned old)
Turns old new (Err refusal) = (refusal ≡ Device) × (new ≡ old)
