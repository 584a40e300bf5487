-- What the log's steps and a checkpoint's leave of the sessions, and an engine that has nothing to do.
use Rattle.std.specs.Prelude.{◌≡◌, false}
use Rattle.gx_engine.specs.declared.checkpoint.Checkpoint.TheVariants.{Off}
use Rattle.gx_engine.specs.Checkpoints.{IsQuiet}
use Rattle.gx_engine.specs.States.{Parts}

-- an engine that works, and in which no checkpoint runs
pub record WorksOff {B D : Type 0} (e : Parts B D) : Type 0 where
  pub off : e.checkpoint ≡ Off
  pub works : e.sessions.failed ≡ false

-- No checkpoint runs, no batch is in flight, and none fills.
pub record IsAtRest {B D : Type 0} (e : Parts B D) : Type 0 where
  pub works : e.sessions.failed ≡ false
  pub off : e.checkpoint ≡ Off
  pub quiet : IsQuiet e.volume

-- the sessions are as before, but for the number up to which commits are durable, and for a fault
abbrev pub KeepsSessions : {B D : Type 0} → Parts B D → Parts B D → Type 0
KeepsSessions old new = new.sessions ≡ record old.sessions { durable = new.sessions.durable; failed = new.sessions.failed }
