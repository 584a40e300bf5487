-- The calls of a log leave the pages as the device has them.
use Rattle.std.proofs.Common.{arith}
use Rattle.gx_disk.specs.declared.layout.TheConstants.{LOG_AT, LOG_SECTORS}
use Rattle.gx_disk.specs.Device.{Device, Touches}
use Rattle.gx_glog.specs.declared.stage.Turn.{Turn}
use Rattle.gx_glog.specs.declared.stage.Turn.TheVariants as turn
use Rattle.gx_glog.specs.Turning.{TouchesIn}
use Rattle.gx_pool.specs.Elsewhere.{LeavesPages}

module _ (d e : Device) where
  -- gates and bodies lie ahead of the pages
  pub batches_apart : Touches LOG_AT LOG_SECTORS d e → LeavesPages d e
  batches_apart touches = record { first = LOG_AT; count = LOG_SECTORS; ahead = omega arith; touches = touches }

  -- and so does the selector
  pub turn_apart : (call : Turn) → TouchesIn call d e → LeavesPages d e
  turn_apart turn.Selector touches = record { first = 2; count = 1; ahead = omega arith; touches = touches }
  turn_apart turn.Closed touches = batches_apart touches
  turn_apart turn.Body touches = batches_apart touches
  turn_apart turn.BodySync touches = batches_apart touches
  turn_apart turn.Gate touches = batches_apart touches
  turn_apart turn.GateSync touches = batches_apart touches
  turn_apart turn.Done touches = batches_apart touches
