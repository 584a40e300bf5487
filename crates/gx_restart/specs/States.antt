-- What contracts see of an index.
use Rattle.std.specs.Prelude.{Bool}
use Rattle.gx_engine.specs.States.{Parts}

-- its engine; and whether the bound on a call's events was passed, from which on it only refuses
pub record State (B D : Type 0) : Type 0 where
  pub engine : Parts B D
  pub ended : Bool
