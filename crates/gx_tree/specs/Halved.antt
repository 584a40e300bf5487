-- A node's halves.
use Rattle.std.specs.Prelude.{List, Bool}

pub record Halved (B : Type 0) : Type 0 where
  pub sides : List Bool
  pub left : B
  pub right : B
