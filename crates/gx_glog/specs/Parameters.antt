-- The bytes of what a device is formatted for.
use Rattle.std.specs.Prelude.{◌≡◌, ℕ, ◌<◌, ◌^◌, List, ◌++◌}
use Rattle.std.specs.Int.{to_be_bytes}
use mir.Syntax.{w16, w32}
use Rattle.gx_glog.specs.declared.parameters.Parameters.{Parameters}

-- pages, entries of a node and the class, the greatest byte first
abbrev pub parameters_bytes : Parameters → List ℕ
parameters_bytes p = to_be_bytes w32 p.pages ++ (to_be_bytes w16 p.most ++ to_be_bytes w16 p.class)

-- each number is one of its field
pub record Fit (p : Parameters) : Type 0 where
  pub pages : p.pages < 2 ^ 32
  pub most : p.most < 2 ^ 16
  pub class : p.class < 2 ^ 16

-- the bytes say which parameters they are
abbrev pub BytesTellParameters : Type 0
BytesTellParameters = (p q : Parameters) → Fit p → Fit q → parameters_bytes p ≡ parameters_bytes q → p ≡ q
