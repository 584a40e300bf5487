-- Text on its way to a writer.
use Rattle.std.specs.Prelude.{ℕ, ◌≡◌, ◌<◌, length, Option, List, ◌++◌}
use Rattle.std.specs.Io.KnownBytes.{Appends}

-- After what waited, this text was put: what is left of both waits now, and the front was written.
pub record IsPut (held holds : Option (List ℕ)) (waiting text left : List ℕ) : Type 0 where
  pub sent : List ℕ
  pub wrote : Appends held holds sent
  pub all : waiting ++ text ≡ sent ++ left

-- Of these bytes only a front was written.
pub record IsCut (held holds : Option (List ℕ)) (bytes : List ℕ) : Type 0 where
  pub sent : List ℕ
  pub lost : List ℕ
  pub wrote : Appends held holds sent
  pub all : bytes ≡ sent ++ lost
  pub some : 0 < length lost
