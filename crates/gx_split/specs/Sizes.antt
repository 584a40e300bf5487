-- The size of each key, computed once for the seeds.
use Rattle.std.specs.Prelude.{ℕ, ◌≡◌, ◌<◌, ◌^◌, List, All, map}

-- the keys' sizes, each of which is small
pub record IsSizes {K : Type 0} (size : K → ℕ) (keys : List K) (sizes : List ℕ) : Type 0 where
  pub each : sizes ≡ map size keys
  pub small : All (λ s. s < 2 ^ 126) sizes
