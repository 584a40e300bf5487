use Rattle.std.proofs.Common.{ℕ, ◌+◌, ◌-◌, ◌<◌, ◌≤◌}
use Rattle.gx_disk.specs.declared.layout.TheConstants.{MAX_PAGES}
use Rattle.gx_pool.specs.State.{IsWritable}
use Rattle.gx_pool.proofs.frames.Frames.dirty.Given as goal

-- none up to here may be written
abbrev pub invariant-loop-page : goal.invariant-loop-page
invariant-loop-page l = ((q : ℕ) → q < l.from → IsWritable l.self q → ⊥) × (l.from ≤ MAX_PAGES + 1)

abbrev pub decreases-loop-page : goal.decreases-loop-page
decreases-loop-page l = MAX_PAGES + 1 - l.from
