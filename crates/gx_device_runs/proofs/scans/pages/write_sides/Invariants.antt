use Rattle.std.proofs.Common.{◌≡◌, length}
use Rattle.gx_device_runs.proofs.scans.pages.write_sides.Given as goal

abbrev pub invariant-loop-to : goal.invariant-loop-to
invariant-loop-to l = length l.sides ≡ length l.fn.sides
