use Rattle.std.proofs.Common.{◌≡◌, ◌≤◌, ◌+◌, ◌*◌, ◌++◌, length, take}
use Rattle.gx_script.specs.Corners.{spaced}
use Rattle.gx_restart.proofs.text.lines.Lines.add_corners.Given as goal

-- the corners up to here, of at most 21 bytes each
abbrev pub invariant-loop-i : goal.invariant-loop-i
invariant-loop-i g l = record {
  text : l.self ≡ l.initial.self ++ spaced (take l.i (g.B.Corners.corners l.key));
  len : length l.self ≤ length l.initial.self + 21 * l.i;
}
