use Rattle.std.proofs.Common.{◌≡◌, eqb, take}
use Rattle.gx_page.specs.Bytes.{all_zero}
use Rattle.gx_page.proofs.check.all_zero.Given as goal

abbrev pub invariant-loop-byte : goal.invariant-loop-byte
invariant-loop-byte l = eqb l.bits 0 ≡ all_zero (take l.byte-index l.bytes)
