use Rattle.std.proofs.Common.{◌≡◌, ◌++◌, length}
use Rattle.std.specs.Prelude.{option_map}
use Rattle.gx_script.specs.Words.{words}
use Rattle.gx_script.specs.Requests.{numbers_of}
use Rattle.gx_script.proofs.requests.key.Given as goal

-- the numbers that were read come before those of the other words
abbrev pub invariant-loop-i : goal.invariant-loop-i
invariant-loop-i g l = record {
  count : length l.corners.items ≡ l._i;
  read : numbers_of (words l.initial.rest) ≡ option_map (λ more. l.corners.items ++ more) (numbers_of (words l.rest));
}
