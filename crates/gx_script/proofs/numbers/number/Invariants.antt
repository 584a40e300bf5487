use Rattle.std.proofs.Common.{◌≡◌, ◌<◌, ◌^◌, drop}
use Rattle.gx_script.specs.Numbers.{number_of}
use Rattle.gx_script.proofs.NumberLemmas.{number_after}
use Rattle.gx_script.proofs.numbers.number.Given as goal

abbrev pub invariant-loop-digit : goal.invariant-loop-digit
invariant-loop-digit l = (l.value < 2 ^ 64) × (number_of l.word ≡ number_after l.value (drop l.digit-index l.word))
