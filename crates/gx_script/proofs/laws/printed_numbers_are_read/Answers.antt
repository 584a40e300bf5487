use Rattle.gx_script.proofs.laws.PrintedLemmas.{number_of-decimal, corner_of-printed}
use Rattle.gx_script.proofs.laws.printed_numbers_are_read.Goals as goal

pub returns-clause-number : goal.returns-clause-number
returns-clause-number c = number_of-decimal

pub returns-clause-corner : goal.returns-clause-corner
returns-clause-corner c = corner_of-printed
