use Rattle.gx_script.proofs.laws.PrintedLemmas.{no_key-printed, reversed-printed}
use Rattle.gx_script.proofs.laws.only_keys_are_asked_for.Goals as goal

pub returns-clause-bad : goal.returns-clause-bad
returns-clause-bad g c = λ k zs fits none. no_key-printed k zs fits none

pub returns-clause-reversed : goal.returns-clause-reversed
returns-clause-reversed g c = λ k zs fits is. reversed-printed k zs fits is
