use Rattle.std.proofs.lemmas.Bool.{ne_eqb}
use Rattle.gx_script.proofs.WordLemmas.{without_cr-drops, without_cr-keeps}
use Rattle.gx_script.proofs.laws.one_carriage_return_goes.Goals as goal

pub returns-clause-goes : goal.returns-clause-goes
returns-clause-goes c = without_cr-drops

pub returns-clause-stays : goal.returns-clause-stays
returns-clause-stays c = λ front b other. without_cr-keeps front b (ne_eqb b 13 other)
