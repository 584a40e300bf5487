use Rattle.gx_script.proofs.NumberLemmas.{below-checked, below-fits}
use Rattle.gx_script.proofs.numbers.negative.Goals as goal

pub returns-clause-value : goal.returns-clause-value
returns-clause-value c = below-checked c.checked_sub_unsigned.result c.args.value c.checked_sub_unsigned.ensures

pub returns-clause-fits : goal.returns-clause-fits
returns-clause-fits c = below-fits c.checked_sub_unsigned.result c.args.value c.checked_sub_unsigned.ensures
