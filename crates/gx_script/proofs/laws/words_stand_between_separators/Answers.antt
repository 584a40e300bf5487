use Rattle.gx_script.proofs.WordLemmas.{skip, words-ended, words-last}
use Rattle.gx_script.proofs.laws.words_stand_between_separators.Goals as goal

pub returns-clause-skipped : goal.returns-clause-skipped
returns-clause-skipped c = skip

pub returns-clause-ended : goal.returns-clause-ended
returns-clause-ended c = words-ended

pub returns-clause-last : goal.returns-clause-last
returns-clause-last c = words-last
