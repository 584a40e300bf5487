use Rattle.std.proofs.Common.{sym}
use Rattle.gx_script.specs.Words.{is_separator}
use Rattle.gx_script.proofs.WordLemmas.{position-None}
use Rattle.gx_script.proofs.words.word_end.Goals as goal

pub returns-in-None-clause-value : goal.returns-in-None-clause-value
returns-in-None-clause-value c = position-None is_separator c.args.bytes.now (sym c.in-None.ensures)
