use Rattle.std.proofs.Common.{sym}
use Rattle.std.proofs.Common.{◌∙◌}
use Rattle.std.specs.Prelude.{not}
use Rattle.gx_script.specs.Words.{is_separator}
use Rattle.gx_script.proofs.WordLemmas.{position-None, prefix-opposite}
use Rattle.gx_script.proofs.words.word_start.Goals as goal

pub returns-in-None-clause-value : goal.returns-in-None-clause-value
returns-in-None-clause-value c =
    position-None (λ b. not (is_separator b)) c.args.bytes.now (sym c.in-None.ensures) ∙ prefix-opposite c.args.bytes.now
