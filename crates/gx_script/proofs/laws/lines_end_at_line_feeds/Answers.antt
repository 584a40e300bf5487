use Rattle.gx_script.proofs.LineLemmas.{lines-line, lines-last}
use Rattle.gx_script.proofs.laws.lines_end_at_line_feeds.Goals as goal

pub returns-clause-ended : goal.returns-clause-ended
returns-clause-ended c = lines-line

pub returns-clause-last : goal.returns-clause-last
returns-clause-last c = lines-last
