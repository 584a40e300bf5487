use Rattle.gx_script.proofs.laws.TextLemmas.{reply-lines, bad-lines}
use Rattle.gx_script.proofs.laws.replies_are_whole_lines.Goals as goal

pub returns-clause-reply : goal.returns-clause-reply
returns-clause-reply g c = λ k s reply more. reply-lines k s reply more

pub returns-clause-bad : goal.returns-clause-bad
returns-clause-bad g c = λ number more. bad-lines number more
