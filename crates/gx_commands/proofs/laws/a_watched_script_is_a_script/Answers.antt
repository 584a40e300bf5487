use Rattle.gx_commands.proofs.Forgetting.{script_forgets, done_forgets, stopped_forgets}
use Rattle.gx_commands.proofs.laws.a_watched_script_is_a_script.Goals as goal

pub returns-clause-lines : goal.returns-clause-lines
returns-clause-lines g c = λ grammar. script_forgets grammar g.I.Answers.answered

pub returns-clause-done : goal.returns-clause-done
returns-clause-done g c = λ grammar. done_forgets grammar g.I.Answers.answered

pub returns-clause-stopped : goal.returns-clause-stopped
returns-clause-stopped g c = λ grammar. stopped_forgets grammar g.I.Answers.answered
