use Rattle.gx_durable.proofs.Opening.{found_up, up_may_turn, crash_before}
use Rattle.gx_durable.proofs.laws.a_found_log_is_up_to_its_turn.Goals as goal

pub returns-clause-found : goal.returns-clause-found
returns-clause-found g c = λ l. found_up (g.M.Meaning.known l) g.M.Spelled.reading

pub returns-clause-up : goal.returns-clause-up
returns-clause-up g c = λ l. up_may_turn (g.M.Meaning.known l) g.M.Spelled.reading

pub returns-clause-kept : goal.returns-clause-kept
returns-clause-kept g c = λ l. crash_before (g.M.Meaning.known l) g.M.Spelled.reading
