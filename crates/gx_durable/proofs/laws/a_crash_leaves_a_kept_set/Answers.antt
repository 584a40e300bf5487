use Rattle.gx_durable.proofs.Crashes.{crash_leaves, stands_before}
use Rattle.gx_durable.proofs.Legality.{stands_legal}
use Rattle.gx_durable.proofs.laws.a_crash_leaves_a_kept_set.Goals as goal

pub returns-clause-kept : goal.returns-clause-kept
returns-clause-kept g c = λ d. crash_leaves (g.M.Meaning.known d) g.M.Spelled.reading

pub returns-clause-before : goal.returns-clause-before
returns-clause-before g c = λ d. stands_before (g.M.Meaning.known d) g.M.Spelled.reading

pub returns-clause-legal : goal.returns-clause-legal
returns-clause-legal g c = λ d. stands_legal (g.M.Meaning.known d) g.M.Spelled.reading
