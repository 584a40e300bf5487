use Rattle.gx_recovery.proofs.Renewals.{renewed_healthy, same_number, renewed_latest, renewed_set, stands_alike}
use Rattle.gx_recovery.proofs.laws.opened_log_keeps_its_set.Goals as goal

pub returns-clause-healthy : goal.returns-clause-healthy
returns-clause-healthy g c = λ d l next area log is good. renewed_healthy (g.M.Meaning.known d) l next area log is good

pub returns-clause-first : goal.returns-clause-first
returns-clause-first g c = λ d l next area log is. same_number (g.M.Meaning.known d) l next area log is

pub returns-clause-last : goal.returns-clause-last
returns-clause-last g c = λ d l next area log is. renewed_latest (g.M.Meaning.known d) l next area log is

pub returns-clause-set : goal.returns-clause-set
returns-clause-set g c = λ d l next area log is e. renewed_set (g.M.Meaning.known d) l next area log is e

pub returns-clause-redo : goal.returns-clause-redo
returns-clause-redo g c = λ d l next area log is e. stands_alike (g.M.Meaning.known d) l next area log is e
