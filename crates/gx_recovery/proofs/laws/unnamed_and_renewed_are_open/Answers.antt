use Rattle.std.proofs.Common.{[]}
use Rattle.gx_recovery.proofs.Unnamed.{unnamed_open, unnamed_untouched, renewed_open, renewed_marks}
use Rattle.gx_recovery.proofs.laws.unnamed_and_renewed_are_open.Goals as goal

pub returns-clause-open_yet : goal.returns-clause-open_yet
returns-clause-open_yet g c = λ log t h. unnamed_open (g.M.Meaning.known (record { most = 0; pages = 0; head = [] })) t log h

pub returns-clause-untouched : goal.returns-clause-untouched
returns-clause-untouched g c = λ d log t e h. unnamed_untouched (g.M.Meaning.known d) t e log h

pub returns-clause-renewed : goal.returns-clause-renewed
returns-clause-renewed g c = λ d next log t. renewed_open (g.M.Meaning.known d) next t log

pub returns-clause-marks : goal.returns-clause-marks
returns-clause-marks g c = λ d l next area log is t e open_yet. renewed_marks (g.M.Meaning.known d) l next area log is t e open_yet
