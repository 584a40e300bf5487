use Rattle.std.proofs.Common.{refl}
use Rattle.gx_recovery.proofs.Moves.{found_latest, found_set}
use Rattle.gx_index_laws.specs.Classes.{known_of}
use Rattle.gx_index_laws.proofs.Standing.{known_lawful}
use Rattle.gx_index_laws.proofs.Found.{are, found_stood, found_seen, found_whole}
use Rattle.gx_index_laws.proofs.openings.a_found_index_is_whole.Goals as goal

pub returns-clause-whole : goal.returns-clause-whole
returns-clause-whole g c = λ class l next area log is good up set stands. found_whole class l next area log is up good set stands

pub returns-clause-stood : goal.returns-clause-stood
returns-clause-stood g c = λ class l next area log is e. found_stood class l next area log is e

pub returns-clause-seen : goal.returns-clause-seen
returns-clause-seen g c = λ class l next area log is set stands. found_seen class l next area log is set stands

pub returns-clause-losers : goal.returns-clause-losers
returns-clause-losers g c = λ class l next area log is. are class l next area log is

pub returns-clause-durable : goal.returns-clause-durable
returns-clause-durable g c = λ class next area log. refl

pub returns-clause-latest : goal.returns-clause-latest
returns-clause-latest g c = λ class next area log. found_latest (known_of class) area log

pub returns-clause-kept : goal.returns-clause-kept
returns-clause-kept g c = λ class l next area log is. found_set (known_of class) area log (known_lawful class l) is
