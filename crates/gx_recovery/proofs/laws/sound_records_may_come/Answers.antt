use Rattle.gx_recovery.proofs.SoundRecords.{write_may_come, pages_may_come, change_may_come}
use Rattle.gx_recovery.proofs.laws.sound_records_may_come.Goals as goal

pub returns-clause-write : goal.returns-clause-write
returns-clause-write g c = λ d l area log is t entry before after leaf said sound. write_may_come (g.M.Meaning.known d) l area log is t entry before after leaf said sound

pub returns-clause-pages : goal.returns-clause-pages
returns-clause-pages g c = λ d l area log is images counter used sound. pages_may_come (g.M.Meaning.known d) l area log is images counter used sound

pub returns-clause-change : goal.returns-clause-change
returns-clause-change g c = λ d l area log is page change sound. change_may_come (g.M.Meaning.known d) l area log is page change sound
