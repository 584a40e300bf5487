use Rattle.gx_index_laws.proofs.Noting.{noted_is_touched, note_seeks}
use Rattle.gx_index_laws.proofs.looks.an_undo_seeks_from_its_notes_leaf.Goals as goal

pub returns-clause-touched : goal.returns-clause-touched
returns-clause-touched g c = λ k l old w s locks notes at e was is. noted_is_touched k l old w s locks notes at e was is

pub returns-clause-seeks : goal.returns-clause-seeks
returns-clause-seeks g c = λ k l old w s locks notes at before after x parts mine. note_seeks k l old w s locks notes at before after x parts mine
