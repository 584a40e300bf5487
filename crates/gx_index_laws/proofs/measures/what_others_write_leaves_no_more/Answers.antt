use Rattle.gx_index_laws.proofs.measures.Others.{others_add, others_mark, others_undo}
use Rattle.gx_index_laws.proofs.measures.what_others_write_leaves_no_more.Goals as goal

pub returns-clause-adds : goal.returns-clause-adds
returns-clause-adds g c = λ k l old w r s a ne locks notes then_notes call at leaf x unmarked is.
    others_add k l old w r s a ne locks notes then_notes call at leaf x unmarked is

pub returns-clause-marks : goal.returns-clause-marks
returns-clause-marks g c = λ k l old w r s a ne locks notes then_notes call at leaf e mark claimed some is.
    others_mark k l old w r s a ne locks notes then_notes call at leaf e mark claimed some is

pub returns-clause-undoes : goal.returns-clause-undoes
returns-clause-undoes g c = λ k l old w r s a ne locks notes at leaf e mark claimed some is.
    others_undo k l old w r s a ne locks notes at leaf e mark claimed some is
