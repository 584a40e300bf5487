use Rattle.gx_index_laws.proofs.Entering.{delete_marks}
use Rattle.gx_index_laws.proofs.writes.a_delete_sets_the_mark.Goals as goal

pub returns : goal.returns
returns g c = λ k old s e leaf said may some step.
    delete_marks k may.lawful old may.whole may.works s may.locks may.notes may.then_notes e leaf said may.of_class may.own may.at may.with_note some step
