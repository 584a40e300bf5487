use Rattle.gx_index_laws.proofs.Entering.{insert_adds}
use Rattle.gx_index_laws.proofs.writes.an_insert_adds_its_pair.Goals as goal

pub returns : goal.returns
returns g c = λ k old s e leaf said may step.
    insert_adds k may.lawful old may.whole may.works s may.locks may.notes may.then_notes e leaf said may.of_class may.own may.at may.with_note step
