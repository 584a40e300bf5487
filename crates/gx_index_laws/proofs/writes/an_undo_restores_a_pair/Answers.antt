use Rattle.gx_index_laws.proofs.Entering.{undo_restores}
use Rattle.gx_index_laws.proofs.writes.an_undo_restores_a_pair.Goals as goal

pub returns : goal.returns
returns g c = λ k old s e was before leaf said may step.
    undo_restores k may.lawful old may.whole may.works s may.locks may.notes e was before leaf said may.at may.is_noted may.of_class may.own may.lived may.some step
