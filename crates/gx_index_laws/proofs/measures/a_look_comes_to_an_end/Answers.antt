use Rattle.gx_index_laws.proofs.Measuring.{look_falls, look_descends_falls, look_seeks_falls}
use Rattle.gx_index_laws.proofs.measures.a_look_comes_to_an_end.Goals as goal

pub returns-clause-reads : goal.returns-clause-reads
returns-clause-reads g c = λ k old s item stack found then_found leads of.
    look_falls k of.lawful old of.whole s of.locks of.notes of.call of.at item stack found then_found leads of.is

pub returns-clause-descends : goal.returns-clause-descends
returns-clause-descends g c = λ k old s stack found e parent item of used.
    look_descends_falls k of.lawful old of.whole s of.locks of.notes of.call of.at stack found e parent item of.is used

pub returns-clause-seeks : goal.returns-clause-seeks
returns-clause-seeks g c = λ k old s stack found e leaf of.
    look_seeks_falls k of.lawful old of.whole s of.locks of.notes of.call of.at stack found e leaf of.is
