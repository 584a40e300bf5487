use Rattle.gx_index_laws.proofs.Measuring.{seek_falls}
use Rattle.gx_index_laws.proofs.measures.a_seek_comes_to_an_end.Goals as goal

pub returns : goal.returns
returns g c = λ k old s e leaf of none. seek_falls k of.lawful old of.whole s of.locks of.notes of.call of.at e leaf of.is none
