use Rattle.gx_index_laws.proofs.FreshIndex.{fresh_whole, fresh_seen}
use Rattle.gx_index_laws.proofs.beginnings.a_fresh_index_is_whole.Goals as goal

pub returns-clause-whole : goal.returns-clause-whole
returns-clause-whole g c = λ k l start room. fresh_whole k start l room

pub returns-clause-seen : goal.returns-clause-seen
returns-clause-seen g c = λ k start. fresh_seen k start
