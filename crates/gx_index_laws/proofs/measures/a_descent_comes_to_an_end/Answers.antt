use Rattle.gx_index_laws.proofs.Measuring.{restarts, goes_down, widens, sweeps, splits, splits_root}
use Rattle.gx_index_laws.proofs.measures.a_descent_comes_to_an_end.Goals as goal

pub returns-clause-restarts : goal.returns-clause-restarts
returns-clause-restarts g c = λ k old s e parent item of must. restarts k of.lawful old of.whole s of.locks of.notes of.call of.at e parent item of.is must

pub returns-clause-goes_down : goal.returns-clause-goes_down
returns-clause-goes_down g c = λ k old s e parent item of x room. goes_down k of.lawful old of.whole s of.locks of.notes of.call of.at e parent item of.is x room.0 room.1

pub returns-clause-widens : goal.returns-clause-widens
returns-clause-widens g c = λ k old s e parent item of r x coming key step room.
    widens k of.lawful old of.whole s of.locks of.notes of.call of.at e parent item of.is r x coming key step room.0 room.1

pub returns-clause-sweeps : goal.returns-clause-sweeps
returns-clause-sweeps g c = λ k old s e parent item of r step some. sweeps k of.lawful old of.whole s of.locks of.notes of.call of.at e parent item of.is r step some

pub returns-clause-splits : goal.returns-clause-splits
returns-clause-splits g c = λ k old s e parent item of r n p sides left right step room.
    splits k of.lawful old of.whole s of.locks of.notes of.call of.at e parent item of.is r n p sides left right step room

pub returns-clause-splits_root : goal.returns-clause-splits_root
returns-clause-splits_root g c = λ k old s e parent item of r sides left right step room.
    splits_root k of.lawful old of.whole s of.locks of.notes of.call of.at e parent item of.is r sides left right step room
