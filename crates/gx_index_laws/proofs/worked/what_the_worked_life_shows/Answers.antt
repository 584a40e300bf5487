use Rattle.std.proofs.Common.{refl}
use Rattle.gx_index_laws.specs.Classes.{is_live}
use Rattle.gx_index_laws.proofs.worked.WorkedLife.{splits, is_left, restarts, goes}
use Rattle.gx_index_laws.proofs.worked.what_the_worked_life_shows.Goals as goal

pub returns-clause-searches : goal.returns-clause-searches
returns-clause-searches c = refl

pub returns-clause-stacked : goal.returns-clause-stacked
returns-clause-stacked c = refl

pub returns-clause-splits : goal.returns-clause-splits
returns-clause-splits c = splits

pub returns-clause-in_flight : goal.returns-clause-in_flight
returns-clause-in_flight c = refl

pub returns-clause-left : goal.returns-clause-left
returns-clause-left c = is_left

pub returns-clause-loser : goal.returns-clause-loser
returns-clause-loser c = refl

pub returns-clause-restarts : goal.returns-clause-restarts
returns-clause-restarts c = restarts

pub returns-clause-goes : goal.returns-clause-goes
returns-clause-goes c = goes

pub returns-clause-ended : goal.returns-clause-ended
returns-clause-ended c = refl

pub returns-clause-committed : goal.returns-clause-committed
unfolding is_live
returns-clause-committed c = refl

pub returns-clause-undone : goal.returns-clause-undone
returns-clause-undone c = refl
