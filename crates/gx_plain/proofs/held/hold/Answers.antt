use Rattle.std.proofs.Common.{rules}
use Rattle.gx_plain.proofs.held.hold.Goals as goal

pub returns-then-has_room-clause-place : goal.returns-then-has_room-clause-place
returns-then-has_room-clause-place g c = search rules

pub returns-then-has_room-clause-predicates : goal.returns-then-has_room-clause-predicates
returns-then-has_room-clause-predicates g c = search rules
