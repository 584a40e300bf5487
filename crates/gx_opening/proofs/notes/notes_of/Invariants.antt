use Rattle.gx_opening.specs.Noting.{AreNoted}
use Rattle.gx_opening.proofs.notes.notes_of.Given as goal

abbrev pub invariant-loop-at : goal.invariant-loop-at
invariant-loop-at g l = AreNoted g.E.Ord.cmp l.touched l.at l.notes.items
