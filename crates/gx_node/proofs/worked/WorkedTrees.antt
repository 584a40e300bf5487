-- The trees worked out by hand.
use Rattle.std.proofs.Common.{refl}
use Rattle.gx_node.specs.Legal.{Legal}
use Rattle.gx_node.specs.Worked.{boxes, held, held_split, held_end, eight_rows, nine_rows}
use Rattle.gx_node.proofs.worked.Tested.{legal_by_test}

pub held_legal : Legal boxes held
held_legal = legal_by_test boxes held refl

pub held_split_legal : Legal boxes held_split
held_split_legal = legal_by_test boxes held_split refl

pub held_end_legal : Legal boxes held_end
held_end_legal = legal_by_test boxes held_end refl

pub eight_legal : Legal boxes eight_rows
eight_legal = legal_by_test boxes eight_rows refl

pub nine_legal : Legal boxes nine_rows
nine_legal = legal_by_test boxes nine_rows refl
