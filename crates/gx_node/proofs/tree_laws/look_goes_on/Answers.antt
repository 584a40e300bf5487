use Rattle.gx_node.proofs.OwnLook.{look_goes_on, pages_fall, item_used}
use Rattle.gx_node.proofs.Bounds.{pages_most}
use Rattle.gx_node.proofs.tree_laws.look_goes_on.Goals as goal

pub returns-clause-look : goal.returns-clause-look
returns-clause-look g c = λ r law t legal wants leads consistent item stack found look. look_goes_on r t legal leads law wants consistent item stack found look

pub returns-clause-falls : goal.returns-clause-falls
returns-clause-falls g c = λ r t legal wants leads item stack found look. pages_fall r t legal leads item stack (look.items).0

pub returns-clause-most : goal.returns-clause-most
returns-clause-most g c = λ r t legal wants stack found look. pages_most t r legal wants stack found look

pub returns-clause-reads : goal.returns-clause-reads
returns-clause-reads g c = λ t wants item stack found look. item_used t item (look.items).0
