use Rattle.gx_node.proofs.AlikeTrees.{agree_back, legal_too, standing_too, seek_too}
use Rattle.gx_node.proofs.alike.trees_that_agree_are_alike.Goals as goal

pub returns-clause-back : goal.returns-clause-back
returns-clause-back g c = λ one other agree. agree_back one other agree

pub returns-clause-legal : goal.returns-clause-legal
returns-clause-legal g c = λ r one other agree legal. legal_too r one other agree legal

pub returns-clause-pairs : goal.returns-clause-pairs
returns-clause-pairs g c = λ r one other agree legal test. standing_too r one other agree legal test

pub returns-clause-seeks : goal.returns-clause-seeks
returns-clause-seeks g c = λ r one other agree a row key seek. seek_too r one other agree a row key seek
