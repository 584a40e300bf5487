use Rattle.gx_node.specs.Reading.{format_of}
use Rattle.gx_tree.proofs.edits.children.Raised.{raised_page}
use Rattle.gx_tree.proofs.edits.children.RaiseRootKeyEdit.apply.Goals as goal

pub append-requires-clause-inner : goal.append-requires-clause-inner
append-requires-clause-inner g c =
    (raised_page (format_of g.K.KeyClass) c.args._room c.level-level.result c.number-number.result c.nsn-nsn.result c.right-right.result
    c.set_right.new.self c.reset.new.self c.set_nsn.new.self c.reset.ensures c.set_nsn.ensures c.set_right.ensures).inner
