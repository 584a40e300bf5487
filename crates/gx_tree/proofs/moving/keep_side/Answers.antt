use Rattle.gx_node.specs.Steps.{node_with}
use Rattle.gx_node.specs.Trees.{Node}
use Rattle.gx_tree.specs.Splitting.{left_of}
use Rattle.gx_node.specs.Store.{node_at}
use Rattle.gx_tree.proofs.Splits.{two_changes}
use Rattle.gx_tree.proofs.moving.keep_side.Goals as goal

pub returns-clause-kept : goal.returns-clause-kept
returns-clause-kept g c =
    let old = g.P.Pages.store c.args.pages.now in
    let one = g.P.Pages.store c.change.new.self in
    let two = g.P.Pages.store c.change-2.new.self in
    two_changes old one two c.args.page (left_of c.args.sides.now (node_at old.nodes c.args.page))
    (λ (n : Node g.row.K-Key.Denot). node_with n c.args.link.nsn c.args.link.right n.pairs n.children)
    c.change.ensures.others c.change.ensures.edited c.change-2.ensures.others c.change-2.ensures.edited
