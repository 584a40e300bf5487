use Rattle.std.proofs.Common.{◌≡◌, ◌∙◌, ◌<◌, ◌≤◌, ◌+◌, ◌⊎◌, inr, length, ap, subst}
use Rattle.gx_node.specs.Reading.{format_of}
use Rattle.gx_node.specs.Trees.{Node, times, child_pages}
use Rattle.gx_node.specs.Store.{Store, node_of, node_at, tree_of}
use Rattle.gx_legality.specs.Marks.{marked}
use Rattle.gx_legality.proofs.Children.{reads_same}
use Rattle.gx_legality.proofs.Numbered.{twice_named}
use Rattle.gx_legality.proofs.nodes.test_page.Goals as goal

pub returns-in-Err-clause-found : goal.returns-in-Err-clause-found
returns-in-Err-clause-found g c = λ steady.
    let f = format_of g.K.KeyClass in
    let old = g.P.Pages.store c.args.pages.now in
    let node = node_at old.nodes c.args.page in
    let marks = c.args.marks.now in
    let q = c.in-Err.twice in
    let same : node_of f c.page-node.result.now ≡ node =
    c.page-node.ensures.node ∙ ap (λ (s : Store g.row.K-Key.Denot). node_at s.nodes c.args.page) (reads_same c.args.pages.now c.test_node.new.pages c.in_ok-test_node.ensures.reads steady) in
    inr (twice_named _ (tree_of old) marks node q (c.in_ok-test_node.ensures.fits steady) c.requires.marks
    (subst (λ (n : Node g.row.K-Key.Denot). 0 < times q (child_pages n)) same c.in-Err.ensures.named)
    (subst (λ (n : Node g.row.K-Key.Denot). (length marks ≤ q) ⊎ (2 ≤ marked marks q + times q (child_pages n))) same c.in-Err.ensures.refused))
