use Rattle.std.proofs.lemmas.Grind.{common_steps}
use Rattle.std.proofs.Common.{◌≡◌, ◌∙◌, sym, ap, map, length, arith}
use Rattle.std.proofs.lemmas.List.{length-map}
use Rattle.gx_node.specs.Edits.{entry_of}
use Rattle.gx_node.specs.Reading.{format_of}
use Rattle.gx_node.specs.Trees.{Pair, Node}
use Rattle.gx_node.specs.Writes.{is_sweepable}
use Rattle.gx_node.specs.Store.{node_at}
use Rattle.gx_tree.specs.Sweeping.{Planned}
use Rattle.gx_tree.proofs.LeafSteps.{leaf_at}
use Rattle.gx_tree.proofs.Parted.{written}
use Rattle.gx_tree.proofs.sweep.plan_sweep.Goals as goal

pub returns-clause-plans : goal.returns-clause-plans
returns-clause-plans g c = λ test agrees.
    let f = format_of g.K.KeyClass in
    let node = node_at (g.P.Pages.store c.bring_leaf.new.pages).nodes c.args.page in
    let takes = is_sweepable (λ (x : Pair g.row.K-Key.Denot). test (entry_of x)) in
    let same : c.of.result ≡ node = c.of.ensures ∙ leaf_at f c.page.result.now node c.page.ensures.node c.in_ok-count.ensures.leaf in
    let chosen : c.choose_sides.new.sides ≡ map takes node.pairs =
    c.choose_sides.ensures test agrees ∙ ap (λ (n : Node g.row.K-Key.Denot). map takes n.pairs) same in
    let long : length c.choose_sides.new.sides ≡ c.in_ok-count.count = ap length chosen ∙ length-map node.pairs takes ∙ sym c.in_ok-count.ensures.count in
    record {
      leaf = c.in_ok-count.ensures.leaf;
      sides = ap (λ (s : Planned). s.sides) c.new.ensures ∙ written c.in_ok-count.count c.choose_sides.new.sides _ long ∙ chosen;
    }

pub page-requires : goal.page-requires
page-requires g c = grind (arith, common_steps)

pub returns-clause-fits : goal.returns-clause-fits
returns-clause-fits g c = grind (arith, common_steps)
