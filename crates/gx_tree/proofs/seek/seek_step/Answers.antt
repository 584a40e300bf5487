use Rattle.std.proofs.lemmas.Grind.{common_steps}
use Rattle.std.proofs.Common.{◌≡◌, ◌∙◌, sym, ap, subst, refl, rules, Some, arith}
use Rattle.std.specs.Prelude.{true, slice_get}
use Rattle.gx_node.specs.Lists.{how_many}
use Rattle.gx_node.specs.Trees.{Pair, Node}
use Rattle.gx_node.specs.Reading.{format_of}
use Rattle.gx_node.specs.Seen.{pair_seen}
use Rattle.gx_node.specs.Store.{node_at}
use Rattle.gx_tree.specs.Wants.{wants}
use Rattle.gx_tree.proofs.Hits.{none_at_all, hit_passes}
use Rattle.gx_node.proofs.Listed.{leaf_node}
use Rattle.gx_tree.proofs.seek.seek_step.Goals as goal

pub returns-in-Some-clause-tells : goal.returns-in-Some-clause-tells
returns-in-Some-clause-tells g c =
    let f = format_of g.K.KeyClass in
    let w = wants g.K.Probing.passes c.args.wanted.now.keys c.args.wanted.now.row in
    let page = c.page-page.result.now in
    let level : page.level ≡ 0 = search rules in
    let same : c.of-leaf.result ≡ node_at (g.P.Pages.store c.bring_page.new.pages).nodes c.args.page =
    c.of-leaf.ensures ∙ sym (leaf_node f page level) ∙ c.page-page.ensures.node in
    let x = pair_seen c.entry.result in
    record {
      stays = c.bring_page.ensures.stays;
      sought = subst (λ (n : Node g.row.K-Key.Denot). (n.level ≡ 0) × ((x : Pair g.row.K-Key.Denot) × (slice_get n.pairs c.in-Some.slot ≡ Some x) × (w x ≡ true) × (x.marked ≡ c.entry.result.1))) same (
        ap (λ (n : Node g.row.K-Key.Denot). n.level) c.of-leaf.ensures ∙ level,
        (x, c.entry.ensures, hit_passes w c.of-leaf.result.pairs 0 c.in-Some.slot c.in-Some.ensures x c.entry.ensures, refl),
      );
      damaged = search rules;
    }

pub returns-in-None-clause-tells : goal.returns-in-None-clause-tells
returns-in-None-clause-tells g c =
    let f = format_of g.K.KeyClass in
    let w = wants g.K.Probing.passes c.args.wanted.now.keys c.args.wanted.now.row in
    let page = c.page-page.result.now in
    let level : page.level ≡ 0 = search rules in
    let same : c.of-leaf.result ≡ node_at (g.P.Pages.store c.bring_page.new.pages).nodes c.args.page =
    c.of-leaf.ensures ∙ sym (leaf_node f page level) ∙ c.page-page.ensures.node in
    record {
      stays = c.bring_page.ensures.stays;
      sought = subst (λ (n : Node g.row.K-Key.Denot). (n.level ≡ 0) × (how_many w n.pairs ≡ 0) × (c.right.result ≡ n.right)) same (
        ap (λ (n : Node g.row.K-Key.Denot). n.level) c.of-leaf.ensures ∙ level,
        none_at_all w c.of-leaf.result.pairs c.in-None.ensures,
        c.right.ensures,
      );
      damaged = search rules;
    }

pub page-page-requires : goal.page-page-requires
page-page-requires g c = grind (arith, common_steps)

pub entry-requires : goal.entry-requires
entry-requires g c = grind (arith, common_steps)
