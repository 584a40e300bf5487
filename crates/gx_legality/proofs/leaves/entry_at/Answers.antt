use Rattle.std.proofs.Common.{◌≡◌, ◌∙◌, ◌≤◌, Some, None, length, arith, refl, rules, subst, sym}
use Rattle.std.specs.Prelude.{slice_get}
use Rattle.std.proofs.lemmas.Option.{slice_get_past}
use Rattle.gx_node.specs.Reading.{format_of}
use Rattle.gx_node.specs.Seen.{pair_seen}
use Rattle.gx_node.specs.Trees.{Node}
use Rattle.gx_node.specs.Store.{node_of}
use Rattle.gx_node.proofs.Listed.{leaf_node}
use Rattle.gx_legality.proofs.leaves.entry_at.Goals as goal

pub returns-then-slot-len : goal.returns-then-slot-len
returns-then-slot-len g c =
    let f = format_of g.K.KeyClass in
    let page = c.args.page.now in
    let level : page.level ≡ 0 = search rules in
    let same : c.of-leaf.result ≡ node_of f page = c.of-leaf.ensures ∙ sym (leaf_node f page level) in (
      pair_seen c.entry.result,
      subst (λ (n : Node g.row.K-Key.Denot). slice_get n.pairs c.args.slot ≡ Some (pair_seen c.entry.result)) same c.entry.ensures,
      refl,
    )

pub returns-else-slot-len : goal.returns-else-slot-len
returns-else-slot-len g c =
    let f = format_of g.K.KeyClass in
    let page = c.args.page.now in
    let level : page.level ≡ 0 = search rules in
    let same : c.of-leaf.result ≡ node_of f page = c.of-leaf.ensures ∙ sym (leaf_node f page level) in
    let past : length c.of-leaf.result.pairs ≤ c.args.slot = omega arith in
    subst (λ (n : Node g.row.K-Key.Denot). slice_get n.pairs c.args.slot ≡ None) same (slice_get_past c.of-leaf.result.pairs c.args.slot past)
