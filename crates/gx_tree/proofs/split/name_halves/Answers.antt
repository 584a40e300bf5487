use Rattle.std.proofs.Common.{◌≡◌, ◌++◌, ◌∷◌, [], ◌∙◌, ap, set, length, arith}
use Rattle.std.proofs.lemmas.List.{length-set}
use Rattle.gx_node.specs.Trees.{Node}
use Rattle.gx_node.specs.Edits.{with_children, bounded_by}
use Rattle.gx_node.proofs.OneChanged.{bound_once}
use Rattle.gx_node.specs.Store.{Store, node_at, with_node}
use Rattle.gx_tree.proofs.Splits.{two_changes}
use Rattle.gx_tree.proofs.split.name_halves.Goals as goal

pub change-requires-2-clause-fits : goal.change-requires-2-clause-fits
change-requires-2-clause-fits g c =
    let old = g.P.Pages.store c.args.pages.now in
    let one = g.P.Pages.store c.change.new.self in
    let node = node_at old.nodes c.args.parent in
    let names = c.requires.names in
    let children = set node.children c.args.bound.slot (bounded_by c.args.bound.bound names.child) in
    let is : node_at one.nodes c.args.parent ≡ with_children node children = c.change.ensures.edited names.child names.at in
    let room : one.room ≡ old.room = ap (λ (s : Store g.row.K-Key.Denot). s.room) c.change.ensures.others in
    let level : (node_at one.nodes c.args.parent).level ≡ node.level = ap (λ (n : Node g.row.K-Key.Denot). n.level) is in
    let long : length (node_at one.nodes c.args.parent).children ≡ length node.children =
    ap (λ (n : Node g.row.K-Key.Denot). length n.children) is ∙ length-set node.children c.args.bound.slot (bounded_by c.args.bound.bound names.child) in (
      omega (arith, level, c.requires.inner),
      omega (arith, long, c.requires.few),
      c.requires.sibling.0,
      omega (arith, room, c.requires.sibling.1),
    )

pub returns-clause-named : goal.returns-clause-named
returns-clause-named g c =
    let old = g.P.Pages.store c.args.pages.now in
    let one = g.P.Pages.store c.change.new.self in
    let two = g.P.Pages.store c.change-2.new.self in
    let node = node_at old.nodes c.args.parent in
    let names = c.requires.names in
    let children = set node.children c.args.bound.slot (bounded_by c.args.bound.bound names.child) in
    let put = λ (n : Node g.row.K-Key.Denot). with_children n (n.children ++ record { key = c.args.sibling.bound; page = c.args.sibling.page } ∷ []) in
    two_changes old one two c.args.parent (with_children node children) put
    c.change.ensures.others (c.change.ensures.edited names.child names.at) c.change-2.ensures.others c.change-2.ensures.edited
    ∙ ap (λ cs. with_node old c.args.parent (put (with_children node cs)))
    (bound_once c.args._page c.args.bound.bound node.children c.args.bound.slot names.child (omega (arith, names.once)) names.at names.page)
