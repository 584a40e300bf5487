use Rattle.std.proofs.Common.{◌≡◌, ◌+◌, ◌-◌, ◌<◌, ◌≤◌, ◌∙◌, ap, sym, subst, length, map, get_or, set, rules, arith}
use Rattle.std.proofs.lemmas.List.{length-set, get_or-set_same, map-set}
use Rattle.gx_page.specs.Contents.{Contents}
use Rattle.gx_node.specs.Trees.{Node}
use Rattle.gx_node.specs.Reading.{format_of, is_node}
use Rattle.gx_node.specs.Store.{Store, node_of, node_at, with_node}
use Rattle.gx_tree.proofs.Changed.{set_elsewhere}
use Rattle.gx_node.proofs.Listed.{in_items, node_in, all_set, number_at, numbered_set}
use Rattle.gx_memory_tree.proofs.memory.MemoryPagesPagesMut.change.Goals as goal

pub apply-requires-clause-fits : goal.apply-requires-clause-fits
apply-requires-clause-fits g c =
    let f = format_of g.K.KeyClass in
    let items = c.self.inside.pages.items in
    let was = c.index_mut.result.now in
    let here : was ≡ get_or items (c.args.page - 1) was = search rules in
    let low : 0 < c.args.page = c.requires.held.0 in
    let high : c.args.page ≤ length items = in_items f items c.args.self.now.nodes c.args.page (ap (λ (s : Store g.row.K-Key.Denot). s.nodes) c.self.view_is) c.requires.held.1 in
    let old : node_at c.args.self.now.nodes c.args.page ≡ node_of f was =
    sym (ap (node_of f) here
    ∙ node_in (node_of f) items c.args.page was low high
    ∙ ap (λ (s : Store g.row.K-Key.Denot). node_at s.nodes c.args.page) c.self.view_is) in
    let room : c.args.self.now.room ≡ c.self.inside.room = ap (λ (s : Store g.row.K-Key.Denot). s.room) (sym c.self.view_is) in
    subst (λ r. g.E.Edit.fits c.args.edit r (node_of f was)) room
    (subst (g.E.Edit.fits c.args.edit c.args.self.now.room) old c.requires.fits)

pub invariant_of-self : goal.invariant_of-self
invariant_of-self g c =
    let f = format_of g.K.KeyClass in
    let items = c.self.inside.pages.items in
    let k = c.args.page - 1 in
    let was = c.index_mut.result.now in
    let here : was ≡ get_or items k was = search rules in
    let low : 0 < c.args.page = c.requires.held.0 in
    let high : c.args.page ≤ length items = in_items f items c.args.self.now.nodes c.args.page (ap (λ (s : Store g.row.K-Key.Denot). s.nodes) c.self.view_is) c.requires.held.1 in
    let own = number_at 1 items k was (omega (arith, low, high)) c.self.invariant.4 in
    let number : c.apply.new.page.number ≡ 1 + k = c.apply.ensures.number ∙ ap (λ (p : Contents). p.number) here ∙ own in
    let fits = c.self.invariant.0 in (
      omega (arith, length-set items k c.apply.new.page, fits),
      c.self.invariant.1,
      c.self.invariant.2,
      all_set (λ (p : Contents). is_node f c.self.inside.room p) items k c.apply.new.page c.self.invariant.3 c.apply.ensures.node,
      numbered_set 1 items k c.apply.new.page c.self.invariant.4 number,
    )

pub returns-clause-edited : goal.returns-clause-edited
returns-clause-edited g c =
    let f = format_of g.K.KeyClass in
    let items = c.self.inside.pages.items in
    let k = c.args.page - 1 in
    let was = c.index_mut.result.now in
    let is = c.apply.new.page in
    let here : was ≡ get_or items k was = search rules in
    let low : 0 < c.args.page = c.requires.held.0 in
    let high : c.args.page ≤ length items = in_items f items c.args.self.now.nodes c.args.page (ap (λ (s : Store g.row.K-Key.Denot). s.nodes) c.self.view_is) c.requires.held.1 in
    let old : node_of f was ≡ node_at c.args.self.now.nodes c.args.page =
    ap (node_of f) here
    ∙ node_in (node_of f) items c.args.page was low high
    ∙ ap (λ (s : Store g.row.K-Key.Denot). node_at s.nodes c.args.page) c.self.view_is in
    let new : node_of f is ≡ node_at (map (node_of f) (set items k is)) c.args.page =
    ap (node_of f) (sym (get_or-set_same items k is was (omega (arith, low, high))))
    ∙ node_in (node_of f) (set items k is) c.args.page was low (omega (arith, high, length-set items k is)) in
    subst (λ (n : Node g.row.K-Key.Denot). g.E.Edit.edits c.args.edit n (node_at (map (node_of f) (set items k is)) c.args.page)) old
    (subst (λ (n : Node g.row.K-Key.Denot). g.E.Edit.edits c.args.edit (node_of f was) n) new c.apply.ensures.edits)

pub returns-clause-others : goal.returns-clause-others
returns-clause-others g c =
    let f = format_of g.K.KeyClass in
    let items = c.self.inside.pages.items in
    let k = c.args.page - 1 in
    let was = c.index_mut.result.now in
    let is = c.apply.new.page in
    let low : 0 < c.args.page = c.requires.held.0 in
    let high : c.args.page ≤ length items = in_items f items c.args.self.now.nodes c.args.page (ap (λ (s : Store g.row.K-Key.Denot). s.nodes) c.self.view_is) c.requires.held.1 in
    let after = node_at (map (node_of f) (set items k is)) c.args.page in
    let new : node_of f is ≡ after =
    ap (node_of f) (sym (get_or-set_same items k is was (omega (arith, low, high))))
    ∙ node_in (node_of f) (set items k is) c.args.page was low (omega (arith, high, length-set items k is)) in
    ap (λ ns. record { nodes = ns; counter = c.self.inside.counter; room = c.self.inside.room }) (map-set (node_of f) items k is ∙ ap (λ n. set (map (node_of f) items) k n) new)
    ∙ ap (λ (s : Store g.row.K-Key.Denot). with_node s c.args.page after) c.self.view_is

pub returns-clause-since : goal.returns-clause-since
returns-clause-since g c = λ was q other before.
    ap (λ (s : Store g.row.K-Key.Denot). node_at s.nodes q) (returns-clause-others g c)
    ∙ set_elsewhere c.args.self.now.nodes c.args.page q _ c.requires.held.0 other
    ∙ before
