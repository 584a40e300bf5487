use Rattle.std.proofs.Common.{◌≡◌, ◌<◌, ◌≤◌, ◌+◌, ◌-◌, ◌∙◌, ◌∷◌, [], ◌++◌, ap, sym, subst, true, length, map, get_or, rules, arith}
use Rattle.std.proofs.lemmas.List.{length-append, map-append}
use Rattle.std.specs.List.{list_all}
use Rattle.gx_page.specs.Contents.{Contents}
use Rattle.gx_node.specs.Trees.{Node}
use Rattle.gx_node.specs.Reading.{format_of, is_node}
use Rattle.gx_node.specs.Store.{Store, node_of, node_at, with_page, numbered}
use Rattle.gx_node.proofs.Listed.{in_items, node_in, each_at, all_more, numbered_more}
use Rattle.gx_memory_tree.proofs.memory.MemoryPagesPagesMut.take.Goals as goal

pub invariant_of-self : goal.invariant_of-self
invariant_of-self g c =
    let f = format_of g.K.KeyClass in
    let items = c.self.inside.pages.items in
    let new = c.set_number.new.self in
    let was = c.index.result.now in
    let from = c.args.from in
    let low : 0 < from = c.requires.held.0 in
    let high : from ≤ length items = in_items f items c.args.self.now.nodes from (ap (λ (s : Store g.row.K-Key.Denot). s.nodes) c.self.view_is) c.requires.held.1 in
    let here : was ≡ get_or items (from - 1) was = search rules in
    let fits = c.self.invariant.0 in
    let longer : length c.append.new.pages.items ≡ length items + 1 = ap length c.append.ensures.items ∙ length-append items (new ∷ []) in
    let fewer : length c.self.inside.spare.items ≡ length c.pop.new.self.items + 1 = ap length c.in-Some.ensures.items ∙ length-append c.pop.new.self.items (c.in-Some.page ∷ []) in
    let passes : is_node f c.self.inside.room new ≡ true =
    ap (is_node f c.self.inside.room) c.set_number.ensures
    ∙ ap (is_node f c.self.inside.room) (c.copy_from.ensures ∙ here)
    ∙ each_at (is_node f c.self.inside.room) items (from - 1) was (omega (arith, low, high)) c.self.invariant.3 in
    let next : new.number ≡ 1 + length items = ap (λ (p : Contents). p.number) c.set_number.ensures ∙ omega (arith, c.len.ensures) in
    let lent = c.append.ensures.capacity in
    let had = c.self.invariant.2 in (
      omega (arith, longer, fewer, fits),
      c.self.invariant.1,
      omega (arith, lent, had),
      subst (λ ps. list_all (is_node f c.self.inside.room) ps ≡ true) (sym c.append.ensures.items) (all_more (is_node f c.self.inside.room) items new c.self.invariant.3 passes),
      subst (λ ps. numbered 1 ps ≡ true) (sym c.append.ensures.items) (numbered_more 1 items new c.self.invariant.4 next),
    )

pub returns-in-Some-clause-taken : goal.returns-in-Some-clause-taken
returns-in-Some-clause-taken g c =
    let f = format_of g.K.KeyClass in
    let items = c.self.inside.pages.items in
    let from = c.args.from in
    let was = c.index.result.now in
    let new = c.set_number.new.self in
    let here : was ≡ get_or items (from - 1) was = search rules in
    let low : 0 < from = c.requires.held.0 in
    let high : from ≤ length items = in_items f items c.args.self.now.nodes from (ap (λ (s : Store g.row.K-Key.Denot). s.nodes) c.self.view_is) c.requires.held.1 in
    let copied : node_of f new ≡ node_of f was = ap (node_of f) c.set_number.ensures ∙ ap (node_of f) c.copy_from.ensures in
    let read : node_of f new ≡ node_at (map (node_of f) items) from =
    copied ∙ ap (node_of f) here ∙ node_in (node_of f) items from was low high in
    let nodes : map (node_of f) c.append.new.pages.items ≡ map (node_of f) items ++ node_at (map (node_of f) items) from ∷ [] =
    ap (map (node_of f)) c.append.ensures.items ∙ map-append (node_of f) items (new ∷ []) ∙ ap (λ (n : Node g.row.K-Key.Denot). map (node_of f) items ++ n ∷ []) read in
    ap (λ ns. record { nodes = ns; counter = c.self.inside.counter; room = c.self.inside.room }) nodes
    ∙ ap (λ (s : Store g.row.K-Key.Denot). with_page s (node_at s.nodes from)) c.self.view_is
