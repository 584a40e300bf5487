use Rattle.std.proofs.Common.{◌≡◌, ◌-◌, ◌<◌, ◌≤◌, ◌∙◌, ap, sym, length, get_or, rules, arith}
use Rattle.gx_page.specs.Contents.{Contents}
use Rattle.gx_node.specs.Reading.{format_of, is_node}
use Rattle.gx_node.specs.Store.{Store, node_of, node_at}
use Rattle.gx_node.proofs.Listed.{in_items, node_in, each_at, number_at}
use Rattle.gx_memory_tree.proofs.memory.MemoryPagesPages.page.Goals as goal

pub returns-clause-node : goal.returns-clause-node
returns-clause-node g c =
    let f = format_of g.K.KeyClass in
    let items = c.self.inside.pages.items in
    let here : c.index.result.now ≡ get_or items (c.args.page - 1) c.index.result.now = search rules in
    let low : 0 < c.args.page = c.requires.0 in
    let high : c.args.page ≤ length items = in_items f items c.args.self.now.nodes c.args.page (ap (λ (s : Store g.row.K-Key.Denot). s.nodes) c.self.view_is) c.requires.1 in
    ap (node_of f) here
    ∙ node_in (node_of f) items c.args.page c.index.result.now low high
    ∙ ap (λ (s : Store g.row.K-Key.Denot). node_at s.nodes c.args.page) c.self.view_is

pub returns-clause-number : goal.returns-clause-number
returns-clause-number g c =
    let f = format_of g.K.KeyClass in
    let items = c.self.inside.pages.items in
    let here : c.index.result.now ≡ get_or items (c.args.page - 1) c.index.result.now = search rules in
    let low : 0 < c.args.page = c.requires.0 in
    let high : c.args.page ≤ length items = in_items f items c.args.self.now.nodes c.args.page (ap (λ (s : Store g.row.K-Key.Denot). s.nodes) c.self.view_is) c.requires.1 in
    let own = number_at 1 items (c.args.page - 1) c.index.result.now (omega (arith, low, high)) c.self.invariant.4 in
    ap (λ (p : Contents). p.number) here ∙ omega (arith, own, low)

pub returns-clause-passes : goal.returns-clause-passes
returns-clause-passes g c =
    let f = format_of g.K.KeyClass in
    let items = c.self.inside.pages.items in
    let here : c.index.result.now ≡ get_or items (c.args.page - 1) c.index.result.now = search rules in
    let low : 0 < c.args.page = c.requires.0 in
    let high : c.args.page ≤ length items = in_items f items c.args.self.now.nodes c.args.page (ap (λ (s : Store g.row.K-Key.Denot). s.nodes) c.self.view_is) c.requires.1 in
    let room : c.args.self.now.room ≡ c.self.inside.room = ap (λ (s : Store g.row.K-Key.Denot). s.room) (sym c.self.view_is) in
    ap (λ n. is_node f n c.index.result.now) room
    ∙ ap (λ (p : Contents). is_node f c.self.inside.room p) here
    ∙ each_at (λ (p : Contents). is_node f c.self.inside.room p) items (c.args.page - 1) c.index.result.now (omega (arith, low, high)) c.self.invariant.3
