use Rattle.std.proofs.Common.{◌≡◌, ◌∙◌, ◌++◌, map, ap, refl, rules, subst, sym}
use Rattle.gx_machine.specs.Keys.{entry_cmp}
use Rattle.gx_node.specs.Edits.{entry_of}
use Rattle.gx_node.specs.Reading.{format_of}
use Rattle.gx_node.specs.Trees.{Node}
use Rattle.gx_node.specs.Store.{Store, node_of, node_at}
use Rattle.gx_legality.specs.Gathered.{Gathers}
use Rattle.gx_legality.specs.Placing.{is_noted, met, stage_at}
use Rattle.gx_legality.proofs.Children.{reads_same}
use Rattle.gx_legality.proofs.leaves.take_leaf.Goals as goal

pub returns-then-not-gather_page-clause-gathers : goal.returns-then-not-gather_page-clause-gathers
returns-then-not-gather_page-clause-gathers g c = λ steady used all rest was.
    let order = entry_cmp (record { cmp = g.K.Key.Ord.cmp; overlaps = g.K.Key.Shape.overlap; within = g.K.Key.Shape.inside }) in
    let f = format_of g.K.KeyClass in
    let old = g.P.Pages.store c.args.pages.now in
    let same : node_of f c.page-node.result.now ≡ node_at old.nodes c.args.page =
    c.page-node.ensures.node ∙ ap (λ (s : Store g.row.K-Key.Denot). node_at s.nodes c.args.page) (reads_same c.args.pages.now c.bring_pages.new.pages c.in_ok-bring_pages.ensures.reads steady) in
    (refl, refl, c.if-not-gather_page.ensures.gathers all rest (subst (λ (n : Node g.row.K-Key.Denot). Gathers order c.args.gather.now all (map entry_of n.pairs ++ rest)) (sym same) was))

pub returns-clause-gathers : goal.returns-clause-gathers
returns-clause-gathers g c = λ steady used all rest was.
    let order = entry_cmp (record { cmp = g.K.Key.Ord.cmp; overlaps = g.K.Key.Shape.overlap; within = g.K.Key.Shape.inside }) in
    let f = format_of g.K.KeyClass in
    let old = g.P.Pages.store c.args.pages.now in
    let same : node_of f c.page-node.result.now ≡ node_at old.nodes c.args.page =
    c.page-node.ensures.node ∙ ap (λ (s : Store g.row.K-Key.Denot). node_at s.nodes c.args.page) (reads_same c.args.pages.now c.bring_pages.new.pages c.in_ok-bring_pages.ensures.reads steady) in
    c.if-not-gather_page.ensures.gathers all rest (subst (λ (n : Node g.row.K-Key.Denot). Gathers order c.args.gather.now all (map entry_of n.pairs ++ rest)) (sym same) was)

pub returns-clause-moves : goal.returns-clause-moves
returns-clause-moves g c = λ steady i n here.
    let order = entry_cmp (record { cmp = g.K.Key.Ord.cmp; overlaps = g.K.Key.Shape.overlap; within = g.K.Key.Shape.inside }) in
    let f = format_of g.K.KeyClass in
    let old = g.P.Pages.store c.args.pages.now in
    let page = c.args.page in
    let same : node_of f c.page-node.result.now ≡ node_at old.nodes page =
    c.page-node.ensures.node ∙ ap (λ (s : Store g.row.K-Key.Denot). node_at s.nodes page) (reads_same c.args.pages.now c.bring_pages.new.pages c.in_ok-bring_pages.ensures.reads steady) in
    c.meet_page.ensures i n here
    ∙ ap (λ (m : Node g.row.K-Key.Denot). met (is_noted order n) (map entry_of m.pairs) (stage_at c.come_to_page.new.stages i)) same
    ∙ ap (met (is_noted order n) (map entry_of (node_at old.nodes page).pairs)) (c.come_to_page.ensures i n here)

pub returns-clause-right : goal.returns-clause-right
returns-clause-right g c = λ steady.
    let f = format_of g.K.KeyClass in
    let old = g.P.Pages.store c.args.pages.now in
    let page = c.args.page in
    let same : node_of f c.page-node.result.now ≡ node_at old.nodes page =
    c.page-node.ensures.node ∙ ap (λ (s : Store g.row.K-Key.Denot). node_at s.nodes page) (reads_same c.args.pages.now c.bring_pages.new.pages c.in_ok-bring_pages.ensures.reads steady) in
    search rules
