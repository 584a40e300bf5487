use Rattle.std.proofs.Common.{◌≡◌, ◌≤◌, Some, length, arith, rules}
use Rattle.std.specs.Prelude.{slice_get}
use Rattle.gx_node.specs.Reading.{format_of}
use Rattle.gx_node.specs.Trees.{Child}
use Rattle.gx_node.specs.Store.{node_of, node_at}
use Rattle.gx_legality.proofs.Children.{node_level, child_of_node, child_fits, child_fails, reads_same}
use Rattle.gx_legality.proofs.node.test_child.Goals as goal
use Rattle.gx_legality.proofs.node.test_child.Goals.{then-child-lt2-via-then-child-lt2, then-child-lt2-via-else-child-lt2+then-used-child}

pub returns-then-child-lt2-clause-found : goal.returns-then-child-lt2-clause-found
returns-then-child-lt2-clause-found g c = λ steady.
    let f = format_of g.K.KeyClass in
    let store = g.P.Pages.store c.args.pages.now in
    let node = node_at store.nodes c.args.page in
    let child : Child g.row.K-Key.Denot = record { key = c.in-Some.entry.0; page = c.in-Some.entry.1 } in
    let read : slice_get (node_of f c.page-node.result.now).children c.args.slot ≡ Some child = search rules in
    let at = child_of_node (node_of f c.page-node.result.now) node c.args.slot child c.page-node.ensures.node read in
    let bad : (2 ≤ child.page) × (child.page ≤ length store.nodes) → ⊥ = λ fits. (elim c.then-child-lt2.branch [
      | then-child-lt2-via-then-child-lt2 w ↦ omega arith
      | then-child-lt2-via-else-child-lt2+then-used-child w ↦ omega arith
    ]) in
    (c.requires.used, (child, at, bad))

pub returns-in-Ok-clause-fits : goal.returns-in-Ok-clause-fits
returns-in-Ok-clause-fits g c = λ steady other is.
    let f = format_of g.K.KeyClass in
    let old = g.P.Pages.store c.args.pages.now in
    let new = g.P.Pages.store c.bring_pages.new.pages in
    let node = node_at old.nodes c.args.page in
    let child : Child g.row.K-Key.Denot = record { key = c.in-Some.entry.0; page = c.in-Some.entry.1 } in
    let read : slice_get (node_of f c.page-node.result.now).children c.args.slot ≡ Some child = search rules in
    let at = child_of_node (node_of f c.page-node.result.now) node c.args.slot child c.page-node.ensures.node read in
    let level : c.level-level.result ≡ node.level = search (rules, node_level) in
    let low : 2 ≤ child.page = c.if-child-lt2.false in
    let high : child.page ≤ length old.nodes = omega arith in
    child_fits _ old new c.args.page c.args.slot c.level-level.result child other (node_of f c.page.result.now)
    (reads_same c.args.pages.now c.bring_pages.new.pages c.in_ok-bring_pages.ensures.reads steady) c.page.ensures.node level at is low high (c.in-Ok.ensures.fits c.args._most)

pub returns-in-Err-clause-found : goal.returns-in-Err-clause-found
returns-in-Err-clause-found g c = λ steady.
    let f = format_of g.K.KeyClass in
    let old = g.P.Pages.store c.args.pages.now in
    let new = g.P.Pages.store c.bring_pages.new.pages in
    let node = node_at old.nodes c.args.page in
    let child : Child g.row.K-Key.Denot = record { key = c.in-Some.entry.0; page = c.in-Some.entry.1 } in
    let read : slice_get (node_of f c.page-node.result.now).children c.args.slot ≡ Some child = search rules in
    let at = child_of_node (node_of f c.page-node.result.now) node c.args.slot child c.page-node.ensures.node read in
    let level : c.level-level.result ≡ node.level = search (rules, node_level) in
    child_fails _ old new c.args.page c.args.slot c.level-level.result child (node_of f c.page.result.now) c.in-Err.rule
    (reads_same c.args.pages.now c.bring_pages.new.pages c.in_ok-bring_pages.ensures.reads steady) c.page.ensures.node level at c.requires.used (c.in-Err.ensures.fails c.args._most)
