use Rattle.std.proofs.Common.{◌≡◌, ◌≤◌, ◌∙◌, arith, rules}
use Rattle.std.proofs.lemmas.Result.{err_from_is_err_and}
use Rattle.gx_node.specs.Trees.{size}
use Rattle.gx_node.specs.Store.{node_at, tree_of}
use Rattle.gx_legality.proofs.Children.{reads_same, reads_more, found_before, fits_more, node_fits}
use Rattle.gx_legality.proofs.node.test_node.Goals as goal

pub returns-in_err-test_child-clause-found : goal.returns-in_err-test_child-clause-found
returns-in_err-test_child-clause-found g c = λ steady.
    let p = err_from_is_err_and c.from_residual-in_err-test_child.result c.from_residual-in_err-test_child.ensures.1 in
    let reads = c.loop-slot.invariant.reads in
    rw (p.1, p.2) (found_before _ (g.P.Pages.store c.args.pages.now) (g.P.Pages.store c.loop-slot.pages) c.in_err-test_child.field-0.0
    (reads_same c.args.pages.now c.loop-slot.pages reads steady) (c.in_err-test_child.ensures.found (reads.still steady)))

pub loop-slot-preserved : goal.loop-slot-preserved
loop-slot-preserved g c =
    let reads = c.loop-slot.invariant.reads in
    let next = c.in_ok-test_child.ensures.reads in
    record {
      held = c.in_ok-test_child.ensures.held;
      reads = reads_more c.args.pages.now c.loop-slot.pages c.test_child.new.pages reads next;
      later = λ later fault why. c.loop-slot.invariant.later later fault (c.in_ok-test_child.ensures.later later fault why);
      told = c.in_ok-test_child.ensures.told ∙ c.loop-slot.invariant.told;
      fits = λ steady. fits_more _ (g.P.Pages.store c.args.pages.now) (g.P.Pages.store c.loop-slot.pages) c.args.page c.loop-slot.slot
          (reads_same c.args.pages.now c.loop-slot.pages reads steady) (c.loop-slot.invariant.fits steady) (c.in_ok-test_child.ensures.fits (reads.still steady));
    }

pub returns-clause-fits : goal.returns-clause-fits
returns-clause-fits g c = λ steady.
    let store = g.P.Pages.store c.args.pages.now in
    let node = node_at store.nodes c.args.page in
    let count : c.in_ok-count.count ≡ size node = c.in_ok-count.ensures.count steady in
    let ended : c.in_ok-count.count ≤ c.loop-slot.slot = search rules in
    node_fits _ (tree_of store) node c.loop-slot.slot (c.in_ok-count.ensures.fits steady) (c.in_ok-count.ensures.leaf steady)
    (c.in_ok-count.ensures.inner steady) (omega (arith, count, ended)) (c.loop-slot.invariant.fits steady)
