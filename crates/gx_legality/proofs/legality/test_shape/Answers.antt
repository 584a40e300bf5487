use Rattle.std.proofs.Common.{◌≡◌, ◌<◌, ℕ, length, arith, rules}
use Rattle.gx_node.specs.Trees.{parents}
use Rattle.gx_legality.specs.Marks.{marked}
use Rattle.std.proofs.lemmas.Result.{err_from_is_err_and}
use Rattle.gx_node.specs.Store.{tree_of}
use Rattle.gx_legality.specs.declared.fault.LegalityFault.TheVariants.{Broken}
use Rattle.gx_legality.proofs.Children.{held_before, reads_same, found_before}
use Rattle.gx_legality.proofs.Joined.{fits_before, shape_before}
use Rattle.gx_legality.proofs.legality.test_shape.Goals as goal

pub returns-in_err-test_nodes-clause-found : goal.returns-in_err-test_nodes-clause-found
returns-in_err-test_nodes-clause-found g c = λ steady.
    let p = err_from_is_err_and c.from_residual-in_err-test_nodes.result c.from_residual-in_err-test_nodes.ensures.1 in
    let first = c.in_ok-test_root.ensures.reads in
    rw (p.1, p.2) (found_before _ (g.P.Pages.store c.args.pages.now) (g.P.Pages.store c.test_root.new.pages) c.in_err-test_nodes.field-0.0
    (reads_same c.args.pages.now c.test_root.new.pages first steady) (c.in_err-test_nodes.ensures.found (first.still steady)))

pub returns-in-Ok-clause-fits : goal.returns-in-Ok-clause-fits
returns-in-Ok-clause-fits g c = λ steady.
    let first = c.in_ok-test_root.ensures.reads in
    fits_before _ (g.P.Pages.store c.args.pages.now) (g.P.Pages.store c.test_root.new.pages)
    (reads_same c.args.pages.now c.test_root.new.pages first steady) (c.in_ok-test_nodes.ensures.fits (first.still steady))

pub returns-in-Ok-clause-shape : goal.returns-in-Ok-clause-shape
returns-in-Ok-clause-shape g c = λ steady.
    let first = c.in_ok-test_root.ensures.reads in
    let mid = g.P.Pages.store c.test_root.new.pages in
    let still = first.still steady in
    let kept : length c.test_nodes.new.marks ≡ length c.args.marks.now = search rules in
    let named : (q : ℕ) → q < length c.test_nodes.new.marks → marked c.test_nodes.new.marks q ≡ parents (tree_of mid) q =
    λ q within. c.in_ok-test_nodes.ensures.parents still q (omega (arith, within, kept)) in
    shape_before (g.P.Pages.store c.args.pages.now) mid (reads_same c.args.pages.now c.test_root.new.pages first steady)
    (c.in-Ok.ensures.shape (tree_of mid) (c.in_ok-test_nodes.ensures.linked still) named)

pub returns-in-Err-clause-found : goal.returns-in-Err-clause-found
returns-in-Err-clause-found g c = λ steady.
    let first = c.in_ok-test_root.ensures.reads in
    let mid = g.P.Pages.store c.test_root.new.pages in
    let still = first.still steady in
    let kept : length c.test_nodes.new.marks ≡ length c.args.marks.now = search rules in
    let named : (q : ℕ) → q < length c.test_nodes.new.marks → marked c.test_nodes.new.marks q ≡ parents (tree_of mid) q =
    λ q within. c.in_ok-test_nodes.ensures.parents still q (omega (arith, within, kept)) in
    found_before {F = g.row.P-Fault.Denot} _ (g.P.Pages.store c.args.pages.now) mid (Broken c.in-Err.page c.in-Err.rule)
    (reads_same c.args.pages.now c.test_root.new.pages first steady) (c.in-Err.ensures.breaks _ (tree_of mid) (c.in_ok-test_nodes.ensures.linked still) named)

pub returns-in-Ok-clause-held : goal.returns-in-Ok-clause-held
returns-in-Ok-clause-held g c = λ p used.
    (let first = c.in_ok-test_root.ensures.reads in
    held_before c.args.pages.now c.test_root.new.pages p first (c.in_ok-test_nodes.ensures.held p (used.0, omega (arith, used.1, first.stays.used))))
