use Rattle.std.proofs.lemmas.Grind.{common_steps}
use Rattle.std.proofs.Common.{OnOk, IfErr, arith, subst}
use Rattle.std.proofs.lemmas.Result.{err_from_is_err_and}
use Rattle.gx_node.specs.Legal.{Legal}
use Rattle.gx_node.specs.Lists.{Each}
use Rattle.gx_node.specs.Owner.{CountsFaults}
use Rattle.gx_node.specs.Trees.{Tree}
use Rattle.gx_node.specs.Keyed.{rules_of}
use Rattle.gx_node.specs.Store.{tree_of}
use Rattle.gx_legality.specs.Marks.{IsLegalButPairs}
use Rattle.gx_legality.specs.Owner.{IsFound, test_fails}
use Rattle.gx_legality.specs.Placing.{BreaksOrLeavesOut, IsPlaced}
use Rattle.gx_legality.proofs.Children.{reads_same}
use Rattle.gx_legality.proofs.Joined.{found_breaks, legal_before, on_ok}
use Rattle.gx_legality.proofs.legality.test_tree.Goals as goal

pub returns-clause-legal : goal.returns-clause-legal
returns-clause-legal g c = λ steady.
    let r = rules_of (record { partial_cmp = g.K.Key.PartialOrd.partial_cmp; eq = g.K.Key.PartialEq.eq; cmp = g.K.Key.Ord.cmp; overlap = g.K.Key.Shape.overlap; inside = g.K.Key.Shape.inside }) c.args.most in
    let shape = c.in_ok-test_shape.ensures in
    let same = reads_same c.args.pages.now c.test_shape.new.pages shape.reads steady in
    let legal : IsLegalButPairs r (tree_of (g.P.Pages.store c.args.pages.now)) = record { pages = shape.fits steady; root = shape.root steady; shape = shape.shape steady; counter = shape.counter } in
    legal_before r (g.P.Pages.store c.args.pages.now) (g.P.Pages.store c.test_shape.new.pages) same
    (λ (t : Tree g.row.K-Key.Denot). OnOk c.test_leaves.result (Legal r t)) (c.test_leaves.ensures.legal (shape.reads.still steady)) legal

pub returns-clause-placed : goal.returns-clause-placed
returns-clause-placed g c = λ steady.
    let r = rules_of (record { partial_cmp = g.K.Key.PartialOrd.partial_cmp; eq = g.K.Key.PartialEq.eq; cmp = g.K.Key.Ord.cmp; overlap = g.K.Key.Shape.overlap; inside = g.K.Key.Shape.inside }) c.args.most in
    let shape = c.in_ok-test_shape.ensures in
    let same = reads_same c.args.pages.now c.test_shape.new.pages shape.reads steady in
    let legal : IsLegalButPairs r (tree_of (g.P.Pages.store c.args.pages.now)) = record { pages = shape.fits steady; root = shape.root steady; shape = shape.shape steady; counter = shape.counter } in
    legal_before r (g.P.Pages.store c.args.pages.now) (g.P.Pages.store c.test_shape.new.pages) same
    (λ (t : Tree g.row.K-Key.Denot). OnOk c.test_leaves.result (Each (IsPlaced r t) c.args.notes.now)) (c.test_leaves.ensures.placed (shape.reads.still steady)) legal

pub returns-clause-found : goal.returns-clause-found
returns-clause-found g c = λ steady.
    let r = rules_of (record { partial_cmp = g.K.Key.PartialOrd.partial_cmp; eq = g.K.Key.PartialEq.eq; cmp = g.K.Key.Ord.cmp; overlap = g.K.Key.Shape.overlap; inside = g.K.Key.Shape.inside }) c.args.most in
    let shape = c.in_ok-test_shape.ensures in
    let same = reads_same c.args.pages.now c.test_shape.new.pages shape.reads steady in
    let legal : IsLegalButPairs r (tree_of (g.P.Pages.store c.args.pages.now)) = record { pages = shape.fits steady; root = shape.root steady; shape = shape.shape steady; counter = shape.counter } in
    legal_before r (g.P.Pages.store c.args.pages.now) (g.P.Pages.store c.test_shape.new.pages) same
    (λ (t : Tree g.row.K-Key.Denot). IfErr c.test_leaves.result (IsFound (BreaksOrLeavesOut r t c.args.notes.now))) (c.test_leaves.ensures.found (shape.reads.still steady)) legal

pub returns-in_err-test_shape-clause-found : goal.returns-in_err-test_shape-clause-found
returns-in_err-test_shape-clause-found g c = λ steady.
    let p = err_from_is_err_and c.from_residual.result c.from_residual.ensures.1 in
    rw (p.1, p.2) (found_breaks _ (tree_of (g.P.Pages.store c.args.pages.now)) c.args.notes.now c.in_err-test_shape.field-0.0 (c.in_err-test_shape.ensures.found steady))

pub returns-clause-held : goal.returns-clause-held
returns-clause-held g c = on_ok c.test_leaves.result c.in_ok-test_shape.ensures.held

pub test_shape-requires-clause-unmarked : goal.test_shape-requires-clause-unmarked
test_shape-requires-clause-unmarked g c = grind (arith, common_steps)

pub test_shape-requires-clause-unpassed : goal.test_shape-requires-clause-unpassed
test_shape-requires-clause-unpassed g c = grind (arith, common_steps)

pub returns-clause-why : goal.returns-clause-why
returns-clause-why g c = grind (arith, common_steps)

pub returns-clause-later : goal.returns-clause-later
returns-clause-later g c = grind (arith, common_steps)

pub returns-clause-told : goal.returns-clause-told
returns-clause-told g c =
    subst (λ n. CountsFaults (test_fails g.P.Pages.fails) n (g.P.Pages.faults c.test_leaves.new.pages) c.test_leaves.result) c.in_ok-test_shape.ensures.told c.test_leaves.ensures.told
