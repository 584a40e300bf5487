use Rattle.std.proofs.Common.{inr, refl}
use Rattle.std.proofs.lemmas.Result.{err_from_is_err_and}
use Rattle.gx_machine.specs.Keys.{Members}
use Rattle.gx_node.specs.Keyed.{rules_of}
use Rattle.gx_node.specs.Store.{tree_of}
use Rattle.gx_legality.specs.Placing.{IsOutOfPlace}
use Rattle.gx_legality.specs.declared.fault.Rule.TheVariants.{PairOutOfPlace}
use Rattle.gx_legality.proofs.Joined.{found_breaks, with_pairs}
use Rattle.gx_legality.proofs.Sought.{all_placed, one_missed}
use Rattle.gx_legality.proofs.legality.test_leaves.Goals as goal

pub returns-in_err-test_pairs-clause-found : goal.returns-in_err-test_pairs-clause-found
returns-in_err-test_pairs-clause-found g c = λ steady legal.
    let p = err_from_is_err_and c.from_residual.result c.from_residual.ensures.1 in
    rw (p.1, p.2) (found_breaks _ (tree_of (g.P.Pages.store c.args.pages.now)) c.args.notes.now c.in_err-test_pairs.field-0.0
    (c.in_err-test_pairs.ensures.found steady legal.shape.chain (λ p used. (legal.pages p used).room)))

pub returns-in-Ok-clause-legal : goal.returns-in-Ok-clause-legal
returns-in-Ok-clause-legal g c = λ steady legal.
    with_pairs _ (tree_of (g.P.Pages.store c.args.pages.now)) legal (c.in_ok-test_pairs.ensures.single steady legal.shape.chain (λ p used. (legal.pages p used).room))

pub returns-in-Ok-clause-placed : goal.returns-in-Ok-clause-placed
returns-in-Ok-clause-placed g c = λ steady legal.
    all_placed g.K.Key.Ord.cmp g.K.Key.Shape.overlap g.K.Key.Shape.inside c.args.most (tree_of (g.P.Pages.store c.args.pages.now)) c.args.notes.now
    c.args.stages.now c.test_pairs.new.stages
    (with_pairs _ (tree_of (g.P.Pages.store c.args.pages.now)) legal (c.in_ok-test_pairs.ensures.single steady legal.shape.chain (λ p used. (legal.pages p used).room)))
    c.requires.ahead (c.in_ok-test_pairs.ensures.moves steady legal.shape.chain) c.in-Ok.ensures.found

pub returns-in-Err-clause-found : goal.returns-in-Err-clause-found
returns-in-Err-clause-found g c = λ steady legal.
    let shape : Members g.row.K-Key.Denot = record { partial_cmp = g.K.Key.PartialOrd.partial_cmp; eq = g.K.Key.PartialEq.eq; cmp = g.K.Key.Ord.cmp; overlap = g.K.Key.Shape.overlap; inside = g.K.Key.Shape.inside } in
    let whole = with_pairs (rules_of shape c.args.most) (tree_of (g.P.Pages.store c.args.pages.now)) legal (c.in_ok-test_pairs.ensures.single steady legal.shape.chain (λ p used. (legal.pages p used).room)) in
    let out : IsOutOfPlace (rules_of shape c.args.most) (tree_of (g.P.Pages.store c.args.pages.now)) c.args.notes.now c.in-Err.leaf PairOutOfPlace = (
      refl,
      one_missed g.K.Key.Ord.cmp g.K.Key.Shape.overlap g.K.Key.Shape.inside c.args.most (tree_of (g.P.Pages.store c.args.pages.now)) c.args.notes.now
          c.args.stages.now c.test_pairs.new.stages c.in-Err.leaf whole c.requires.ahead (c.in_ok-test_pairs.ensures.moves steady legal.shape.chain) c.in-Err.ensures.refused,
    ) in
    inr (whole, out)
