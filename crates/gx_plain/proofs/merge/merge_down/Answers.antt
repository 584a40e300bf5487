use Rattle.std.proofs.lemmas.Grind.{common_steps}
use Rattle.std.proofs.Common.{◌≡◌, ℕ, ◌+◌, ◌-◌, ◌++◌, take, drop, length, subst, arith, refl}
use Rattle.std.specs.Prelude.{Some, slice_get}
use Rattle.std.proofs.lemmas.Option.{slice_get_read}
use Rattle.gx_machine.specs.Keys.{keys, IsLawful}
use Rattle.gx_machine.specs.Sets.{including_all}
use Rattle.gx_plain.proofs.merge.Merging.{front_in_order, front_lacks, turned}
use Rattle.gx_plain.proofs.merge.merge_down.Goals as goal

pub put_last-at-requires-clause-in_order : goal.put_last-at-requires-clause-in_order
put_last-at-requires-clause-in_order g c =
    let k = keys g.B.Ord.cmp g.B.Shape.overlap g.B.Shape.inside in
    let lawful : IsLawful k = record { total = g.met.B.Ord.total; exact = g.met.B.Shape.same } in
    front_in_order k lawful c.args.set.now c.loop-left.set c.args.count c.loop-left.end c.loop-left.invariant.0 c.loop-left.invariant.2 c.requires.in_order

pub put_last-at-requires-clause-lacks : goal.put_last-at-requires-clause-lacks
put_last-at-requires-clause-lacks g c =
    let k = keys g.B.Ord.cmp g.B.Shape.overlap g.B.Shape.inside in
    let lawful : IsLawful k = record { total = g.met.B.Ord.total; exact = g.met.B.Shape.same } in
    let here : slice_get c.args.more.now (c.loop-left.left - 1) ≡ Some c.index-more-left.result =
    slice_get_read c.args.more.now (length c.args.more.now) (c.loop-left.left - 1) c.index-more-left.result refl
    (omega (arith, c.loop-left-test.true, c.loop-left.invariant.1)) c.index-more-left.is in
    front_lacks k lawful c.args.set.now c.loop-left.set c.args.more.now c.args.count c.loop-left.end (c.loop-left.left - 1) c.index-more-left.result
    c.loop-left.invariant.0 c.loop-left.invariant.2 c.requires.lacks here

pub loop-left-preserved : goal.loop-left-preserved
loop-left-preserved g c =
    let k = keys g.B.Ord.cmp g.B.Shape.overlap g.B.Shape.inside in
    let lawful : IsLawful k = record { total = g.met.B.Ord.total; exact = g.met.B.Shape.same } in
    let one_more : c.loop-left.left ≡ c.loop-left.left - 1 + 1 = omega (arith, c.loop-left-test.true) in
    let P : ℕ → Type 0 = λ n. including_all k c.args.more.now (take c.args.count c.args.set.now)
    ≡ including_all k (take n c.args.more.now) (take c.loop-left.end c.args.set.now) ++ drop (c.loop-left.end + n) c.loop-left.set in
    let turn = turned k lawful c.args.more.now c.args.set.now c.loop-left.set c.put_last-at.new.set
    (including_all k c.args.more.now (take c.args.count c.args.set.now)) (c.loop-left.left - 1) c.loop-left.end c.put_last-at.result
    c.put_last-at.ensures.bound c.loop-left.invariant.2 c.put_last-at.ensures.front c.put_last-at.ensures.put (subst P one_more c.loop-left.invariant.3) in
    (omega (arith, c.put_last-at.ensures.bound, c.loop-left.invariant.0), omega (arith, c.loop-left.invariant.1), turn.0, turn.1)

pub loop-left-init : goal.loop-left-init
loop-left-init g c = grind (arith, common_steps)

pub returns : goal.returns
returns g c = grind (arith, common_steps)
