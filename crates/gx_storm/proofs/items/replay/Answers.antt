use Rattle.std.proofs.Common.{arith}
use Rattle.gx_machine.specs.Keys.{keys}
use Rattle.gx_storm.proofs.items.Replaying.{holds_on, stops_here, replayed, cut_short}
use Rattle.gx_storm.proofs.items.replay.Goals as goal

pub loop-place-preserved : goal.loop-place-preserved
loop-place-preserved g c =
    holds_on (keys g.B.Ord.cmp g.B.Shape.overlap g.B.Shape.inside) c.args.items.now c.args.index.now c.loop-place.place (omega (arith, c.loop-place-test.true)) c.loop-place.asking c.index-items-place.result c.index-items-place.is c.loop-place.index c.fits.new.index c.loop-place.invariant
    c.in_ok-fits.field-0 c.in_ok-fits.ensures
    c.if-not-branch.false c.asked_of-asking.result c.asked_of-asking.ensures

pub returns-then-not-branch : goal.returns-then-not-branch
returns-then-not-branch g c =
    stops_here (keys g.B.Ord.cmp g.B.Shape.overlap g.B.Shape.inside) c.args.items.now c.args.index.now c.loop-place.place (omega (arith, c.loop-place-test.true)) c.loop-place.asking c.index-items-place.result c.index-items-place.is c.loop-place.index c.fits.new.index c.loop-place.invariant
    c.in_ok-fits.field-0 c.in_ok-fits.ensures
    c.if-not-branch.true

pub returns-then-may_end : goal.returns-then-may_end
returns-then-may_end g c =
    replayed (keys g.B.Ord.cmp g.B.Shape.overlap g.B.Shape.inside) c.args.items.now c.args.index.now c.loop-place.place c.loop-place-test.false c.loop-place.auto.place-end c.loop-place.asking c.loop-place.index c.may_end.new.index c.loop-place.invariant c.may_end.result
    c.may_end.ensures c.if-may_end.true

pub returns-else-may_end : goal.returns-else-may_end
returns-else-may_end g c =
    cut_short (keys g.B.Ord.cmp g.B.Shape.overlap g.B.Shape.inside) c.args.items.now c.args.index.now c.loop-place.place c.loop-place-test.false c.loop-place.auto.place-end c.loop-place.asking c.loop-place.index c.may_end.new.index c.loop-place.invariant c.may_end.result
    c.may_end.ensures c.if-may_end.false
