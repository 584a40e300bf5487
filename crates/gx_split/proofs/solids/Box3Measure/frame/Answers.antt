use Rattle.std.proofs.Common.{All, take, subst}
use Rattle.std.proofs.lemmas.List.{take_more, take_all}
use Rattle.std.proofs.lemmas.List.Elements.{All-nil, All-push, All-weaker}
use Rattle.gx_split.specs.Frames.{IsInSolidFrame}
use Rattle.gx_split.proofs.solids.Box3Measure.frame.Goals as goal

pub loop-key-init : goal.loop-key-init
loop-key-init c = All-nil (IsInSolidFrame _)

pub loop-key-preserved : goal.loop-key-preserved
loop-key-preserved c =
    let frame = c.framed-frame.result in
    let before = take c.loop-key.key-index c.args.keys.now in
    rw (take_more c.args.keys.now c.loop-key.key-index c.key-item.result c.loop-key-test.true)
    (All-push (IsInSolidFrame frame) before _ (All-weaker (IsInSolidFrame c.loop-key.frame) (IsInSolidFrame frame) c.framed-frame.ensures.others before c.loop-key.invariant)
    (subst (IsInSolidFrame frame) c.key-item.is c.framed-frame.ensures.this))

pub returns : goal.returns
returns c = subst (All (IsInSolidFrame c.loop-key.frame)) (take_all c.loop-key.key-index c.args.keys.now c.loop-key-test.false) c.loop-key.invariant
