use Rattle.std.proofs.Common.{All, take, subst}
use Rattle.std.proofs.lemmas.List.{take_more, take_all}
use Rattle.std.proofs.lemmas.List.Elements.{All-nil, All-push, All-weaker}
use Rattle.gx_split.specs.Frames.{IsInFrame}
use Rattle.gx_split.proofs.boxes.Box2Measure.frame.Goals as goal

pub loop-key-init : goal.loop-key-init
loop-key-init c = All-nil (IsInFrame _)

pub loop-key-preserved : goal.loop-key-preserved
loop-key-preserved c =
    let frame = c.framed-frame.result in
    let before = take c.loop-key.key-index c.args.keys.now in
    rw (take_more c.args.keys.now c.loop-key.key-index c.key-item.result c.loop-key-test.true)
    (All-push (IsInFrame frame) before _ (All-weaker (IsInFrame c.loop-key.frame) (IsInFrame frame) c.framed-frame.ensures.others before c.loop-key.invariant)
    (subst (IsInFrame frame) c.key-item.is c.framed-frame.ensures.this))

pub returns : goal.returns
returns c = subst (All (IsInFrame c.loop-key.frame)) (take_all c.loop-key.key-index c.args.keys.now c.loop-key-test.false) c.loop-key.invariant
