use Rattle.std.proofs.Common.{refl}
use Rattle.gx_c.proofs.drain.Draining.{tells_put}
use Rattle.gx_c.proofs.drain.tell.Goals as goal

pub returns-then-status-ne0 : goal.returns-then-status-ne0
returns-then-status-ne0 c =
    tells_put c.args.calls.now c.args.calls.now c.front.result c.put-status.new.call c.args.bytes.now c.put-status.new.bytes c.put-status.result c.front.ensures c.put-status.ensures
    (λ is. absurd (c.if-status-ne0.true is)) (λ no. refl)

pub returns : goal.returns
returns c =
    tells_put c.args.calls.now c.pop.new.self c.front.result c.put-status.new.call c.args.bytes.now c.put-status.new.bytes c.put-status.result c.front.ensures c.put-status.ensures
    (λ is. c.pop.ensures) (λ no. absurd (no c.if-status-ne0.false))
