use Rattle.gx_engine.proofs.heads.Notes.{head_came, head_stops, some_head}
use Rattle.gx_engine.proofs.heads.put_head.Goals as goal

pub returns-in_err-put_head-clause-puts : goal.returns-in_err-put_head-clause-puts
returns-in_err-put_head-clause-puts g c =
    head_stops _ c.args.sessions.now c.args.storage.now c.put_head.new.self c.put_head.new.self c.latest.result c.counter.result c.used.result c.next.result
    c.latest.ensures c.counter.ensures c.used.ensures c.next.ensures _ c.from_residual.result c.from_residual.ensures.1 c.in_err-put_head.ensures.puts.1

pub returns-clause-puts : goal.returns-clause-puts
returns-clause-puts g c =
    head_came _ c.args.sessions.now c.args.storage.now c.put_head.new.self c.put_touches.new.storage c.latest.result c.counter.result c.used.result c.next.result
    c.latest.ensures c.counter.ensures c.used.ensures c.next.ensures c.in_ok-put_head.ensures.puts.0 c.in_ok-put_head.ensures.head c.put_touches.result c.put_touches.ensures.puts

pub returns-clause-some : goal.returns-clause-some
returns-clause-some g c = some_head _ _ _ _ _ _ _ c.in_ok-put_head.ensures.puts.0 c.put_touches.result c.put_touches.ensures.longer
