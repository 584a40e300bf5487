use Rattle.std.proofs.Common.{map}
use Rattle.gx_front.proofs.Storming.{awaits_small, few_calls, stormed}
use Rattle.gx_front.proofs.program.gist.Goals as goal

pub tell_storm-requires-clause-sessions : goal.tell_storm-requires-clause-sessions
tell_storm-requires-clause-sessions g c = λ κs. λ live.
    (awaits_small (λ given. map g.S.AsStr.text given.now) c.in-Err.storm _ _ c.args.words c.in-Err.ensures.storm).sessions

pub tell_storm-requires-clause-calls : goal.tell_storm-requires-clause-calls
tell_storm-requires-clause-calls g c = λ κs. λ live.
    few_calls c.in-Err.storm (awaits_small (λ given. map g.S.AsStr.text given.now) c.in-Err.storm _ _ c.args.words c.in-Err.ensures.storm)

pub returns-in-Err : goal.returns-in-Err
returns-in-Err g c =
    stormed (λ given. map g.S.AsStr.text given.now) c.in-Err.storm _ _ _ _ _ _ _ _ c.args.words _ c.tell_storm.result c.in-Err.ensures.storm c.tell_storm.ensures
