use Rattle.gx_record.specs.Seen.{rec_of}
use Rattle.gx_durable.proofs.TurnRunning.{head_grows, head_up, head_found}
use Rattle.gx_durable.proofs.calls.put_first.Goals as goal

pub returns-clause-head : goal.returns-clause-head
returns-clause-head g c = head_grows g.M.Spelled.reading (rec_of c.args.logged.now) c.args.log.now _ c.put_first.result c.requires.in_range c.put_first.ensures.puts

pub returns-clause-up : goal.returns-clause-up
returns-clause-up g c = λ l.
    head_up g.M.Spelled.reading (rec_of c.args.logged.now) c.args.log.now _ (g.M.Meaning.known l) c.put_first.result c.requires.idle c.put_first.ensures.puts c.put_first.ensures.on

pub returns-clause-found : goal.returns-clause-found
returns-clause-found g c = λ l.
    head_found g.M.Spelled.reading (rec_of c.args.logged.now) c.args.log.now _ (g.M.Meaning.known l) c.put_first.result c.requires.idle c.put_first.ensures.puts c.put_first.ensures.may_turn
