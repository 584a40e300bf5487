use Rattle.gx_record.specs.Seen.{rec_of}
use Rattle.gx_durable.proofs.Appending.{append_placed, append_stamped, append_up}
use Rattle.gx_durable.proofs.calls.append.Goals as goal

pub returns-clause-up : goal.returns-clause-up
returns-clause-up g c = λ d.
    append_up (g.M.Meaning.known d) g.M.Spelled.reading (rec_of c.args.logged.now) c.args.log.now _ c.append.result c.requires.in_range c.requires.place c.append.ensures.appends

pub returns-clause-stamped : goal.returns-clause-stamped
returns-clause-stamped g c = append_stamped g.M.Spelled.reading (rec_of c.args.logged.now) c.args.log.now _ c.append.result c.append.ensures.appends

pub returns-clause-placed : goal.returns-clause-placed
returns-clause-placed g c = append_placed (rec_of c.args.logged.now) c.args.log.now _ c.append.result c.append.ensures.appends
