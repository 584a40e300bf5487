use Rattle.std.proofs.Common.{◌<◌, length, arith, rules}
use Rattle.gx_legality.specs.Placing.{stage_at}
use Rattle.gx_legality.proofs.notes.Noted.{meets_one}
use Rattle.gx_legality.proofs.notes.meet_entry.Goals as goal

pub returns-in-Some : goal.returns-in-Some
returns-in-Some g c =
    let stages = c.args.stages.now in
    let long = c.requires.as_many in
    let within = c.in-Some.ensures.0 in
    let low : c.in-Some.at < length stages = omega (arith, long, within) in
    meets_one g.E.Ord.cmp g.met.E.Ord.total c.args.notes.now stages c.args.entry.now c.in-Some.at c.meet.result (stage_at stages c.in-Some.at) low
    (search rules) (search rules) c.in-Some.ensures.1
