use Rattle.std.proofs.Common.{rules}
use Rattle.gx_machine.specs.Keys.{keys, IsLawful}
use Rattle.gx_plain.proofs.merge.Merging.{last_put}
use Rattle.gx_plain.proofs.merge.put_last.Goals as goal

pub returns-clause-put : goal.returns-clause-put
returns-clause-put g c =
    let k = keys g.B.Ord.cmp g.B.Shape.overlap g.B.Shape.inside in
    let lawful : IsLawful k = record { total = g.met.B.Ord.total; exact = g.met.B.Shape.same } in
    last_put k lawful c.args.more.now c.args.set.now c.put_behind.new.set c.args.left c.args.end c.gap-at.result c.args.e c.requires.more c.requires.entry
    (search rules) c.gap-at.ensures.below c.gap-at.ensures.before c.put_behind.ensures.tail
