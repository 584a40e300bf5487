use Rattle.std.proofs.Common.{rules, arith}
use Rattle.gx_durable.specs.Classes.{reading_by}
use Rattle.gx_migrate.proofs.head.HeadRecords.{head_put}
use Rattle.gx_migrate.proofs.head.renewed_head.Goals as goal

pub returns-clause-records : goal.returns-clause-records
returns-clause-records g c =
    head_put (reading_by g.K.ReadKeys.said g.K.KeyClass) c.args.analysis.now.told _ _ c.in-Ok.head c.put_counters.new.head c.put_notes.new.head (search rules) c.in_ok-put_counters.ensures.puts
    (rw c.touched.ensures at c.in_ok-put_notes.ensures.puts)

pub returns-clause-some : goal.returns-clause-some
returns-clause-some g c = (let one = c.in_ok-put_counters.ensures.some in let more = c.in_ok-put_notes.ensures.puts.longer in omega (arith, one, more))
