use Rattle.std.proofs.Common.{refl}
use Rattle.gx_durable.specs.Classes.{reading_by}
use Rattle.gx_record.specs.Rec as rec
use Rattle.gx_record.specs.declared.sizes.TheConstants.{COUNTERS_RECORD}
use Rattle.gx_migrate.proofs.head.HeadRecords.{counters_short, puts_one, some_put}
use Rattle.gx_migrate.proofs.head.put_counters.Goals as goal

pub returns-clause-puts : goal.returns-clause-puts
returns-clause-puts g c =
    puts_one (reading_by g.K.ReadKeys.said g.K.KeyClass) (rec.Counters c.number.result c.counter.result c.used.result c.next.result) _ COUNTERS_RECORD c.args.head.now c.put_record.new.head tt
    (rw (c.number.ensures, c.counter.ensures, c.used.ensures, c.next.ensures) refl) (counters_short c.number.result c.counter.result c.used.result c.next.result) c.put_record.result c.put_record.ensures

pub returns-clause-some : goal.returns-clause-some
returns-clause-some g c =
    some_put (reading_by g.K.ReadKeys.said g.K.KeyClass) c.number.result c.counter.result c.used.result c.next.result c.args.head.now c.put_record.new.head c.put_record.result c.put_record.ensures
