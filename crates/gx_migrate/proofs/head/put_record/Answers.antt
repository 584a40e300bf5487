use Rattle.gx_durable.specs.Classes.{reading_by}
use Rattle.gx_record.specs.Seen.{rec_of}
use Rattle.gx_migrate.proofs.head.HeadRecords.{record_put}
use Rattle.gx_migrate.proofs.head.put_record.Goals as goal

pub returns-then-push : goal.returns-then-push
returns-then-push g c =
    record_put (reading_by g.K.ReadKeys.said g.K.KeyClass) (rec_of c.args.logged.now) c.args.head.now c.push.new.self c.requires c.if-push.ensures.put
