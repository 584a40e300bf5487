use Rattle.gx_lives.proofs.migrated.Begun.{begun}
use Rattle.gx_lives.proofs.migrated.a_migration_begins_a_life.Goals as goal

pub returns : goal.returns
returns g c = λ old new told honest is.
    begun _ g.K.ReadKeys.is_proper g.K.ReadKeys.said g.K.KeyClass g.E.SectorDisk.state c.a_class_is_lawful.ensures c.what_a_log_stands_for_can_be_listed.ensures.log
    (g.D.SectorDisk.state old) new told (g.met.E.SectorDisk.whole new honest) honest is
