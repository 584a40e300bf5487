use Rattle.std.proofs.Common.{◌<◌, subst}
use Rattle.std.specs.Prelude.{◌^◌}
use Rattle.gx_opening.specs.Standing.{limits_of}
use Rattle.gx_lives.proofs.laws.Fitting.{fit_of}
use Rattle.gx_lives.proofs.laws.Lived.{lived}
use Rattle.gx_lives.proofs.laws.every_life_is_the_machines.Goals as goal

pub returns : goal.returns
returns g c = λ p allowed turns m old new lives bears.
    let code = g.K.KeyClass.CLASS in
    let few : code < 2 ^ 16 = subst (λ n. n < 2 ^ 16) c.CLASS.ensures c.is_class.ensures in
    lived _ g.K.ReadKeys.is_proper g.K.ReadKeys.said g.K.KeyClass g.D.SectorDisk.state p (fit_of code p few allowed) (c.a_class_is_lawful.ensures (limits_of p) allowed.range.least_entries)
    g.met.D.SectorDisk.whole g.met.D.SectorDisk.counts_now g.met.D.SectorDisk.only_now turns m old new lives bears
