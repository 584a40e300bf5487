use Rattle.std.proofs.Common.{◌≡◌, ◌<◌, subst}
use Rattle.std.specs.Prelude.{◌^◌}
use Rattle.gx_opening.specs.Standing.{limits_of}
use Rattle.gx_lives.proofs.laws.Fitting.{fit_of}
use Rattle.gx_lives.proofs.Undamaged.{formatted_so, only_fails}
use Rattle.gx_lives.proofs.laws.an_opening_finds_no_damage.Goals as goal

pub returns : goal.returns
returns g c = λ p allowed m old new why bears refused.
    let code = g.K.KeyClass.CLASS in
    let few : code < 2 ^ 16 = subst (λ n. n < 2 ^ 16) c.CLASS.ensures c.is_class.ensures in
    let lawful = c.a_class_is_lawful.ensures (limits_of p) allowed.range.least_entries in
    let state = g.D.SectorDisk.state in
    let formatted = formatted_so _ g.K.ReadKeys.is_proper g.K.ReadKeys.said g.K.KeyClass state p lawful m (state old) bears code allowed (fit_of code p few allowed) in
    only_fails _ g.K.ReadKeys.is_proper g.K.ReadKeys.said g.K.KeyClass state p lawful m (state old) bears code formatted (new ≡ old) (state new) why refused
