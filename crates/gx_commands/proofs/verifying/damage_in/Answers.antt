use Rattle.std.proofs.Common.{refl}
use Rattle.gx_commands.proofs.verifying.Shown.{found_in}
use Rattle.gx_commands.proofs.verifying.damage_in.Goals as goal

pub returns-in-Some : goal.returns-in-Some
returns-in-Some g c = found_in (record { partial_cmp = g.K.Key.PartialOrd.partial_cmp; eq = g.K.Key.PartialEq.eq; cmp = g.K.Key.Ord.cmp; overlap = g.K.Key.Shape.overlap; inside = g.K.Key.Shape.inside }) g.K.ReadKeys.is_proper g.K.ReadKeys.said g.K.KeyClass _ _ c.args.copy c.in-Some.copy c.in-Some.is _ (c.examine.ensures.damaged refl)
