use Rattle.std.proofs.Common.{refl, []}
use Rattle.gx_opening.specs.Formatted.{IsAllowed}
use Rattle.gx_lives.specs.Lives.{Lies}
use Rattle.gx_lives.proofs.commands.OverDevices.{all_given}
use Rattle.gx_lives.proofs.commands.commands_are_one_life.Goals as goal

pub returns : goal.returns
returns g c = λ p of_class disk after commands new given.
    let allowed : IsAllowed g.K.KeyClass.CLASS p = record { range = new.formats.0; class_is = of_class } in
    let life = all_given _ _ g.K.ReadKeys.is_proper g.K.ReadKeys.said g.K.KeyClass _ disk (λ before old next command lived is.
    let run = c.an_index_lives_as_one_run.ensures p of_class disk new before (Lies old) lived in
    c.commands_are_lives.ensures p allowed run.machine old next command run.bears is) commands [] disk after refl given in
    (life, c.an_index_lives_as_one_run.ensures p of_class disk new life.turns (Lies after) life.lives)
