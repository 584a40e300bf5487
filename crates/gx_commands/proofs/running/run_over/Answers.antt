use Rattle.std.proofs.Common.{inl, inr, refl}
use Rattle.gx_commands.proofs.Over.{runs_over}
use Rattle.gx_commands.proofs.running.run_over.Goals as goal

pub returns-in-Ok : goal.returns-in-Ok
returns-in-Ok g c =
    inr (record {
      engine = c.in-Ok.engine;
      opening = c.in-Ok.ensures;
      script = runs_over _ _ g.K.ReadKeys.is_proper g.K.ReadKeys.said g.K.KeyClass _ c.in-Ok.engine c.new-index.result c.new-index.ensures c.new-watched.result _ _ _ _ _ _ c.new-watched.ensures c.run_watched.ensures;
    })

pub returns-in-Err : goal.returns-in-Err
returns-in-Err g c = inl (record { refused = c.in-Err.refused; opening = c.in-Err.ensures; unread = refl; told = c.refuse_opening.ensures })
