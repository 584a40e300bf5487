use Rattle.std.proofs.Common.{inl, inr}
use Rattle.gx_commands.proofs.Over.{dumps_over}
use Rattle.gx_commands.proofs.dumping.dump_over.Goals as goal

pub returns-in-Ok : goal.returns-in-Ok
returns-in-Ok g c =
    inr (record {
      engine = c.in-Ok.engine;
      opening = c.in-Ok.ensures;
      dump = dumps_over _ _ g.K.ReadKeys.is_proper g.K.ReadKeys.said g.K.KeyClass _ c.in-Ok.engine c.new-index.result c.new-index.ensures _ _ _ _ c.dump_index.ensures;
    })

pub returns-in-Err : goal.returns-in-Err
returns-in-Err g c = inl (record { refused = c.in-Err.refused; opening = c.in-Err.ensures; told = c.refuse_opening.ensures })
