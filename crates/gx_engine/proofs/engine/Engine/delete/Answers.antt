use Rattle.gx_engine.proofs.writes.Moves.{delete_writes, so_moves}
use Rattle.gx_engine.proofs.engine.Engine.delete.Goals as goal

pub returns-in-Open-default-Seeks-clause-moves : goal.returns-in-Open-default-Seeks-clause-moves
returns-in-Open-default-Seeks-clause-moves g c l =
    so_moves _ _ _ _ _ _ c.args.session c.args.self.now c.delete_at.new.self c.delete_at.result _ _ (c.delete_at.ensures.moves l) (delete_writes c.args.session c.args.entry c.delete_at.result)
