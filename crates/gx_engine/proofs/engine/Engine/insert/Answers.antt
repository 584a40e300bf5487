use Rattle.gx_engine.proofs.writes.Moves.{insert_writes, so_moves}
use Rattle.gx_engine.proofs.engine.Engine.insert.Goals as goal

pub returns-in-Open-default-Descends-clause-moves : goal.returns-in-Open-default-Descends-clause-moves
returns-in-Open-default-Descends-clause-moves g c l =
    so_moves _ _ _ _ _ _ c.args.session c.args.self.now c.descend.new.self c.descend.result _ _ (c.descend.ensures.moves l) (insert_writes c.args.session c.args.entry c.descend.result)

pub returns-in-Open-default-Seeks-clause-moves : goal.returns-in-Open-default-Seeks-clause-moves
returns-in-Open-default-Seeks-clause-moves g c l =
    so_moves _ _ _ _ _ _ c.args.session c.args.self.now c.insert_at.new.self c.insert_at.result _ _ (c.insert_at.ensures.moves l) (insert_writes c.args.session c.args.entry c.insert_at.result)
