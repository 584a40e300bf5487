use Rattle.gx_engine.proofs.engine.Engine.split_here.Goals as goal

pub returns-then-page-eq1-clause-moves : goal.returns-then-page-eq1-clause-moves
returns-then-page-eq1-clause-moves g c entry at full swept l = c.split_top.ensures.moves entry at full l

pub returns-else-page-eq1-clause-moves : goal.returns-else-page-eq1-clause-moves
returns-else-page-eq1-clause-moves g c entry at full swept l = c.split_below.ensures.moves entry at full l
