use Rattle.gx_recovery.specs.Life.{kept_of, moves_of}
use Rattle.gx_recovery.proofs.Moves.{step_moves, life_healthy, life_moves, moves_rise}
use Rattle.gx_recovery.proofs.laws.a_life_moves_the_kept_sets.Goals as goal

pub returns-clause-step : goal.returns-clause-step
returns-clause-step g c = λ d l old new step h is. step_moves (g.M.Meaning.known d) l old new step h is

pub returns-clause-healthy : goal.returns-clause-healthy
returns-clause-healthy g c = λ d l old new steps h life. life_healthy (g.M.Meaning.known d) l steps old new h life

pub returns-clause-moves : goal.returns-clause-moves
returns-clause-moves g c = λ d l old new steps h life. life_moves (g.M.Meaning.known d) l steps old new h life

pub returns-clause-durable : goal.returns-clause-durable
returns-clause-durable g c = λ d l old new steps h life.
    moves_rise (moves_of (g.M.Meaning.known d) old steps new life) (kept_of (g.M.Meaning.known d) old) (kept_of (g.M.Meaning.known d) new) (life_moves (g.M.Meaning.known d) l steps old new h life)
