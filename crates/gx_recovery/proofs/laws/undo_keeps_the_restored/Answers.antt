use Rattle.gx_recovery.proofs.Undo.{restores, leaves_restored}
use Rattle.gx_recovery.proofs.laws.undo_keeps_the_restored.Goals as goal

pub returns-clause-restores : goal.returns-clause-restores
returns-clause-restores g c = λ d l log t entry mark first leaf said old new own exact. restores (g.M.Meaning.known d) l log t entry mark first leaf said old new own exact

pub returns-clause-others : goal.returns-clause-others
returns-clause-others g c = λ d l log t entry mark first leaf said old new own exact e restored.
    leaves_restored (g.M.Meaning.known d) l log t entry mark first leaf said old new own exact e restored
