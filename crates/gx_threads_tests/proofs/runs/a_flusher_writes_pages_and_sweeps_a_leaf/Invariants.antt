use Rattle.std.specs.Prelude.{◌≡◌}
use Rattle.gx_machine.specs.Machine.{fresh_machine}
use Rattle.gx_threads_tests.proofs.runs.a_flusher_writes_pages_and_sweeps_a_leaf.Given as goal

abbrev pub ghosts-flushed-R-Ledger : goal.ghosts-flushed-R-Ledger
ghosts-flushed-R-Ledger g a = record { name = a.blank.name; parts = a.blank.parts }

abbrev pub ghosts-flushed-R-Run : goal.ghosts-flushed-R-Run
ghosts-flushed-R-Run g a = record { starts = λ m. m ≡ fresh_machine }
