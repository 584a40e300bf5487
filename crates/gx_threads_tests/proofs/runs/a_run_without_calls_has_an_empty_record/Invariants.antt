use Rattle.std.specs.Prelude.{◌≡◌}
use Rattle.gx_machine.specs.Machine.{fresh_machine}
use Rattle.gx_threads_tests.proofs.runs.a_run_without_calls_has_an_empty_record.Given as goal

abbrev pub ghosts-empty-R-Ledger : goal.ghosts-empty-R-Ledger
ghosts-empty-R-Ledger g a = record { name = a.blank.name; parts = a.blank.parts }

abbrev pub ghosts-empty-R-Run : goal.ghosts-empty-R-Run
ghosts-empty-R-Run g a = record { starts = λ m. m ≡ fresh_machine }
