use Rattle.std.specs.Prelude.{◌≡◌}
use Rattle.gx_machine.specs.Machine.{fresh_machine}
use Rattle.gx_threads_tests.proofs.runs.a_seed_has_one_record_of_a_session.Given as goal

abbrev pub ghosts-alone-R-Ledger : goal.ghosts-alone-R-Ledger
ghosts-alone-R-Ledger g a = record { name = a.blank.name; parts = a.blank.parts }

abbrev pub ghosts-alone-R-Run : goal.ghosts-alone-R-Run
ghosts-alone-R-Run g a = record { starts = λ m. m ≡ fresh_machine }
