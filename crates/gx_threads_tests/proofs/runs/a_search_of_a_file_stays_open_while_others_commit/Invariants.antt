use Rattle.std.specs.Prelude.{◌≡◌}
use Rattle.gx_machine.specs.Machine.{fresh_machine}
use Rattle.gx_threads_tests.proofs.runs.a_search_of_a_file_stays_open_while_others_commit.Given as goal

abbrev pub ghosts-search_hold-R-Ledger : goal.ghosts-search_hold-R-Ledger
ghosts-search_hold-R-Ledger g a = record { name = a.blank.name; parts = a.blank.parts }

abbrev pub ghosts-search_hold-R-Run : goal.ghosts-search_hold-R-Run
ghosts-search_hold-R-Run g a = record { starts = λ m. m ≡ fresh_machine }
