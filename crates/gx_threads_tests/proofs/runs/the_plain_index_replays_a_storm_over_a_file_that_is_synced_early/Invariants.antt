use Rattle.std.specs.Prelude.{◌≡◌}
use Rattle.gx_machine.specs.Machine.{fresh_machine}
use Rattle.gx_threads_tests.proofs.runs.the_plain_index_replays_a_storm_over_a_file_that_is_synced_early.Given as goal

abbrev pub ghosts-stormed-R-Ledger : goal.ghosts-stormed-R-Ledger
ghosts-stormed-R-Ledger g a = record { name = a.blank.name; parts = a.blank.parts }

abbrev pub ghosts-stormed-R-Run : goal.ghosts-stormed-R-Run
ghosts-stormed-R-Run g a = record { starts = λ m. m ≡ fresh_machine }
