use Rattle.gx_threads_example.proofs.beside.work_beside.Given as goal

abbrev pub ghosts-run-R-Ledger : goal.ghosts-run-R-Ledger
ghosts-run-R-Ledger g a = record { name = a.blank.name; parts = a.blank.parts }

abbrev pub ghosts-run-R-Run : goal.ghosts-run-R-Run
ghosts-run-R-Run g a = record { starts = g.E.Events.sees a.engine }
