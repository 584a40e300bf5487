use Rattle.gx_storm.proofs.threads.storm_over.Given as goal

abbrev pub ghosts-judged-R-Ledger : goal.ghosts-judged-R-Ledger
ghosts-judged-R-Ledger g a = record { name = a.blank.name; parts = a.blank.parts }

abbrev pub ghosts-judged-R-Run : goal.ghosts-judged-R-Run
ghosts-judged-R-Run g a = record { starts = g.E.Events.sees a.engine }
