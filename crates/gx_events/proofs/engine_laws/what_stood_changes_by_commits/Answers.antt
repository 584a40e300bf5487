use Rattle.gx_events.proofs.Faults.{kept_set}
use Rattle.gx_events.proofs.WhatStood.{event_stood, commit_stood, opening_stood, last_is_stood}
use Rattle.gx_events.proofs.engine_laws.what_stood_changes_by_commits.Goals as goal

pub returns-clause-stays : goal.returns-clause-stays
returns-clause-stays g c = λ k l old new event sound is keeps e. event_stood k l old sound event new is keeps e

pub returns-clause-commits : goal.returns-clause-commits
returns-clause-commits g c = λ k l old new s set number sound is e. commit_stood k l old sound s set number new is e

pub returns-clause-opens : goal.returns-clause-opens
returns-clause-opens g c = λ k old new number is e. opening_stood k number old new is e

pub returns-clause-last : goal.returns-clause-last
returns-clause-last g c = λ k engine e. last_is_stood k engine e

pub returns-clause-sets : goal.returns-clause-sets
returns-clause-sets g c = λ k l engine m sound seen number low high. kept_set k l engine m sound seen number low high
