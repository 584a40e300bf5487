use Rattle.std.proofs.Common.{refl}
use Rattle.gx_recovery.proofs.worked.what_the_rules_prevent.Goals as goal

pub returns-clause-too_early : goal.returns-clause-too_early
returns-clause-too_early c = refl

pub returns-clause-past_a_gate : goal.returns-clause-past_a_gate
returns-clause-past_a_gate c = refl

pub returns-clause-noteless : goal.returns-clause-noteless
returns-clause-noteless c = refl

pub returns-clause-ended_early : goal.returns-clause-ended_early
returns-clause-ended_early c = refl

pub returns-clause-seen : goal.returns-clause-seen
returns-clause-seen c = refl

pub returns-clause-shared : goal.returns-clause-shared
returns-clause-shared c = refl

pub returns-clause-imageless : goal.returns-clause-imageless
returns-clause-imageless c = refl

pub returns-clause-imaged : goal.returns-clause-imaged
returns-clause-imaged c = refl
