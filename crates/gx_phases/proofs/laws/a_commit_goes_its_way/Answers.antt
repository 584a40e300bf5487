use Rattle.gx_phases.proofs.laws.Events.{is_sealed, is_durable, is_acknowledged}
use Rattle.gx_phases.proofs.laws.a_commit_goes_its_way.Goals as goal

pub returns-clause-seals : goal.returns-clause-seals
returns-clause-seals g c =
    λ k live older old kept works s is work at many set stands. is_sealed k live older old kept works s is work at many set stands

pub returns-clause-durable : goal.returns-clause-durable
returns-clause-durable g c =
    λ k live older old works many number rises sealed. is_durable k live older old works many number rises sealed

pub returns-clause-acknowledges : goal.returns-clause-acknowledges
returns-clause-acknowledges g c =
    λ k live older old kept works s is number at durable. is_acknowledged k live older old kept works s is number at durable
