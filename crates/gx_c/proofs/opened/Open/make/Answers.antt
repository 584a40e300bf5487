use Rattle.std.proofs.Common.{◌∙◌}
use Rattle.gx_c.proofs.events.Ending.{ended_by}
use Rattle.gx_c.proofs.opened.Open.make.Goals as goal

pub returns-clause-makes : goal.returns-clause-makes
returns-clause-makes g c =
    rw (← c.self.view_is) (record { given = c.step-made.result; makes = record { steps = c.step-made.ensures.steps; told = c.step-made.ensures.told; runs = c.step-made.ensures.runs }; outcome_is = c.sent_outcome.ensures; status_is = c.stepped-status.ensures; keeps = c.keep_outcome.ensures.found })

pub returns-clause-ended : goal.returns-clause-ended
returns-clause-ended g c = λ no. c.sent_outcome.ensures ∙ ended_by c.step-made.result (λ is. no (c.stepped-status.ensures ∙ is))
