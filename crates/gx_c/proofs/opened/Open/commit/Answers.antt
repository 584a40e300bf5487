use Rattle.std.proofs.Common.{refl, ◌∙◌}
use Rattle.gx_c.proofs.opened.Numbers.{number_kept}
use Rattle.gx_c.proofs.opened.Open.commit.Goals as goal

pub returns-clause-commits : goal.returns-clause-commits
returns-clause-commits g c =
    rw (← c.self.view_is) (record { reply = c.call-reply.result; asks = record { calls = c.call-reply.ensures.calls; told = c.call-reply.ensures.told; runs = c.call-reply.ensures.runs; ends = c.call-reply.ensures.ends }; status_is = c.replied.ensures; number_is = c.number_in.ensures; same = refl })

pub returns-clause-kept : goal.returns-clause-kept
returns-clause-kept g c = λ no. c.number_in.ensures ∙ number_kept c.call-reply.result c.args.number.now (λ is. no (c.replied.ensures ∙ is))
