use Rattle.gx_c.proofs.opened.Open.search.Goals as goal

pub returns : goal.returns
returns g c = rw (← c.self.view_is) (record { reply = c.call-reply.result; asks = record { calls = c.call-reply.ensures.calls; told = c.call-reply.ensures.told; runs = c.call-reply.ensures.runs; ends = c.call-reply.ensures.ends }; status_is = c.replied-status.ensures; keeps = c.keep.ensures.found })
