use Rattle.gx_c.proofs.drain.gx_c_next.Goals as goal

pub returns : goal.returns
returns c = rw (c.take-held.ensures.had, ← c.deref_mut.ensures.value, c.put.ensures) c.tell_next-status.ensures
