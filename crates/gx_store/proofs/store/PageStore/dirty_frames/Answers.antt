use Rattle.gx_store.proofs.store.PageStore.dirty_frames.Goals as goal

pub returns-clause-zero : goal.returns-clause-zero
returns-clause-zero g c = rw (← c.self.view_is) c.dirty_frames.ensures.zero
