use Rattle.gx_storage.proofs.storage.Storage.dirty_frames.Goals as goal

pub returns-clause-zero : goal.returns-clause-zero
returns-clause-zero g c = rw (← c.self.view_is) c.dirty_frames.ensures.zero

pub returns-clause-sound : goal.returns-clause-sound
returns-clause-sound g c = rw (← c.self.view_is) c.dirty_frames.ensures.sound

pub returns-clause-held : goal.returns-clause-held
returns-clause-held g c = rw (← c.self.view_is) c.dirty_frames.ensures.held
