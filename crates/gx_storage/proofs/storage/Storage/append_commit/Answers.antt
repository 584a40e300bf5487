use Rattle.gx_storage.proofs.storage.Storage.append_commit.Goals as goal

pub returns-clause-recorded : goal.returns-clause-recorded
returns-clause-recorded g c = c.append.ensures.recorded

pub returns-clause-keeps : goal.returns-clause-keeps
returns-clause-keeps g c = c.append.ensures.keeps tt
