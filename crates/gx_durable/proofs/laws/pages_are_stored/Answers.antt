use Rattle.gx_durable.proofs.Recording.{changing_stores, creating_stores, recording_stores, write_stays, pages_stay}
use Rattle.gx_durable.proofs.Storing.{nothing_dirty, bringing_stores}
use Rattle.gx_durable.proofs.laws.pages_are_stored.Goals as goal

pub returns-clause-written : goal.returns-clause-written
returns-clause-written g c = nothing_dirty g.M.Spelled.reading

pub returns-clause-brought : goal.returns-clause-brought
returns-clause-brought g c = bringing_stores g.M.Spelled.reading

pub returns-clause-changed : goal.returns-clause-changed
returns-clause-changed g c = changing_stores g.M.Spelled.reading

pub returns-clause-created : goal.returns-clause-created
returns-clause-created g c = creating_stores g.M.Spelled.reading

pub returns-clause-recorded : goal.returns-clause-recorded
returns-clause-recorded g c = recording_stores g.M.Spelled.reading

pub returns-clause-write : goal.returns-clause-write
returns-clause-write g c = write_stays g.M.Spelled.reading

pub returns-clause-pages : goal.returns-clause-pages
returns-clause-pages g c = pages_stay g.M.Spelled.reading
