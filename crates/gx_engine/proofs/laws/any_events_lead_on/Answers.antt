use Rattle.gx_durable.specs.Classes.{reading_of}
use Rattle.gx_engine.proofs.Running.{ran}
use Rattle.gx_engine.proofs.laws.any_events_lead_on.Goals as goal

pub returns : goal.returns
returns g c = λ k said f passes steps old new are bodies i h. ran k (reading_of said f) f passes g.D.SectorDisk.state steps old new are bodies i h
