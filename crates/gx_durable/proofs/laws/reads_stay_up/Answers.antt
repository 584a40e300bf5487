use Rattle.gx_durable.proofs.Reading.{reads_up}
use Rattle.gx_durable.proofs.laws.reads_stay_up.Goals as goal

pub returns : goal.returns
returns g c = λ l a b. reads_up (g.M.Meaning.known l) g.M.Spelled.reading (g.D.SectorDisk.state a) (g.D.SectorDisk.state b)
