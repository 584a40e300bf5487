use Rattle.gx_durable.proofs.laws.Joining.{calls_join, each_moment}
use Rattle.gx_durable.proofs.laws.calls_in_a_row.Goals as goal

pub returns-clause-join : goal.returns-clause-join
returns-clause-join g c = λ l x y z.
    calls_join (g.M.Meaning.known l) g.M.Spelled.reading (g.D.SectorDisk.state x) (g.D.SectorDisk.state y) (g.D.SectorDisk.state z)

pub returns-clause-moments : goal.returns-clause-moments
returns-clause-moments g c = λ l x y.
    each_moment (g.M.Meaning.known l) g.M.Spelled.reading (g.D.SectorDisk.state x) (g.D.SectorDisk.state y) (λ image honest left. g.met.D.SectorDisk.only_now x image honest left)
