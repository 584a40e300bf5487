use Rattle.gx_node.specs.Reading.{format_of, is_node}
use Rattle.gx_store.proofs.Going.{begins, since_joined}
use Rattle.gx_store.proofs.laws.going_on.Goals as goal

pub returns-clause-begins : goal.returns-clause-begins
returns-clause-begins g c = λ s page. begins (is_node (format_of g.K.KeyClass)) (g.D.SectorDisk.state s.disk) s page

pub returns-clause-joins : goal.returns-clause-joins
returns-clause-joins g c = λ s t u page one two.
    since_joined (is_node (format_of g.K.KeyClass)) (g.D.SectorDisk.state s.disk) (g.D.SectorDisk.state t.disk) (g.D.SectorDisk.state u.disk) s t u page one two.goes_on two.same
