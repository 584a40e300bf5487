use Rattle.gx_durable.proofs.BodyLists.{bodies_one_way, body_adds, bodies_join}
use Rattle.gx_durable.proofs.laws.bodies_are_told.Goals as goal

pub returns-clause-one_way : goal.returns-clause-one_way
returns-clause-one_way g c = bodies_one_way g.M.Spelled.reading

pub returns-clause-adds : goal.returns-clause-adds
returns-clause-adds g c = body_adds g.M.Spelled.reading

pub returns-clause-records : goal.returns-clause-records
returns-clause-records g c = bodies_join g.M.Spelled.reading
