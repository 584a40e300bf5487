use Rattle.gx_node.specs.Reading.{format_of}
use Rattle.gx_restart.proofs.Ends.{keeps_either}
use Rattle.gx_restart.proofs.opening.open.Goals as goal

pub returns-clause-keeps : goal.returns-clause-keeps
returns-clause-keeps g c = λ honest.
    keeps_either (record { partial_cmp = g.K.Key.PartialOrd.partial_cmp; eq = g.K.Key.PartialEq.eq; cmp = g.K.Key.Ord.cmp; overlap = g.K.Key.Shape.overlap; inside = g.K.Key.Shape.inside }) g.K.ReadKeys.is_proper g.K.ReadKeys.said (format_of g.K.KeyClass) g.D.SectorDisk.state (g.D.SectorDisk.state c.args.disk) c.open_with.result c.what_is_found_stands.ensures.stands (c.open_with.ensures.safe honest)
