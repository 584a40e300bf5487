use Rattle.gx_tree.proofs.Lawful.{lawful}
use Rattle.gx_tree.proofs.laws.keys_are_lawful.Goals as goal

pub returns : goal.returns
returns g c = λ most two. lawful g.B.Ord.cmp g.B.Shape.inside most two g.met.B.Ord.total g.met.B.Shape.inside_through g.met.B.Shape.same
