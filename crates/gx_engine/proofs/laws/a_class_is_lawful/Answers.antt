use Rattle.std.proofs.Common.{refl, arith}
use Rattle.gx_tree.proofs.Lawful.{lawful}
use Rattle.gx_engine.proofs.laws.a_class_is_lawful.Goals as goal

pub returns : goal.returns
returns g c = λ l four.
    let order = g.met.K.Key.Ord.total in
    record {
      keys = record { total = order; exact = g.met.K.Key.Shape.same };
      rules = lawful g.K.Key.Ord.cmp g.K.Key.Shape.inside l.most (omega (arith, four)) order g.met.K.Key.Shape.inside_through g.met.K.Key.Shape.same;
      same = λ a b. refl;
    }
