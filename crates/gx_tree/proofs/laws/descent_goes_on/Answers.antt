use Rattle.std.specs.Ordering.{is_eq}
use Rattle.gx_node.specs.Trees.{Rules, IsLawful}
use Rattle.gx_tree.proofs.Lawful.{lawful}
use Rattle.gx_tree.proofs.Widens.{went_down, went_widening, went_widened}
use Rattle.gx_tree.proofs.laws.descent_goes_on.Goals as goal

pub returns-clause-down : goal.returns-clause-down
returns-clause-down g c = λ most old new item next coming legal keys is descent step.
    let r : Rules g.row.K-Key.Denot = record { covers = λ a b. g.K.Key.Shape.inside b a; same = λ a b. is_eq (g.K.Key.Ord.cmp a b); most = most } in
    went_down r g.K.KeyClass.is_key g.K.KeyClass.cost g.K.KeyClass.joined
    g.met.K.KeyClass.union_is_key g.met.K.KeyClass.union_covers_first g.met.K.KeyClass.union_covers_second g.met.K.KeyClass.union_is_least
    old new item coming keys is next legal descent step

pub returns-clause-widens : goal.returns-clause-widens
returns-clause-widens g c = λ most old new item next coming key slot legal keys is descent step.
    let r : Rules g.row.K-Key.Denot = record { covers = λ a b. g.K.Key.Shape.inside b a; same = λ a b. is_eq (g.K.Key.Ord.cmp a b); most = most } in
    went_widening r g.K.KeyClass.is_key g.K.KeyClass.cost g.K.KeyClass.joined
    g.met.K.KeyClass.union_is_key g.met.K.KeyClass.union_covers_first g.met.K.KeyClass.union_covers_second g.met.K.KeyClass.union_is_least
    old new item coming keys is next slot key step legal descent

pub returns-clause-widened : goal.returns-clause-widened
returns-clause-widened g c = λ most old new item next coming key slot two legal keys is descent step.
    let r : Rules g.row.K-Key.Denot = record { covers = λ a b. g.K.Key.Shape.inside b a; same = λ a b. is_eq (g.K.Key.Ord.cmp a b); most = most } in
    let law : IsLawful r = lawful g.K.Key.Ord.cmp g.K.Key.Shape.inside most two g.met.K.Key.Ord.total g.met.K.Key.Shape.inside_through g.met.K.Key.Shape.same in
    went_widened r g.K.KeyClass.is_key g.K.KeyClass.cost g.K.KeyClass.joined
    g.met.K.KeyClass.union_is_key g.met.K.KeyClass.union_covers_first g.met.K.KeyClass.union_covers_second g.met.K.KeyClass.union_is_least
    old new item coming keys is next slot key step legal descent law
