use Rattle.std.specs.Ordering.{is_eq}
use Rattle.gx_node.specs.Trees.{Rules, IsLawful}
use Rattle.gx_tree.proofs.Lawful.{lawful}
use Rattle.gx_tree.proofs.Widens.{step_keys, step_legal, step_pairs, step_goes_on}
use Rattle.gx_tree.proofs.laws.descent_keeps_the_tree.Goals as goal

pub returns-clause-legal : goal.returns-clause-legal
returns-clause-legal g c = λ most old new item coming did two legal keys is descent step.
    let r : Rules g.row.K-Key.Denot = record { covers = λ a b. g.K.Key.Shape.inside b a; same = λ a b. is_eq (g.K.Key.Ord.cmp a b); most = most } in
    let law : IsLawful r = lawful g.K.Key.Ord.cmp g.K.Key.Shape.inside most two g.met.K.Key.Ord.total g.met.K.Key.Shape.inside_through g.met.K.Key.Shape.same in
    step_legal r g.K.KeyClass.is_key g.K.KeyClass.cost g.K.KeyClass.joined
    g.met.K.KeyClass.union_is_key g.met.K.KeyClass.union_covers_first g.met.K.KeyClass.union_covers_second g.met.K.KeyClass.union_is_least
    old new item coming keys is law legal descent did step

pub returns-clause-keys : goal.returns-clause-keys
returns-clause-keys g c = λ most old new item coming did keys is used step.
    let r : Rules g.row.K-Key.Denot = record { covers = λ a b. g.K.Key.Shape.inside b a; same = λ a b. is_eq (g.K.Key.Ord.cmp a b); most = most } in
    step_keys r g.K.KeyClass.is_key g.K.KeyClass.cost g.K.KeyClass.joined
    g.met.K.KeyClass.union_is_key g.met.K.KeyClass.union_covers_first g.met.K.KeyClass.union_covers_second g.met.K.KeyClass.union_is_least
    old new item coming keys is used did step

pub returns-clause-pairs : goal.returns-clause-pairs
returns-clause-pairs g c = λ most old new item coming did two legal keys is descent step test.
    let r : Rules g.row.K-Key.Denot = record { covers = λ a b. g.K.Key.Shape.inside b a; same = λ a b. is_eq (g.K.Key.Ord.cmp a b); most = most } in
    let law : IsLawful r = lawful g.K.Key.Ord.cmp g.K.Key.Shape.inside most two g.met.K.Key.Ord.total g.met.K.Key.Shape.inside_through g.met.K.Key.Shape.same in
    step_pairs r g.K.KeyClass.is_key g.K.KeyClass.cost g.K.KeyClass.joined
    g.met.K.KeyClass.union_is_key g.met.K.KeyClass.union_covers_first g.met.K.KeyClass.union_covers_second g.met.K.KeyClass.union_is_least
    old new item coming keys is law legal descent test did step

pub returns-clause-goes_on : goal.returns-clause-goes_on
returns-clause-goes_on g c = λ most old new item coming did two legal keys is descent step.
    let r : Rules g.row.K-Key.Denot = record { covers = λ a b. g.K.Key.Shape.inside b a; same = λ a b. is_eq (g.K.Key.Ord.cmp a b); most = most } in
    let law : IsLawful r = lawful g.K.Key.Ord.cmp g.K.Key.Shape.inside most two g.met.K.Key.Ord.total g.met.K.Key.Shape.inside_through g.met.K.Key.Shape.same in
    step_goes_on r g.K.KeyClass.is_key g.K.KeyClass.cost g.K.KeyClass.joined
    g.met.K.KeyClass.union_is_key g.met.K.KeyClass.union_covers_first g.met.K.KeyClass.union_covers_second g.met.K.KeyClass.union_is_least
    old new item coming keys is law legal descent did step
