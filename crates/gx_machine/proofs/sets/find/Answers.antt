use Rattle.std.proofs.Common.{rules}
use Rattle.std.proofs.lemmas.Fn.{always_returns_same}
use Rattle.gx_machine.specs.Keys.{keys, IsLawful, entry_cmp}
use Rattle.gx_machine.proofs.Searched.{searched}
use Rattle.gx_machine.proofs.sets.find.Goals as goal

pub returns : goal.returns
returns g c =
    let k = keys g.B.Ord.cmp g.B.Shape.overlap g.B.Shape.inside in
    let lawful : IsLawful k = record { total = g.met.B.Ord.total; exact = g.met.B.Shape.same } in
    searched k lawful c.args.e.now c.args.set.now c.binary_search_by.result c.requires c.binary_search_by.ensures.bound
    (c.binary_search_by.ensures.position (λ y. entry_cmp k y c.args.e.now) (always_returns_same _ _ _ (search rules)))
