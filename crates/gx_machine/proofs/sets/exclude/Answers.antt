use Rattle.std.proofs.Common.{rules, not}
use Rattle.std.proofs.lemmas.Fn.{filter_same}
use Rattle.gx_machine.specs.Keys.{keys, same_entry}
use Rattle.gx_machine.proofs.sets.exclude.Goals as goal

pub returns-clause-items : goal.returns-clause-items
returns-clause-items g c =
    let k = keys g.B.Ord.cmp g.B.Shape.overlap g.B.Shape.inside in
    filter_same _ (λ x. not (same_entry k c.args.e.now x)) _ (λ x b f' h. search rules) _ _ c.retain.ensures.filtered
