use Rattle.std.proofs.Common.{rules, not}
use Rattle.std.proofs.lemmas.Fn.{filter_same}
use Rattle.gx_machine.specs.Keys.{keys}
use Rattle.gx_machine.specs.Sets.{has}
use Rattle.gx_machine.proofs.sets.exclude_all.Goals as goal

pub returns-clause-items : goal.returns-clause-items
returns-clause-items g c =
    let k = keys g.B.Ord.cmp g.B.Shape.overlap g.B.Shape.inside in
    filter_same _ (λ x. not (has k x c.args.gone.now)) _ (λ x b f' h. search rules) _ _ c.retain.ensures.filtered
