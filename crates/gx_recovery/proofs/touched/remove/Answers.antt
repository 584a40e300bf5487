use Rattle.std.proofs.Common.{rules, not}
use Rattle.std.proofs.lemmas.Fn.{filter_same}
use Rattle.gx_recovery.specs.Kept.{is_of}
use Rattle.gx_recovery.proofs.touched.remove.Goals as goal

pub returns-clause-items : goal.returns-clause-items
returns-clause-items g c =
    filter_same _ (λ x. not (is_of c.args.transaction x)) _ (λ x b f' h. search rules) _ _ c.retain.ensures.filtered
