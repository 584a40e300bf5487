use Rattle.std.proofs.Common.{ap, codes, ◌≡◌, ◌∙◌}
use Rattle.std.proofs.lemmas.Result.{IfOk-weaker}
use Rattle.clap.specs.Words.{app_of, new_app}
use Rattle.clap.specs.Simple.{app_of_fields}
use Rattle.gx_words.specs.Program.{with_required}
use Rattle.gx_words.proofs.words.program.Goals as goal

pub returns : goal.returns
returns c =
    let wants : app_of c.subcommand_required.result ≡ with_required (new_app (codes "gist")) =
    ap app_of_fields c.subcommand_required.ensures ∙ ap with_required (ap app_of_fields c.about.ensures ∙ c.new.ensures.app) in
    IfOk-weaker c.bin_name.result _ _ (λ r named. ap app_of_fields named.0 ∙ wants) c.bin_name.ensures
