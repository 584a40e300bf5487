use Rattle.std.proofs.Common.{ap, ap₂, ◌∙◌}
use Rattle.std.proofs.lemmas.Result.{IfOk-weaker}
use Rattle.clap.specs.Words.{App, with_subcommand}
use Rattle.gx_words.specs.Program.{gist_app}
use Rattle.gx_words.proofs.words.command.Goals as goal

pub returns : goal.returns
unfolding gist_app
returns c =
    let with_plain = c.in_ok-subcommand.ensures.shape c.in_ok-plain.ensures.1
    ∙ ap₂ with_subcommand c.in_ok-program.ensures (ap (λ (a : App). a.top) c.in_ok-plain.ensures.0) in
    let with_format = c.in_ok-subcommand-2.ensures.shape c.in_ok-format.ensures.1
    ∙ ap₂ with_subcommand with_plain (ap (λ (a : App). a.top) c.in_ok-format.ensures.0) in
    let with_run = c.in_ok-subcommand-3.ensures.shape c.in_ok-run.ensures.1
    ∙ ap₂ with_subcommand with_format (ap (λ (a : App). a.top) c.in_ok-run.ensures.0) in
    let with_dump = c.in_ok-subcommand-4.ensures.shape c.in_ok-dump.ensures.1
    ∙ ap₂ with_subcommand with_run (ap (λ (a : App). a.top) c.in_ok-dump.ensures.0) in
    let with_verify = c.in_ok-subcommand-5.ensures.shape c.in_ok-verify.ensures.1
    ∙ ap₂ with_subcommand with_dump (ap (λ (a : App). a.top) c.in_ok-verify.ensures.0) in
    let with_migrate = c.in_ok-subcommand-6.ensures.shape c.in_ok-migrate.ensures.1
    ∙ ap₂ with_subcommand with_verify (ap (λ (a : App). a.top) c.in_ok-migrate.ensures.0) in
    IfOk-weaker c.subcommand-7.result _ _
    (λ r adds. adds.shape c.in_ok-storm.ensures.1 ∙ ap₂ with_subcommand with_migrate (ap (λ (a : App). a.top) c.in_ok-storm.ensures.0)) c.subcommand-7.ensures
