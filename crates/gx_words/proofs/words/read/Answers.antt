use Rattle.std.proofs.Common.{inl, refl, true, ap, subst, sym, map, List, Option, [], ◌≡◌, ◌∙◌}
use Rattle.std.proofs.lemmas.Result.{err_from_is_err_and}
use Rattle.clap.specs.Words.{App, HasKind, Row, Text, fault_of, is_simple, is_simple_and_free, subcommand_of, subcommand_rows_of}
use Rattle.clap.proofs.OnLiterals.{clap_on_literals}
use Rattle.gx_words.specs.Asking.{IsAsked, IsWhole}
use Rattle.gx_words.specs.Program.{ClassWords, gist_app}
use Rattle.gx_words.proofs.words.Whole.{whole}
use Rattle.gx_words.proofs.words.read.Goals as goal

-- what is wrong with arguments is known of this command
free : (classes : ClassWords) → is_simple_and_free (gist_app classes) ≡ true
unfolding clap_on_literals gist_app
free classes = refl

-- and what is found in them
simple : (classes : ClassWords) → is_simple (gist_app classes) ≡ true
unfolding clap_on_literals gist_app
simple classes = refl

pub what_is_asked-requires : goal.what_is_asked-requires
what_is_asked-requires g c =
    let words = map g.S.AsStr.text c.args.words.now in
    let right : fault_of (gist_app c.classes.result) words ≡ [] =
    subst (λ (a : App). fault_of a words ≡ []) c.in_ok-command.ensures (c.in-Ok.ensures.kinds (ap is_simple_and_free c.in_ok-command.ensures ∙ free c.classes.result)) in
    let found : subcommand_rows_of c.in-Ok.found ≡ subcommand_of (gist_app c.classes.result) words =
    (c.in-Ok.ensures.matches (ap is_simple c.in_ok-command.ensures ∙ simple c.classes.result)).1 ∙ ap (λ (a : App). subcommand_of a words) c.in_ok-command.ensures in
    subst IsWhole (sym found) (whole c.classes.result c.classes.ensures words right)

pub returns-in-Ok-clause-asked : goal.returns-in-Ok-clause-asked
returns-in-Ok-clause-asked g c =
    let words = map g.S.AsStr.text c.args.words.now in
    let found : subcommand_rows_of c.in-Ok.found ≡ subcommand_of (gist_app c.classes.result) words =
    (c.in-Ok.ensures.matches (ap is_simple c.in_ok-command.ensures ∙ simple c.classes.result)).1 ∙ ap (λ (a : App). subcommand_of a words) c.in_ok-command.ensures in
    record {
      classes = c.classes.result;
      are = c.classes.ensures;
      right = subst (λ (a : App). fault_of a words ≡ []) c.in_ok-command.ensures (c.in-Ok.ensures.kinds (ap is_simple_and_free c.in_ok-command.ensures ∙ free c.classes.result));
      asks = subst (λ (it : Option (Text × List Row)). IsAsked it c.what_is_asked.result) found c.what_is_asked.ensures;
    }

pub returns-in-Err-clause-wrong : goal.returns-in-Err-clause-wrong
returns-in-Err-clause-wrong g c = record {
  classes = c.classes.result;
  are = c.classes.ensures;
  kind = subst (λ (a : App). HasKind (fault_of a (map g.S.AsStr.text c.args.words.now)) c.in-Err.error) c.in_ok-command.ensures
      (c.in-Err.ensures.kinds (ap is_simple_and_free c.in_ok-command.ensures ∙ free c.classes.result));
}

pub returns-in_err-command-clause-wrong : goal.returns-in_err-command-clause-wrong
returns-in_err-command-clause-wrong g c =
    let p = err_from_is_err_and c.from_residual.result c.from_residual.ensures.1 in
    rw p.1 (record { classes = c.classes.result; are = c.classes.ensures; kind = inl p.2 })
