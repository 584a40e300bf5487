use Rattle.std.proofs.Common.{◌∙◌, arith}
use Rattle.gx_commands.proofs.Refusing.{told_by_text}
use Rattle.gx_commands.proofs.refusals.sentence.Goals as goal

pub returns-in_default : goal.returns-in_default
returns-in_default c =
    let no = c.in_default in
    record {
      words = c.requires.words
          ∙ told_by_text c.args.why no.not-Memory no.not-Device no.not-Failed no.not-Damaged no.not-NotFormatted no.not-TooSmall no.not-BadParameter no.not-OldVersion;
      short = omega (arith, c.requires.short);
    }
