use Rattle.std.proofs.lemmas.Bool.{ne_eqb}
use Rattle.gx_script.proofs.WordLemmas.{without_cr-drops, without_cr-keeps}
use Rattle.gx_script.proofs.words.trimmed.Goals as goal

pub returns-then-last-eq13 : goal.returns-then-last-eq13
returns-then-last-eq13 c = cc (c.in-Some.ensures.cases.0, without_cr-drops c.in-Some.front.now)

pub returns-else-last-eq13 : goal.returns-else-last-eq13
returns-else-last-eq13 c =
    cc (c.in-Some.ensures.cases.0, without_cr-keeps c.in-Some.front.now c.in-Some.last.now (ne_eqb _ _ c.if-last-eq13.false))
