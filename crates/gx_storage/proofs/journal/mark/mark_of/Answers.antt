use Rattle.std.proofs.Common.{sym}
use Rattle.gx_storage.proofs.journal.mark.mark_of.Goals as goal

pub returns-then-marked : goal.returns-then-marked
returns-then-marked c = sym c.if-marked.true

pub returns-else-marked : goal.returns-else-marked
returns-else-marked c = sym c.if-marked.false
