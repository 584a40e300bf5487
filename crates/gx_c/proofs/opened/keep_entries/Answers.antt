use Rattle.std.proofs.Common.{rules}
use Rattle.gx_c.proofs.opened.keep_entries.Goals as goal

pub returns-clause-found : goal.returns-clause-found
returns-clause-found g c = search rules
