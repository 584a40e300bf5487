use Rattle.std.proofs.Common.{rules}
use Rattle.gx_script.proofs.requests.parse.Goals as goal

pub returns-then-body-gt-LINE_LIMIT : goal.returns-then-body-gt-LINE_LIMIT
returns-then-body-gt-LINE_LIMIT c = search rules
