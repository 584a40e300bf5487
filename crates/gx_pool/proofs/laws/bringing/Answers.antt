use Rattle.gx_pool.proofs.Shown.{brings_backed, brings_shown, brings_passed}
use Rattle.gx_pool.proofs.laws.bringing.Goals as goal

pub returns : goal.returns
returns c = record { backed = brings_backed; shown = brings_shown; passing = brings_passed }
