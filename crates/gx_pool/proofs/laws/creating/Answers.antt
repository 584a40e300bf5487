use Rattle.gx_pool.proofs.Shown.{creates_backed, creates_its_page, creates_passed, creates_shown}
use Rattle.gx_pool.proofs.laws.creating.Goals as goal

pub returns : goal.returns
returns c = record { backed = creates_backed; shown = creates_shown; its_page = creates_its_page; passing = creates_passed }
