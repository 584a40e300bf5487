use Rattle.gx_pool.proofs.Shown.{changes_backed, changes_its_page, changes_passed, changes_shown, changes_sound}
use Rattle.gx_pool.proofs.laws.changing.Goals as goal

pub returns : goal.returns
returns c = record { backed = changes_backed; its_page = changes_its_page; shown = changes_shown; passing = changes_passed; sound = changes_sound }
