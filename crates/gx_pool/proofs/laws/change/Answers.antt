use Rattle.gx_pool.proofs.Places.{changed_kept, changed_other}
use Rattle.gx_pool.proofs.laws.change.Goals as goal

pub returns : goal.returns
returns c = record { of_its_page = changed_kept; of_no_other = changed_other }
