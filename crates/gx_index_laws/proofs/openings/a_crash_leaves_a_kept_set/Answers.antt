use Rattle.gx_index_laws.proofs.openings.Images.{image_stands, acknowledged_is_left}
use Rattle.gx_index_laws.proofs.openings.a_crash_leaves_a_kept_set.Goals as goal

pub returns-clause-kept : goal.returns-clause-kept
returns-clause-kept g c = λ class l s w m seen area log left. image_stands class l s w m seen area log left

pub returns-clause-acknowledged : goal.returns-clause-acknowledged
returns-clause-acknowledged g c = λ class l old new s number events w life area log left. acknowledged_is_left class l s number events old new area log w life left
