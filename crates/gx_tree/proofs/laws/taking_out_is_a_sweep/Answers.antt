use Rattle.gx_tree.proofs.Swept.{is_sweep, sweep_size, sweep_slots}
use Rattle.gx_tree.proofs.laws.taking_out_is_a_sweep.Goals as goal

pub returns : goal.returns
returns g c = record {
  sweep = λ claimed plan old new. is_sweep plan claimed old new;
  size = λ claimed plan node. sweep_size plan claimed node;
  slots = λ claimed plan node. sweep_slots plan claimed node;
}
