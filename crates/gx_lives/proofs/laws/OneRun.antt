-- What a stage carries, by which it is.
use Rattle.std.proofs.Common.{◌≡◌, ℕ, Bool, List, subst}
use Rattle.gx_class.specs.Traits.{traits_of}
use Rattle.gx_class.specs.declared.class.KeyClass.{Ghosts}
use Rattle.gx_disk.specs.Device.{Device}
use Rattle.gx_glog.specs.declared.parameters.Parameters.{Parameters}
use Rattle.gx_machine.specs.Keys.{Members}
use Rattle.gx_machine.specs.Machine.{Machine}
use Rattle.gx_lives.specs.Bearing.{Bears}
use Rattle.gx_lives.specs.Lives.{Lies, Stage}

module _ {C B D : Type 0} (shape : Members B) (proper : B → Bool) (said : List ℕ → B) (class : Ghosts C B) (state : D → Device) (p : Parameters) (m : Machine B) where
  pub lies_so : (now : Stage B D) (disk : D) → now ≡ Lies disk → Bears shape (traits_of proper said class) state p m now → Bears shape (traits_of proper said class) state p m (Lies disk)
  lies_so now disk is bears = subst (λ (x : Stage B D). Bears shape (traits_of proper said class) state p m x) is bears
