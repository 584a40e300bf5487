use Rattle.gx_machine.proofs.SetsByTests.{same_members_are_one_list}
use Rattle.gx_machine.proofs.laws.sets_are_their_members.Goals as goal

pub returns : goal.returns
returns g c = λ k l xs ys in_xs in_ys same. same_members_are_one_list k l xs ys in_xs in_ys same
