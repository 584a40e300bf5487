use Rattle.gx_tree.proofs.KeysKept.{keys_step}
use Rattle.gx_tree.proofs.laws.keys_stay_keys.Goals as goal

pub returns : goal.returns
returns g c = λ r old new step legal keys brings is. keys_step g.K.KeyClass.is_key r old new legal keys step brings is
