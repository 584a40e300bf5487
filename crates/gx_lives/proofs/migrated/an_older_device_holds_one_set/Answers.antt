use Rattle.gx_lives.proofs.migrated.OneSet.{one_set}
use Rattle.gx_lives.proofs.migrated.an_older_device_holds_one_set.Goals as goal

pub returns : goal.returns
returns g c = λ old p q m n xs ys one other.
    one_set _ c.keys_are_lawful.ensures g.K.ReadKeys.is_proper g.K.ReadKeys.said g.K.KeyClass (g.D.SectorDisk.state old) p q m n xs ys one other
