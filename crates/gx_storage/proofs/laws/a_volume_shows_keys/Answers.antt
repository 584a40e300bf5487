use Rattle.gx_storage.proofs.laws.Keying.{shows_keys}
use Rattle.gx_storage.proofs.laws.a_volume_shows_keys.Goals as goal

pub returns : goal.returns
returns g c = λ l v bodies s keeps order. shows_keys _ _ _ c.leaves.ensures.hold c.inners.ensures.hold _ v keeps.steady keeps.readable keeps.formed order.passed
