use Rattle.gx_storage.proofs.Shown.{keeps_shows}
use Rattle.gx_storage.proofs.laws.a_volume_shows_the_logs_tree.Goals as goal

pub returns : goal.returns
returns g c = λ l v. keeps_shows _ _ _ _ _ v (c.what_stands_is_legal.ensures.lawful l)
