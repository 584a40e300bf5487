use Rattle.gx_storage.proofs.Moving.{stays_same}
use Rattle.gx_storage.proofs.laws.reads_keep.Goals as goal

pub returns : goal.returns
returns g c = λ l v t since used counter bodies s lawful keeps.
    stays_same _ _ _ _ _ _ v v.shelf.batch v.shelf.has_room t bodies s lawful keeps (since 0).goes_on v.most (λ q. (since q).same) used counter
