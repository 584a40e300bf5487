use Rattle.gx_recovery.proofs.Listing.{listed_set}
use Rattle.gx_recovery.proofs.machine_laws.sets_can_be_listed.Goals as goal

pub returns : goal.returns
returns g c = λ d k l kl cmp area log live are passes. listed_set k l (g.M.Meaning.known d) kl cmp area log live are passes
