use Rattle.gx_lives.proofs.laws.Told.{told}
use Rattle.gx_lives.proofs.laws.every_life_is_a_run.Goals as goal

pub returns : goal.returns
returns g c = λ k turns old new are. told k turns old new are
