use Rattle.gx_lives.proofs.laws.Told.{opened_later}
use Rattle.gx_lives.proofs.laws.acknowledged_commits_are_opened.Goals as goal

pub returns : goal.returns
returns g c = λ k old answered last opened s committed turns is are opens.
    opened_later k (c.acknowledged_commits_survive.ensures k) old answered last opened s committed turns is are opens
