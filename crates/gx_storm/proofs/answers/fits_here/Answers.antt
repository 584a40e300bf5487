use Rattle.gx_machine.specs.Keys.{keys}
use Rattle.gx_storm.proofs.answers.Following.{asked_along}
use Rattle.gx_storm.proofs.answers.fits_here.Goals as goal

pub returns-in-Asked : goal.returns-in-Asked
returns-in-Asked g c = λ faultless r st. asked_along (keys g.B.Ord.cmp g.B.Shape.overlap g.B.Shape.inside) r c.args.index.now st c.args.item.now _ _ c.in-Asked.is

pub returns-in-Sealed : goal.returns-in-Sealed
returns-in-Sealed g c = rw c.in-Sealed.is (λ faultless r st. c.seals.ensures r st)

pub returns-in-Replied : goal.returns-in-Replied
returns-in-Replied g c = rw c.in-Replied.is c.replies.ensures
