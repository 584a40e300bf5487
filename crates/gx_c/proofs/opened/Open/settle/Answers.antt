use Rattle.std.proofs.Common.{refl}
use Rattle.gx_c.proofs.opened.Open.settle.Goals as goal

pub returns : goal.returns
returns g c =
    let did = c.settle.ensures in
    rw (← c.self.view_is) (record {
      result = c.settle.result;
      settles = did.settles;
      told = did.told;
      runs = did.runs;
      rests = did.rests;
      keeps = did.keeps;
      status_is = c.resulted.ensures;
      same = refl;
    })
