use Rattle.gx_page.proofs.Rooms.{few_fit}
use Rattle.gx_page.proofs.laws.room.Goals as goal

pub returns : goal.returns
returns c = few_fit
