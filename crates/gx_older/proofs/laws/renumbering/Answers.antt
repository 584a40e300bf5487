use Rattle.gx_older.proofs.laws.KeptSectors.{is_renumbered}
use Rattle.gx_older.proofs.laws.renumbering.Goals as goal

pub returns : goal.returns
returns c = record { keeps = λ pages seen some long. is_renumbered pages seen some long }
