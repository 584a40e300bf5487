use Rattle.gx_disk.proofs.Looking.{read_looks, looks_joined}
use Rattle.gx_disk.proofs.laws.looks.Goals as goal

pub returns : goal.returns
returns g c = record {
  read = λ first bytes old new result. read_looks first bytes _ _ result;
  joined = λ a b c. looks_joined _ _ _;
}
