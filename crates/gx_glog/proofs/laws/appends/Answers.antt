use Rattle.gx_glog.proofs.Keeping.{start_on, append_on, put_first_on}
use Rattle.gx_glog.proofs.laws.appends.Goals as goal

pub returns : goal.returns
returns c = record { start = start_on; append = append_on; put_first = put_first_on }
