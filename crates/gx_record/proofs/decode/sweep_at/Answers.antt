use Rattle.std.proofs.Common.{rules}
use Rattle.gx_record.specs.Reading.{sweep_at}
use Rattle.gx_record.proofs.decode.sweep_at.Goals as goal

pub returns-in_err-leaf : goal.returns-in_err-leaf
unfolding sweep_at
returns-in_err-leaf c = search rules

pub returns-in_err-slots : goal.returns-in_err-slots
unfolding sweep_at
returns-in_err-slots c = search rules

pub returns : goal.returns
unfolding sweep_at
returns c = search rules
