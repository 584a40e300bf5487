use Rattle.std.proofs.Common.{rules}
use Rattle.gx_record.specs.Reading.{is_image_of}
use Rattle.gx_record.proofs.decode.is_image_of.Goals as goal

pub returns-in-Err : goal.returns-in-Err
unfolding is_image_of
returns-in-Err c = search rules
