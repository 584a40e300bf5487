-- The eight bytes are read as one number.
use Rattle.std.proofs.Common.{ap, ◌∙◌}
use Rattle.gx_page.specs.Bytes.{number_64}
use Rattle.gx_page.proofs.block.Block.u64_at.Goals as goal

pub returns : goal.returns
returns c = c.from_be_bytes.ensures ∙ ap number_64 c.array.ensures
