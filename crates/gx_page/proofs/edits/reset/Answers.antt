-- A block that is cleared whole is zeros.
use Rattle.std.proofs.Common.{◌∙◌}
use Rattle.gx_page.proofs.Steps.{cleared}
use Rattle.gx_page.proofs.edits.reset.Goals as goal

pub write_blank-requires : goal.write_blank-requires
write_blank-requires c = c.clear.ensures ∙ cleared c.args.block.now.bytes c.requires
