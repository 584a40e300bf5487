use Rattle.std.proofs.Common.{◌∙◌}
use Rattle.gx_page.proofs.Parts.{image_count, image_fits}
use Rattle.gx_page.proofs.directory.count_of.Goals as goal

pub returns : goal.returns
returns c = record { count = c.u16_at.ensures ∙ image_count c.args.block.now.bytes c.requires; fits = image_fits c.args.block.now.bytes c.requires }
