use Rattle.std.proofs.Common.{ℕ, ◌+◌, ap, ◌∙◌}
use Rattle.gx_page.specs.Format.{total}
use Rattle.gx_page.specs.Reading.{read_of}
use Rattle.gx_page.proofs.Parts.{image_start}
use Rattle.gx_page.proofs.directory.start_of.Goals as goal

pub returns : goal.returns
returns c = ap (λ (n : ℕ). n + total (read_of c.args.block.now.bytes).items) c.u16_at.ensures ∙ image_start c.args.block.now.bytes c.requires
