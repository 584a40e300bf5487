use Rattle.std.proofs.Common.{◌≡◌, ℕ, ◌+◌, ◌*◌, ap, ◌∙◌, arith}
use Rattle.gx_page.specs.Bytes.{number_16_at}
use Rattle.gx_page.proofs.Parts.{placed}
use Rattle.gx_page.proofs.directory.place_of.Goals as goal

pub returns : goal.returns
returns c =
    let bytes = c.args.block.now.bytes in let s = placed bytes c.requires.image c.args.slot c.requires.slot in
    let is : c.u16_at.result ≡ number_16_at bytes (32 + 4 * c.args.slot) = c.u16_at.ensures ∙ ap (λ (at : ℕ). number_16_at bytes at) c.slot_at.ensures in
    omega (arith, s.place, is)
