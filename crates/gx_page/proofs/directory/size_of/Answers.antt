use Rattle.std.proofs.Common.{◌≡◌, ℕ, ◌+◌, ◌*◌, ap, ◌∙◌, arith}
use Rattle.gx_page.specs.Bytes.{number_16_at}
use Rattle.gx_page.proofs.Parts.{placed}
use Rattle.gx_page.proofs.directory.size_of.Goals as goal

pub returns : goal.returns
returns c =
    let bytes = c.args.block.now.bytes in let s = placed bytes c.requires.image c.args.slot c.requires.slot in
    let is : c.u16_at.result ≡ number_16_at bytes (32 + 4 * c.args.slot + 2) = c.u16_at.ensures ∙ ap (λ (at : ℕ). number_16_at bytes (at + 2)) c.slot_at.ensures in
    record { size = is ∙ s.size; within = omega (arith, s.within, is, s.size) }
