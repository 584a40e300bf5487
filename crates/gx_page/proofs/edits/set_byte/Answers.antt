-- The byte is in the item.
use Rattle.std.proofs.Common.{◌≡◌, ℕ, ◌+◌, [], length, take, get_or, ap, ◌∙◌}
use Rattle.gx_page.specs.Format.{total}
use Rattle.gx_page.specs.Reading.{read_of}
use Rattle.gx_page.proofs.Steps.{byte_written}
use Rattle.gx_page.proofs.edits.set_byte.Goals as goal

pub returns : goal.returns
returns c =
    let b = c.args.block.now.bytes in let i = c.args.slot in let items = (read_of b).items in
    let place : c.from-from.result + (total (take i items) + length (get_or items i [])) ≡ 4096 = ap (λ (n : ℕ). n + (total (take i items) + length (get_or items i []))) c.from-from.ensures ∙ c.place_of.ensures in
    let goes = byte_written b c.set_byte.new.self.bytes c.from-from.result i c.args.index c.args.byte c.requires.image c.requires.slot place c.requires.index c.ranges.byte.fits c.set_byte.ensures.0 in
    record { image = goes.0; items = goes.1 }
