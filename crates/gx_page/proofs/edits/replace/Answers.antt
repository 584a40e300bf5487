-- The bytes of the item, written over, are the new item's.
use Rattle.std.proofs.Common.{◌≡◌, ℕ, ◌+◌, [], length, take, get_or, ap, ◌∙◌}
use Rattle.gx_page.specs.Format.{total}
use Rattle.gx_page.specs.Reading.{read_of}
use Rattle.gx_page.proofs.Steps.{item_written}
use Rattle.gx_page.proofs.edits.replace.Goals as goal

pub returns : goal.returns
returns c =
    let b = c.args.block.now.bytes in let i = c.args.slot in let items = (read_of b).items in
    let place : c.from-from.result + (total (take i items) + length (get_or items i [])) ≡ 4096 = ap (λ (n : ℕ). n + (total (take i items) + length (get_or items i []))) c.from-from.ensures ∙ c.place_of.ensures in
    let goes = item_written b c.write.new.self.bytes c.from-from.result i c.args.bytes.now c.requires.image c.requires.slot place c.requires.size (λ k. (c.type_inv.bytes k).fits) c.write.ensures in
    record { image = goes.0; items = goes.1 }
