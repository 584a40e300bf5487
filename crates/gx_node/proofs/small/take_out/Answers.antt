use Rattle.std.proofs.Common.{◌≡◌, false, length, ap, ◌∙◌}
use Rattle.std.proofs.lemmas.List.{take_at, take-replicate}
use Rattle.gx_page.specs.Edits.{with_items}
use Rattle.gx_node.specs.Lists.{staying}
use Rattle.gx_node.specs.Small.{slots_in, sides_with, sides_of}
use Rattle.gx_node.specs.declared.small.TheConstants.{MAX_ITEMS}
use Rattle.gx_node.proofs.SmallItems.{length-sides_of}
use Rattle.gx_node.proofs.small.take_out.Goals as goal

pub returns : goal.returns
returns c =
    let page = c.args.page.now in
    let slots = slots_in c.args.slots.now in
    let count = c.count-count.result in
    let sides = c.set_sides.new.sides in
    let set : sides ≡ sides_of count slots = c.set_sides.ensures ∙ ap (λ l. sides_with l slots) (take-replicate count MAX_ITEMS false c.count-count.ensures.bound) in
    let long : length sides ≡ count = ap length set ∙ length-sides_of count slots in
    c.keep_staying.ensures
    ∙ ap (λ l. with_items page (staying l page.items)) (take_at sides _ count long ∙ set ∙ ap (λ n. sides_of n slots) c.count-count.ensures.count)
