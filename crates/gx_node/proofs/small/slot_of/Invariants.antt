use Rattle.std.proofs.Common.{◌≡◌, ℕ, ◌<◌, [], get_or, false}
use Rattle.gx_node.specs.Reading.{format_of}
use Rattle.gx_node.specs.Small.{is_item_of}
use Rattle.gx_node.proofs.small.slot_of.Given as goal

abbrev pub invariant-loop-slot : goal.invariant-loop-slot
invariant-loop-slot g l =
    (n : ℕ) → n < l.slot → is_item_of (format_of g.K.KeyClass) l.row l.key (get_or l.page.items n []) ≡ false
