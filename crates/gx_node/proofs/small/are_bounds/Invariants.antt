use Rattle.std.proofs.Common.{◌≡◌, ℕ, ◌<◌, [], get_or, true}
use Rattle.gx_node.specs.Reading.{format_of}
use Rattle.gx_node.specs.Small.{is_bound}
use Rattle.gx_node.proofs.small.are_bounds.Given as goal

abbrev pub invariant-loop-slot : goal.invariant-loop-slot
invariant-loop-slot g l = (n : ℕ) → n < l.slot → is_bound (format_of g.K.KeyClass) (get_or l.page.items n []) ≡ true
