use Rattle.std.proofs.Common.{◌≡◌, ℕ, ◌<◌, [], get_or, true}
use Rattle.gx_node.specs.Reading.{format_of, is_child}
use Rattle.gx_node.proofs.check.are_children.Given as goal

abbrev pub invariant-loop-slot : goal.invariant-loop-slot
invariant-loop-slot g l =
    let k = g.K.KeyClass in
    (n : ℕ) → n < l.slot → is_child (format_of k) l.used (get_or l.page.items n []) ≡ true
