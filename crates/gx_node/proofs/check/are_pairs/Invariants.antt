use Rattle.std.proofs.Common.{◌≡◌, ℕ, ◌<◌, [], get_or, true}
use Rattle.gx_node.specs.Reading.{format_of, is_pair}
use Rattle.gx_node.proofs.check.are_pairs.Given as goal

abbrev pub invariant-loop-slot : goal.invariant-loop-slot
invariant-loop-slot g l =
    let k = g.K.KeyClass in
    (n : ℕ) → n < l.slot → is_pair (format_of k) (get_or l.page.items n []) ≡ true
