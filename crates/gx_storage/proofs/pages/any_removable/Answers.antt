use Rattle.std.proofs.Common.{◌≤◌, ◌<◌, ◌∙◌, sym, ap, length, arith}
use Rattle.std.specs.Prelude.{nat_lt}
use Rattle.std.proofs.lemmas.Bool.{lt-ltb}
use Rattle.gx_node.specs.Edits.{entry_of}
use Rattle.gx_node.proofs.Slots.{some_at}
use Rattle.gx_node.specs.Writes.{is_sweepable}
use Rattle.gx_storage.proofs.pages.Removing.{none_passes, one_passes}
use Rattle.gx_storage.proofs.pages.any_removable.Goals as goal

pub returns-then-is_removable : goal.returns-then-is_removable
returns-then-is_removable g c test says =
    let pairs = c.args.leaf.now.pairs in
    let slot = c.loop-slot.slot in
    let here : slot < length pairs = omega (arith, c.loop-slot-test.true, c.len-slot-end.ensures) in
    let one = some_at pairs slot here in
    let takes = sym (c.is_removable.ensures test says one.0 one.1) ∙ c.if-is_removable.true in
    sym (lt-ltb 0 _ (one_passes (is_sweepable (λ x. test (entry_of x))) pairs slot one.0 one.1 takes))

pub returns : goal.returns
returns g c test says =
    let pairs = c.args.leaf.now.pairs in
    let ended : length pairs ≤ c.loop-slot.slot = omega (arith, c.loop-slot-test.false, c.len-slot-end.ensures) in
    let none = none_passes (is_sweepable (λ x. test (entry_of x))) pairs (λ k low x at. c.loop-slot.invariant test says k (omega (arith, low, ended)) x at) in
    ap (λ n. nat_lt 0 n) (sym none)
