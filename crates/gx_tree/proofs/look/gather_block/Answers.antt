use Rattle.std.proofs.Common.{◌∙◌, ◌++◌, ◌∷◌, [], ◌<◌, append-nil, append_assoc, ap, sym, filter, map, take, length}
use Rattle.std.specs.Prelude.{slice_get}
use Rattle.std.specs.List.{filter_map}
use Rattle.std.proofs.lemmas.List.{map-append, take_all}
use Rattle.std.proofs.lemmas.List.Elements.{filter-append}
use Rattle.gx_node.specs.Trees.{Pair}
use Rattle.gx_node.proofs.Slots.{some_at}
use Rattle.gx_tree.specs.Found.{found_at}
use Rattle.gx_tree.specs.Wants.{has_row}
use Rattle.gx_node.proofs.Blocks.{block_within, slot_more}
use Rattle.gx_tree.proofs.look.gather_block.Goals as goal

pub loop-slot-init : goal.loop-slot-init
loop-slot-init g c = c.reserve.ensures.items ∙ sym (append-nil c.args.found.now.items)

pub keep-requires : goal.keep-requires
keep-requires g c =
    let p = λ (x : Pair g.row.K-Key.Denot). g.K.Probing.passes c.args.wanted.now.keys x.key in
    rw c.from.ensures
    (block_within p c.args.leaf.now.pairs c.args.from c.as_slice-slots.result.now c.loop-slot.slot-index c.requires (c.as_slice-slots.ensures ∙ c.passing-passing.ensures) c.loop-slot-test.true)

pub loop-slot-preserved : goal.loop-slot-preserved
loop-slot-preserved g c =
    let pairs = c.args.leaf.now.pairs in
    let q = has_row c.args.wanted.now.row in
    let f = found_at c.args.page in
    let slots = c.as_slice-slots.result.now in
    let before = filter_map (slice_get pairs) (take c.loop-slot.slot-index slots) in
    let p = λ (x : Pair g.row.K-Key.Denot). g.K.Probing.passes c.args.wanted.now.keys x.key in
    let within : c.from.result < length pairs =
    rw c.from.ensures (block_within p pairs c.args.from slots c.loop-slot.slot-index c.requires (c.as_slice-slots.ensures ∙ c.passing-passing.ensures) c.loop-slot-test.true)
    in
    let some = some_at pairs c.from.result within in
    c.in_ok-keep.ensures some.0 some.1 ∙ ap (λ l. l ++ map f (filter q (some.0 ∷ []))) c.loop-slot.invariant
    ∙ append_assoc c.args.found.now.items (map f (filter q before)) (map f (filter q (some.0 ∷ [])))
    ∙ ap (λ l. c.args.found.now.items ++ l)
    (sym (map-append f (filter q before) (filter q (some.0 ∷ []))) ∙ ap (map f) (sym (filter-append q before (some.0 ∷ [])))
    ∙ ap (λ l. map f (filter q l)) (sym (slot_more pairs slots c.loop-slot.slot-index c.from.result some.0 c.loop-slot-test.true c.from.ensures some.1)))

pub returns : goal.returns
returns g c =
    let pairs = c.args.leaf.now.pairs in
    let slots = c.as_slice-slots.result.now in
    c.loop-slot.invariant
    ∙ ap (λ l. c.args.found.now.items ++ map (found_at c.args.page) (filter (has_row c.args.wanted.now.row) (filter_map (slice_get pairs) l)))
    (take_all c.loop-slot.slot-index slots c.loop-slot-test.false ∙ c.as_slice-slots.ensures ∙ c.passing-passing.ensures)
