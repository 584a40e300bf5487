use Rattle.std.proofs.Common.{◌∙◌, ◌++◌, ◌∷◌, [], ◌<◌, append-nil, append_assoc, ap, sym, map, take, length}
use Rattle.std.specs.Prelude.{slice_get}
use Rattle.std.specs.List.{filter_map}
use Rattle.std.proofs.lemmas.List.{map-append, take_all}
use Rattle.gx_node.specs.Trees.{Child}
use Rattle.gx_node.proofs.Slots.{some_at}
use Rattle.gx_tree.specs.Looking.{item_of}
use Rattle.gx_node.proofs.Blocks.{block_within, slot_more}
use Rattle.gx_tree.proofs.look.descend_block.Goals as goal

pub loop-slot-init : goal.loop-slot-init
loop-slot-init g c = sym (append-nil c.args.stack.now.items)

pub page_of-requires : goal.page_of-requires
page_of-requires g c =
    let p = λ (x : Child g.row.K-Key.Denot). g.K.Probing.passes c.args.wanted.now.bounds x.key in
    rw c.from.ensures
    (block_within p c.args.inner.now.children c.args.from c.as_slice-slots.result.now c.loop-slot.slot-index c.requires (c.as_slice-slots.ensures ∙ c.passing-passing.ensures) c.loop-slot-test.true)

pub loop-slot-preserved : goal.loop-slot-preserved
loop-slot-preserved g c =
    let children = c.args.inner.now.children in
    let f = item_of c.args.counter in
    let slots = c.as_slice-slots.result.now in
    let before = filter_map (slice_get children) (take c.loop-slot.slot-index slots) in
    let p = λ (x : Child g.row.K-Key.Denot). g.K.Probing.passes c.args.wanted.now.bounds x.key in
    let within : c.from.result < length children =
    rw c.from.ensures (block_within p children c.args.from slots c.loop-slot.slot-index c.requires (c.as_slice-slots.ensures ∙ c.passing-passing.ensures) c.loop-slot-test.true)
    in
    let some = some_at children c.from.result within in
    c.in_ok-push.ensures.items ∙ ap (λ i. c.loop-slot.stack.items ++ i ∷ []) c.new.ensures
    ∙ ap (λ n. c.loop-slot.stack.items ++ record { page = n; seen = c.args.counter } ∷ []) (c.page_of.ensures some.0 some.1)
    ∙ ap (λ l. l ++ f some.0 ∷ []) c.loop-slot.invariant
    ∙ append_assoc c.args.stack.now.items (map f before) (f some.0 ∷ [])
    ∙ ap (λ l. c.args.stack.now.items ++ l)
    (sym (map-append f before (some.0 ∷ []))
    ∙ ap (map f) (sym (slot_more children slots c.loop-slot.slot-index c.from.result some.0 c.loop-slot-test.true c.from.ensures some.1)))

pub returns : goal.returns
returns g c =
    let slots = c.as_slice-slots.result.now in
    c.loop-slot.invariant
    ∙ ap (λ l. c.args.stack.now.items ++ map (item_of c.args.counter) (filter_map (slice_get c.args.inner.now.children) l))
    (take_all c.loop-slot.slot-index slots c.loop-slot-test.false ∙ c.as_slice-slots.ensures ∙ c.passing-passing.ensures)
