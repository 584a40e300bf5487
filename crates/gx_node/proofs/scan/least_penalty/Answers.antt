use Rattle.std.proofs.Common.{◌∙◌, ◌<◌, ap, sym, arith, [], length}
use Rattle.gx_node.specs.Reading.{format_of, has_key, key_of}
use Rattle.gx_node.proofs.scan.Choice.{choice_begins, choice_keeps, choice_takes}
use Rattle.gx_node.proofs.Heaps.{cut_item}
use Rattle.gx_node.proofs.scan.Scanning.{all_of_length}
use Rattle.gx_node.proofs.scan.least_penalty.Goals as goal

pub overflow_sub-heap : goal.overflow_sub-heap
overflow_sub-heap g c =
    let items = c.args.page.now.items in
    (cut_item items c.args.size 0 c.heap-heap.result.now (all_of_length (format_of g.K.KeyClass) c.args.size items c.requires.keyed) c.requires.some c.heap-heap.ensures.heap).room

pub item_penalty-least-requires : goal.item_penalty-least-requires
item_penalty-least-requires g c =
    let f = format_of g.K.KeyClass in
    let items = c.args.page.now.items in
    let cut = cut_item items c.args.size 0 c.heap-heap.result.now (all_of_length f c.args.size items c.requires.keyed) c.requires.some c.heap-heap.ensures.heap in
    let first = c.split_at.ensures.back ∙ cut.behind in
    record {
      long = omega (arith, ap length first, (c.requires.keyed 0 [] c.requires.some).long, c.requires.long);
      bound = ap (has_key f) first ∙ (c.requires.keyed 0 [] c.requires.some).key;
    }

pub loop-slot-init : goal.loop-slot-init
loop-slot-init g c =
    let f = format_of g.K.KeyClass in
    let items = c.args.page.now.items in
    let cut = cut_item items c.args.size 0 c.heap-heap.result.now (all_of_length f c.args.size items c.requires.keyed) c.requires.some c.heap-heap.ensures.heap in
    choice_begins (λ item. g.K.KeyClass.cost (key_of f item) c.args.key.now) items c.split_at.result.0.now c.split_at.result.1.now c.item_penalty-least.result
    (c.split_at.ensures.front ∙ cut.before) (c.split_at.ensures.back ∙ cut.behind) c.requires.some c.item_penalty-least.ensures

pub overflow_sub-rest : goal.overflow_sub-rest
overflow_sub-rest g c =
    let items = c.args.page.now.items in
    (cut_item items c.args.size c.loop-slot.slot c.loop-slot.rest.now (all_of_length (format_of g.K.KeyClass) c.args.size items c.requires.keyed) (omega arith) c.loop-slot.invariant.left).room

pub item_penalty-penalty-requires-clause-long : goal.item_penalty-penalty-requires-clause-long
item_penalty-penalty-requires-clause-long g c =
    let items = c.args.page.now.items in
    let slot = c.loop-slot.slot in
    let here : slot < length items = omega arith in
    let cut = cut_item items c.args.size slot c.loop-slot.rest.now (all_of_length (format_of g.K.KeyClass) c.args.size items c.requires.keyed) here c.loop-slot.invariant.left in
    omega (arith, ap length (c.split_at-in-loop-slot.ensures.back ∙ cut.behind), (c.requires.keyed slot [] here).long)

pub item_penalty-penalty-requires-clause-bound : goal.item_penalty-penalty-requires-clause-bound
item_penalty-penalty-requires-clause-bound g c =
    let f = format_of g.K.KeyClass in
    let items = c.args.page.now.items in
    let slot = c.loop-slot.slot in
    let here : slot < length items = omega arith in
    let cut = cut_item items c.args.size slot c.loop-slot.rest.now (all_of_length f c.args.size items c.requires.keyed) here c.loop-slot.invariant.left in
    ap (has_key f) (c.split_at-in-loop-slot.ensures.back ∙ cut.behind) ∙ (c.requires.keyed slot [] here).key

pub loop-slot-preserved-then-not-costs_less : goal.loop-slot-preserved-then-not-costs_less
loop-slot-preserved-then-not-costs_less g c =
    let f = format_of g.K.KeyClass in
    let items = c.args.page.now.items in
    let slot = c.loop-slot.slot in
    let here : slot < length items = omega arith in
    let cut = cut_item items c.args.size slot c.loop-slot.rest.now (all_of_length f c.args.size items c.requires.keyed) here c.loop-slot.invariant.left in
    choice_keeps (λ item. g.K.KeyClass.cost (key_of f item) c.args.key.now) items slot c.loop-slot.rest.now c.split_at-in-loop-slot.result.0.now c.split_at-in-loop-slot.result.1.now
    c.loop-slot.best c.loop-slot.least c.item_penalty-penalty.result here c.loop-slot.invariant
    (c.split_at-in-loop-slot.ensures.front ∙ cut.before) (c.split_at-in-loop-slot.ensures.back ∙ cut.behind) c.item_penalty-penalty.ensures
    (sym c.costs_less.ensures ∙ c.if-not-costs_less.true)

pub loop-slot-preserved : goal.loop-slot-preserved
loop-slot-preserved g c =
    let f = format_of g.K.KeyClass in
    let items = c.args.page.now.items in
    let slot = c.loop-slot.slot in
    let here : slot < length items = omega arith in
    let cut = cut_item items c.args.size slot c.loop-slot.rest.now (all_of_length f c.args.size items c.requires.keyed) here c.loop-slot.invariant.left in
    choice_takes (λ item. g.K.KeyClass.cost (key_of f item) c.args.key.now) items slot c.loop-slot.rest.now c.split_at-in-loop-slot.result.0.now c.split_at-in-loop-slot.result.1.now
    c.loop-slot.best c.loop-slot.least c.item_penalty-penalty.result here c.loop-slot.invariant
    (c.split_at-in-loop-slot.ensures.front ∙ cut.before) (c.split_at-in-loop-slot.ensures.back ∙ cut.behind) c.item_penalty-penalty.ensures
    (sym c.costs_less.ensures ∙ c.if-not-costs_less.false)
