use Rattle.std.proofs.lemmas.Grind.{common_steps}
use Rattle.std.proofs.Common.{◌∙◌, ◌<◌, ◌-◌, ◌*◌, ap, sym, arith, [], length, take, List, ℕ}
use Rattle.gx_page.proofs.Images.{length-heap}
use Rattle.gx_node.specs.Reading.{format_of, has_key, key_of}
use Rattle.gx_node.proofs.Heaps.{heap_front, cut_item}
use Rattle.gx_node.proofs.scan.Scanning.{all_of_length, scan_begins, scan_goes_on, scan_finds}
use Rattle.gx_node.proofs.scan.next_passing.Goals as goal

pub overflow_mul-from : goal.overflow_mul-from
overflow_mul-from g c =
    let f = format_of g.K.KeyClass in
    let items = c.args.page.now.items in
    let fits = c.count-count.ensures.well_formed.fits in
    let front = heap_front items c.args.size c.args.from (all_of_length f c.args.size items c.requires.keyed) c.requires.from in
    record { fits = omega (arith, front.0, length-heap items) }

pub overflow_sub-heap : goal.overflow_sub-heap
overflow_sub-heap g c =
    let f = format_of g.K.KeyClass in
    let items = c.args.page.now.items in
    let front = heap_front items c.args.size c.args.from (all_of_length f c.args.size items c.requires.keyed) c.requires.from in
    omega (arith, front.0, length-heap items)

pub loop-slot-init : goal.loop-slot-init
loop-slot-init g c =
    let f = format_of g.K.KeyClass in
    let items = c.args.page.now.items in
    scan_begins _ items c.args.size c.args.from _ (all_of_length f c.args.size items c.requires.keyed) c.requires.from
    (c.split_at.ensures.front ∙ ap (λ l. take (length l - c.args.from * c.args.size) l) c.heap-heap.ensures.heap)

pub overflow_sub-rest : goal.overflow_sub-rest
overflow_sub-rest g c =
    let f = format_of g.K.KeyClass in
    let items = c.args.page.now.items in
    (cut_item items c.args.size c.loop-slot.slot c.loop-slot.rest.now (all_of_length f c.args.size items c.requires.keyed) (omega arith) c.loop-slot.invariant.left).room

pub item_passes-requires-clause-long : goal.item_passes-requires-clause-long
item_passes-requires-clause-long g c =
    let f = format_of g.K.KeyClass in
    let items = c.args.page.now.items in
    let slot = c.loop-slot.slot in
    let here : slot < length items = omega arith in
    let cut = cut_item items c.args.size slot c.loop-slot.rest.now (all_of_length f c.args.size items c.requires.keyed) here c.loop-slot.invariant.left in
    omega (arith, ap length (c.split_at-in-loop-slot.ensures.back ∙ cut.behind), (c.requires.keyed slot [] here).long)

pub item_passes-requires-clause-key : goal.item_passes-requires-clause-key
item_passes-requires-clause-key g c =
    let f = format_of g.K.KeyClass in
    let items = c.args.page.now.items in
    let slot = c.loop-slot.slot in
    let here : slot < length items = omega arith in
    let cut = cut_item items c.args.size slot c.loop-slot.rest.now (all_of_length f c.args.size items c.requires.keyed) here c.loop-slot.invariant.left in
    ap (has_key f) (c.split_at-in-loop-slot.ensures.back ∙ cut.behind) ∙ (c.requires.keyed slot [] here).key

pub returns-then-item_passes : goal.returns-then-item_passes
returns-then-item_passes g c =
    let f = format_of g.K.KeyClass in
    let items = c.args.page.now.items in
    let slot = c.loop-slot.slot in
    let here : slot < length items = omega arith in
    let cut = cut_item items c.args.size slot c.loop-slot.rest.now (all_of_length f c.args.size items c.requires.keyed) here c.loop-slot.invariant.left in
    let passes = λ (item : List ℕ). g.K.Probing.passes c.args.probe.now (key_of f item) in
    scan_finds passes items c.args.from slot c.loop-slot.rest.now here (omega arith) c.loop-slot.invariant
    (ap passes (sym (c.split_at-in-loop-slot.ensures.back ∙ cut.behind)) ∙ sym c.item_passes.ensures ∙ c.if-item_passes.true)

pub loop-slot-preserved : goal.loop-slot-preserved
loop-slot-preserved g c =
    let f = format_of g.K.KeyClass in
    let items = c.args.page.now.items in
    let slot = c.loop-slot.slot in
    let here : slot < length items = omega arith in
    let all = all_of_length f c.args.size items c.requires.keyed in
    let cut = cut_item items c.args.size slot c.loop-slot.rest.now all here c.loop-slot.invariant.left in
    let passes = λ (item : List ℕ). g.K.Probing.passes c.args.probe.now (key_of f item) in
    scan_goes_on passes items c.args.size c.args.from slot c.loop-slot.rest.now _ all here c.loop-slot.invariant
    (ap passes (sym (c.split_at-in-loop-slot.ensures.back ∙ cut.behind)) ∙ sym c.item_passes.ensures ∙ c.if-item_passes.false)
    c.split_at-in-loop-slot.ensures.front

pub returns : goal.returns
returns g c = grind (arith, common_steps)
