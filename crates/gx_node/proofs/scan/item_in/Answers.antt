use Rattle.std.proofs.Common.{◌∙◌, ◌-◌, ◌*◌, ap, refl, arith, [], length, take}
use Rattle.gx_node.specs.Reading.{format_of}
use Rattle.gx_node.proofs.Heaps.{cut_at}
use Rattle.gx_node.proofs.scan.Scanning.{all_of_length}
use Rattle.gx_node.proofs.scan.item_in.Goals as goal

pub overflow_mul-slot : goal.overflow_mul-slot
overflow_mul-slot g c =
    let items = c.args.page.now.items in
    let whole = c.heap-heap.result.now in
    let all = all_of_length (format_of g.K.KeyClass) c.args.size items c.requires.keyed in
    let cut = cut_at items c.args.size c.args.slot whole (take (length whole - c.args.slot * c.args.size) whole) all c.requires.slot c.heap-heap.ensures.heap refl in
    record { fits = omega (arith, cut.0, c.heap-heap.type_inv.0) }

pub overflow_sub-heap : goal.overflow_sub-heap
overflow_sub-heap g c =
    let items = c.args.page.now.items in
    let whole = c.heap-heap.result.now in
    let all = all_of_length (format_of g.K.KeyClass) c.args.size items c.requires.keyed in
    (cut_at items c.args.size c.args.slot whole (take (length whole - c.args.slot * c.args.size) whole) all c.requires.slot c.heap-heap.ensures.heap refl).0

pub overflow_sub-front : goal.overflow_sub-front
overflow_sub-front g c =
    let items = c.args.page.now.items in
    let all = all_of_length (format_of g.K.KeyClass) c.args.size items c.requires.keyed in
    (cut_at items c.args.size c.args.slot c.heap-heap.result.now c.split_at.result.0.now all c.requires.slot c.heap-heap.ensures.heap c.split_at.ensures.front).1.room

pub returns-clause-item : goal.returns-clause-item
returns-clause-item g c =
    let items = c.args.page.now.items in
    let all = all_of_length (format_of g.K.KeyClass) c.args.size items c.requires.keyed in
    c.split_at-2.ensures.back ∙ (cut_at items c.args.size c.args.slot c.heap-heap.result.now c.split_at.result.0.now all c.requires.slot c.heap-heap.ensures.heap c.split_at.ensures.front).1.behind

pub returns-clause-long : goal.returns-clause-long
returns-clause-long g c =
    let items = c.args.page.now.items in
    let all = all_of_length (format_of g.K.KeyClass) c.args.size items c.requires.keyed in
    let item = c.split_at-2.ensures.back ∙ (cut_at items c.args.size c.args.slot c.heap-heap.result.now c.split_at.result.0.now all c.requires.slot c.heap-heap.ensures.heap c.split_at.ensures.front).1.behind in
    ap length item ∙ (c.requires.keyed c.args.slot [] c.requires.slot).long
