use Rattle.std.proofs.Common.{◌≡◌, ◌∙◌, ◌<◌, ◌+◌, ◌-◌, ◌*◌, ap, refl, arith, [], length, take, List, ℕ, min}
use Rattle.gx_page.proofs.Images.{length-heap}
use Rattle.gx_node.specs.declared.passing.TheConstants.{BLOCK}
use Rattle.gx_node.specs.Hits.{hits_among}
use Rattle.gx_node.specs.Reading.{format_of, has_key, key_of}
use Rattle.gx_node.proofs.Heaps.{heap_front, cut_item}
use Rattle.gx_node.proofs.Gathering.{gathering_begins, gathering_goes_on}
use Rattle.gx_node.proofs.scan.Scanning.{all_of_length}
use Rattle.gx_node.proofs.scan.passing.Goals as goal

pub overflow_mul-from : goal.overflow_mul-from
overflow_mul-from g c =
    let f = format_of g.K.KeyClass in
    let items = c.args.page.now.items in
    let fits = c.count.ensures.well_formed.fits in
    let front = heap_front items c.args.size c.args.from (all_of_length f c.args.size items c.requires.keyed) c.requires.from in
    record { fits = omega (arith, front.0, length-heap items) }

pub overflow_sub-heap : goal.overflow_sub-heap
overflow_sub-heap g c =
    let f = format_of g.K.KeyClass in
    let items = c.args.page.now.items in
    let front = heap_front items c.args.size c.args.from (all_of_length f c.args.size items c.requires.keyed) c.requires.from in
    omega (arith, front.0, length-heap items)

pub loop-place-init : goal.loop-place-init
loop-place-init g c =
    let f = format_of g.K.KeyClass in
    let items = c.args.page.now.items in
    record {
      gathering = gathering_begins _ items c.args.size c.args.from _ _ (all_of_length f c.args.size items c.requires.keyed) c.requires.from
          (c.split_at.ensures.front ∙ ap (λ l. take (length l - c.args.from * c.args.size) l) c.heap-heap.ensures.heap) refl;
      few = omega arith;
    }

pub overflow_sub-rest : goal.overflow_sub-rest
overflow_sub-rest g c =
    let f = format_of g.K.KeyClass in
    let items = c.args.page.now.items in
    let count = c.min-count.ensures in
    let all = c.count.ensures.count in
    (cut_item items c.args.size (c.args.from + c.loop-place.place) c.loop-place.rest.now (all_of_length f c.args.size items c.requires.keyed) (omega arith) c.loop-place.invariant.gathering.left).room

pub item_passes-passes-requires-clause-long : goal.item_passes-passes-requires-clause-long
item_passes-passes-requires-clause-long g c =
    let f = format_of g.K.KeyClass in
    let items = c.args.page.now.items in
    let slot = c.args.from + c.loop-place.place in
    let count = c.min-count.ensures in
    let all = c.count.ensures.count in
    let here : slot < length items = omega arith in
    let cut = cut_item items c.args.size slot c.loop-place.rest.now (all_of_length f c.args.size items c.requires.keyed) here c.loop-place.invariant.gathering.left in
    omega (arith, ap length (c.split_at-in-loop-place.ensures.back ∙ cut.behind), (c.requires.keyed slot [] here).long)

pub item_passes-passes-requires-clause-key : goal.item_passes-passes-requires-clause-key
item_passes-passes-requires-clause-key g c =
    let f = format_of g.K.KeyClass in
    let items = c.args.page.now.items in
    let slot = c.args.from + c.loop-place.place in
    let count = c.min-count.ensures in
    let all = c.count.ensures.count in
    let here : slot < length items = omega arith in
    let cut = cut_item items c.args.size slot c.loop-place.rest.now (all_of_length f c.args.size items c.requires.keyed) here c.loop-place.invariant.gathering.left in
    ap (has_key f) (c.split_at-in-loop-place.ensures.back ∙ cut.behind) ∙ (c.requires.keyed slot [] here).key

pub loop-place-preserved : goal.loop-place-preserved
loop-place-preserved g c =
    let f = format_of g.K.KeyClass in
    let items = c.args.page.now.items in
    let slot = c.args.from + c.loop-place.place in
    let count = c.min-count.ensures in
    let all = c.count.ensures.count in
    let here : slot < length items = omega arith in
    let cut = cut_item items c.args.size slot c.loop-place.rest.now (all_of_length f c.args.size items c.requires.keyed) here c.loop-place.invariant.gathering.left in
    let passes = λ (item : List ℕ). g.K.Probing.passes c.args.probe.now (key_of f item) in
    record {
      gathering = gathering_goes_on passes items c.args.from c.loop-place.place _ c.loop-place.rest.now _ (take c.loop-place.found c.loop-place.slots) _ c.item_passes-passes.result here
          c.loop-place.invariant.gathering (c.split_at-in-loop-place.ensures.front ∙ cut.before) refl
          (c.item_passes-passes.ensures ∙ ap passes (c.split_at-in-loop-place.ensures.back ∙ cut.behind)) c.offer-found.ensures.kept;
      few = omega (arith, c.loop-place.invariant.few, c.offer-found.ensures.next);
    }

pub returns : goal.returns
returns g c =
    let count = c.min-count.ensures in
    let all = c.count.ensures.count in
    let end : c.loop-place.place ≡ min BLOCK (length c.args.page.now.items - c.args.from) = omega arith in
    c.of.ensures ∙ c.loop-place.invariant.gathering.hits ∙ ap (hits_among _ c.args.from) end
