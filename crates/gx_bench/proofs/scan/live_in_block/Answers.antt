use Rattle.std.proofs.Common.{◌∙◌, ◌<◌, arith, ap, sym, not, length, map, min, ◌+◌, ◌-◌}
use Rattle.std.specs.Prelude.{slice_get}
use Rattle.std.specs.List.{count_by, filter_map}
use Rattle.std.proofs.lemmas.List.{take_all}
use Rattle.gx_geom.specs.Rectangles.{Rectangle}
use Rattle.gx_class.specs.Probes.{corners, are_between}
use Rattle.gx_node.specs.Trees.{Pair}
use Rattle.gx_node.proofs.Blocks.{block_within}
use Rattle.gx_node.proofs.Gathering.{hits_few}
use Rattle.gx_node.proofs.Slots.{some_at}
use Rattle.gx_bench.proofs.scan.Counting.{one_more_slot, one_counted}
use Rattle.gx_bench.proofs.scan.live_in_block.Goals as goal

pub is_marked-requires : goal.is_marked-requires
is_marked-requires c =
    let p = λ (x : Pair Rectangle). are_between c.args.probe.now.low c.args.probe.now.high (corners x.key) in
    rw c.from.ensures
    (block_within p c.args.leaf.now.pairs c.args.from c.as_slice-slots.result.now c.loop-slot.slot-index c.requires (c.as_slice-slots.ensures ∙ c.passing-passing.ensures) c.loop-slot-test.true)

pub loop-slot-preserved : goal.loop-slot-preserved
loop-slot-preserved c =
    let pairs = c.args.leaf.now.pairs in
    let slots = c.as_slice-slots.result.now in
    let p = λ (x : Pair Rectangle). are_between c.args.probe.now.low c.args.probe.now.high (corners x.key) in
    let within : c.from.result < length pairs =
    rw c.from.ensures (block_within p pairs c.args.from slots c.loop-slot.slot-index c.requires (c.as_slice-slots.ensures ∙ c.passing-passing.ensures) c.loop-slot-test.true)
    in
    let some = some_at pairs c.from.result within in
    let one = one_counted c.from-hits.result some.0 c.is_marked.result c.from-hits.ensures (c.is_marked.ensures some.0 some.1) in
    record {
      counted = ap (λ n. n + c.from-hits.result) c.loop-slot.invariant.counted
          ∙ sym (one_more_slot (λ (pair : Pair Rectangle). not pair.marked) pairs slots c.loop-slot.slot-index c.from.result c.from-hits.result some.0 c.loop-slot-test.true c.from.ensures some.1 one.0);
      few = omega (arith, c.loop-slot.invariant.few, one.1);
    }

pub returns : goal.returns
returns c =
    let pairs = c.args.leaf.now.pairs in
    let slots = c.as_slice-slots.result.now in
    let p = λ (x : Pair Rectangle). are_between c.args.probe.now.low c.args.probe.now.high (corners x.key) in
    let long = hits_few (map p pairs) c.args.from (min 64 (length pairs - c.args.from)) in
    record {
      hits = c.loop-slot.invariant.counted
          ∙ ap (λ l. count_by (λ (pair : Pair Rectangle). not pair.marked) (filter_map (slice_get pairs) l))
          (take_all c.loop-slot.slot-index slots c.loop-slot-test.false ∙ c.as_slice-slots.ensures ∙ c.passing-passing.ensures);
      few = omega (arith, long, c.loop-slot.invariant.few, c.loop-slot.auto.slot-index-end, ap length (c.as_slice-slots.ensures ∙ c.passing-passing.ensures));
    }
