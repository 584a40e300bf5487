use Rattle.std.proofs.Common.{◌≡◌, ◌∙◌, ◌≤◌, ◌+◌, ◌*◌, arith, ap, sym, not, length, take}
use Rattle.std.specs.Prelude.{◌&&◌}
use Rattle.std.specs.List.{count_by}
use Rattle.std.proofs.lemmas.List.{length-map, take_all}
use Rattle.gx_geom.specs.Rectangles.{Rectangle}
use Rattle.gx_class.specs.Probes.{corners, are_between}
use Rattle.gx_node.specs.Trees.{Pair, Node}
use Rattle.gx_node.specs.Reading.{pair_of}
use Rattle.gx_bench.specs.Scans.{boxes, is_live_hit}
use Rattle.gx_bench.proofs.scan.Counting.{one_more_block}
use Rattle.gx_bench.proofs.scan.live_hits.Goals as goal

pub live_in_block-hits-requires : goal.live_in_block-hits-requires
live_in_block-hits-requires c =
    let many : c.count-count.result ≡ length c.of-leaf.result.pairs =
    c.count-count.ensures.count ∙ sym (length-map c.args.page.now.items (pair_of boxes)) ∙ ap (λ (n : Node Rectangle). length n.pairs) (sym c.of-leaf.ensures) in
    let blocks = c.div_ceil-block-end.ensures in
    omega arith

pub loop-block-preserved : goal.loop-block-preserved
loop-block-preserved c =
    let pairs = c.of-leaf.result.pairs in
    let p = λ (x : Pair Rectangle). are_between c.args.probe.now.low c.args.probe.now.high (corners x.key) in
    let q = λ (x : Pair Rectangle). not x.marked in
    let from = c.loop-block.block * 64 in
    let many : c.count-count.result ≡ length pairs =
    c.count-count.ensures.count ∙ sym (length-map c.args.page.now.items (pair_of boxes)) ∙ ap (λ (n : Node Rectangle). length n.pairs) (sym c.of-leaf.ensures) in
    let blocks = c.div_ceil-block-end.ensures in
    let within : from ≤ length pairs = omega arith in
    let next : from + 64 ≡ (c.loop-block.block + 1) * 64 = omega arith in
    record {
      few = omega (arith, c.loop-block.invariant.few, c.live_in_block-hits.ensures.few);
      counted = ap (λ n. n + c.live_in_block-hits.result) c.loop-block.invariant.counted
          ∙ ap (λ n. count_by (λ x. q x && p x) (take from pairs) + n) c.live_in_block-hits.ensures.hits ∙ sym (one_more_block q p pairs from within)
          ∙ ap (λ k. count_by (λ x. q x && p x) (take k pairs)) next;
    }

pub returns : goal.returns
returns c =
    let pairs = c.of-leaf.result.pairs in
    let hit = is_live_hit (λ key. are_between c.args.probe.now.low c.args.probe.now.high (corners key)) in
    let many : c.count-count.result ≡ length pairs =
    c.count-count.ensures.count ∙ sym (length-map c.args.page.now.items (pair_of boxes)) ∙ ap (λ (n : Node Rectangle). length n.pairs) (sym c.of-leaf.ensures) in
    let blocks = c.div_ceil-block-end.ensures in
    record {
      hits = c.loop-block.invariant.counted ∙ ap (count_by hit) (take_all (c.loop-block.block * 64) pairs (omega arith))
          ∙ ap (λ (n : Node Rectangle). count_by hit n.pairs) c.of-leaf.ensures;
      few = omega (arith, c.loop-block.invariant.few, c.loop-block.auto.block-end, c.count-count.ensures.bound);
      well_formed = c.count-count.ensures.well_formed;
    }
