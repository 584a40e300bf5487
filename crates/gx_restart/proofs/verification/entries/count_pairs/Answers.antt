use Rattle.std.proofs.Common.{◌≤◌, ◌+◌, ◌<◌, not, length, ap, ◌∙◌, arith}
use Rattle.std.proofs.lemmas.List.{take_all}
use Rattle.gx_node.specs.Lists.{how_many}
use Rattle.gx_restart.proofs.verification.entries.Counting.{one_slot_more}
use Rattle.gx_restart.proofs.verification.entries.count_pairs.Goals as goal

pub loop-slot-preserved : goal.loop-slot-preserved
loop-slot-preserved g c =
    let less : c.loop-slot.slot < length c.args.leaf.now.pairs = omega (arith, c.len-slot-end.ensures, c.loop-slot-test.true) in
    let one = c.count_pair-live.ensures.few in
    let here = c.count_pair-live.ensures.live in
    let so_far = c.loop-slot.invariant.few in
    record {
      live = ap (λ n. c.loop-slot.live + n) here
          ∙ one_slot_more (λ x. not x.marked) c.args.leaf.now.pairs c.loop-slot.slot c.loop-slot.live (not c.is_marked.result) less c.loop-slot.invariant.live (λ x is. ap not (c.is_marked.ensures x is));
      few = omega (arith, one, so_far);
    }

pub returns : goal.returns
returns g c =
    let all : length c.args.leaf.now.pairs ≤ c.loop-slot.slot = omega (arith, c.len-slot-end.ensures, c.loop-slot-test.false) in
    c.loop-slot.invariant.live ∙ ap (λ xs. how_many (λ x. not x.marked) xs) (take_all c.loop-slot.slot c.args.leaf.now.pairs all)
