use Rattle.std.proofs.lemmas.Grind.{common_steps}
use Rattle.std.proofs.Common.{arith}
use Rattle.gx_split.proofs.Steps.{sizes_more}
use Rattle.gx_split.proofs.seeds.sizes_of.Goals as goal

pub loop-key-preserved : goal.loop-key-preserved
loop-key-preserved g c =
    sizes_more g.M.Measure.extent c.args.keys.now c.loop-key.key-index c.key-item.result c.size.result c.loop-key.sizes.items c.push.new.self.items c.loop-key-test.true c.key-item.is
    c.size.ensures.value c.size.ensures.bound c.push.ensures.items c.loop-key.invariant

pub push-requires : goal.push-requires
push-requires g c = grind (arith, common_steps)

pub returns : goal.returns
returns g c = grind (arith, common_steps)
