use Rattle.std.proofs.Common.{◌∙◌, subst, arith}
use Rattle.std.proofs.lemmas.List.{length-set}
use Rattle.gx_bench.specs.Choices.{IsChosen}
use Rattle.gx_bench.proofs.choose.Chosen.{one_more_chosen, fewer_chosen, none_chosen}
use Rattle.gx_bench.proofs.choose.choose_all.Goals as goal

pub loop-place-init : goal.loop-place-init
loop-place-init c = record { as_many = c.requires.as_many; chosen = none_chosen c.args.inner.now.children c.args.keys.now c.args.slots.now }

pub loop-place-preserved : goal.loop-place-preserved
loop-place-preserved c =
    let inv = c.loop-place.invariant in
    record {
      as_many = length-set c.loop-place.slots c.loop-place.place c.least_penalty.result ∙ inv.as_many;
      chosen = one_more_chosen c.args.inner.now.children c.args.keys.now c.loop-place.slots c.loop-place.place _ c.least_penalty.result
          c.loop-place-test.true inv.as_many inv.chosen
          (subst (λ key. IsChosen c.args.inner.now.children key c.least_penalty.result) c.key_of.ensures c.least_penalty.ensures);
    }

pub returns : goal.returns
returns c = fewer_chosen c.args.inner.now.children c.args.keys.now c.loop-place.slots c.loop-place.place _ (omega (arith, c.loop-place-test.false)) c.loop-place.invariant.chosen
