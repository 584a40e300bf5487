use Rattle.std.proofs.Common.{ap, ◌∙◌, ◌-◌}
use Rattle.gx_split.proofs.choice.growth.Goals as goal

pub difference-requires : goal.difference-requires
difference-requires g c = record {
  order = rw (c.size.ensures.value, c.size-2.ensures.value, c.join.ensures.value) c.join.ensures.no_smaller;
  short = λ is. rw c.size.ensures.value (c.size.ensures.short is);
}

pub returns-clause-value : goal.returns-clause-value
returns-clause-value g c =
    let size = g.M.Measure.extent in
    c.difference.ensures ∙ ap (λ n. n - c.size-2.result) (c.size.ensures.value ∙ ap size c.join.ensures.value)
    ∙ ap (λ n. size (g.M.Measure.joined c.args.cover.now c.args.key.now) - n) c.size-2.ensures.value
