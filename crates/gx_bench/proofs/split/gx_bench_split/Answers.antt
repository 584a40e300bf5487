-- What is split are the keys of the boxes.
use Rattle.std.proofs.Common.{List, ap, ◌∙◌}
use Rattle.gx_geom.specs.Rectangles.{Rectangle, union, area}
use Rattle.gx_split.specs.Split.{measure, split_sides}
use Rattle.gx_bench.proofs.split.gx_bench_split.Goals as goal

pub returns : goal.returns
returns c = c.split.ensures.sides ∙ ap (λ (keys : List Rectangle). split_sides (measure union area) keys c.args.least) c.write_keys.ensures
