use Rattle.gx_geom.specs.SolidLaws.{union_covers_first, union_covers_second, union_is_least, union_is_solid}
use Rattle.gx_geom.proofs.laws.solid_union_is_least.Goals as goal

pub returns : goal.returns
returns c = record {
  covers_first = union_covers_first;
  covers_second = union_covers_second;
  least = union_is_least;
  is_box = union_is_solid;
}
