use Rattle.gx_geom.specs.Spans.{span_cmp}
use Rattle.gx_class.specs.HalvingLaws.{halved_in_order}
use Rattle.gx_class.specs.IntervalKeyLaws.{spans_in_order}
use Rattle.gx_class.proofs.laws.intervals_are_halved_in_order.Goals as goal

pub returns : goal.returns
returns c = λ keys. halved_in_order span_cmp spans_in_order keys
