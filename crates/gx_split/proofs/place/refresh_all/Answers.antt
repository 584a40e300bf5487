use Rattle.std.proofs.Common.{arith, refl, rules}
use Rattle.std.proofs.lemmas.List.Edits.{map_over_more}
use Rattle.std.proofs.lemmas.List.Elements.{All-set}
use Rattle.gx_split.specs.Split.{measure}
use Rattle.gx_split.specs.Waiting.{with_growth, IsShort}
use Rattle.gx_split.proofs.place.refresh_all.Goals as goal

pub loop-other-init : goal.loop-other-init
loop-other-init g c = record { grown = refl; short = c.requires }

pub refresh-requires : goal.refresh-requires
refresh-requires g c = c.loop-other.invariant.short c.loop-other.other-index c.other-item.result (search rules)

pub loop-other-preserved : goal.loop-other-preserved
loop-other-preserved g c =
    let m = measure g.M.Measure.joined g.M.Measure.extent in
    let before = c.loop-other.invariant.grown in
    record {
      grown = grind (arith, map_over_more (with_growth m c.args.second c.args.covers.now));
      short = All-set (IsShort g.M.Measure.SHORT) c.loop-other.waiting c.loop-other.other-index c.refresh.new.waiting c.refresh.ensures.short c.loop-other.invariant.short;
    }
