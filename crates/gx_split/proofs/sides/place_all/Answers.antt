use Rattle.std.proofs.Common.{◌≡◌, ◌-◌, ◌<◌, All, length, ap, sym, ◌∙◌, arith}
use Rattle.gx_split.specs.declared.waiting.Waiting.{Waiting}
use Rattle.gx_split.specs.Split.{measure, place_one}
use Rattle.gx_split.proofs.Placing.{placed-none, placed-more, all_grown}
use Rattle.gx_split.proofs.sides.place_all.Goals as goal

pub loop-placed-init : goal.loop-placed-init
loop-placed-init g c = record { groups = sym (placed-none _ _ _ _); kept = c.requires.kept; short = c.requires.short; left = let count = c.requires.left in omega arith }

pub loop-placed-preserved : goal.loop-placed-preserved
loop-placed-preserved g c =
    let m = measure g.M.Measure.joined g.M.Measure.extent in
    record {
      groups = c.place_next.ensures.placed c.args.keys.now c.loop-placed.invariant.kept ∙ ap (place_one m c.args.keys.now c.args.least) c.loop-placed.invariant.groups ∙ sym (placed-more _ _ _ _ _);
      kept = c.place_next.ensures.kept c.args.keys.now c.loop-placed.invariant.kept;
      short = c.place_next.ensures.short;
      left = let before = c.loop-placed.invariant.left in let less = c.place_next.ensures.one_less in omega arith;
    }

pub returns : goal.returns
returns g c =
    let all : c.loop-placed._placed ≡ length c.args.keys.now - 2 = omega arith in
    rw all at c.loop-placed.invariant.groups

pub place_next-requires : goal.place_next-requires
place_next-requires g c =
    let m = measure g.M.Measure.joined g.M.Measure.extent in
    let kept = c.loop-placed.invariant.kept in
    let grown = all_grown m c.args.keys.now c.loop-placed.covers c.loop-placed.waiting.items kept in
    let left = c.loop-placed.invariant.left in
    let counted = kept.counted in
    let slots : All (λ (w : Waiting _). w.slot < length c.loop-placed.sides) c.loop-placed.waiting.items =
    λ k d h. let inside = (kept.fresh k d h).within in omega arith
    in
    (omega arith, (omega arith, (slots, (omega arith, (grown, c.loop-placed.invariant.short)))))
