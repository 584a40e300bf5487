use Rattle.std.proofs.Common.{◌≡◌, false, true, length, replicate, slice_set, refl, subst, ap, sym, ◌∙◌, arith}
use Rattle.std.proofs.lemmas.List.{length-set, length-replicate}
use Rattle.gx_split.specs.Split.{measure, pair, seeds, waste_at}
use Rattle.gx_split.specs.Fair.{IsFairSplit}
use Rattle.gx_split.proofs.Wastes.{fair_split, first_worst}
use Rattle.gx_split.proofs.Begun.{seeded, kept_begun, split_is}
use Rattle.gx_split.proofs.sides.split.Goals as goal

pub place_all-requires : goal.place_all-requires
place_all-requires g c =
    let m = measure g.M.Measure.joined g.M.Measure.extent in
    let p = pair c.worst_pair-seeds.result.lower c.worst_pair-seeds.result.higher in
    let begun = kept_begun m c.args.keys.now p (seeded c.key_at.result c.key_at-2.result) c.waiting_beside-waiting.result.items c.worst_pair-seeds.ensures.in_order
    c.worst_pair-seeds.ensures.within refl refl c.waiting_beside-waiting.ensures.slots c.waiting_beside-waiting.ensures.fresh in
    let long = ap length c.begin_sides.ensures ∙ length-set (replicate (length c.args.sides.now) false) c.worst_pair-seeds.result.higher true
    ∙ length-replicate (length c.args.sides.now) false ∙ c.requires.as_many in
    let count = begun.counted in
    (omega arith, (c.requires.few, (long, (begun, (c.waiting_beside-waiting.ensures.short, omega arith)))))

pub returns-clause-sides : goal.returns-clause-sides
returns-clause-sides g c =
    let m = measure g.M.Measure.joined g.M.Measure.extent in
    let keys = c.args.keys.now in
    let p = pair c.worst_pair-seeds.result.lower c.worst_pair-seeds.result.higher in
    let begins : c.begin_sides.new.sides ≡ slice_set (replicate (length keys) false) c.worst_pair-seeds.result.higher true =
    c.begin_sides.ensures ∙ ap (λ n. slice_set (replicate n false) c.worst_pair-seeds.result.higher true) c.requires.as_many
    in
    split_is m keys c.args.least p c.key_at.result c.key_at-2.result c.waiting_beside-waiting.result.items c.place_all.new.waiting.items _ c.place_all.new.sides c.place_all.new.covers
    c.worst_pair-seeds.ensures.slots c.key_at.ensures c.key_at-2.ensures c.waiting_beside-waiting.ensures.slots begins c.place_all.ensures

pub returns-clause-fair : goal.returns-clause-fair
returns-clause-fair g c =
    let m = measure g.M.Measure.joined g.M.Measure.extent in
    subst (IsFairSplit (length c.args.keys.now) c.args.least (seeds m c.args.keys.now)) (sym (returns-clause-sides g c))
    (fair_split m c.args.keys.now c.args.least c.requires.some c.requires.enough)

pub returns-clause-seeds : goal.returns-clause-seeds
returns-clause-seeds g c =
    let m = measure g.M.Measure.joined g.M.Measure.extent in
    first_worst (waste_at m c.args.keys.now) (length c.args.keys.now) (omega arith)
