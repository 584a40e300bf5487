use Rattle.std.proofs.Common.{◌≡◌, ℕ, ◌≤◌, ℤ, pos, ◌-ℤ◌, ◌≤ℤ◌, ap, ◌∙◌, arith, rules, FitsSigned, get_or}
use Rattle.std.specs.Int.{w128}
use Rattle.std.proofs.lemmas.Int.{ints, to_z-of_z}
use Rattle.gx_geom.specs.BoxLaws.{at_most}
use Rattle.gx_split.proofs.seeds.is_spent.Goals as goal

-- a smaller union wastes less
wastes_less : (reach union key other : ℕ) (worst : ℤ) → union ≤ reach → ((pos reach -ℤ pos key) -ℤ pos 0) ≤ℤ worst → ((pos union -ℤ pos key) -ℤ pos other) ≤ℤ worst
wastes_less reach union key other worst smaller spent = omega (arith, ints)

pub returns : goal.returns
returns g c is keys framed k d within =
    let size = g.M.Measure.extent in
    let reach = c.reach.result in
    let excess_fits : FitsSigned w128 c.excess.result = search rules in
    let worst_fits : FitsSigned w128 c.args.worst = search rules in
    let spent : c.excess.result ≤ℤ c.args.worst = at_most c.excess.result c.args.worst (simp to_z-of_z at is) in
    let excess : c.excess.result ≡ (pos reach -ℤ pos (size c.args.key.now)) -ℤ pos 0 =
    c.excess.ensures ∙ ap (λ n. (pos reach -ℤ pos n) -ℤ pos 0) c.requires.size
    in
    wastes_less reach (size (g.M.Measure.joined c.args.key.now (get_or keys k d))) (size c.args.key.now) (size (get_or keys k d)) c.args.worst
    (c.reach.ensures.most keys framed k d within) (rw excess at spent)
